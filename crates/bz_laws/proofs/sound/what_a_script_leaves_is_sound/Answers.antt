use Rattle.bz_laws.proofs.ScriptSound.{script_sound}
use Rattle.bz_laws.proofs.sound.what_a_script_leaves_is_sound.Goals as goal

pub returns : goal.returns
returns c = script_sound
