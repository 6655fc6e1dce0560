use Rattle.bz_laws.proofs.SoundStatements.{given_sound, file_sound, front_sound}
use Rattle.bz_laws.proofs.sound.what_is_read_is_sound.Goals as goal

pub returns-clause-read : goal.returns-clause-read
returns-clause-read c = given_sound

pub returns-clause-file : goal.returns-clause-file
returns-clause-file c = file_sound

pub returns-clause-front : goal.returns-clause-front
returns-clause-front c = front_sound
