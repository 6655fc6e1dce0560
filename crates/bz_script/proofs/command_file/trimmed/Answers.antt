use Rattle.bz_script.proofs.Trimming.{trimmed_is}
use Rattle.bz_script.proofs.command_file.trimmed.Goals as goal

pub returns : goal.returns
returns c = trimmed_is _ _ c.trim_matches.ensures.matches
