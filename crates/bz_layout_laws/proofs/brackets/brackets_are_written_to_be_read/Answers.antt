use Rattle.bz_layout_laws.proofs.Written.{bracket_written, comma_read}
use Rattle.bz_layout_laws.proofs.brackets.brackets_are_written_to_be_read.Goals as goal

pub returns-clause-inside : goal.returns-clause-inside
returns-clause-inside c = bracket_written

pub returns-clause-comma : goal.returns-clause-comma
returns-clause-comma c = comma_read
