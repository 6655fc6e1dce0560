use Rattle.bz_laws.proofs.Unmarked.{unmarked_stays, written_of, bytes_stay}
use Rattle.bz_laws.proofs.untouched.what_no_pass_marks_stays.Goals as goal

pub returns-clause-statement : goal.returns-clause-statement
returns-clause-statement c = unmarked_stays

pub returns-clause-text : goal.returns-clause-text
returns-clause-text c = written_of

pub returns-clause-bytes : goal.returns-clause-bytes
returns-clause-bytes c = bytes_stay
