use Rattle.bz_laws.proofs.FileText.{text_again, text_only}
use Rattle.bz_laws.proofs.reading.a_text_is_read_again.Goals as goal

pub returns-clause-some : goal.returns-clause-some
returns-clause-some c = text_again

pub returns-clause-only : goal.returns-clause-only
returns-clause-only c = text_only
