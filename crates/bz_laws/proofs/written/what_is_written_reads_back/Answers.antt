use Rattle.bz_laws.proofs.RunText.{reads_back, writes_again}
use Rattle.bz_laws.proofs.written.what_is_written_reads_back.Goals as goal

pub returns-clause-read : goal.returns-clause-read
returns-clause-read c = reads_back

pub returns-clause-again : goal.returns-clause-again
returns-clause-again c = writes_again
