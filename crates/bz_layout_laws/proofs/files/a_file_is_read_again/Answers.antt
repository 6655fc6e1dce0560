use Rattle.bz_layout_laws.proofs.FileReads.{file_read_again, file_read_only}
use Rattle.bz_layout_laws.proofs.FileChunks.{file_chunks}
use Rattle.bz_layout_laws.proofs.files.a_file_is_read_again.Goals as goal

pub returns-clause-chunks : goal.returns-clause-chunks
returns-clause-chunks c = file_chunks

pub returns-clause-some : goal.returns-clause-some
returns-clause-some c = file_read_again

pub returns-clause-only : goal.returns-clause-only
returns-clause-only c = file_read_only
