use Rattle.bz_layout_laws.proofs.BlockUtf8.{block_utf8}
use Rattle.bz_layout_laws.proofs.Utf8Read.{read_utf8}
use Rattle.bz_layout_laws.proofs.Utf8Written.{written_utf8}
use Rattle.bz_layout_laws.proofs.utf8.utf8_stays.Goals as goal

pub returns-clause-written : goal.returns-clause-written
returns-clause-written c = written_utf8

pub returns-clause-read : goal.returns-clause-read
returns-clause-read c = read_utf8

pub returns-clause-block : goal.returns-clause-block
returns-clause-block c = block_utf8
