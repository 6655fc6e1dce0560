use Rattle.bz_layout_laws.proofs.DepthRead.{read_depth}
use Rattle.bz_layout_laws.proofs.LinesRead.{read_parsed}
use Rattle.bz_layout_laws.proofs.TextsRead.{read_texts}
use Rattle.bz_layout_laws.proofs.trees.what_is_read_can_be_written.Goals as goal

pub returns-clause-parsed : goal.returns-clause-parsed
returns-clause-parsed c = read_parsed

pub returns-clause-texts : goal.returns-clause-texts
returns-clause-texts c = read_texts

pub returns-clause-depth : goal.returns-clause-depth
returns-clause-depth c = read_depth
