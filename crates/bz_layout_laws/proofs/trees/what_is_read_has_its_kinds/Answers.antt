use Rattle.bz_layout_laws.proofs.ParsedRead.{read_kinds}
use Rattle.bz_layout_laws.proofs.trees.what_is_read_has_its_kinds.Goals as goal

pub returns : goal.returns
returns c = read_kinds
