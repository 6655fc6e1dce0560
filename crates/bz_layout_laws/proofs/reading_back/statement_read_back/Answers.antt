use Rattle.std.proofs.Common.{◌∙◌}
use Rattle.bz_tree.proofs.Trees.Nested.{segment_same}
use Rattle.bz_layout_laws.proofs.WrittenBack.{statement_back}
use Rattle.bz_layout_laws.proofs.reading_back.statement_read_back.Goals as goal

pub returns : goal.returns
returns c = λ owns s filled are. segment_same owns ∙ statement_back owns s filled are
