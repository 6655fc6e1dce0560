use Rattle.std.proofs.Common.{◌∙◌}
use Rattle.bz_tree.proofs.Trees.Nested.{segment_same}
use Rattle.bz_layout_laws.proofs.WrittenBack.{comments_back}
use Rattle.bz_layout_laws.proofs.reading_back.comment_lines_read_back.Goals as goal

pub returns : goal.returns
returns c = λ owns texts are. segment_same owns ∙ comments_back owns texts are
