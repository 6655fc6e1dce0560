use Rattle.bz_layout_laws.proofs.Nodes.{inside_over}
use Rattle.bz_layout_laws.proofs.comments.nodes_play_no_part.Goals as goal

pub returns : goal.returns
returns c = inside_over
