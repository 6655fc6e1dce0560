use Rattle.bz_layout_laws.proofs.KeptComments.{comments_in_order}
use Rattle.bz_layout_laws.proofs.comments.comments_in_order.Goals as goal

pub returns : goal.returns
returns c = comments_in_order
