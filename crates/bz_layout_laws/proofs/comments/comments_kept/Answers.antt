use Rattle.bz_layout_laws.proofs.KeptComments.{comments_kept}
use Rattle.bz_layout_laws.proofs.comments.comments_kept.Goals as goal

pub returns : goal.returns
returns c = comments_kept
