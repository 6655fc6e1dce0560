use Rattle.bz_layout_laws.proofs.BlockComments.{block_comments_kept}
use Rattle.bz_layout_laws.proofs.comments.block_comments_kept.Goals as goal

pub returns : goal.returns
returns c = block_comments_kept
