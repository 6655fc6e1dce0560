use Rattle.bz_layout_laws.proofs.ReadBack.{first_flag}
use Rattle.bz_layout_laws.proofs.comments.first_line_plays_no_part.Goals as goal

pub returns : goal.returns
returns c = first_flag
