use Rattle.bz_label.proofs.ReadBack.{quoted_value}
use Rattle.bz_label.proofs.laws.quoted_reads_back.Goals as goal

pub returns : goal.returns
returns c = quoted_value
