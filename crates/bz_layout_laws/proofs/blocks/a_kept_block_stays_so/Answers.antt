use Rattle.bz_layout_laws.proofs.KeptStays.{kept_elsewhere, spelled_kept}
use Rattle.bz_layout_laws.proofs.blocks.a_kept_block_stays_so.Goals as goal

pub returns-clause-lines : goal.returns-clause-lines
returns-clause-lines c = kept_elsewhere

pub returns-clause-spelled : goal.returns-clause-spelled
returns-clause-spelled c = spelled_kept
