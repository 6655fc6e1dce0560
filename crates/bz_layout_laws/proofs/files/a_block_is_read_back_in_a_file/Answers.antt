use Rattle.bz_layout_laws.proofs.KeptReadBack.{kept_read_back}
use Rattle.bz_layout_laws.proofs.files.a_block_is_read_back_in_a_file.Goals as goal

pub returns : goal.returns
returns c = kept_read_back
