use Rattle.bz_layout_laws.proofs.WellFormed.{plain_formed, chunk_formed}
use Rattle.bz_layout_laws.proofs.well_formed.what_is_parsed_is_well_formed.Goals as goal

pub returns-clause-tokens : goal.returns-clause-tokens
returns-clause-tokens c = plain_formed

pub returns-clause-chunk : goal.returns-clause-chunk
returns-clause-chunk c = chunk_formed
