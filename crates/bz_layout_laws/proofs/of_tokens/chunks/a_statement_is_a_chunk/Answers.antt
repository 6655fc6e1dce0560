use Rattle.bz_token.proofs.ChunkForms.{statement_chunk, comments_chunk}
use Rattle.bz_layout_laws.proofs.of_tokens.chunks.a_statement_is_a_chunk.Goals as goal

pub returns-clause-whole : goal.returns-clause-whole
returns-clause-whole c = statement_chunk

pub returns-clause-last : goal.returns-clause-last
returns-clause-last c = comments_chunk
