use Rattle.bz_layout_laws.proofs.WholeChunk.{statement_chunked, comments_chunked}
use Rattle.bz_layout_laws.proofs.CommentChunk.{comments_and_blank}
use Rattle.bz_layout_laws.proofs.chunks.a_text_is_a_chunk.Goals as goal

pub returns-clause-whole : goal.returns-clause-whole
returns-clause-whole c = statement_chunked

pub returns-clause-last : goal.returns-clause-last
returns-clause-last c = comments_chunked

pub returns-clause-blank : goal.returns-clause-blank
returns-clause-blank c = comments_and_blank
