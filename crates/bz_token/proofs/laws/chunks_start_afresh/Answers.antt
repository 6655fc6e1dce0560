use Rattle.bz_token.proofs.FreshChunks.{chunk_lines, tokens_of_chunks}
use Rattle.bz_token.proofs.FreshReading.{chunks_without_fault, rest_read, rest_split}
use Rattle.bz_token.proofs.laws.chunks_start_afresh.Goals as goal

pub returns-clause-lines : goal.returns-clause-lines
returns-clause-lines c = chunk_lines

pub returns-clause-some : goal.returns-clause-some
returns-clause-some c = chunks_without_fault

pub returns-clause-whole : goal.returns-clause-whole
returns-clause-whole c = tokens_of_chunks

pub returns-clause-joined : goal.returns-clause-joined
returns-clause-joined c = rest_read

pub returns-clause-only : goal.returns-clause-only
returns-clause-only c = rest_split
