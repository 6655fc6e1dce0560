use Rattle.bz_laws.proofs.FileTokens.{read_by_tokens, file_of_tokens, each_in_a_chunk}
use Rattle.bz_laws.proofs.whole_file.a_file_is_read_by_its_tokens.Goals as goal

pub returns-clause-tokens : goal.returns-clause-tokens
returns-clause-tokens c = read_by_tokens

pub returns-clause-file : goal.returns-clause-file
returns-clause-file c = file_of_tokens

pub returns-clause-each : goal.returns-clause-each
returns-clause-each c = each_in_a_chunk
