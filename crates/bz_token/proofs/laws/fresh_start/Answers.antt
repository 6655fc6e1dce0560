use Rattle.bz_token.proofs.FreshStart.{on_its_lines, fault_of_file, tokens_of_file}
use Rattle.bz_token.proofs.laws.fresh_start.Goals as goal

pub returns-clause-on_its_lines : goal.returns-clause-on_its_lines
returns-clause-on_its_lines c = on_its_lines

pub returns-clause-fault : goal.returns-clause-fault
returns-clause-fault c = fault_of_file

pub returns-clause-tokens : goal.returns-clause-tokens
returns-clause-tokens c = tokens_of_file
