use Rattle.bz_laws.proofs.BadBytes.{bad_byte_of_file}
use Rattle.bz_laws.proofs.FileFaults.{by_its_lines, lexical_of_file}
use Rattle.bz_laws.proofs.whole_file.a_file_is_read_up_to_its_fault.Goals as goal

pub returns-clause-tokens : goal.returns-clause-tokens
returns-clause-tokens c = by_its_lines

pub returns-clause-lexical : goal.returns-clause-lexical
returns-clause-lexical c = lexical_of_file

pub returns-clause-byte : goal.returns-clause-byte
returns-clause-byte c = bad_byte_of_file
