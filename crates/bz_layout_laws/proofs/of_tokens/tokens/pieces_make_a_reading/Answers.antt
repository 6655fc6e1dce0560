use Rattle.bz_layout_laws.proofs.Readable.{laid_tokens, laid_lines, laid_reading, read_is_laid}
use Rattle.bz_layout_laws.proofs.of_tokens.tokens.pieces_make_a_reading.Goals as goal

pub returns-clause-tokens : goal.returns-clause-tokens
returns-clause-tokens c = laid_tokens

pub returns-clause-reading : goal.returns-clause-reading
returns-clause-reading c = laid_reading

pub returns-clause-exactly : goal.returns-clause-exactly
returns-clause-exactly c = read_is_laid

pub returns-clause-lines : goal.returns-clause-lines
returns-clause-lines c = laid_lines
