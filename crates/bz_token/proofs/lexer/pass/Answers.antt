use Rattle.std.proofs.Common.{sym, arith, rules}
use Rattle.bz_token.proofs.Progress.{one_line_newlines, one_line_column}
use Rattle.bz_token.proofs.lexer.pass.Goals as goal

pub returns-clause-line : goal.returns-clause-line
returns-clause-line c = omega (arith, one_line_newlines c.args.text.now (c.requires.one_line (search rules)))

pub returns-clause-col : goal.returns-clause-col
returns-clause-col c = sym (one_line_column c.args.place.col c.args.text.now (c.requires.one_line (search rules)))
