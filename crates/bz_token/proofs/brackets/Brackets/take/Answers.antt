use Rattle.std.proofs.Common.{sym}
use Rattle.bz_token.proofs.Stack.{closed_bracket}
use Rattle.bz_token.proofs.brackets.Brackets.take.Goals as goal

pub returns-else-not-closes_innermost-clause-opened : goal.returns-else-not-closes_innermost-clause-opened
returns-else-not-closes_innermost-clause-opened c =
    closed_bracket c.args.self.now.bytes c.args.self.now.top c.args.b (sym c.if-is_opening_bracket.ensures) (sym c.if-is_closing_bracket.ensures)
