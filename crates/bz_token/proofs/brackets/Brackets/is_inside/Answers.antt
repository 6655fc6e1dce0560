use Rattle.std.proofs.Common.{sym, ap, ◌∙◌}
use Rattle.std.specs.Prelude.{nat_lt}
use Rattle.bz_token.proofs.Stack.{inside_drop}
use Rattle.bz_token.proofs.brackets.Brackets.is_inside.Goals as goal

pub returns : goal.returns
returns c = ap (nat_lt c.args.self.now.top) (sym c.args.self.now.whole) ∙ inside_drop c.args.self.now.bytes c.args.self.now.top
