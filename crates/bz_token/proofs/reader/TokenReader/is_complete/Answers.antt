use Rattle.std.proofs.Common.{rules, ◌≡◌}
use Rattle.bz_token.specs.Batches.{left}
use Rattle.bz_token.proofs.ReadWhole.{complete}
use Rattle.bz_token.proofs.reader.TokenReader.is_complete.Goals as goal

pub returns-then-is_empty : goal.returns-then-is_empty
returns-then-is_empty c = λ first depth text given has.
    let none : left c.args.self.now ≡ 0 = search rules in
    complete first depth text given c.args.self.now c.is_inside.result has none c.is_inside.ensures
