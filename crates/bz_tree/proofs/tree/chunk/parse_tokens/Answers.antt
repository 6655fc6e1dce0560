use Rattle.std.proofs.Common.{IsNone, map, arith}
use Rattle.std.proofs.lemmas.Grind.{common_steps}
use Rattle.bz_token.specs.Places.{placed}
use Rattle.bz_tree.specs.Statement.{first_seen}
use Rattle.bz_tree.proofs.Trees.Standing.{ends_fit, standing}
use Rattle.bz_tree.proofs.tree.chunk.parse_tokens.Goals as goal

pub returns-then-is_none-clause-blank : goal.returns-then-is_none-clause-blank
returns-then-is_none-clause-blank c =
    let none : IsNone (first_seen (map placed c.args.tokens.now)) = grind (arith, common_steps) in
    λ depth are. record { tokens = map placed c.args.tokens.now; are = are; none = none }

pub chunk_statement-requires-clause-ends : goal.chunk_statement-requires-clause-ends
chunk_statement-requires-clause-ends c = ends_fit c.args.first_line c.requires.tokens.0 c.args.text.now (map placed c.args.tokens.now) c.requires.tokens.1 c.requires.lines

pub chunk_statement-requires-clause-standing : goal.chunk_statement-requires-clause-standing
chunk_statement-requires-clause-standing c = standing c.args.first_line c.requires.tokens.0 c.args.text.now (map placed c.args.tokens.now) c.requires.tokens.1
