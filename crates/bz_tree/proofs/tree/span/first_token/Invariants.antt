use Rattle.std.proofs.Common.{◌≡◌, drop, map}
use Rattle.bz_token.specs.Places.{placed}
use Rattle.bz_tree.specs.Statement.{bare_tokens}
use Rattle.bz_tree.proofs.tree.span.first_token.Given as goal

abbrev pub invariant-loop-token : goal.invariant-loop-token
invariant-loop-token l = bare_tokens (map placed (drop l.token-index l.tokens)) ≡ bare_tokens (map placed l.tokens)
