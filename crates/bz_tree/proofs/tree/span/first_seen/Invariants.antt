use Rattle.std.proofs.Common.{◌≡◌, drop, map}
use Rattle.bz_token.specs.Places.{placed}
use Rattle.bz_tree.specs.Brackets.{without_lines}
use Rattle.bz_tree.proofs.tree.span.first_seen.Given as goal

abbrev pub invariant-loop-token : goal.invariant-loop-token
invariant-loop-token l = without_lines (map placed (drop l.token-index l.tokens)) ≡ without_lines (map placed l.tokens)
