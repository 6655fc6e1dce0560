use Rattle.std.proofs.Common.{◌≡◌, ◌≤◌, drop, map}
use Rattle.bz_token.specs.Places.{placed}
use Rattle.bz_tree.specs.Blocks.{has_header_colon}
use Rattle.bz_tree.proofs.Trees.BlockLines.{colon_run}
use Rattle.bz_tree.proofs.tree.block.has_header_colon.Given as goal

abbrev pub invariant-loop-token : goal.invariant-loop-token
invariant-loop-token l = record {
  same : colon_run l.depth l.inside (map placed (drop l.token-index l.tokens)) ≡ has_header_colon (map placed l.tokens);
  small : l.depth ≤ l.token-index;
}
