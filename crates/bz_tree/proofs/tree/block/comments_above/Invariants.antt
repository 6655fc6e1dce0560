use Rattle.std.proofs.Common.{◌≡◌, ◌++◌, drop, map}
use Rattle.bz_token.specs.Places.{placed}
use Rattle.bz_tree.specs.View.{texts}
use Rattle.bz_tree.specs.Borrowed.{owned_in}
use Rattle.bz_tree.specs.Blocks.{above}
use Rattle.bz_tree.proofs.Trees.LogicalLines.{above_by_token}
use Rattle.bz_tree.proofs.tree.block.comments_above.Given as goal

abbrev pub invariant-loop-token : goal.invariant-loop-token
invariant-loop-token l = record {
  same : texts l.comments.items ++ above_by_token (map placed (drop l.token-index l.tokens)) ≡ above (map placed l.tokens);
  borrowed : owned_in l.comments.items ≡ 0;
}
