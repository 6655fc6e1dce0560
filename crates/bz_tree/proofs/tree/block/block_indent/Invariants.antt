use Rattle.std.proofs.Common.{◌≡◌, drop, map, reverse}
use Rattle.bz_token.specs.Places.{placed}
use Rattle.bz_tree.specs.Blocks.{block_indent}
use Rattle.bz_tree.proofs.Trees.BlockLines.{indent_run}
use Rattle.bz_tree.proofs.tree.block.block_indent.Given as goal

abbrev pub invariant-loop-token : goal.invariant-loop-token
invariant-loop-token l = indent_run (record { columns = reverse l.columns.items; opens = l.opens; inside = l.inside }) (map placed (drop l.token-index l.tokens)) ≡ block_indent (map placed l.tokens)
