use Rattle.std.proofs.Common.{◌≡◌, false, reverse, length}
use Rattle.bz_tree.specs.Blocks.{indented}
use Rattle.bz_tree.proofs.tree.block.indented.Given as goal

abbrev pub invariant-loop-last : goal.invariant-loop-last
invariant-loop-last l = indented false l.column (reverse l.columns.items) ≡ indented false l.column (reverse l.initial.columns.items)

abbrev pub decreases-loop-last : goal.decreases-loop-last
decreases-loop-last l = length l.columns.items
