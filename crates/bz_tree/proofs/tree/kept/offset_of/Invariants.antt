use Rattle.std.proofs.Common.{◌≡◌, ◌+◌, ◌≤◌, ◌==◌, drop, count_by}
use Rattle.bz_tree.specs.private.BlockSteps.{offset_run}
use Rattle.bz_tree.proofs.tree.kept.offset_of.Given as goal

abbrev pub invariant-loop-byte : goal.invariant-loop-byte
invariant-loop-byte l = record {
  same : l.index + offset_run l.line l.col l.at_line l.at_col (drop l.byte-index l.bytes) ≡ offset_run l.line l.col l.first_line 1 l.bytes;
  counted : l.at_line + count_by (λ b. b == 10) (drop l.byte-index l.bytes) ≡ l.first_line + count_by (λ b. b == 10) l.bytes;
  index_is : l.index ≡ l.byte-index;
  small : l.at_col ≤ l.byte-index + 1;
}
