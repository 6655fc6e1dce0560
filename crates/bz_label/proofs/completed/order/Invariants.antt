use Rattle.std.proofs.Common.{◌≡◌, length}
use Rattle.std.specs.Prelude.{IsTrue}
use Rattle.std.specs.Cmp.Lexicographic.{slice_cmp}
use Rattle.std.specs.Ordering.{nat_cmp}
use Rattle.std.specs.List.{flat_map}
use Rattle.bz_label.specs.private.ByteSteps.{left}
use Rattle.bz_label.specs.private.LabelSteps.{chain_bytes, is_good_chain}
use Rattle.bz_label.proofs.completed.order.Given as goal

abbrev pub invariant-loop-byte : goal.invariant-loop-byte
invariant-loop-byte l = record { a : IsTrue (is_good_chain l.a); b : IsTrue (is_good_chain l.b); same : slice_cmp nat_cmp (chain_bytes l.a) (chain_bytes l.b) ≡ slice_cmp nat_cmp (flat_map left l.texts) (flat_map left l.others) }

abbrev pub decreases-loop-byte : goal.decreases-loop-byte
decreases-loop-byte l = length (chain_bytes l.a)
