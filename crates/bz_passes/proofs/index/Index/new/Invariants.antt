use Rattle.std.proofs.Common.{◌≡◌, ℕ, List, []}
use Rattle.bz_passes.specs.private.Indexes.{found_at}
use Rattle.bz_passes.proofs.index.Index.new.Given as goal

abbrev pub invariant-loop-bucket : goal.invariant-loop-bucket
invariant-loop-bucket l = (place : ℕ) (name : List ℕ) → found_at l.buckets.items place name ≡ []
