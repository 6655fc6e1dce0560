use Rattle.std.proofs.Common.{ℕ, false}
use Rattle.bz_tree.specs.declared.tree.GroupKind.TheVariants.{List as ListKind}
use Rattle.bz_canonical.specs.private.Segments.{Continues}
use Rattle.bz_canonical.proofs.string_list.after_string_list.Given as goal

abbrev pub invariant-loop-count : goal.invariant-loop-count
invariant-loop-count l = (below : ℕ) → Continues ListKind 2 below l.initial.rest l.rest l.count false l.noted
