use Rattle.std.proofs.Common.{ℕ, List, false}
use Rattle.bz_token.specs.declared.token.Kind.TheVariants.{String}
use Rattle.bz_tree.specs.declared.tree.GroupKind.TheVariants.{Load}
use Rattle.bz_canonical.specs.private.Fronts.{IsTokenFront}
use Rattle.bz_canonical.specs.private.Segments.{ContinuesFlat}
use Rattle.bz_canonical.proofs.load.after_load.Given as goal

abbrev pub invariant-loop : goal.invariant-loop
invariant-loop l = (middle : List ℕ) × IsTokenFront String l.inside middle × (n : ℕ) × ContinuesFlat Load false 0 0 middle l.rest n false
