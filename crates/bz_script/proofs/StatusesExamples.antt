-- The statuses of packages, and of the whole run.
use Rattle.std.proofs.Common.{◌≡◌, [], ◌∷◌, refl}
use Rattle.bz_script.specs.Statuses.{whole_status}

no_package : whole_status [] ≡ 3
no_package = refl

nothing_changed : whole_status (3 ∷ 3 ∷ []) ≡ 3
nothing_changed = refl

one_changed : whole_status (3 ∷ 0 ∷ 3 ∷ []) ≡ 0
one_changed = refl

failure_decides : whole_status (0 ∷ 3 ∷ 2 ∷ 0 ∷ []) ≡ 2
failure_decides = refl
