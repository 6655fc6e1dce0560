-- Scripts, and what each package has of them. The passes are numbers here.
use Rattle.std.proofs.Common.{◌≡◌, ℕ, [], ◌∷◌, None, Some, codes, refl}
use Rattle.bz_label.specs.Labels.{Package}
use Rattle.bz_script.specs.Packages.{first_mentions, same_package, by_package}

abbrev p : Package
p = Some (codes "p")

abbrev q : Package
q = Some (codes "q")

-- the root is a package with an empty path
abbrev root : Package
root = Some []

abbrev standard : Package
standard = None

no_script : by_package {T = ℕ} [] ≡ []
no_script = refl

first_mention_decides : by_package {T = ℕ} ((q, 1) ∷ (p, 2) ∷ (q, 3) ∷ []) ≡ (q, 1 ∷ 3 ∷ []) ∷ (p, 2 ∷ []) ∷ []
first_mention_decides = refl

a_pass_twice : by_package {T = ℕ} ((p, 1) ∷ (p, 1) ∷ []) ≡ (p, 1 ∷ 1 ∷ []) ∷ []
a_pass_twice = refl

root_and_standard : first_mentions same_package (standard ∷ root ∷ p ∷ root ∷ standard ∷ p ∷ q ∷ []) ≡ standard ∷ root ∷ p ∷ q ∷ []
root_and_standard = refl
