-- The packages of a script in the order of their first mention, each with its passes (this project's own rule).
use Rattle.std.specs.Prelude.{Bool, not, List, [], ◌∷◌, map, filter, bytes_eq}
use Rattle.std.specs.Option.{option_eq}
use Rattle.bz_label.specs.Labels.{Package}

-- the keys without those that are equal to an earlier one
abbrev pub first_mentions : {K : Type 0} → (K → K → Bool) → List K → List K
first_mentions eq [] = []
first_mentions eq (key ∷ keys) = key ∷ filter (λ other. not (eq key other)) (first_mentions eq keys)

-- the values that stand with a key
abbrev pub values_at : {K T : Type 0} → (K → K → Bool) → List (K × T) → K → List T
values_at eq pairs key = map (λ pair. pair.1) (filter (λ pair. eq key pair.0) pairs)

-- each key once, in the order of first mention, with all values that stand with it
abbrev pub by_key : {K T : Type 0} → (K → K → Bool) → List (K × T) → List (K × List T)
by_key eq pairs = map (λ key. (key, values_at eq pairs key)) (first_mentions eq (map (λ pair. pair.0) pairs))

-- standard input is one package, and two paths are one package where they are the same bytes
abbrev pub same_package : Package → Package → Bool
same_package = option_eq bytes_eq

-- each package of a script once, in the order of first mention, with all its passes in order
abbrev pub by_package : {T : Type 0} → List (Package × T) → List (Package × List T)
by_package script = by_key same_package script
