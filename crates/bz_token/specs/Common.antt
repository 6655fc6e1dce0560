-- Words on lists, options and texts that the definitions share. A text is the list of its bytes.
-- Begin with `is_empty`, `is_filled`, `first_of`, `last_of`, `begins`, `is_newline`, `is_one_of`, `map_or`.
use Rattle.std.specs.Prelude.{ℕ, List, [], ◌∷◌, Bool, true, false, ◌==◌, bytes_eq, Option, None, Some}
use Rattle.std.specs.List.{last_or, list_any}

-- a list without elements (of any type: `{ℓ}` is its level, which says nothing here)
abbrev pub is_empty {ℓ} : {A : Type ℓ} → List A → Bool
is_empty [] = true
is_empty (x ∷ xs) = false

-- a list with at least one element (the same as `not (is_empty xs)`, which some definitions write)
abbrev pub is_filled {ℓ} : {A : Type ℓ} → List A → Bool
is_filled [] = false
is_filled (x ∷ xs) = true

-- the first element of a list, if it has one
abbrev pub first_of : {A : Type 0} → List A → Option A
first_of [] = None
first_of (x ∷ xs) = Some x

-- the last element of a list, if it has one
abbrev pub last_of : {A : Type 0} → List A → Option A
last_of xs = last_or None xs

-- the list has a first number, and it passes the test
abbrev pub begins : (ℕ → Bool) → List ℕ → Bool
begins test [] = false
begins test (b ∷ bs) = test b

-- the byte of a newline
abbrev pub is_newline : ℕ → Bool
is_newline b = b == 10

-- one of these texts
abbrev pub is_one_of : List (List ℕ) → List ℕ → Bool
is_one_of texts text = list_any (bytes_eq text) texts

-- f of the value of an option, or `none` where it has no value (`option_map_or` of the kit, with arguments in
-- another order)
abbrev pub map_or : {A B : Type 0} → B → (A → B) → Option A → B
map_or none f None = none
map_or none f (Some x) = f x
