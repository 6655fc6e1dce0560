-- What `add` does, value by value: the same as `add` of `Add`, for proofs and for what `add` reports.
-- Begin with `add_by_value`.
use Rattle.std.specs.Prelude.{ℕ, List, [], ◌∷◌, ◌++◌, Bool, true, ◌||◌, not, if◌then◌else◌, map}
use Rattle.std.specs.List.{list_any}
use Rattle.bz_tree.specs.Tree.{Segment}
use Rattle.bz_label.specs.Labels.{Package}
use Rattle.bz_label.specs.Same.{same}
use Rattle.bz_label.specs.declared.arguments.Chosen.TheVariants.{Values}
use Rattle.bz_attribute.specs.Rules.{is_named, value}
use Rattle.bz_attribute.specs.Lists.{with_value, parts}
use Rattle.bz_attribute.specs.Effects.{has, edit_first, edit_part, is_chosen, string, list_item, argument}
use Rattle.bz_token.specs.Common.{is_empty}

-- a value that no element of these list parts equals, and that no earlier value is the same as
abbrev pub is_fresh : Package → List (List Segment) → List (List ℕ) → List ℕ → Bool
is_fresh home lists earlier v =
    not (list_any (list_any (is_chosen home (Values (v ∷ [])))) lists || list_any (same home v) earlier)

-- the fresh ones of some values, after the earlier ones
abbrev pub fresh : Package → List (List Segment) → List (List ℕ) → List (List ℕ) → List (List ℕ)
fresh home lists earlier [] = []
fresh home lists earlier (v ∷ values) =
    (if is_fresh home lists earlier v then v ∷ [] else []) ++ fresh home lists (earlier ++ v ∷ []) values

-- the elements that `add` puts in beside these list parts
abbrev pub new_elements : Package → List (List Segment) → List (List ℕ) → List Segment
new_elements home lists values = map string (fresh home lists [] values)

-- an argument with them at the end of its first list part; one without list part stays
abbrev pub with_added : Package → List (List ℕ) → Segment → Segment
with_added home values a = if is_empty (parts (value a)) then a else
    with_value (edit_part (λ ss. true) (λ ss. ss ++ new_elements home (parts (value a)) values) (value a)) a

-- the arguments after `add`
abbrev pub add_by_value : Package → List ℕ → List (List ℕ) → List Segment → List Segment
add_by_value home attr values args =
    if has attr args then edit_first (is_named attr) (λ a. with_added home values a ∷ []) args
    else args ++ argument attr (list_item (new_elements home [] values) ∷ []) ∷ []
