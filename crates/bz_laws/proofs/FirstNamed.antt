-- The first argument of a name.
use Rattle.std.proofs.Common.{◌≡◌, ℕ, List, [], ◌∷◌, true, false, if◌then◌else◌, cond, Some, filter, option_map, refl}
use Rattle.bz_tree.specs.Tree.{Segment}
use Rattle.bz_attribute.specs.Effects.{edit_first}
use Rattle.bz_attribute.specs.Rules.{first_named, is_named}

-- the first of a name is the first of those of the name
pub first_of_named : (attr : List ℕ) (args : List Segment) → first_named attr (filter (is_named attr) args) ≡ first_named attr args
first_of_named attr [] = refl
first_of_named attr (a ∷ args) =
    elim (is_named attr a) as (λ b. is_named attr a ≡ b → first_named attr (cond b (a ∷ filter (is_named attr) args) (filter (is_named attr) args)) ≡ (if b then Some a else first_named attr args))
    [ true ↦ λ e. rw e refl | false ↦ λ e. first_of_named attr args ] refl

-- after an edit that leaves the name
pub first_after : (attr : List ℕ) (g : Segment → Segment) (args : List Segment) → ((a : Segment) → is_named attr a ≡ true → is_named attr (g a) ≡ true)
    → first_named attr (edit_first (is_named attr) (λ a. g a ∷ []) args) ≡ option_map g (first_named attr args)
first_after attr g [] named = refl
first_after attr g (a ∷ args) named =
    elim (is_named attr a) as (λ t. is_named attr a ≡ t → first_named attr (if t then g a ∷ args else a ∷ edit_first (is_named attr) (λ z. g z ∷ []) args) ≡ option_map g (if t then Some a else first_named attr args))
    [ true ↦ λ e. rw (named a e) refl | false ↦ λ e. rw e (first_after attr g args named) ] refl
