-- Arguments with another value, and the first of a name.
use Rattle.std.proofs.Common.{◌≡◌, ℕ, List, [], ◌∷◌, ◌++◌, Bool, true, false, if◌then◌else◌, Some, None, is_some, drop, take, refl, ap, sym, ◌∙◌}
use Rattle.std.specs.Prelude.{bytes_eq}
use Rattle.std.proofs.lemmas.Bool.{false≢true}
use Rattle.std.proofs.lemmas.List.{append_cancel_right, take-append-drop}
use Rattle.std.proofs.lemmas.Slice.Eq.{bytes_eq-Decides}
use Rattle.bz_token.specs.Common.{map_or}
use Rattle.bz_tree.specs.Tree.{Item, Segment}
use Rattle.bz_attribute.specs.Rules.{is_named, is_text, first_named, name_of, value}
use Rattle.bz_attribute.specs.Lists.{is_attribute, with_value}
use Rattle.bz_attribute.specs.Effects.{edit_first}
use Rattle.bz_attribute.proofs.Locals.{is_first_named}

pub same_bytes : (bytes : List ℕ) → bytes_eq bytes bytes ≡ true
same_bytes bytes = (bytes_eq-Decides bytes bytes).1 refl

pub attribute_named : (attr : List ℕ) (a : Segment) → is_named attr a ≡ true → is_attribute a ≡ true
attribute_named attr a h = elim (name_of a.nodes) as (λ n. is_text attr n ≡ true → is_some n ≡ true) [ None ↦ λ k. absurd cc | Some n ↦ λ k. refl ] h

dropped : (xs nodes : List Item) → is_some (name_of xs) ≡ true → drop 2 (take 2 xs ++ nodes) ≡ nodes
dropped [] nodes h = absurd cc
dropped (x ∷ []) nodes h = absurd cc
dropped (x ∷ y ∷ xs) nodes h = refl

pub value_put : (nodes : List Item) (a : Segment) → is_attribute a ≡ true → value (with_value nodes a) ≡ nodes
value_put nodes a h = dropped a.nodes nodes h

pub name_taken : (xs nodes : List Item) → is_some (name_of xs) ≡ true → name_of (take 2 xs ++ nodes) ≡ name_of xs
name_taken [] nodes h = absurd cc
name_taken (x ∷ []) nodes h = absurd cc
name_taken (x ∷ y ∷ xs) nodes h = refl

pub name_put : (nodes : List Item) (a : Segment) → is_attribute a ≡ true → name_of (with_value nodes a).nodes ≡ name_of a.nodes
name_put nodes a h = name_taken a.nodes nodes h

pub value_back : (a : Segment) → with_value (value a) a ≡ a
value_back a = ap (λ (nodes : List Item). record a { nodes = nodes }) (take-append-drop 2 a.nodes)

-- where all stay, the first does
pub first_same : (attr : List ℕ) (f : Segment → List Segment) (args : List Segment) (a : Segment) → first_named attr args ≡ Some a → edit_first (is_named attr) f args ≡ args → f a ≡ a ∷ []
first_same attr f [] a h same = absurd cc
first_same attr f (b ∷ args) a h same =
    elim (is_named attr b) as (λ t. (if t then Some b else first_named attr args) ≡ Some a → (if t then f b ++ args else b ∷ edit_first (is_named attr) f args) ≡ b ∷ args → f a ≡ a ∷ []) [
      | true ↦ λ k s. let is : b ≡ a = cc in ap f (sym is) ∙ append_cancel_right (f b) (b ∷ []) args s ∙ ap (λ (z : Segment). z ∷ []) is
      | false ↦ λ k s. let rest : edit_first (is_named attr) f args ≡ args = cc in first_same attr f args a k rest
    ] h same

-- where the first stays, all do
pub rest_same : (attr : List ℕ) (f : Segment → List Segment) (args : List Segment) → ((a : Segment) → first_named attr args ≡ Some a → f a ≡ a ∷ []) → edit_first (is_named attr) f args ≡ args
rest_same attr f [] keep = refl
rest_same attr f (b ∷ args) keep =
    elim (is_named attr b) as (λ t. ((a : Segment) → (if t then Some b else first_named attr args) ≡ Some a → f a ≡ a ∷ []) → (if t then f b ++ args else b ∷ edit_first (is_named attr) f args) ≡ b ∷ args) [
      | true ↦ λ k. ap (λ (zs : List Segment). zs ++ args) (k b refl)
      | false ↦ λ k. ap (λ (zs : List Segment). b ∷ zs) (rest_same attr f args k)
    ] keep

-- an edit of the first of a name, which changes it exactly where a test passes it
pub first_stays : (attr : List ℕ) (p : Segment → Bool) (f : Segment → List Segment) → ((a : Segment) → p a ≡ false → f a ≡ a ∷ []) → (args : List Segment) → map_or false p (first_named attr args) ≡ false → edit_first (is_named attr) f args ≡ args
first_stays attr p f same args h = rest_same attr f args (λ a first. same a (ap (map_or false p) (sym first) ∙ h))

pub first_differs : (attr : List ℕ) (p : Segment → Bool) (f : Segment → List Segment) → ((a : Segment) → is_named attr a ≡ true → p a ≡ true → f a ≡ a ∷ [] → ⊥) → (args : List Segment) → map_or false p (first_named attr args) ≡ true
    → edit_first (is_named attr) f args ≡ args → ⊥
first_differs attr p f other args h same =
    elim (first_named attr args) as (λ o. first_named attr args ≡ o → map_or false p o ≡ true → ⊥)
    [ None ↦ λ e k. false≢true k | Some a ↦ λ e k. other a (is_first_named attr args a e) k (first_same attr f args a e same) ] refl h
