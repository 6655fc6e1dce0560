-- Arguments of which each keeps its name, and those of one name stay as they are.
use Rattle.std.proofs.Common.{◌≡◌, ℕ, List, [], ◌∷◌, ◌++◌, Bool, true, false, cond, if◌then◌else◌, Some, map, filter, codes, refl, ap, sym, ◌∙◌, option_and_then}
use Rattle.bz_tree.specs.Tree.{Item, Segment}
use Rattle.bz_attribute.specs.Rules.{first_named, is_named, is_text, name_in, name_of, string_value, value}
use Rattle.bz_attribute.specs.Lists.{with_value}
use Rattle.bz_attribute.specs.Effects.{argument, edit_first, has}
use Rattle.bz_rule.proofs.Arguments.{attribute_named, name_put, same_bytes}

abbrev pub KeepsEach : (Segment → Segment) → Type 0
KeepsEach g = (a : Segment) → name_of (g a).nodes ≡ name_of a.nodes

abbrev pub Leaves : List ℕ → (Segment → Segment) → Type 0
Leaves attr g = (a : Segment) → is_named attr a ≡ true → g a ≡ a

pub named_kept : (g : Segment → Segment) → KeepsEach g → (attr : List ℕ) (a : Segment) → is_named attr (g a) ≡ is_named attr a
named_kept g names attr a = ap (is_text attr) (names a)

pub has_kept : (g : Segment → Segment) → KeepsEach g → (attr : List ℕ) (args : List Segment) → has attr (map g args) ≡ has attr args
has_kept g names attr [] = refl
has_kept g names attr (a ∷ args) = rw (named_kept g names attr a, has_kept g names attr args) refl

pub first_kept : (g : Segment → Segment) → KeepsEach g → (attr : List ℕ) → Leaves attr g → (args : List Segment) → first_named attr (map g args) ≡ first_named attr args
first_kept g names attr leaves [] = refl
first_kept g names attr leaves (a ∷ args) =
    elim (is_named attr a) as (λ b. is_named attr a ≡ b → (if is_named attr (g a) then Some (g a) else first_named attr (map g args)) ≡ (if b then Some a else first_named attr args)) [
      | true ↦ λ e. rw (named_kept g names attr a ∙ e) (ap (λ (z : Segment). Some z) (leaves a e))
      | false ↦ λ e. rw (named_kept g names attr a ∙ e) (first_kept g names attr leaves args)
    ] refl

pub name_kept : (g : Segment → Segment) → KeepsEach g → Leaves (codes "name") g → (args : List Segment) → name_in (map g args) ≡ name_in args
name_kept g names leaves args = ap (option_and_then (λ a. string_value (value a))) (first_kept g names (codes "name") leaves args)

pub filter_kept : (g : Segment → Segment) (p : Segment → Bool) → ((a : Segment) → p (g a) ≡ p a) → (args : List Segment) → filter p (map g args) ≡ map g (filter p args)
filter_kept g p same [] = refl
filter_kept g p same (a ∷ args) =
    elim (p a) as (λ b. p a ≡ b → cond (p (g a)) (g a ∷ filter p (map g args)) (filter p (map g args)) ≡ map g (cond b (a ∷ filter p args) (filter p args))) [
      | true ↦ λ e. rw (same a ∙ e) (ap (λ (zs : List Segment). g a ∷ zs) (filter_kept g p same args))
      | false ↦ λ e. rw (same a ∙ e) (filter_kept g p same args)
    ] refl

-- where each stays, all do
pub each_stays : (g : Segment → Segment) → ((a : Segment) → g a ≡ a) → (args : List Segment) → map g args ≡ args
each_stays g same [] = refl
each_stays g same (a ∷ args) = rw (same a, each_stays g same args) refl

front_kept : (g : Segment → Segment) (front args : List Segment) → map g front ≡ front → front ++ map g args ≡ map g (front ++ args)
front_kept g front args same = ap (λ (zs : List Segment). zs ++ map g args) (sym same) ∙ apart front
  where
    apart : (xs : List Segment) → map g xs ++ map g args ≡ map g (xs ++ args)
    apart [] = refl
    apart (x ∷ xs) = ap (λ (zs : List Segment). g x ∷ zs) (apart xs)

-- an edit of the first of a name, whose result g leaves
pub edit_kept : (g : Segment → Segment) → KeepsEach g → (attr : List ℕ) → Leaves attr g → (f : Segment → List Segment)
    → ((a : Segment) → is_named attr a ≡ true → map g (f a) ≡ f a) → (args : List Segment)
    → edit_first (is_named attr) f (map g args) ≡ map g (edit_first (is_named attr) f args)
edit_kept g names attr leaves f same [] = refl
edit_kept g names attr leaves f same (a ∷ args) =
    elim (is_named attr a) as (λ b. is_named attr a ≡ b → (if is_named attr (g a) then f (g a) ++ map g args else g a ∷ edit_first (is_named attr) f (map g args)) ≡ map g (if b then f a ++ args else a ∷ edit_first (is_named attr) f args)) [
      | true ↦ λ e. rw (named_kept g names attr a ∙ e, leaves a e) (front_kept g (f a) args (same a e))
      | false ↦ λ e. rw (named_kept g names attr a ∙ e) (ap (λ (zs : List Segment). g a ∷ zs) (edit_kept g names attr leaves f same args))
    ] refl

-- into one
pub edit_one_kept : (g : Segment → Segment) → KeepsEach g → (attr : List ℕ) → Leaves attr g → (f : Segment → Segment)
    → ((a : Segment) → is_named attr a ≡ true → g (f a) ≡ f a) → (args : List Segment)
    → edit_first (is_named attr) (λ a. f a ∷ []) (map g args) ≡ map g (edit_first (is_named attr) (λ a. f a ∷ []) args)
edit_one_kept g names attr leaves f same args = edit_kept g names attr leaves (λ a. f a ∷ []) (λ a e. ap (λ (z : Segment). z ∷ []) (same a e)) args

-- g leaves an argument of the name with another value
pub put_kept : (g : Segment → Segment) (attr : List ℕ) → Leaves attr g → (nodes : List Item) (a : Segment) → is_named attr a ≡ true → g (with_value nodes a) ≡ with_value nodes a
put_kept g attr leaves nodes a named = leaves (with_value nodes a) (ap (is_text attr) (name_put nodes a (attribute_named attr a named)) ∙ named)

-- and a new one
pub append_kept : (g : Segment → Segment) (attr : List ℕ) → Leaves attr g → (nodes : List Item) (args : List Segment)
    → map g args ++ argument attr nodes ∷ [] ≡ map g (args ++ argument attr nodes ∷ [])
append_kept g attr leaves nodes [] = ap (λ (z : Segment). z ∷ []) (sym (leaves (argument attr nodes) (same_bytes attr)))
append_kept g attr leaves nodes (a ∷ args) = ap (λ (zs : List Segment). g a ∷ zs) (append_kept g attr leaves nodes args)

-- where each outcome of a test is f of another, the one that is taken is
pub taken : (f : List Segment → List Segment) {now before : Bool} {xs ys ms ns : List Segment} → now ≡ before → xs ≡ f ms → ys ≡ f ns → (if now then xs else ys) ≡ f (if before then ms else ns)
taken f {now} {before} {xs} {ys} {ms} {ns} test first second =
    (λ i. if test i then first i else second i) ∙ elim before as (λ b. (if b then f ms else f ns) ≡ f (if b then ms else ns)) [ true ↦ refl | false ↦ refl ]
