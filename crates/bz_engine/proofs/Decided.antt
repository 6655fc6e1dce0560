-- Of two statements it can be told whether they are the same, and so of what stands in two slots.
use Rattle.std.proofs.Common.{◌≡◌, ◌≢◌, ◌⊎◌, inl, inr, ℕ, Bool, true, false, List, [], ◌∷◌, Option, None, Some, arith, refl, sym, ◌∙◌, ap}
use Rattle.std.specs.Prelude.{get_or}
use Rattle.std.proofs.lemmas.Bool.{cases_lt}
use Rattle.bz_token.specs.declared.token.Kind.{Kind}
use Rattle.bz_token.specs.declared.token.Kind.TheVariants as kind
use Rattle.bz_tree.specs.declared.tree.GroupKind.{GroupKind}
use Rattle.bz_tree.specs.declared.tree.GroupKind.TheVariants as group_kind
use Rattle.bz_tree.specs.declared.tree.Class.{Class}
use Rattle.bz_tree.specs.declared.tree.Class.TheVariants as class
use Rattle.bz_tree.specs.Tree.{Item, leaf, group, Items, no_items, item, Segs, no_segs, seg, Statement}
use Rattle.bz_passes.specs.Passes.{Slot}

-- it holds or not
abbrev Told : Type 0 → Type 0
Told P = P ⊎ (P → ⊥)

as_told : {P Q : Type 0} → (P → Q) → (Q → P) → Told P → Told Q
as_told to from (inl p) = inl (to p)
as_told to from (inr other) = inr (λ q. other (from q))

both_told : {P Q : Type 0} → Told P → Told Q → Told (P × Q)
both_told (inl p) (inl q) = inl (p, q)
both_told (inl p) (inr other) = inr (λ both. other both.1)
both_told (inr other) q = inr (λ both. other both.0)

nat_told : (a b : ℕ) → Told (a ≡ b)
nat_told a b = elim (cases_lt a b) [
  | inl less ↦ inr (λ e. omega (arith, less, e))
  | inr most ↦ elim (cases_lt b a) [ inl less ↦ inr (λ e. omega (arith, less, e)) | inr least ↦ inl (omega (arith, most, least)) ]
]

-- of a type whose elements have numbers
by_number : {X : Type 0} (number : X → ℕ) (at : ℕ → X) → ((x : X) → at (number x) ≡ x) → (x y : X) → Told (x ≡ y)
by_number number at is x y = as_told (λ e. sym (is x) ∙ ap at e ∙ is y) (ap number) (nat_told (number x) (number y))

bool_told : (a b : Bool) → Told (a ≡ b)
bool_told true true = inl refl
bool_told false false = inl refl
bool_told true false = inr (λ e. cc)
bool_told false true = inr (λ e. cc)

option_told : {X : Type 0} → ((x y : X) → Told (x ≡ y)) → (a b : Option X) → Told (a ≡ b)
option_told told None None = inl refl
option_told told None (Some y) = inr (λ e. cc)
option_told told (Some x) None = inr (λ e. cc)
option_told told (Some x) (Some y) = as_told (ap (λ z. Some z)) (λ e. let is : x ≡ y = cc in is) (told x y)

list_told : {X : Type 0} → ((x y : X) → Told (x ≡ y)) → (xs ys : List X) → Told (xs ≡ ys)
list_told told [] [] = inl refl
list_told told [] (y ∷ ys) = inr (λ e. cc)
list_told told (x ∷ xs) [] = inr (λ e. cc)
list_told told (x ∷ xs) (y ∷ ys) =
    as_told (λ both i. both.0 i ∷ both.1 i) (λ e. let first : x ≡ y = cc in let rest : xs ≡ ys = cc in (first, rest)) (both_told (told x y) (list_told told xs ys))

abbrev kind_number : Kind → ℕ
kind_number kind.Identifier = 0
kind_number kind.Keyword = 1
kind_number kind.Integer = 2
kind_number kind.String = 3
kind_number kind.Operator = 4
kind_number kind.Newline = 5
kind_number kind.Comment = 6
kind_number kind.Kept = 7

abbrev kind_at : ℕ → Kind
kind_at n = get_or (kind.Identifier ∷ kind.Keyword ∷ kind.Integer ∷ kind.String ∷ kind.Operator ∷ kind.Newline ∷ kind.Comment ∷ kind.Kept ∷ []) n kind.Identifier

kind_is : (k : Kind) → kind_at (kind_number k) ≡ k
kind_is kind.Identifier = refl
kind_is kind.Keyword = refl
kind_is kind.Integer = refl
kind_is kind.String = refl
kind_is kind.Operator = refl
kind_is kind.Newline = refl
kind_is kind.Comment = refl
kind_is kind.Kept = refl

abbrev group_number : GroupKind → ℕ
group_number group_kind.Call = 0
group_number group_kind.RuleCall = 1
group_number group_kind.Load = 2
group_number group_kind.Paren = 3
group_number group_kind.List = 4
group_number group_kind.Index = 5
group_number group_kind.Dict = 6
group_number group_kind.ListComp = 7
group_number group_kind.DictComp = 8

abbrev group_at : ℕ → GroupKind
group_at n = get_or (group_kind.Call ∷ group_kind.RuleCall ∷ group_kind.Load ∷ group_kind.Paren ∷ group_kind.List ∷ group_kind.Index ∷ group_kind.Dict ∷ group_kind.ListComp ∷ group_kind.DictComp ∷ []) n group_kind.Call

group_is : (k : GroupKind) → group_at (group_number k) ≡ k
group_is group_kind.Call = refl
group_is group_kind.RuleCall = refl
group_is group_kind.Load = refl
group_is group_kind.Paren = refl
group_is group_kind.List = refl
group_is group_kind.Index = refl
group_is group_kind.Dict = refl
group_is group_kind.ListComp = refl
group_is group_kind.DictComp = refl

abbrev class_number : Class → ℕ
class_number class.Load = 0
class_number class.Assign = 1
class_number class.Rule = 2
class_number class.Other = 3
class_number class.Comment = 4
class_number class.Block = 5

abbrev class_at : ℕ → Class
class_at n = get_or (class.Load ∷ class.Assign ∷ class.Rule ∷ class.Other ∷ class.Comment ∷ class.Block ∷ []) n class.Load

class_is : (k : Class) → class_at (class_number k) ≡ k
class_is class.Load = refl
class_is class.Assign = refl
class_is class.Rule = refl
class_is class.Other = refl
class_is class.Comment = refl
class_is class.Block = refl

text_told : (a b : List ℕ) → Told (a ≡ b)
text_told = list_told nat_told

mutual
  item_told : (x y : Item) → Told (x ≡ y)
  item_told (leaf k t) (leaf l u) =
      as_told (λ both i. leaf (both.0 i) (both.1 i)) (λ e. let first : k ≡ l = cc in let rest : t ≡ u = cc in (first, rest)) (both_told (by_number kind_number kind_at kind_is k l) (text_told t u))
  item_told (leaf k t) (group l us b d) = inr (λ e. cc)
  item_told (group k ts a c) (leaf l u) = inr (λ e. cc)
  item_told (group k ts a c) (group l us b d) =
      as_told (λ all i. group (all.0 i) (all.1.0 i) (all.1.1.0 i) (all.1.1.1 i))
      (λ e. let one : k ≡ l = cc in let two : ts ≡ us = cc in let three : a ≡ b = cc in let four : c ≡ d = cc in (one, (two, (three, four))))
      (both_told (by_number group_number group_at group_is k l) (both_told (segs_told ts us) (both_told (bool_told a b) (list_told text_told c d))))

  items_told : (xs ys : Items) → Told (xs ≡ ys)
  items_told no_items no_items = inl refl
  items_told no_items (item y ys) = inr (λ e. cc)
  items_told (item x xs) no_items = inr (λ e. cc)
  items_told (item x xs) (item y ys) =
      as_told (λ both i. item (both.0 i) (both.1 i)) (λ e. let first : x ≡ y = cc in let rest : xs ≡ ys = cc in (first, rest)) (both_told (item_told x y) (items_told xs ys))

  segs_told : (ss ts : Segs) → Told (ss ≡ ts)
  segs_told no_segs no_segs = inl refl
  segs_told no_segs (seg b n s ts) = inr (λ e. cc)
  segs_told (seg a m r ss) no_segs = inr (λ e. cc)
  segs_told (seg a m r ss) (seg b n s ts) =
      as_told (λ all i. seg (all.0 i) (all.1.0 i) (all.1.1.0 i) (all.1.1.1 i))
      (λ e. let one : a ≡ b = cc in let two : m ≡ n = cc in let three : r ≡ s = cc in let four : ss ≡ ts = cc in (one, (two, (three, four))))
      (both_told (list_told text_told a b) (both_told (items_told m n) (both_told (option_told text_told r s) (segs_told ss ts))))

statement_told : (s t : Statement) → Told (s ≡ t)
statement_told s t =
    as_told (λ all i. record { before = all.0 i; nodes = all.1.0 i; suffix = all.1.1.0 i; class = all.1.1.1.0 i; start = all.1.1.1.1.0 i; end = all.1.1.1.1.1 i })
    (λ e. (
      ap (λ (z : Statement). z.before) e,
      (ap (λ (z : Statement). z.nodes) e, (ap (λ (z : Statement). z.suffix) e, (ap (λ (z : Statement). z.class) e, (ap (λ (z : Statement). z.start) e, ap (λ (z : Statement). z.end) e)))),
    ))
    (both_told (list_told text_told s.before t.before) (both_told (list_told item_told s.nodes t.nodes) (both_told (option_told text_told s.suffix t.suffix)
    (both_told (by_number class_number class_at class_is s.class t.class) (both_told (nat_told s.start t.start) (nat_told s.end t.end))))))

pub slot_told : (x y : Slot Statement) → (x ≡ y) ⊎ (x ≢ y)
slot_told = option_told statement_told
