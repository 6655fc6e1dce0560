-- A loop over the entries of a map, by value, each of them seen in another way.
use Rattle.std.proofs.Common.{◌≡◌, Bool, true, List, [], ◌∷◌, ◌++◌, map, Option, None, Some, Result, Ok, refl, sym, ◌∙◌, ap, subst, append-nil, Contains, arith}
use Rattle.std.specs.Iterator.{Yields}
use Rattle.std.specs.List.{list_all}
use Rattle.std.proofs.lemmas.Bool.{and_parts}
use Rattle.std.specs.Map.Iter.{TakesFirst}
use Rattle.std.proofs.lemmas.List.Elements.{Contains-append_right}
use Rattle.std.proofs.lemmas.Map.Iter.{rest_more, rest_all}

so_far : {E T : Type 0} (view : E → T) (yielded before left : List E) → Yields (TakesFirst (λ entry. entry)) before yielded left
    → map view before ≡ map view yielded ++ map view left
so_far view [] before left y = ap (map view) y
so_far view (entry ∷ yielded) before left y = ap (map view) y.1 ∙ ap (λ views. view entry ∷ views) (so_far view yielded y.0 left y.2)

module _ {E T : Type 0} (view : E → T) (entries : List E) (all : List T) (are : map view entries ≡ all) (yielded before left after : List E)
    (start : before ≡ entries) (y : Yields (TakesFirst (λ entry. entry)) before yielded left)
    (next : Option E) (step : TakesFirst (λ entry. entry) left next after) where
  by_now : all ≡ map view yielded ++ map view left
  by_now = sym (ap (map view) start ∙ are) ∙ so_far view yielded before left y

  -- after what was yielded stands the entry that comes next
  pub turn : (entry : E) → next ≡ Some entry → all ≡ map view yielded ++ view entry ∷ map view after
  turn entry is = by_now ∙ ap (λ es. map view yielded ++ map view es) (rest_more (λ e. e) left after next entry is step)

  -- all was yielded
  pub end : next ≡ None → all ≡ map view yielded
  end is = by_now ∙ ap (λ es. map view yielded ++ map view es) (rest_all (λ e. e) left after next is step) ∙ append-nil (map view yielded)

contains_first : {T : Type 0} (x : T) (xs : List T) → Contains (x ∷ xs) x
contains_first x xs = (0, omega arith, refl)

-- what stands after a front of a list is in it
pub contains_next : {T : Type 0} (front : List T) (x : T) (following all : List T) → all ≡ front ++ x ∷ following → Contains all x
contains_next front x following all is =
    subst (λ whole. Contains whole x) (sym is) (Contains-append_right front (x ∷ following) x (contains_first x following))

-- what holds of each element of a list holds of one that stands after a front of it
all_next : {T : Type 0} (test : T → Bool) (front : List T) (x : T) (following : List T) → list_all test (front ++ x ∷ following) ≡ true → test x ≡ true
all_next test [] x following all = (and_parts (test x) (list_all test following) all).0
all_next test (y ∷ front) x following all = all_next test front x following (and_parts (test y) (list_all test (front ++ x ∷ following)) all).1

pub test_next : {T : Type 0} (test : T → Bool) (front : List T) (x : T) (following all : List T) → all ≡ front ++ x ∷ following → list_all test all ≡ true → test x ≡ true
test_next test front x following all is holds = all_next test front x following (sym (ap (list_all test) is) ∙ holds)

-- the value of an `Ok`
pub ok_is : {T F : Type 0} (x y : T) → (let r : Result T F = Ok x in r) ≡ Ok y → x ≡ y
ok_is x y same = cc

-- what holds of two values holds of those that they are
pub at_end : {A B : Type 0} (P : A → B → Type 0) {a a2 : A} {b b2 : B} → a2 ≡ a → b2 ≡ b → P a b → P a2 b2
at_end P {a} {a2} {b} {b2} p q holds = subst (λ x. P x b2) (sym p) (subst (P a) (sym q) holds)
