-- Labels in order, in a set, and sorted.
use Rattle.std.proofs.Common.{◌≡◌, ℕ, List, [], ◌∷◌, ◌++◌, length, get_or, Bool, true, false, not, ◌||◌, cond, Result, Ok, Err, Ordering, Less, Equal, Greater, zero-le, refl, sym, ap, ◌∙◌, arith, inl, inr, append_assoc, rules, tests}
use Rattle.std.proofs.Math.Path.{fun_ext}
use Rattle.std.specs.Prelude.{bytes_eq, is_ok}
use Rattle.std.specs.List.{list_any}
use Rattle.std.specs.List.Sorted.{IsSorted, IsBinarySearchResult, IsSearchInRange}
use Rattle.std.specs.BTreeMap.{is_at}
use Rattle.std.specs.Cmp.Lexicographic.{slice_cmp}
use Rattle.std.specs.Ordering.{ordering_then, nat_cmp, is_eq, is_ne}
use Rattle.std.proofs.lemmas.Bool.{cases_Bool, cases_lt}
use Rattle.std.proofs.lemmas.Cmp.{nat_list_eq_equiv, nat_cmp_total, tied_itself}
use Rattle.std.proofs.lemmas.List.Folds.{list_any-append, list_any_at, list_any_none}
use Rattle.std.proofs.lemmas.List.Sorted.{searchable_from_sorted}
use Rattle.std.proofs.lemmas.Map.Text.{is_eq-slice_cmp}
use Rattle.bz_label.specs.private.LabelSteps.{key_of, label_cmp, label_cmp_total}

then_twice : (a b c : Ordering) → ordering_then a (ordering_then b c) ≡ ordering_then (ordering_then a b) c
then_twice Less b c = refl
then_twice Equal b c = refl
then_twice Greater b c = refl

pub decided : (a b : Ordering) → is_ne a ≡ true → ordering_then a b ≡ a
decided Less b h = refl
decided Equal b h = absurd (cc)
decided Greater b h = refl

pub undecided : (a b : Ordering) → is_ne a ≡ false → ordering_then a b ≡ b
undecided Less b h = absurd (cc)
undecided Equal b h = refl
undecided Greater b h = absurd (cc)

-- fronts of one length are compared first
fronts_first : (f g r s : List ℕ) → length f ≡ length g → slice_cmp nat_cmp (f ++ r) (g ++ s) ≡ ordering_then (slice_cmp nat_cmp f g) (slice_cmp nat_cmp r s)
fronts_first [] [] r s h = refl
fronts_first [] (y ∷ g) r s h = absurd (omega arith)
fronts_first (x ∷ f) [] r s h = absurd (omega arith)
fronts_first (x ∷ f) (y ∷ g) r s h =
    let rest : length f ≡ length g = omega arith in
    ap (ordering_then (nat_cmp x y)) (fronts_first f g r s rest) ∙ then_twice (nat_cmp x y) (slice_cmp nat_cmp f g) (slice_cmp nat_cmp r s)

-- after an equal byte, the fronts f and g of one length decide, and then what follows
pub fronts_decide : (x y : ℕ) (xs ys front other f g f_rest g_rest r s : List ℕ) → x ≡ y → length f ≡ length g → xs ≡ x ∷ (front ++ r) → ys ≡ y ∷ (other ++ s) → front ≡ f ++ f_rest → other ≡ g ++ g_rest
    → slice_cmp nat_cmp xs ys ≡ ordering_then (slice_cmp nat_cmp f g) (slice_cmp nat_cmp (f_rest ++ r) (g_rest ++ s))
fronts_decide x y xs ys front other f g f_rest g_rest r s same long a b cut cut_other =
    let first : front ++ r ≡ f ++ (f_rest ++ r) = ap (λ (zs : List ℕ). zs ++ r) cut ∙ append_assoc f f_rest r in
    let second : other ++ s ≡ g ++ (g_rest ++ s) = ap (λ (zs : List ℕ). zs ++ s) cut_other ∙ append_assoc g g_rest s in
    let tie : nat_cmp x y ≡ Equal = ap (nat_cmp x) (sym same) ∙ tied_itself nat_cmp_total x in
    (λ i. slice_cmp nat_cmp (a i) (b i))
    ∙ (λ i. ordering_then (tie i) (slice_cmp nat_cmp (first i) (second i)))
    ∙ fronts_first f g (f_rest ++ r) (g_rest ++ s) long

unlike : (a b : Ordering) → is_eq b ≡ false → is_eq (ordering_then a b) ≡ false
unlike Less b h = refl
unlike Equal b h = h
unlike Greater b h = refl

-- labels tie exactly if their bytes are equal
pub ties : (a b : List ℕ) → is_eq (label_cmp a b) ≡ bytes_eq a b
ties a b = elim (cases_Bool (bytes_eq a b)) [
  | inl is ↦
      let same : a ≡ b = search (rules, tests) in
      ap (λ (c : List ℕ). is_eq (label_cmp a c)) (sym same) ∙ ap is_eq (tied_itself label_cmp_total a) ∙ sym is
  | inr other ↦ unlike (nat_cmp (key_of a) (key_of b)) (slice_cmp nat_cmp a b) (is_eq-slice_cmp a b ∙ other) ∙ sym other
]

found : (q : List ℕ) (keys : List (List ℕ)) → list_any (is_at (label_cmp q)) keys ≡ list_any (bytes_eq q) keys
found q keys = ap (λ (p : List ℕ → Bool). list_any p keys) (fun_ext (ties q))

or_is : (a b : Bool) → cond a true b ≡ (a || b)
or_is true b = refl
or_is false b = refl

-- k is new to a set where nothing in it is equal
pub is_new : (k q : List ℕ) (keys : List (List ℕ)) (b : Bool) → k ≡ q → b ≡ not (list_any (is_at (label_cmp k)) keys) → b ≡ not (list_any (bytes_eq q) keys)
is_new k q keys b same h = h ∙ ap not (found k keys) ∙ ap (λ (z : List ℕ). not (list_any (bytes_eq z) keys)) same

-- whether q is there once k was added
pub one_more : (k q : List ℕ) (old new : List (List ℕ)) → list_any (is_at (label_cmp q)) new ≡ cond (is_at (label_cmp k) q) true (list_any (is_at (label_cmp q)) old) → list_any (bytes_eq q) new ≡ (bytes_eq q k || list_any (bytes_eq q) old)
one_more k q old new h =
    sym (found q new)
    ∙ h
    ∙ (λ i. cond (ties k q i) true (found q old i))
    ∙ ap (λ (z : Bool). cond z true (list_any (bytes_eq q) old)) (nat_list_eq_equiv.symm k q)
    ∙ or_is (bytes_eq q k) (list_any (bytes_eq q) old)

equal_by : (x y : List ℕ) → bytes_eq x y ≡ is_eq (label_cmp y x)
equal_by x y = nat_list_eq_equiv.symm x y ∙ sym (ties y x)

-- a search of sorted labels finds one exactly if one is equal
pub searched : (x : List ℕ) (xs : List (List ℕ)) (r : Result ℕ ℕ) → IsSorted label_cmp xs → IsSearchInRange r (length xs) → IsBinarySearchResult (λ y. label_cmp y x) xs r → is_ok r ≡ list_any (bytes_eq x) xs
searched x xs (Ok i) up within is = sym (list_any_at (bytes_eq x) xs i [] within (equal_by x (get_or xs i []) ∙ ap is_eq (is [])))
searched x xs (Err i) up within is =
    let sides = is (searchable_from_sorted label_cmp_total (λ (k : List ℕ). k) xs x up) in
    sym (list_any_none (bytes_eq x) xs (λ k d h. equal_by x (get_or xs k d) ∙ elim (cases_lt k i) [
      | inl below ↦ ap is_eq (sides.0 k d zero-le below)
      | inr above ↦ ap is_eq (sides.1 k d above h)
    ]))

-- a label that is among the few: the set has it
pub already : (k q : List ℕ) (few : List (List ℕ)) (others : Bool) → list_any (bytes_eq k) few ≡ true → (list_any (bytes_eq q) few || others) ≡ (bytes_eq q k || (list_any (bytes_eq q) few || others))
already k q few others is = elim (cases_Bool (bytes_eq q k)) [
  | inl same ↦
      let equal : q ≡ k = search (rules, tests) in
      let there : list_any (bytes_eq q) few ≡ true = ap (λ (z : List ℕ). list_any (bytes_eq z) few) equal ∙ is in
      rw (same, there) refl
  | inr other ↦ rw other refl
]

pub or_first : (a b c : Bool) → (a || (b || c)) ≡ (b || (a || c))
or_first true true c = refl
or_first true false c = refl
or_first false b c = refl

or_within : (a b c : Bool) → ((a || (b || false)) || c) ≡ (b || (a || c))
or_within true true c = refl
or_within true false c = refl
or_within false true c = refl
or_within false false c = refl

-- one more among the few
pub one_pushed : (k q : List ℕ) (few : List (List ℕ)) (others : Bool) → (list_any (bytes_eq q) (few ++ k ∷ []) || others) ≡ (bytes_eq q k || (list_any (bytes_eq q) few || others))
one_pushed k q few others =
    ap (λ (b : Bool). b || others) (list_any-append (bytes_eq q) few (k ∷ []))
    ∙ or_within (list_any (bytes_eq q) few) (bytes_eq q k) others
