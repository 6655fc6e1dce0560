-- The positions where a test holds: in order, all of them, and no other.
use Rattle.std.proofs.Common.{◌≡◌, ℕ, suc, zero, ◌<◌, ◌≤◌, ◌+◌, Bool, true, false, if◌then◌else◌, List, [], ◌∷◌, ◌++◌, length, get_or, Option, Some, None, refl, sym, ◌∙◌, ap, arith, ◌||◌, leb, leb-true, leb-false, take, is_none}
use Rattle.bz_passes.specs.Asked.{IsFirstFrom}
use Rattle.bz_passes.specs.private.Indexes.{positions, IsLeastFrom, IsIndex, named, asks_for}
use Rattle.bz_passes.specs.declared.index.Index.{Index}
use Rattle.std.specs.List.Sorted.{IsNonDecreasingBy}
use Rattle.std.proofs.lemmas.Grind.{common_steps}

-- one element more
pub positions_more : {X : Type 0} (test : X → Bool) (n : ℕ) (xs : List X) (x : X)
    → positions test n (xs ++ x ∷ []) ≡ positions test n xs ++ (if test x then (n + length xs) ∷ [] else [])
positions_more test n [] x = let z : n + 0 ≡ n = omega arith in rw z refl
positions_more test n (y ∷ ys) x =
    let z : n + 1 + length ys ≡ n + suc (length ys) = omega arith in
    let more : positions test (n + 1) (ys ++ x ∷ []) ≡ positions test (n + 1) ys ++ (if test x then (n + suc (length ys)) ∷ [] else []) = rw (sym z) (positions_more test (n + 1) ys x) in
    elim (test y) as (λ b. (if b then n ∷ positions test (n + 1) (ys ++ x ∷ []) else positions test (n + 1) (ys ++ x ∷ []))
    ≡ (if b then n ∷ positions test (n + 1) ys else positions test (n + 1) ys) ++ (if test x then (n + suc (length ys)) ∷ [] else []))
    [ true ↦ ap (λ (l : List ℕ). n ∷ l) more | false ↦ more ]

-- none is below the first
low : {X : Type 0} (test : X → Bool) (n : ℕ) (xs : List X) (i d : ℕ) → i < length (positions test n xs) → n ≤ get_or (positions test n xs) i d
low test n [] i d h = absurd (omega arith)
low test n (x ∷ xs) i d h =
    let on : (j : ℕ) → j < length (positions test (n + 1) xs) → n ≤ get_or (positions test (n + 1) xs) j d = λ j k. let l = low test (n + 1) xs j d k in omega arith in
    elim (test x) as (λ b. i < length (if b then n ∷ positions test (n + 1) xs else positions test (n + 1) xs)
    → n ≤ get_or (if b then n ∷ positions test (n + 1) xs else positions test (n + 1) xs) i d)
    [ true ↦ low_more (positions test (n + 1) xs) n i d on | false ↦ on i ] h where
      low_more : (ps : List ℕ) (n i d : ℕ) → ((j : ℕ) → j < length ps → n ≤ get_or ps j d) → i < suc (length ps) → n ≤ get_or (n ∷ ps) i d
      low_more ps n zero d on k = omega arith
      low_more ps n (suc j) d on k = on j (omega arith)

-- they rise
pub rising : {X : Type 0} (test : X → Bool) (n : ℕ) (xs : List X) (i j d : ℕ) → i ≤ j → j < length (positions test n xs)
    → get_or (positions test n xs) i d ≤ get_or (positions test n xs) j d
rising test n [] i j d le h = absurd (omega arith)
rising test n (x ∷ xs) i j d le h =
    elim (test x) as (λ b. j < length (if b then n ∷ positions test (n + 1) xs else positions test (n + 1) xs)
    → get_or (if b then n ∷ positions test (n + 1) xs else positions test (n + 1) xs) i d ≤ get_or (if b then n ∷ positions test (n + 1) xs else positions test (n + 1) xs) j d) [
      | true ↦ rising_more (positions test (n + 1) xs) n i j d (λ k l. let a = low test (n + 1) xs k d l in omega arith) (λ k l m. rising test (n + 1) xs k l d m) le
      | false ↦ rising test (n + 1) xs i j d le
    ] h where
      rising_more : (ps : List ℕ) (n i j d : ℕ) → ((k : ℕ) → k < length ps → n ≤ get_or ps k d) → ((k l : ℕ) → k ≤ l → l < length ps → get_or ps k d ≤ get_or ps l d)
          → i ≤ j → j < suc (length ps) → get_or (n ∷ ps) i d ≤ get_or (n ∷ ps) j d
      rising_more ps n zero zero d up on le k = omega arith
      rising_more ps n zero (suc j) d up on le k = up j (omega arith)
      rising_more ps n (suc i) zero d up on le k = absurd (omega arith)
      rising_more ps n (suc i) (suc j) d up on le k = on i j (omega arith) (omega arith)

-- each place where the test holds is one of them
pub record Stands (ps : List ℕ) (at : ℕ) : Type 0 where
  pub place : ℕ
  pub within : place < length ps
  pub is : (d : ℕ) → get_or ps place d ≡ at

pub all_stand : {X : Type 0} (test : X → Bool) (n : ℕ) (xs : List X) (i : ℕ) (d : X) → i < length xs → test (get_or xs i d) ≡ true → Stands (positions test n xs) (n + i)
all_stand test n [] i d h met = absurd (omega arith)
all_stand test n (x ∷ xs) zero d h met =
    let z : n ≡ n + 0 = omega arith in
    rw met (record { place = 0; within = omega arith; is = λ e. z })
all_stand test n (x ∷ xs) (suc i) d h met =
    let z : n + 1 + i ≡ n + suc i = omega arith in
    let s : Stands (positions test (n + 1) xs) (n + suc i) = rw (sym z) (all_stand test (n + 1) xs i d (omega arith) met) in
    elim (test x) as (λ b. Stands (if b then n ∷ positions test (n + 1) xs else positions test (n + 1) xs) (n + suc i))
    [ true ↦ record { place = suc s.place; within = let w = s.within in omega arith; is = s.is } | false ↦ s ]

-- and at each of them it holds
pub record Holds {X : Type 0} (test : X → Bool) (n : ℕ) (xs : List X) (at : ℕ) : Type 0 where
  pub place : ℕ
  pub within : place < length xs
  pub is : at ≡ n + place
  pub met : (d : X) → test (get_or xs place d) ≡ true

pub each_holds : {X : Type 0} (test : X → Bool) (n : ℕ) (xs : List X) (j e : ℕ) → j < length (positions test n xs) → Holds test n xs (get_or (positions test n xs) j e)
each_holds test n [] j e h = absurd (omega arith)
each_holds test n (x ∷ xs) j e h =
    elim (test x) as (λ b. test x ≡ b → j < length (if b then n ∷ positions test (n + 1) xs else positions test (n + 1) xs)
    → Holds test n (x ∷ xs) (get_or (if b then n ∷ positions test (n + 1) xs else positions test (n + 1) xs) j e)) [
      | true ↦ λ met k. here test x xs n (positions test (n + 1) xs) j e met (λ i l. each_holds test (n + 1) xs i e l) k
      | false ↦ λ met k. further test x xs n _ (each_holds test (n + 1) xs j e k)
    ] refl h where
      further : {X : Type 0} (test : X → Bool) (x : X) (xs : List X) (n at : ℕ) → Holds test (n + 1) xs at → Holds test n (x ∷ xs) at
      further test x xs n at s = record { place = suc s.place; within = let w = s.within in omega arith; is = let i = s.is in omega arith; met = s.met }

      here : {X : Type 0} (test : X → Bool) (x : X) (xs : List X) (n : ℕ) (ps : List ℕ) (j e : ℕ) → test x ≡ true → ((i : ℕ) → i < length ps → Holds test (n + 1) xs (get_or ps i e))
          → j < suc (length ps) → Holds test n (x ∷ xs) (get_or (n ∷ ps) j e)
      here test x xs n ps zero e met on k = record { place = 0; within = omega arith; is = omega arith; met = λ d. met }
      here test x xs n ps (suc j) e met on k = further test x xs n _ (on j (omega arith))

false_by : (b : Bool) → (b ≡ true → ⊥) → b ≡ false
false_by true h = absurd (h refl)
false_by false h = refl

-- the least of them from a position on is the first where the test holds
pub least_is_first : {X : Type 0} (test : X → Bool) (xs : List X) (from : ℕ) (r : Option ℕ) → IsLeastFrom (positions test 0 xs) from r → IsFirstFrom test xs from r
least_is_first test xs from None h = λ i d le k. false_by (test (get_or xs i d)) (λ met.
    let s = all_stand test 0 xs i d k met in
    let a = h s.place 0 s.within in
    let b = s.is 0 in
    absurd (omega (arith, a, b, le)))
least_is_first test xs from (Some first) h =
    let e : get_or (positions test 0 xs) h.place 0 ≡ first = h.is 0 in
    let s : Holds test 0 xs first = rw e at (each_holds test 0 xs h.place 0 h.within) in
    let at : s.place ≡ first = let i = s.is in omega arith in
    let inside : first < length xs = let w = s.within in omega (arith, at, w) in (
      h.not_before,
      inside,
      (λ d. rw at at (s.met d)),
      λ i d le k. false_by (test (get_or xs i d)) (λ met.
          let o = all_stand test 0 xs i d (omega (arith, inside, k)) met in
          let b = o.is 0 in
          elim (leb h.place o.place) as (λ t. leb h.place o.place ≡ t → ⊥) [
            | true ↦ λ c. let up = rising test 0 xs h.place o.place 0 (leb-true h.place o.place c) o.within in absurd (omega (arith, up, b, e, k))
            | false ↦ λ c. let f = h.front o.place 0 (leb-false h.place o.place c) in absurd (omega (arith, f, b, le))
          ] refl),
    )

neither : (a b : Bool) → a ≡ false → b ≡ false → (a || b) ≡ false
neither a b ha hb = rw (ha, hb) refl

first : (a b : Bool) → a ≡ true → (a || b) ≡ true
first a b h = rw h refl

second : (a b : Bool) → b ≡ true → (a || b) ≡ true
second true b h = refl
second false b h = h

pub rising_list : {X : Type 0} (test : X → Bool) (xs : List X) (ps : List ℕ) → ps ≡ positions test 0 xs → IsNonDecreasingBy (λ p. p) ps
rising_list test xs ps is = rw is (λ i j d le h. rising test 0 xs i j d le h)

pub first_in_list : {X : Type 0} (test : X → Bool) (xs : List X) (ps : List ℕ) (from : ℕ) (r : Option ℕ) → ps ≡ positions test 0 xs → IsLeastFrom ps from r → IsFirstFrom test xs from r
first_in_list test xs ps from r is h = least_is_first test xs from r (rw is at h)

take_more : {X : Type 0} (xs : List X) (i : ℕ) (d : X) → i < length xs → take (i + 1) xs ≡ take i xs ++ get_or xs i d ∷ []
take_more xs i d h = grind (arith, common_steps)

length_take : {X : Type 0} (xs : List X) (i : ℕ) → i < length xs → length (take i xs) ≡ i
length_take xs i h = grind (arith, common_steps)

-- an index of the first elements, and one more
pub index_more : {X : Type 0} (asked : X → Option (List ℕ)) (xs : List X) (i : ℕ) (x : X) (a : Option (List ℕ)) (old new : Index) → i < length xs → x ≡ get_or xs i x → a ≡ asked x
    → IsIndex asked (take i xs) old → ((name : List ℕ) → named new name ≡ named old name ++ (if asks_for name a then i ∷ [] else []))
    → new.others.items ≡ old.others.items ++ (if is_none a then i ∷ [] else []) → IsIndex asked (take (i + 1) xs) new
index_more {X = X} asked xs i x a old new h is asks index names others =
    let all : take (i + 1) xs ≡ take i xs ++ x ∷ [] = take_more xs i x h ∙ ap (λ y. take i xs ++ y ∷ []) (sym is) in
    let n : 0 + length (take i xs) ≡ i = omega (arith, length_take xs i h) in
    let test : List ℕ → X → Bool = λ name y. asks_for name (asked y) in
    let none : X → Bool = λ y. is_none (asked y) in
    rw all (record {
      names = λ name. names name ∙ rw (asks, index.names name) (sym (rw n at (positions_more (test name) 0 (take i xs) x)));
      others = others ∙ rw (asks, index.others) (sym (rw n at (positions_more none 0 (take i xs) x)));
    })

pub whole_index : {X : Type 0} (asked : X → Option (List ℕ)) (xs : List X) (i : ℕ) (index : Index) → length xs ≤ i → IsIndex asked (take i xs) index → IsIndex asked xs index
whole_index asked xs i index h is = let all : take i xs ≡ xs = grind (arith, common_steps) in rw all at is
