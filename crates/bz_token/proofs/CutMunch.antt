-- Each piece is the longest at its place.
use Rattle.std.proofs.Common.{◌≡◌, ℕ, zero, suc, ◌+◌, ◌<◌, ◌≤◌, List, [], ◌∷◌, ◌++◌, length, take, drop, Bool, true, false, refl, sym, ap, subst, arith, inl, inr, take-append-drop, length-append, length-drop, zero-add}
use Rattle.std.proofs.lemmas.Bool.{cases_Bool, both_ways, cases_lt}
use Rattle.bz_token.specs.Munch.{longest, munched_in, munched, IsLongest, AreMunched}

record Longest (test : List ℕ → Bool) (m n : ℕ) (bytes : List ℕ) : Type 0 where
  is : test (take m bytes) ≡ true
  some : 0 < m
  within : m ≤ n
  none : (j : ℕ) → m < j → j ≤ n → test (take j bytes) ≡ false

here : (test : List ℕ → Bool) (n : ℕ) (bytes : List ℕ) → test (take (suc n) bytes) ≡ true → longest test (suc n) bytes ≡ suc n
here test n bytes h = rw (h, longest) refl

below : (test : List ℕ → Bool) (n : ℕ) (bytes : List ℕ) → test (take (suc n) bytes) ≡ false → longest test (suc n) bytes ≡ longest test n bytes
below test n bytes h = rw (h, longest) refl

none_above : (test : List ℕ → Bool) (m n : ℕ) (bytes : List ℕ) → test (take (suc n) bytes) ≡ false → Longest test m n bytes → (j : ℕ) → m < j → j ≤ suc n → test (take j bytes) ≡ false
none_above test m n bytes not_here found j more within =
    elim (cases_lt n j) [
      | inl above ↦ let e : j ≡ suc n = omega arith in rw e not_here
      | inr under ↦ found.none j more under
    ]

find : (test : List ℕ → Bool) (n : ℕ) (bytes : List ℕ) → 0 < n → test (take 1 bytes) ≡ true → Longest test (longest test n bytes) n bytes
find test zero bytes some one = absurd (omega arith)
find test (suc zero) bytes some one =
    subst (λ m. Longest test m 1 bytes) (sym (here test 0 bytes one)) (record { is = one; some = omega arith; within = omega arith; none = λ j a b. absurd (omega arith) })
find test (suc (suc n)) bytes some one = elim (cases_Bool (test (take (suc (suc n)) bytes))) [
  | inl is ↦ subst (λ m. Longest test m (suc (suc n)) bytes) (sym (here test (suc n) bytes is)) (record { is = is; some = omega arith; within = omega arith; none = λ j a b. absurd (omega arith) })
  | inr differs ↦
      let found = find test (suc n) bytes (omega arith) one in
      subst (λ m. Longest test m (suc (suc n)) bytes) (sym (below test (suc n) bytes differs)) (record {
        is = found.is;
        some = found.some;
        within = omega arith;
        none = none_above test (longest test (suc n) bytes) (suc n) bytes differs found;
      })
]

take_all : (more rest : List ℕ) → take (length more) (more ++ rest) ≡ more
take_all [] rest = refl
take_all (m ∷ more) rest = ap (λ xs. m ∷ xs) (take_all more rest)

take_more : (bytes : List ℕ) (m : ℕ) (more rest : List ℕ) → m ≤ length bytes → drop m bytes ≡ more ++ rest → take (m + length more) bytes ≡ take m bytes ++ more
take_more bytes zero more rest within e = rw (zero-add, e) (take_all more rest)
take_more [] (suc m) more rest within e = absurd (omega arith)
take_more (b ∷ bs) (suc m) more rest within e =
    let n : suc m + length more ≡ suc (m + length more) = omega arith in
    rw n (ap (λ xs. b ∷ xs) (take_more bs m more rest (omega arith) e))

no_more : (more : List ℕ) → length more ≡ 0 → more ≡ []
no_more [] e = refl
no_more (m ∷ more) e = absurd (omega arith)

is_longest : (test : List ℕ → Bool) (m : ℕ) (bytes : List ℕ) → Longest test m (length bytes) bytes → IsLongest test (take m bytes) (drop m bytes)
is_longest test m bytes found = record {
  whole = found.is;
  longest = λ more rest e passes.
      let fits : m + length more ≤ length bytes = omega (arith, length-drop m bytes, ap length e, length-append more rest, found.within) in
      let text = take_more bytes m more rest found.within e in
      elim (cases_lt 0 (length more)) [
        | inl some ↦ absurd (both_ways _ (found.none (m + length more) (omega arith) fits) (rw text passes))
        | inr none ↦ no_more more (omega arith)
      ];
}

pub munched_in_are : (test : List ℕ → Bool) → ((b : ℕ) → test (b ∷ []) ≡ true) → (steps : ℕ) (bytes : List ℕ) → length bytes ≤ steps → AreMunched test (munched_in test steps bytes) bytes
munched_in_are test one zero [] within = refl
munched_in_are test one zero (b ∷ bs) within = absurd (omega arith)
munched_in_are test one (suc steps) [] within = refl
munched_in_are test one (suc steps) (b ∷ bs) within =
    let found = find test (length (b ∷ bs)) (b ∷ bs) (omega arith) (one b) in
    let n = longest test (length (b ∷ bs)) (b ∷ bs) in
    (drop n (b ∷ bs), sym (take-append-drop n (b ∷ bs)), is_longest test n (b ∷ bs) found, munched_in_are test one steps (drop n (b ∷ bs)) (omega (arith, length-drop n (b ∷ bs), found.some, found.within)))

pub munched_are : (test : List ℕ → Bool) → ((b : ℕ) → test (b ∷ []) ≡ true) → (bytes : List ℕ) → AreMunched test (munched test bytes) bytes
munched_are test one bytes = munched_in_are test one (length bytes) bytes (omega arith)
