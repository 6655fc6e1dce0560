-- Sixteen bytes at once: the first mark of a block tells how many of its bytes are simple.
use Rattle.std.proofs.Common.{◌≡◌, ℕ, zero, suc, ◌&&◌, List, [], ◌∷◌, Bool, true, false, not, refl, sym, ◌∙◌, ap, cond, eqb, T, map, replicate, length, get_or, bit_and, subst, arith, ◌%◌, ◌^◌, ◌*◌, ◌/◌, ◌+◌, ◌-◌, ◌<◌, ◌≤◌, take, inl, inr, w8, Fits, eq-zero-or-pos}
use Rattle.std.specs.List.{prefix_len}
use Rattle.std.specs.Int.Count.{count_trailing_zeros}
use Rattle.std.proofs.lemmas.Bool.{cases_Bool, eqb-true}
use Rattle.std.proofs.lemmas.List.{length-map, length-take-le, ext_get_or, get_or-map}
use Rattle.std.proofs.lemmas.Nat.{and_le_r}
use Rattle.bz_token.proofs.Blocks.{ends_in_block}
use Rattle.std.proofs.lemmas.Simd.{Each1-all, Each1-zip2, Each2-splat, first_set_mask_l, get_or-swz_l_below, length-swz_l, length-zip2, mask_l-mod, swz_l, SwzOk, SwzOk-from_below, zip2_splat}
use mathlib.Core.Bool.{beq}
use lib.Ieee.Fits.{and_l, and_r}
use lib.Lanes.{Each1, zip2, mask_l, top}
use Rattle.bz_canonical.specs.private.Fronts.{is_simple}
use Rattle.bz_canonical.specs.declared.simple.TheConstants.{NOT_SIMPLE}

not_not : (b : Bool) → not (not b) ≡ b
not_not true = refl
not_not false = refl

simple_before : (xs : List ℕ) → prefix_len (λ b. not (not (is_simple b))) xs ≡ prefix_len is_simple xs
simple_before [] = refl
simple_before (x ∷ xs) = rw (not_not (is_simple x), simple_before xs) refl

-- ---- the byte at a low half

abbrev at_low_half : ℕ → ℕ
at_low_half b = get_or NOT_SIMPLE (bit_and b 15) 0

abbrev tells : ℕ → Bool
tells b = beq (eqb (at_low_half b) b) (not (is_simple b))

abbrev all_below : (ℕ → Bool) → ℕ → Bool
all_below p zero = true
all_below p (suc n) = p n && all_below p n

each_below : (p : ℕ → Bool) (n : ℕ) → T (all_below p n) → (i : ℕ) → i < n → T (p i)
each_below p zero h i l = absurd (omega arith)
each_below p (suc n) h i l =
    elim (eq-zero-or-pos (n - i)) [
      | inl z ↦ let e : n ≡ i = omega arith in subst (λ x. T (p x)) e (and_l _ _ h)
      | inr g ↦ each_below p n (and_r (p n) _ h) i (omega arith)
    ]

equal : (a b : Bool) → T (beq a b) → a ≡ b
equal true true t = refl
equal true false t = absurd t
equal false true t = absurd t
equal false false t = refl

told : (b : ℕ) → b < 256 → eqb (at_low_half b) b ≡ not (is_simple b)
told b byte = equal (eqb (at_low_half b) b) (not (is_simple b)) (each_below tells 256 tt b byte)

-- the low halves of the bytes of a block
abbrev low_halves : List ℕ → List ℕ
low_halves xs = zip2 bit_and xs (replicate 16 15)

pub low_halves_fit : (xs : List ℕ) → length xs ≡ 16 → SwzOk w8 16 16 0 (low_halves xs)
low_halves_fit xs long =
    let small = Each1-all (λ a. bit_and a 15 < 16) (λ a. omega (arith, and_le_r a 15)) xs in
    SwzOk-from_below w8 16 1 16 0 (low_halves xs) refl (omega (arith, length-zip2 bit_and xs (replicate 16 15) long))
    (Each1-zip2 bit_and (λ j. j < 16) xs (replicate 16 15) (Each2-splat (λ a b. bit_and a b < 16) xs 16 15 small))

looked_up : (xs : List ℕ) → length xs ≡ 16 → swz_l w8 16 NOT_SIMPLE 0 (low_halves xs) ≡ map at_low_half xs
looked_up xs long =
    let js : List ℕ = low_halves xs in
    let halves : js ≡ map (λ x. bit_and x 15) xs = zip2_splat bit_and xs 16 15 long in
    let len : length js ≡ 16 = ap length halves ∙ length-map xs (λ x. bit_and x 15) ∙ long in
    let swz : length (swz_l w8 16 NOT_SIMPLE 0 js) ≡ 16 = length-swz_l w8 16 NOT_SIMPLE 0 js ∙ len in
    ext_get_or 0 _ _ (swz ∙ sym (length-map xs at_low_half ∙ long)) (λ i h.
    let lt : i < 16 = omega (arith, swz, h) in
    let within : i < length xs = omega (arith, lt, long) in
    let half : get_or js i 0 ≡ bit_and (get_or xs i 0) 15 = ap (λ l. get_or l i 0) halves ∙ get_or-map (λ x. bit_and x 15) xs i 0 0 within in
    let below : get_or js i 0 < 16 = omega (arith, half, and_le_r (get_or xs i 0) 15) in
    let place : 16 * ((0 + i) / 16) + get_or js i 0 ≡ bit_and (get_or xs i 0) 15 = omega (arith, lt, half) in
    get_or-swz_l_below w8 16 NOT_SIMPLE 0 js i (omega (arith, len, lt)) below
    ∙ ap (λ k. get_or NOT_SIMPLE k 0) place ∙ sym (get_or-map at_low_half xs i 0 0 within))

-- ---- the bytes of a block that are not simple

pub front_fits : (n : ℕ) (bytes : List ℕ) → ((i : ℕ) → Fits w8 (get_or bytes i 0)) → Each1 (Fits w8) (take n bytes)
front_fits zero bytes fits = tt
front_fits (suc n) [] fits = tt
front_fits (suc n) (x ∷ xs) fits = (fits 0, front_fits n xs (λ i. fits (suc i)))

abbrev lanes_equal : List ℕ → List ℕ → List ℕ
lanes_equal ms xs = zip2 (λ x y. cond (eqb x y) 255 0) ms xs

abbrev lanes : List ℕ → List ℕ
lanes xs = lanes_equal (swz_l w8 16 NOT_SIMPLE 0 (low_halves xs)) xs

lane : (a : Bool) → top 7 (cond a 255 0) ≡ a
lane true = refl
lane false = refl

tops : (xs : List ℕ) → Each1 (Fits w8) xs → map (top 7) (lanes_equal (map at_low_half xs) xs) ≡ map (λ b. not (is_simple b)) xs
tops [] fits = refl
tops (x ∷ xs) fits = rw (lane (eqb (at_low_half x) x), told x fits.0.fits, tops xs fits.1) refl

mask : (xs : List ℕ) → length xs ≡ 16 → Each1 (Fits w8) xs → mask_l (map (top 7) (lanes xs)) % 2 ^ 64 ≡ mask_l (map (λ b. not (is_simple b)) xs)
mask xs long fits =
    ap (λ ms. mask_l (map (top 7) (lanes_equal ms xs)) % 2 ^ 64) (looked_up xs long) ∙ ap (λ ms. mask_l ms % 2 ^ 64) (tops xs fits)
    ∙ mask_l-mod (map (λ b. not (is_simple b)) xs) 64 (omega (arith, long, length-map xs (λ b. not (is_simple b))))

first : (xs : List ℕ) (m : ℕ) → length xs ≡ 16 → m ≡ mask_l (map (λ b. not (is_simple b)) xs)
    → cond (eqb m 0) 16 (count_trailing_zeros 64 m) ≡ prefix_len is_simple xs
first xs m long is =
    ap (λ n. cond (eqb n 0) 16 (count_trailing_zeros 64 n)) is
    ∙ first_set_mask_l (λ b. not (is_simple b)) xs 16 long (omega arith)
    ∙ simple_before xs

not_0 : (m : ℕ) → (m ≡ 0 → ⊥) → eqb m 0 ≡ false
not_0 m is = elim (cases_Bool (eqb m 0)) [ inl e ↦ absurd (is (eqb-true m 0 e)) | inr e ↦ e ]

-- no byte has a mark
pub all_simple : (xs : List ℕ) → length xs ≡ 16 → Each1 (Fits w8) xs → mask_l (map (top 7) (lanes xs)) % 2 ^ 64 ≡ 0 → 16 ≡ prefix_len is_simple xs
all_simple xs long fits none =
    let m = mask_l (map (top 7) (lanes xs)) % 2 ^ 64 in
    sym (ap (λ b. cond b 16 (count_trailing_zeros 64 m)) (ap (λ n. eqb n 0) none)) ∙ first xs m long (mask xs long fits)

before_mark : (xs : List ℕ) → length xs ≡ 16 → Each1 (Fits w8) xs → (mask_l (map (top 7) (lanes xs)) % 2 ^ 64 ≡ 0 → ⊥)
    → count_trailing_zeros 64 (mask_l (map (top 7) (lanes xs)) % 2 ^ 64) ≡ prefix_len is_simple xs
before_mark xs long fits some =
    let m = mask_l (map (top 7) (lanes xs)) % 2 ^ 64 in
    sym (ap (λ b. cond b 16 (count_trailing_zeros 64 m)) (not_0 m some)) ∙ first xs m long (mask xs long fits)

some_mark : (xs : List ℕ) → (mask_l (map (λ b. not (is_simple b)) xs) ≡ 0 → ⊥) → prefix_len is_simple xs < length xs
some_mark [] marked = absurd (marked refl)
some_mark (x ∷ xs) marked = by (is_simple x) marked (some_mark xs)
  where
    by : (b : Bool) → (cond (not b) 1 0 + 2 * mask_l (map (λ b. not (is_simple b)) xs) ≡ 0 → ⊥)
        → ((mask_l (map (λ b. not (is_simple b)) xs) ≡ 0 → ⊥) → prefix_len is_simple xs < length xs) → cond b (1 + prefix_len is_simple xs) 0 < suc (length xs)
    by true marked more = omega (arith, more (λ e. marked (omega (arith, e))))
    by false marked more = omega arith

-- a byte has a mark
pub in_block : (bytes : List ℕ) → 16 ≤ length bytes → Each1 (Fits w8) (take 16 bytes) → (mask_l (map (top 7) (lanes (take 16 bytes))) % 2 ^ 64 ≡ 0 → ⊥)
    → (prefix_len is_simple bytes ≡ count_trailing_zeros 64 (mask_l (map (top 7) (lanes (take 16 bytes))) % 2 ^ 64))
    × (count_trailing_zeros 64 (mask_l (map (top 7) (lanes (take 16 bytes))) % 2 ^ 64) < 16)
in_block bytes enough fits some =
    let xs : List ℕ = take 16 bytes in
    let n : ℕ = count_trailing_zeros 64 (mask_l (map (top 7) (lanes xs)) % 2 ^ 64) in
    let long : length xs ≡ 16 = length-take-le 16 bytes enough in
    let count : n ≡ prefix_len is_simple xs = before_mark xs long fits some in
    let less : n < 16 = omega (arith, count, long, some_mark xs (λ e. some (mask xs long fits ∙ e))) in
    (sym (ends_in_block is_simple bytes n enough count less), less)
