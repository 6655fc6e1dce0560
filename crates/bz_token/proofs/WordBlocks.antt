-- Sixteen bytes at once: the first that is in no word tells how long the word is.
use Rattle.std.proofs.Common.{◌≡◌, ℕ, ◌&&◌, ◌||◌, List, [], ◌∷◌, Bool, true, false, not, refl, sym, ◌∙◌, ap, cond, eqb, ltb, map, replicate, length, bit_or, bit_and, arith, ◌%◌, ◌^◌, inl, inr}
use Rattle.std.specs.Int.{is_in_range}
use Rattle.std.specs.List.{prefix_len}
use Rattle.std.specs.Simd.Lanes.{zip2, mask_l, top}
use Rattle.std.specs.Int.Count.{count_trailing_zeros}
use Rattle.std.proofs.lemmas.Bool.{cases_Bool, eqb-true}
use Rattle.std.proofs.lemmas.Bool.Decides.{nat_tests}
use Rattle.std.proofs.lemmas.List.{length-map}
use Rattle.std.proofs.lemmas.Simd.{first_set_mask_l, mask_l-mod}
use Rattle.bz_token.specs.Lexical.{is_word_byte}

not_not : (b : Bool) → not (not b) ≡ b
not_not true = refl
not_not false = refl

pub or_lane : (a b : Bool) → bit_or (cond a 255 0) (cond b 255 0) ≡ cond (a || b) 255 0
or_lane true true = refl
or_lane true false = refl
or_lane false true = refl
or_lane false false = refl

pub and_lane : (a b : Bool) → bit_and (cond a 255 0) (cond b 255 0) ≡ cond (a && b) 255 0
and_lane true true = refl
and_lane true false = refl
and_lane false true = refl
and_lane false false = refl

pub top_lane : (a : Bool) → top 7 (cond a 255 0) ≡ a
top_lane true = refl
top_lane false = refl

-- a byte outside a range
outside_range : (low high b : ℕ) → (ltb b low || ltb high b) ≡ not (is_in_range low high b)
outside_range low high b = grind (arith, nat_tests)

none_of : (a b c d : Bool) → (not a && not b && not c && not d) ≡ not ((a || b) || c || d)
none_of true b c d = refl
none_of false true c d = refl
none_of false false true d = refl
none_of false false false d = refl

-- the lane of a byte that is outside each range, and another
abbrev range_lane : ℕ → ℕ → ℕ → ℕ
range_lane low high b = bit_or (cond (ltb b low) 255 0) (cond (ltb high b) 255 0)

range_is : (low high b : ℕ) → range_lane low high b ≡ cond (not (is_in_range low high b)) 255 0
range_is low high b = or_lane (ltb b low) (ltb high b) ∙ ap (λ t. cond t 255 0) (outside_range low high b)

lane : (b : ℕ) → top 7 (bit_and (bit_and (bit_and (range_lane 65 90 b) (range_lane 97 122 b)) (range_lane 48 57 b)) (cond (not (eqb b 95)) 255 0)) ≡ not (is_word_byte b)
lane b =
    let capital = is_in_range 65 90 b in
    let small = is_in_range 97 122 b in
    let digit = is_in_range 48 57 b in
    let letters : bit_and (range_lane 65 90 b) (range_lane 97 122 b) ≡ cond (not capital && not small) 255 0 =
    ap (λ n. bit_and n (range_lane 97 122 b)) (range_is 65 90 b) ∙ ap (bit_and (cond (not capital) 255 0)) (range_is 97 122 b) ∙ and_lane (not capital) (not small) in
    let ranges : bit_and (bit_and (range_lane 65 90 b) (range_lane 97 122 b)) (range_lane 48 57 b) ≡ cond (not capital && not small && not digit) 255 0 =
    ap (λ n. bit_and n (range_lane 48 57 b)) letters ∙ ap (bit_and (cond (not capital && not small) 255 0)) (range_is 48 57 b) ∙ and_lane (not capital && not small) (not digit) in
    ap (λ n. top 7 (bit_and n (cond (not (eqb b 95)) 255 0))) ranges
    ∙ ap (top 7) (and_lane (not capital && not small && not digit) (not (eqb b 95)))
    ∙ top_lane (not capital && not small && not digit && not (eqb b 95))
    ∙ none_of capital small digit (eqb b 95)

-- the lanes that compare with a byte
abbrev below : ℕ → List ℕ → ℕ → List ℕ
below n xs b = zip2 (λ x y. cond (ltb x y) 255 0) xs (replicate n b)

abbrev above : ℕ → List ℕ → ℕ → List ℕ
above n xs b = zip2 (λ x y. cond (ltb x y) 255 0) (replicate n b) xs

abbrev other_than : ℕ → List ℕ → ℕ → List ℕ
other_than n xs b = zip2 (λ x y. cond (not (eqb x y)) 255 0) xs (replicate n b)

-- those of the bytes that are in no word
abbrev lanes : ℕ → List ℕ → List ℕ
lanes n xs =
    zip2 bit_and (zip2 bit_and (zip2 bit_and (zip2 bit_or (below n xs 65) (above n xs 90)) (zip2 bit_or (below n xs 97) (above n xs 122))) (zip2 bit_or (below n xs 48) (above n xs 57))) (other_than n xs 95)

tops : (xs : List ℕ) → map (top 7) (lanes (length xs) xs) ≡ map (λ b. not (is_word_byte b)) xs
tops [] = refl
tops (x ∷ xs) = rw (lane x, tops xs) refl

mask : (xs : List ℕ) → length xs ≡ 16 → mask_l (map (top 7) (lanes 16 xs)) % 2 ^ 64 ≡ mask_l (map (λ b. not (is_word_byte b)) xs)
mask xs long =
    ap (λ n. mask_l (map (top 7) (lanes n xs)) % 2 ^ 64) (sym long) ∙ ap (λ ms. mask_l ms % 2 ^ 64) (tops xs)
    ∙ mask_l-mod (map (λ b. not (is_word_byte b)) xs) 64 (omega (arith, long, length-map xs (λ b. not (is_word_byte b))))

word_before : (xs : List ℕ) → prefix_len (λ b. not (not (is_word_byte b))) xs ≡ prefix_len is_word_byte xs
word_before [] = refl
word_before (x ∷ xs) = rw (not_not (is_word_byte x), word_before xs) refl

first : (xs : List ℕ) (m : ℕ) → length xs ≡ 16 → m ≡ mask_l (map (λ b. not (is_word_byte b)) xs)
    → cond (eqb m 0) 16 (count_trailing_zeros 64 m) ≡ prefix_len is_word_byte xs
first xs m long is =
    ap (λ n. cond (eqb n 0) 16 (count_trailing_zeros 64 n)) is
    ∙ first_set_mask_l (λ b. not (is_word_byte b)) xs 16 long (omega arith)
    ∙ word_before xs

is_0 : (m : ℕ) → m ≡ 0 → eqb m 0 ≡ true
is_0 m is = ap (λ n. eqb n 0) is

not_0 : (m : ℕ) → (m ≡ 0 → ⊥) → eqb m 0 ≡ false
not_0 m is = elim (cases_Bool (eqb m 0)) [ inl e ↦ absurd (is (eqb-true m 0 e)) | inr e ↦ e ]

-- all bytes are in words
pub all_word : (xs : List ℕ) → length xs ≡ 16 → mask_l (map (top 7) (lanes 16 xs)) % 2 ^ 64 ≡ 0 → 16 ≡ prefix_len is_word_byte xs
all_word xs long none =
    let m = mask_l (map (top 7) (lanes 16 xs)) % 2 ^ 64 in
    sym (ap (λ b. cond b 16 (count_trailing_zeros 64 m)) (is_0 m none)) ∙ first xs m long (mask xs long)

pub before_other : (xs : List ℕ) → length xs ≡ 16 → (mask_l (map (top 7) (lanes 16 xs)) % 2 ^ 64 ≡ 0 → ⊥)
    → count_trailing_zeros 64 (mask_l (map (top 7) (lanes 16 xs)) % 2 ^ 64) ≡ prefix_len is_word_byte xs
before_other xs long some =
    let m = mask_l (map (top 7) (lanes 16 xs)) % 2 ^ 64 in
    sym (ap (λ b. cond b 16 (count_trailing_zeros 64 m)) (not_0 m some)) ∙ first xs m long (mask xs long)
