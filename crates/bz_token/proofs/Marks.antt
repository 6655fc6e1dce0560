-- Sixteen bytes at once: the first mark tells how many bytes pass.
use Rattle.std.proofs.Common.{◌≡◌, ℕ, zero, suc, ◌+◌, ◌-◌, ◌*◌, ◌/◌, ◌%◌, ◌^◌, ◌<◌, ◌≤◌, ◌==◌, ◌&&◌, ◌||◌, List, [], ◌∷◌, Bool, true, false, not, refl, sym, ◌∙◌, ap, cond, eqb, leb, map, get_or, replicate, length, take, drop, bit_or, bit_and, arith, inl, inr, eq-zero-or-pos, length-drop}
use Rattle.std.specs.List.{prefix_len, range_with_len}
use Rattle.std.specs.Simd.Lanes.{zip2, mask_l, top}
use Rattle.std.specs.Int.Count.{count_trailing_zeros}
use Rattle.std.proofs.lemmas.List.{length-map, length-take-le, drop-drop, take_all}
use Rattle.std.proofs.lemmas.List.FromFn.{get_or-map-range_with_len}
use Rattle.std.proofs.Math.Bool.{or_assoc}
use Rattle.std.proofs.lemmas.Bool.{cases_lt}
use Rattle.std.proofs.lemmas.Nat.{le_or_l}
use Rattle.std.proofs.lemmas.Bool.Decides.{nat_tests}
use Rattle.std.specs.Int.{is_in_range}
use Rattle.std.proofs.lemmas.Simd.{trailing_mask_l, leading_from_mask_l, mask_l-mod}
use Rattle.std.proofs.Math.Nat.{div-one, zero-div, div-div-eq-div-mul, pow-succ'}
use Rattle.bz_token.specs.declared.cutter.marks.Stretch.{Stretch}
use Rattle.bz_token.specs.declared.cutter.marks.Stretch.TheVariants.{Statement, Text}
use Rattle.bz_token.specs.private.Marks.{is_mark, passes}
use Rattle.bz_token.proofs.Blocks.{ends_in_block, passes_block}
use Rattle.bz_token.proofs.WordBlocks.{or_lane, and_lane, top_lane}

-- square and curly brackets, and what is between them, are told apart from others with one bit set
abbrev by_set : ℕ → Bool
by_set b = leb 123 (bit_or b 32) && leb (bit_or b 32) 125

abbrev by_ranges : ℕ → Bool
by_ranges b = is_in_range 91 93 b || is_in_range 123 125 b

low_sets : map by_set (range_with_len 0 126) ≡ map by_ranges (range_with_len 0 126)
low_sets = refl

by_bit : (b : ℕ) → by_set b ≡ by_ranges b
by_bit b = elim (cases_lt b 126) [
  | inl low ↦ sym (get_or-map-range_with_len by_set 0 126 b b false low (omega arith)) ∙ ap (λ t. get_or t b false) low_sets ∙ get_or-map-range_with_len by_ranges 0 126 b b false low (omega arith)
  | inr high ↦ high_set (bit_or b 32) (le_or_l b 32) high
]
  where
    high_set : (s : ℕ) → b ≤ s → 126 ≤ b → (leb 123 s && leb s 125) ≡ by_ranges b
    high_set s le high = grind (arith, nat_tests)

-- ---- the lanes that compare with a byte

abbrev equal_to : ℕ → List ℕ → ℕ → List ℕ
equal_to n xs b = zip2 (λ x y. cond (eqb x y) 255 0) xs (replicate n b)

abbrev at_least : ℕ → List ℕ → ℕ → List ℕ
at_least n xs b = zip2 (λ x y. cond (leb x y) 255 0) (replicate n b) xs

abbrev at_most : ℕ → List ℕ → ℕ → List ℕ
at_most n xs b = zip2 (λ x y. cond (leb x y) 255 0) xs (replicate n b)

abbrev set : ℕ → List ℕ → List ℕ
set n xs = zip2 bit_or xs (replicate n 32)

-- those of the marks
abbrev statement_lanes : ℕ → List ℕ → List ℕ
statement_lanes n xs =
    zip2 bit_or (zip2 bit_or (equal_to n xs 10) (zip2 bit_and (at_least n xs 34) (at_most n xs 41))) (zip2 bit_and (at_least n (set n xs) 123) (at_most n (set n xs) 125))

abbrev text_lanes : ℕ → List ℕ → List ℕ
text_lanes n xs = zip2 bit_or (zip2 bit_or (equal_to n xs 34) (equal_to n xs 10)) (equal_to n xs 92)

statement_lane : (a b c d e : Bool)
    → top 7 (bit_or (bit_or (cond a 255 0) (bit_and (cond b 255 0) (cond c 255 0))) (bit_and (cond d 255 0) (cond e 255 0))) ≡ (a || (b && c) || (d && e))
statement_lane a b c d e =
    ap (λ n. top 7 (bit_or (bit_or (cond a 255 0) n) (bit_and (cond d 255 0) (cond e 255 0)))) (and_lane b c)
    ∙ ap (λ n. top 7 (bit_or (bit_or (cond a 255 0) (cond (b && c) 255 0)) n)) (and_lane d e)
    ∙ ap (λ n. top 7 (bit_or n (cond (d && e) 255 0))) (or_lane a (b && c))
    ∙ ap (top 7) (or_lane (a || (b && c)) (d && e)) ∙ top_lane (a || (b && c) || (d && e))

text_lane : (a b c : Bool) → top 7 (bit_or (bit_or (cond a 255 0) (cond b 255 0)) (cond c 255 0)) ≡ (a || b || c)
text_lane a b c = ap (λ n. top 7 (bit_or n (cond c 255 0))) (or_lane a b) ∙ ap (top 7) (or_lane (a || b) c) ∙ top_lane (a || b || c)

statement_tops : (xs : List ℕ) → map (top 7) (statement_lanes (length xs) xs) ≡ map (is_mark Statement) xs
statement_tops [] = refl
statement_tops (x ∷ xs) =
    rw (statement_lane (x == 10) (leb 34 x) (leb x 41) (leb 123 (bit_or x 32)) (leb (bit_or x 32) 125), by_bit x, statement_tops xs)
    (ap (λ b. b ∷ map (is_mark Statement) xs) (sym (or_assoc (x == 10 || is_in_range 34 41 x) (is_in_range 91 93 x) (is_in_range 123 125 x))))

text_tops : (xs : List ℕ) → map (top 7) (text_lanes (length xs) xs) ≡ map (is_mark Text) xs
text_tops [] = refl
text_tops (x ∷ xs) = rw (text_lane (x == 34) (x == 10) (x == 92), text_tops xs) refl

-- a mask of 16 lanes fits
mask : (p : ℕ → Bool) (xs : List ℕ) → length xs ≡ 16 → mask_l (map p xs) % 2 ^ 64 ≡ mask_l (map p xs)
mask p xs long = mask_l-mod (map p xs) 64 (omega (arith, long, length-map xs p))

pub statement_mask : (xs : List ℕ) → length xs ≡ 16 → mask_l (map (top 7) (statement_lanes 16 xs)) % 2 ^ 64 ≡ mask_l (map (is_mark Statement) xs)
statement_mask xs long =
    ap (λ n. mask_l (map (top 7) (statement_lanes n xs)) % 2 ^ 64) (sym long) ∙ ap (λ ms. mask_l ms % 2 ^ 64) (statement_tops xs) ∙ mask (is_mark Statement) xs long

pub text_mask : (xs : List ℕ) → length xs ≡ 16 → mask_l (map (top 7) (text_lanes 16 xs)) % 2 ^ 64 ≡ mask_l (map (is_mark Text) xs)
text_mask xs long =
    ap (λ n. mask_l (map (top 7) (text_lanes n xs)) % 2 ^ 64) (sym long) ∙ ap (λ ms. mask_l ms % 2 ^ 64) (text_tops xs) ∙ mask (is_mark Text) xs long

-- ---- what a mask tells

-- the lanes after some
mask_drop : (p : ℕ → Bool) (k : ℕ) (xs : List ℕ) → mask_l (map p xs) / 2 ^ k ≡ mask_l (map p (drop k xs))
mask_drop p zero xs = div-one (mask_l (map p xs))
mask_drop p (suc k) [] = zero-div (2 ^ suc k)
mask_drop p (suc k) (x ∷ xs) =
    let m = mask_l (map p xs) in
    let half : (cond (p x) 1 0 + 2 * m) / 2 ≡ m = one_less (p x) m in
    ap (λ n. (cond (p x) 1 0 + 2 * m) / n) (pow-succ' 2 k) ∙ sym (div-div-eq-div-mul (cond (p x) 1 0 + 2 * m) 2 (2 ^ k)) ∙ ap (λ n. n / 2 ^ k) half ∙ mask_drop p k xs
  where
    one_less : (b : Bool) (m : ℕ) → (cond b 1 0 + 2 * m) / 2 ≡ m
    one_less true m = omega arith
    one_less false m = omega arith

some_mark : (p : ℕ → Bool) (xs : List ℕ) → (mask_l (map p xs) ≡ 0 → ⊥) → prefix_len (λ b. not (p b)) xs < length xs
some_mark p [] marked = absurd (marked refl)
some_mark p (x ∷ xs) marked = by (p x) marked (some_mark p xs)
  where
    by : (b : Bool) → (cond b 1 0 + 2 * mask_l (map p xs) ≡ 0 → ⊥)
        → ((mask_l (map p xs) ≡ 0 → ⊥) → prefix_len (λ c. not (p c)) xs < length xs) → cond (not b) (1 + prefix_len (λ c. not (p c)) xs) 0 < suc (length xs)
    by false marked more = omega (arith, more (λ e. marked (omega (arith, e))))
    by true marked more = omega arith

first : (s : Stretch) (xs : List ℕ) → length xs ≤ 64 → (mask_l (map (is_mark s) xs) ≡ 0 → ⊥) → count_trailing_zeros 64 (mask_l (map (is_mark s) xs)) ≡ prefix_len (passes s) xs
first s xs few some = trailing_mask_l (is_mark s) 64 xs few (elim (eq-zero-or-pos (mask_l (map (is_mark s) xs))) [ inl z ↦ absurd (some z) | inr g ↦ g ])

-- a block with a mark, and one with none
pub in_block : (s : Stretch) (rest : List ℕ) (m : ℕ) → 16 ≤ length rest → m ≡ mask_l (map (is_mark s) (take 16 rest)) → (m ≡ 0 → ⊥)
    → count_trailing_zeros 64 m ≡ prefix_len (passes s) rest
in_block s rest m long is some =
    let xs = take 16 rest in
    let len : length xs ≡ 16 = length-take-le 16 rest long in
    let none : mask_l (map (is_mark s) xs) ≡ 0 → ⊥ = λ e. some (is ∙ e) in
    let n : count_trailing_zeros 64 m ≡ prefix_len (passes s) xs = ap (count_trailing_zeros 64) is ∙ first s xs (omega (arith, len)) none in
    ends_in_block (passes s) rest (count_trailing_zeros 64 m) long n (omega (arith, n, len, some_mark (is_mark s) xs none))

pub no_mark : (s : Stretch) (rest : List ℕ) (m : ℕ) → 16 ≤ length rest → m ≡ mask_l (map (is_mark s) (take 16 rest)) → m ≡ 0
    → prefix_len (passes s) rest ≡ 16 + prefix_len (passes s) (drop 16 rest)
no_mark s rest m long is none =
    let len : length (take 16 rest) ≡ 16 = length-take-le 16 rest long in
    let n : prefix_len (passes s) (take 16 rest) ≡ 16 = leading_from_mask_l (is_mark s) (take 16 rest) (sym is ∙ none) ∙ len in
    (passes_block (passes s) rest 16 long (sym n) (omega arith)).1

-- the last block, without some at its front
last : (s : Stretch) (bytes : List ℕ) (i at : ℕ) → i + 16 ≡ length bytes → i ≤ at → mask_l (map (is_mark s) (take 16 (drop i bytes))) / 2 ^ (at - i) ≡ mask_l (map (is_mark s) (drop at bytes))
last s bytes i at end le =
    let whole : take 16 (drop i bytes) ≡ drop i bytes = take_all 16 (drop i bytes) (omega (arith, end, length-drop i bytes)) in
    let place : at - i + i ≡ at = omega (arith, le) in
    mask_drop (is_mark s) (at - i) (take 16 (drop i bytes))
    ∙ ap (λ xs. mask_l (map (is_mark s) (drop (at - i) xs))) whole
    ∙ ap (λ xs. mask_l (map (is_mark s) xs)) (drop-drop (at - i) i bytes ∙ ap (λ n. drop n bytes) (omega (arith, place)))

pub in_last : (s : Stretch) (bytes : List ℕ) (i at m : ℕ) → i + 16 ≡ length bytes → i ≤ at → m ≡ mask_l (map (is_mark s) (take 16 (drop i bytes))) / 2 ^ (at - i) → (m ≡ 0 → ⊥)
    → count_trailing_zeros 64 m ≡ prefix_len (passes s) (drop at bytes)
in_last s bytes i at m end le is some =
    let now : m ≡ mask_l (map (is_mark s) (drop at bytes)) = is ∙ last s bytes i at end le in
    ap (count_trailing_zeros 64) now ∙ first s (drop at bytes) (omega (arith, end, le, length-drop at bytes)) (λ e. some (now ∙ e))

pub none_in_last : (s : Stretch) (bytes : List ℕ) (i at m : ℕ) → i + 16 ≡ length bytes → i ≤ at → m ≡ mask_l (map (is_mark s) (take 16 (drop i bytes))) / 2 ^ (at - i) → m ≡ 0
    → prefix_len (passes s) (drop at bytes) ≡ length bytes - at
none_in_last s bytes i at m end le is none =
    leading_from_mask_l (is_mark s) (drop at bytes) (sym (is ∙ last s bytes i at end le) ∙ none) ∙ length-drop at bytes
