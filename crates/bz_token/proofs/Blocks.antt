-- Sixteen bytes at once: the first mark of a block tells how many of its bytes are plain.
use Rattle.std.proofs.Common.{◌≡◌, ℕ, ◌+◌, ◌≤◌, ◌==◌, ◌&&◌, List, [], ◌∷◌, Bool, true, false, not, refl, sym, ◌∙◌, ap, cond, eqb, map, replicate, length, bit_or, arith, ◌%◌, ◌^◌, ◌<◌, take, drop, inl, inr}
use Rattle.std.specs.List.{prefix_len}
use Rattle.std.specs.Simd.Lanes.{zip2, mask_l, top}
use Rattle.std.specs.Int.Count.{count_trailing_zeros}
use Rattle.std.proofs.lemmas.Bool.{cases_Bool, eqb-true}
use Rattle.std.proofs.lemmas.List.{length-map, length-take-le, take-append-drop}
use Rattle.std.proofs.lemmas.List.Folds.{prefix_len-append}
use Rattle.std.proofs.lemmas.List.Sums.{prefix_len-le-length}
use Rattle.std.proofs.lemmas.Simd.{first_set_mask_l, mask_l-mod}
use Rattle.bz_token.specs.private.Scans.{is_plain}

not_not : (b : Bool) → not (not b) ≡ b
not_not true = refl
not_not false = refl

plain_before : (q : ℕ) (xs : List ℕ) → prefix_len (λ b. not (not (is_plain q b))) xs ≡ prefix_len (is_plain q) xs
plain_before q [] = refl
plain_before q (x ∷ xs) = rw (not_not (is_plain q x), plain_before q xs) refl

lane : (a b c : Bool) → top 7 (bit_or (bit_or (cond a 255 0) (cond b 255 0)) (cond c 255 0)) ≡ not (not a && not b && not c)
lane true true true = refl
lane true true false = refl
lane true false true = refl
lane true false false = refl
lane false true true = refl
lane false true false = refl
lane false false true = refl
lane false false false = refl

-- the lanes that compare with a byte
abbrev equal_to : ℕ → List ℕ → ℕ → List ℕ
equal_to n xs b = zip2 (λ x y. cond (eqb x y) 255 0) xs (replicate n b)

-- those of the bytes that are not plain
abbrev lanes : ℕ → ℕ → List ℕ → List ℕ
lanes n q xs = zip2 bit_or (zip2 bit_or (equal_to n xs q) (equal_to n xs 10)) (equal_to n xs 92)

tops : (q : ℕ) (xs : List ℕ) → map (top 7) (lanes (length xs) q xs) ≡ map (λ b. not (is_plain q b)) xs
tops q [] = refl
tops q (x ∷ xs) = rw (lane (x == q) (x == 10) (x == 92), tops q xs) refl

mask : (q : ℕ) (xs : List ℕ) → length xs ≡ 16 → mask_l (map (top 7) (lanes 16 q xs)) % 2 ^ 64 ≡ mask_l (map (λ b. not (is_plain q b)) xs)
mask q xs long =
    ap (λ n. mask_l (map (top 7) (lanes n q xs)) % 2 ^ 64) (sym long) ∙ ap (λ ms. mask_l ms % 2 ^ 64) (tops q xs)
    ∙ mask_l-mod (map (λ b. not (is_plain q b)) xs) 64 (omega (arith, long, length-map xs (λ b. not (is_plain q b))))

first : (q : ℕ) (xs : List ℕ) (m : ℕ) → length xs ≡ 16 → m ≡ mask_l (map (λ b. not (is_plain q b)) xs)
    → cond (eqb m 0) 16 (count_trailing_zeros 64 m) ≡ prefix_len (is_plain q) xs
first q xs m long is =
    ap (λ n. cond (eqb n 0) 16 (count_trailing_zeros 64 n)) is
    ∙ first_set_mask_l (λ b. not (is_plain q b)) xs 16 long (omega arith)
    ∙ plain_before q xs

is_0 : (m : ℕ) → m ≡ 0 → eqb m 0 ≡ true
is_0 m is = ap (λ n. eqb n 0) is

not_0 : (m : ℕ) → (m ≡ 0 → ⊥) → eqb m 0 ≡ false
not_0 m is = elim (cases_Bool (eqb m 0)) [ inl e ↦ absurd (is (eqb-true m 0 e)) | inr e ↦ e ]

-- no byte has a mark
pub all_plain : (q : ℕ) (xs : List ℕ) → length xs ≡ 16 → mask_l (map (top 7) (lanes 16 q xs)) % 2 ^ 64 ≡ 0 → 16 ≡ prefix_len (is_plain q) xs
all_plain q xs long none =
    let m = mask_l (map (top 7) (lanes 16 q xs)) % 2 ^ 64 in
    sym (ap (λ b. cond b 16 (count_trailing_zeros 64 m)) (is_0 m none)) ∙ first q xs m long (mask q xs long)

pub before_mark : (q : ℕ) (xs : List ℕ) → length xs ≡ 16 → (mask_l (map (top 7) (lanes 16 q xs)) % 2 ^ 64 ≡ 0 → ⊥)
    → count_trailing_zeros 64 (mask_l (map (top 7) (lanes 16 q xs)) % 2 ^ 64) ≡ prefix_len (is_plain q) xs
before_mark q xs long some =
    let m = mask_l (map (top 7) (lanes 16 q xs)) % 2 ^ 64 in
    sym (ap (λ b. cond b 16 (count_trailing_zeros 64 m)) (not_0 m some)) ∙ first q xs m long (mask q xs long)

-- a block, and what follows it
blocks : (p : ℕ → Bool) (xs : List ℕ) → 16 ≤ length xs
    → prefix_len p xs ≡ cond (eqb (prefix_len p (take 16 xs)) 16) (16 + prefix_len p (drop 16 xs)) (prefix_len p (take 16 xs))
blocks p xs long =
    ap (prefix_len p) (sym (take-append-drop 16 xs)) ∙ prefix_len-append p (take 16 xs) (drop 16 xs)
    ∙ ap (λ n. cond (eqb (prefix_len p (take 16 xs)) n) (n + prefix_len p (drop 16 xs)) (prefix_len p (take 16 xs))) (length-take-le 16 xs long)

pub ends_in_block : (p : ℕ → Bool) (xs : List ℕ) (n : ℕ) → 16 ≤ length xs → n ≡ prefix_len p (take 16 xs) → n < 16 → n ≡ prefix_len p xs
ends_in_block p xs n long is less =
    is ∙ sym (blocks p xs long ∙ ap (λ b. cond b (16 + prefix_len p (drop 16 xs)) (prefix_len p (take 16 xs))) (not_same (prefix_len p (take 16 xs)) (omega (arith, is, less))))
  where
    not_same : (m : ℕ) → m < 16 → eqb m 16 ≡ false
    not_same m less = elim (cases_Bool (eqb m 16)) [ inl e ↦ absurd (omega (arith, less, eqb-true m 16 e)) | inr e ↦ e ]

pub passes_block : (p : ℕ → Bool) (xs : List ℕ) (n : ℕ) → 16 ≤ length xs → n ≡ prefix_len p (take 16 xs) → 16 ≤ n
    → (n ≡ 16) × (prefix_len p xs ≡ 16 + prefix_len p (drop 16 xs))
passes_block p xs n long is most =
    let whole : prefix_len p (take 16 xs) ≡ 16 = omega (arith, is, most, prefix_len-le-length p (take 16 xs), length-take-le 16 xs long) in
    (is ∙ whole, blocks p xs long ∙ ap (λ m. cond (eqb m 16) (16 + prefix_len p (drop 16 xs)) m) whole)

pub in_block : (p : ℕ → Bool) (xs : List ℕ) (n : ℕ) → 16 ≤ length xs → n ≡ prefix_len p (take 16 xs) → n ≤ 16
in_block p xs n long is = omega (arith, is, prefix_len-le-length p (take 16 xs), length-take-le 16 xs long)
