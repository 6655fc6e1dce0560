-- Gaps, a step at a time.
use Rattle.std.proofs.Common.{◌≡◌, ℕ, zero, suc, ◌+◌, ◌-◌, ◌<◌, ◌≤◌, ◌==◌, ◌&&◌, List, [], ◌∷◌, ◌++◌, length, take, get_or, true, false, not, cond, refl, sym, ap, ◌∙◌, arith, Bool, inl, inr, sub-one, drop, map, replicate, eqb, subst, w8, ◌^◌, ◌%◌}
use Rattle.std.proofs.lemmas.Bool.{cases_Bool, false≢true, not_from_false}
use Rattle.std.proofs.lemmas.List.{length-take-le, get_or-take}
use Rattle.std.proofs.lemmas.List.Sums.{prefix_len-le-length, prefix_len_passes}
use Rattle.std.proofs.lemmas.Grind.{common_steps}
use Rattle.std.proofs.lemmas.Bool.Decides.{nat_tests}
use Rattle.std.specs.List.{list_any, prefix_len}
use Rattle.std.specs.Simd.Lanes.{zip2, mask_l, top}
use Rattle.std.specs.Int.Count.{count_trailing_zeros}
use Rattle.std.proofs.lemmas.Simd.{bitmask_splat, trailing_mask_l}
use Rattle.bz_token.proofs.Units.{gap_step}
use Rattle.bz_token.specs.Lexical.{ends_blank, is_comment}
use Rattle.bz_token.specs.Reading.{is_gap}
use Rattle.bz_token.specs.Common.{begins, is_newline}
use Rattle.bz_token.specs.Pieces.{is_blank, is_white}
use Rattle.bz_token.specs.private.Gaps.{continues_gap}

-- a run of white space
white_step : (inside : Bool) (b : ℕ) (ys : List ℕ) → is_white inside b ≡ true → is_gap inside (b ∷ ys) ≡ is_gap inside ys
white_step inside b ys h = gap_step inside b ys ∙ by (is_white inside b) h
  where
    by : (t : Bool) → t ≡ true → elim t [ true ↦ is_gap inside ys | false ↦ b == 92 && continues_gap inside ys ] ≡ is_gap inside ys
    by true h = refl
    by false h = absurd (false≢true h)

-- a run of blanks
pub blank_run : (inside : Bool) (bs ys : List ℕ) → is_gap inside (take (prefix_len is_blank bs) bs ++ ys) ≡ is_gap inside ys
blank_run inside [] ys = refl
blank_run inside (b ∷ bs) ys = by (is_blank b) refl (blank_run inside bs ys)
  where
    by : (t : Bool) → is_blank b ≡ t → is_gap inside (take (prefix_len is_blank bs) bs ++ ys) ≡ is_gap inside ys
        → is_gap inside (take (cond t (1 + prefix_len is_blank bs) 0) (b ∷ bs) ++ ys) ≡ is_gap inside ys
    by true e rest =
        let one : 1 + prefix_len is_blank bs ≡ suc (prefix_len is_blank bs) = omega arith in
        let white : is_white inside b ≡ true = rw e refl in
        ap (λ n. is_gap inside (take n (b ∷ bs) ++ ys)) one ∙ white_step inside b (take (prefix_len is_blank bs) bs ++ ys) white ∙ rest
    by false e rest = refl

blank_small : (b : ℕ) → is_blank b ≡ true → b < 128
blank_small b h = grind (arith, nat_tests)

pub blank_ascii : (bs : List ℕ) → 0 < prefix_len is_blank bs → get_or bs (prefix_len is_blank bs - 1) 0 < 128
blank_ascii bs some = blank_small (get_or bs (prefix_len is_blank bs - 1) 0) (prefix_len_passes is_blank bs (prefix_len is_blank bs - 1) 0 (omega arith))

last_blank : (x : ℕ) (xs : List ℕ) → ends_blank (x ∷ xs) ≡ is_blank (get_or (x ∷ xs) (length xs) 0)
last_blank x [] = refl
last_blank x (y ∷ xs) = last_blank y xs

none_before : (p : ℕ → Bool) (xs : List ℕ) (n : ℕ) → n ≤ prefix_len (λ b. not (p b)) xs → list_any p (take n xs) ≡ false
none_before p [] n h = grind (arith, common_steps)
none_before p (x ∷ xs) zero h = refl
none_before p (x ∷ xs) (suc n) h =
    elim (cases_Bool (p x)) [
      | inl hit ↦ absurd (omega (arith, rw hit at h))
      | inr miss ↦ rw miss (none_before p xs n (omega (arith, rw miss at h)))
    ]

-- a number sign is no blank
hash_no_blank : (b : ℕ) → (b == 35) ≡ true → is_blank b ≡ false
hash_no_blank b h = grind (arith, nat_tests)

last_trimmed : (b : ℕ) (bs : List ℕ) (n r : ℕ) → (b == 35) ≡ true → n ≤ suc (length bs) → suc r ≤ n → (1 < suc r → is_blank (get_or (take n (b ∷ bs)) (suc r - 1) 0) ≡ false) → is_blank (get_or (b ∷ take r bs) (length (take r bs)) 0) ≡ false
last_trimmed b bs n zero hash within fits trimmed = hash_no_blank b hash
last_trimmed b bs n (suc k) hash within fits trimmed =
    let whole : length (take (suc k) bs) ≡ suc k = length-take-le (suc k) bs (omega arith) in
    let here = trimmed (omega arith) in
    let front : get_or (take n (b ∷ bs)) (suc k) 0 ≡ get_or (b ∷ bs) (suc k) 0 = get_or-take n (b ∷ bs) (suc k) 0 (omega arith) in
    let back : get_or (take (suc (suc k)) (b ∷ bs)) (suc k) 0 ≡ get_or (b ∷ bs) (suc k) 0 = get_or-take (suc (suc k)) (b ∷ bs) (suc k) 0 (omega arith) in
    rw whole (ap is_blank (back ∙ sym front) ∙ rw sub-one at here)

pub comment_front : (bytes : List ℕ) (n r : ℕ) → begins (λ b. b == 35) bytes ≡ true → n ≡ prefix_len (λ b. not (is_newline b)) bytes → 0 < r → r ≤ n → (1 < r → is_blank (get_or (take n bytes) (r - 1) 0) ≡ false) → is_comment (take r bytes) ≡ true
comment_front [] n r hash whole some fits trimmed = absurd (false≢true hash)
comment_front (b ∷ bs) n zero hash whole some fits trimmed = absurd (omega arith)
comment_front (b ∷ bs) n (suc r) hash whole some fits trimmed =
    let within : n ≤ suc (length bs) = omega (arith, prefix_len-le-length (λ c. not (is_newline c)) (b ∷ bs)) in
    simp (hash, none_before is_newline (b ∷ bs) (suc r) (omega arith), last_blank b (take r bs)) (not_from_false _ (last_trimmed b bs n r hash within fits trimmed))

-- sixteen bytes at once: those that are no space, as a mask
abbrev pub others_of : List ℕ → ℕ
others_of xs = mask_l (map (top 7) (zip2 (λ a b. cond (not (eqb a b)) 255 0) xs (replicate 16 32))) % 2 ^ 64

abbrev no_other : ℕ → Bool
no_other b = not (not (eqb b 32))

-- what passes so is blank
space_run : (bs : List ℕ) (k : ℕ) → prefix_len is_blank bs ≡ prefix_len no_other (take k bs) + prefix_len is_blank (drop (prefix_len no_other (take k bs)) bs)
space_run [] zero = refl
space_run [] (suc k) = refl
space_run (b ∷ bs) zero = omega arith
space_run (b ∷ bs) (suc k) = by (eqb b 32) refl (space_run bs k)
  where
    n : ℕ
    n = prefix_len no_other (take k bs)

    by : (t : Bool) → eqb b 32 ≡ t → prefix_len is_blank bs ≡ n + prefix_len is_blank (drop n bs)
        → prefix_len is_blank (b ∷ bs) ≡ cond (not (not t)) (1 + n) 0 + prefix_len is_blank (drop (cond (not (not t)) (1 + n) 0) (b ∷ bs))
    by true e rest =
        let one : 1 + n ≡ suc n = omega arith in
        rw (one, e) (omega (arith, rest))
    by false e rest = omega arith

pub spaces_before : (bs : List ℕ) → 16 ≤ length bs → (others_of (take 16 bs) ≡ 0 → ⊥)
    → (count_trailing_zeros 64 (others_of (take 16 bs)) ≤ length bs)
    × (prefix_len is_blank bs ≡ count_trailing_zeros 64 (others_of (take 16 bs)) + prefix_len is_blank (drop (count_trailing_zeros 64 (others_of (take 16 bs))) bs))
spaces_before bs long some =
    let xs = take 16 bs in
    let few = length-take-le 16 bs long in
    let m = bitmask_splat w8 (λ a b. not (eqb a b)) xs 16 32 few (omega arith) in
    let n : count_trailing_zeros 64 (others_of xs) ≡ prefix_len no_other xs = ap (count_trailing_zeros 64) m ∙ trailing_mask_l (λ b. not (eqb b 32)) 64 xs (omega (arith, few)) (above (mask_l (map (λ b. not (eqb b 32)) xs)) (λ e. some (m ∙ e))) in
    (omega (arith, n, prefix_len-le-length no_other xs, few, long), subst (λ k. prefix_len is_blank bs ≡ k + prefix_len is_blank (drop k bs)) (sym n) (space_run bs 16))
  where
    above : (m : ℕ) → (m ≡ 0 → ⊥) → 0 < m
    above zero no_zero = absurd (no_zero refl)
    above (suc m) no_zero = omega arith
