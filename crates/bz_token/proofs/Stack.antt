-- The open brackets at the end of an array.
use Rattle.std.proofs.Common.{◌≡◌, ℕ, zero, suc, ◌+◌, List, [], ◌∷◌, length, drop, true, false, sym, ◌∙◌, arith}
use Rattle.std.specs.Prelude.{nat_lt}
use Rattle.std.proofs.lemmas.List.{drop-drop}
use Rattle.std.proofs.Math.Seq.{drop-nil}
use Rattle.std.proofs.lemmas.Bool.Decides.{nat_tests}
use Rattle.bz_token.specs.Brackets.{is_inside, is_opening_bracket, is_closing_bracket, open_after_token}

no_less : (n : ℕ) → nat_lt n 0 ≡ false
no_less n = grind (arith, nat_tests)

some_more : (n : ℕ) → nat_lt 0 (suc n) ≡ true
some_more n = grind (arith, nat_tests)

less_suc : (n m : ℕ) → nat_lt (suc n) (suc m) ≡ nat_lt n m
less_suc n m = grind (arith, nat_tests)

pub inside_drop : (xs : List ℕ) (n : ℕ) → nat_lt n (length xs) ≡ is_inside (drop n xs)
inside_drop [] n = rw drop-nil (no_less n)
inside_drop (x ∷ xs) zero = some_more (length xs)
inside_drop (x ∷ xs) (suc n) = less_suc n (length xs) ∙ inside_drop xs n

pub closed_bracket : (xs : List ℕ) (n b : ℕ) → is_opening_bracket b ≡ false → is_closing_bracket b ≡ true → drop (n + 1) xs ≡ open_after_token (drop n xs) (b ∷ [])
closed_bracket xs n b none closing = simp (none, closing) (sym (drop-drop 1 n xs))
