-- What stands at a place, before it is read.
use Rattle.std.proofs.Common.{◌≡◌, ◌==◌, ℕ, ◌-◌, zero, suc, drop, ◌+◌, ◌<◌, List, [], ◌∷◌, ◌++◌, length, take, get_or, ◌||◌, Bool, true, false, refl, ap, subst, ◌∙◌, arith, inl, inr, one-add}
use Rattle.std.specs.Prelude.{Result, Ok, Err, IfOk, IfErr}
use Rattle.std.specs.List.{prefix_len}
use Rattle.std.proofs.lemmas.List.{length-take-le}
use Rattle.std.proofs.lemmas.List.Sums.{prefix_len-le-length}
use Rattle.std.proofs.lemmas.Bool.{eqb-true, false≢true, or_parts}
use Rattle.std.proofs.lemmas.Bool.Decides.{nat_tests}
use Rattle.bz_token.proofs.Units.{gap_step, begins_is}
use Rattle.bz_token.specs.declared.gap.TokenGap.{TokenGap}
use Rattle.bz_token.specs.Brackets.{is_opening_bracket, is_closing_bracket, is_inside, bracket_fits, open_after_token}
use Rattle.bz_token.specs.Pieces.{is_blank}
use Rattle.bz_token.specs.Reading.{begins_gap}
use Rattle.bz_token.specs.private.Scans.{IsScanned, IsBadPlace, bad_fault, IsMisfit, misfit_fault}
use Rattle.bz_token.specs.private.Steps.{IsTaken, IsTakenAs, IsRefused, IsGapHere, IsStep, IsTokenStep, IsBadStep}
use Rattle.bz_token.specs.declared.brackets.Misfit.{Misfit}
use Rattle.bz_token.specs.declared.scan_token.Bad.{Bad}
use Rattle.bz_token.specs.declared.scan_token.Scanned.{Scanned}
use Rattle.bz_token.specs.declared.scan_token.GapOrToken.{GapOrToken}
use Rattle.bz_token.specs.declared.scan_token.GapOrToken.TheVariants as step
use Rattle.bz_token.specs.private.Tables.{IsSolid}
use Rattle.bz_token.proofs.Gaps.{blank_run, blank_ascii}
use Rattle.bz_token.proofs.Scanning.{all_front}
use Rattle.bz_token.proofs.Progress.{newlines, newlines-append, one_line, one_line_newlines, one_line_column}
use Rattle.bz_token.specs.Common.{begins}

blank_first : (bytes : List ℕ) → begins is_blank bytes ≡ true → 0 < prefix_len is_blank bytes
blank_first [] h = absurd (false≢true h)
blank_first (b ∷ bs) h = rw (h, one-add) (omega arith)

pub blanks_here : (inside : Bool) (bytes : List ℕ) (gap : TokenGap) → begins is_blank bytes ≡ true → gap.len ≡ prefix_len is_blank bytes → gap.on_line ≡ prefix_len is_blank bytes → gap.has_newline ≡ false → IsGapHere inside bytes gap
blanks_here inside bytes gap first len on ends =
    let n = prefix_len is_blank bytes in
    let some = blank_first bytes first in
    let within = prefix_len-le-length is_blank bytes in
    let flat = one_line (take n bytes) (all_front is_blank bytes) in
    record {
      some = rw len some;
      within = rw len within;
      on_line = omega (arith, len, on);
      goes_on = λ ys. rw len (blank_run inside bytes ys);
      ascii = rw len (blank_ascii bytes some);
      lines = rw (len, ends) (one_line_newlines (take n bytes) flat);
      column = λ c. rw (len, on, ends) (one_line_column c (take n bytes) flat ∙ ap (λ k. c + k) (length-take-le n bytes within));
    }

-- a newline and the blanks after it
last_ascii : (bs : List ℕ) (n : ℕ) → n ≡ prefix_len is_blank bs → get_or (10 ∷ bs) n 0 < 128
last_ascii bs zero counted = omega arith
last_ascii bs (suc n) counted =
    let some : 0 < prefix_len is_blank bs = omega (arith, counted) in
    let e : prefix_len is_blank bs - 1 ≡ n = omega (arith, counted) in
    subst (λ k. get_or bs k 0 < 128) e (blank_ascii bs some)

pub newline_here : (bytes : List ℕ) (gap : TokenGap) → 0 < length bytes → get_or bytes 0 0 ≡ 10 → gap.on_line ≡ prefix_len is_blank (drop 1 bytes) → gap.len ≡ 1 + gap.on_line → gap.has_newline ≡ true → IsGapHere true bytes gap
newline_here [] gap some first on len ends = absurd (omega arith)
newline_here (b ∷ bs) gap some first on len ends =
    let n = prefix_len is_blank bs in
    let whole : gap.len ≡ suc (prefix_len is_blank bs) = omega (arith, len, on) in
    let last : gap.len - 1 ≡ prefix_len is_blank bs = omega (arith, len, on) in
    let within = prefix_len-le-length is_blank bs in
    let flat = one_line (take n bs) (all_front is_blank bs) in
    let one : newlines (10 ∷ take n bs) ≡ 1 = newlines-append (10 ∷ []) (take n bs) ∙ ap (λ k. 1 + k) (one_line_newlines (take n bs) flat) in
    record {
      some = omega (arith, len);
      within = omega (arith, whole, within);
      on_line = omega (arith, len);
      goes_on = λ ys. rw (whole, first) (gap_step true 10 (take (prefix_len is_blank bs) bs ++ ys) ∙ blank_run true bs ys);
      ascii = rw (last, first) (last_ascii bs n refl);
      lines = rw (whole, ends, first) one;
      column = λ c. rw (whole, on, ends, first) (one_line_column 1 (take n bs) flat ∙ ap (λ k. 1 + k) (length-take-le n bs within));
    }

-- no gap begins with a solid byte
pub solid_gap : (inside : Bool) (bytes : List ℕ) → 0 < length bytes → IsSolid (get_or bytes 0 0) → begins_gap inside bytes ≡ false
solid_gap inside [] some solid = absurd (omega arith)
solid_gap true (b ∷ bs) some solid = let blank = solid.0 in let line = solid.1 in let slash = solid.2 in begins_is true (b ∷ bs) ∙ rw (blank, line, slash) refl
solid_gap false (b ∷ bs) some solid = let blank = solid.0 in let slash = solid.2 in begins_is false (b ∷ bs) ∙ rw (blank, slash) refl

-- a newline outside brackets is no gap
pub newline_gap : (inside : Bool) (bytes : List ℕ) → inside ≡ false → 0 < length bytes → get_or bytes 0 0 ≡ 10 → begins_gap inside bytes ≡ false
newline_gap inside [] outside some first = absurd (omega arith)
newline_gap inside (b ∷ bs) outside some first = begins_is inside (b ∷ bs) ∙ rw (outside, first) refl

-- what a step is, of the text itself
pub gap_of_step : (depth : ℕ) (opened after bytes rest : List ℕ) (s : GapOrToken) (gap : TokenGap) → bytes ≡ rest → s ≡ step.Gap gap → IsTaken depth opened after bytes s → IsGapHere (is_inside opened) rest gap × (after ≡ opened)
gap_of_step depth opened after bytes rest s gap same_bytes same is =
    subst (λ xs. IsGapHere (is_inside opened) xs gap × (after ≡ opened)) same_bytes (subst (IsTaken depth opened after bytes) same is)

pub token_of_step : (depth : ℕ) (opened after bytes rest : List ℕ) (s : GapOrToken) (t : Scanned) → bytes ≡ rest → s ≡ step.Token t → IsTaken depth opened after bytes s → IsTaken depth opened after rest (step.Token t)
token_of_step depth opened after bytes rest s t same_bytes same is =
    subst (λ xs. IsTaken depth opened after xs (step.Token t)) same_bytes (subst (IsTaken depth opened after bytes) same is)

pub end_gap : (inside : Bool) (xs : List ℕ) → xs ≡ [] → begins_gap inside xs ≡ false
end_gap inside xs none = rw none refl

-- a step over a token
pub token_step : (inside : Bool) (bytes : List ℕ) (r : Result GapOrToken Bad) → begins_gap inside bytes ≡ false → IfOk r (IsTokenStep bytes) → IfOk r (IsStep inside bytes)
token_step inside bytes (Ok (step.Gap gap)) none is = absurd is
token_step inside bytes (Ok (step.Token s)) none is = (none, is)
token_step inside bytes (Err bad) none is = tt

pub bad_step : (inside : Bool) (bytes : List ℕ) (r : Result GapOrToken Bad) → begins_gap inside bytes ≡ false → IfErr r (IsBadPlace bytes) → IfErr r (IsBadStep inside bytes)
bad_step inside bytes (Ok step) none is = tt
bad_step inside bytes (Err bad) none is = (none, is)

-- a step that takes no bracket
pub step_taken : (depth : ℕ) (opened bytes : List ℕ) (s : GapOrToken) → (is_opening_bracket (get_or bytes 0 0) || is_closing_bracket (get_or bytes 0 0)) ≡ false → IsStep (is_inside opened) bytes s → IsTaken depth opened opened bytes s
step_taken depth opened bytes (step.Gap gap) none is = (is, refl)
step_taken depth opened bytes (step.Token s) none is =
    let parts = or_parts (is_opening_bracket (get_or bytes 0 0)) (is_closing_bracket (get_or bytes 0 0)) none in
    let opens = parts.0 in
    let closes = parts.1 in
    let fits : bracket_fits depth opened (get_or bytes 0 0) ≡ true = rw (opens, closes) refl in
    let same : opened ≡ open_after_token opened (get_or bytes 0 0 ∷ []) = rw (opens, closes) refl in
    (is.0, is.1, fits, same)

-- a comma takes no bracket
pub comma_taken : (depth : ℕ) (opened bytes : List ℕ) (s : Scanned) → begins (λ b. b == 44) bytes ≡ true → IsScanned bytes s → IsTakenAs s depth opened opened bytes
comma_taken depth opened [] s comma is = absurd (false≢true comma)
comma_taken depth opened (b ∷ bs) s comma is =
    let first : b ≡ 44 = eqb-true b 44 comma in
    let solid : IsSolid b = rw first (refl, refl, refl) in
    step_taken depth opened (b ∷ bs) (step.Token s) (rw first refl) (solid_gap (is_inside opened) (b ∷ bs) (omega arith) solid, is)

pub bad_refused : (depth : ℕ) (opened bytes : List ℕ) (line col : ℕ) (bad : Bad) → IsBadStep (is_inside opened) bytes bad → IsRefused depth opened bytes line col (bad_fault bad line col)
bad_refused depth opened bytes line col bad is = (is.0, inl (bad, is.1, refl))

-- no gap begins with a bracket
pub bracket_gap : (inside : Bool) (bytes : List ℕ) → 0 < length bytes → (is_opening_bracket (get_or bytes 0 0) || is_closing_bracket (get_or bytes 0 0)) ≡ true → begins_gap inside bytes ≡ false
bracket_gap inside bytes some bracket = solid_gap inside bytes some (solid (get_or bytes 0 0) bracket)
  where
    solid : (b : ℕ) → (is_opening_bracket b || is_closing_bracket b) ≡ true → IsSolid b
    solid b h = (grind (arith, nat_tests), grind (arith, nat_tests), grind (arith, nat_tests))

pub misfit_refused : (depth : ℕ) (opened bytes : List ℕ) (line col : ℕ) (misfit : Misfit) → 0 < length bytes → (is_opening_bracket (get_or bytes 0 0) || is_closing_bracket (get_or bytes 0 0)) ≡ true → IsMisfit depth opened (get_or bytes 0 0) misfit
    → IsRefused depth opened bytes line col (misfit_fault misfit line col)
misfit_refused depth opened bytes line col misfit some bracket is = (bracket_gap (is_inside opened) bytes some bracket, inr (misfit, is, refl))
