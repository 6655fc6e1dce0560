-- For private clauses: what stands at a place, a token or the white space before it.
use Rattle.std.specs.Prelude.{◌≡◌, ◌⊎◌, ◌≤◌, ◌<◌, ◌+◌, ◌-◌, ◌++◌, ◌==◌, ℕ, List, Bool, true, false, length, take, slice_index, count_by, if◌then◌else◌, [], ◌∷◌}
use Rattle.bz_token.specs.declared.gap.TokenGap.{TokenGap}
use Rattle.bz_token.specs.declared.brackets.Misfit.{Misfit}
use Rattle.bz_token.specs.declared.fault.LexFault.{LexFault}
use Rattle.bz_token.specs.declared.scan_token.Bad.{Bad}
use Rattle.bz_token.specs.declared.scan_token.Scanned.{Scanned}
use Rattle.bz_token.specs.declared.scan_token.GapOrToken.{GapOrToken}
use Rattle.bz_token.specs.declared.scan_token.GapOrToken.TheVariants as step
use Rattle.bz_token.specs.Brackets.{is_inside, bracket_fits, open_after_token}
use Rattle.bz_token.specs.Places.{column_from}
use Rattle.bz_token.specs.Reading.{is_gap, begins_gap}
use Rattle.bz_token.specs.private.Scans.{IsScanned, IsBadPlace, bad_fault, IsMisfit, misfit_fault}

-- These bytes are white space or a continued line, with at most one newline, and so many of them stand after it.
pub record IsGapHere (inside : Bool) (bytes : List ℕ) (gap : TokenGap) : Type 0 where
  pub some : 0 < gap.len
  pub within : gap.len ≤ length bytes
  pub on_line : gap.on_line ≤ gap.len
  pub goes_on : (ys : List ℕ) → is_gap inside (take gap.len bytes ++ ys) ≡ is_gap inside ys
  pub ascii : slice_index bytes (gap.len - 1) < 128
  pub lines : count_by (λ b. b == 10) (take gap.len bytes) ≡ (if gap.has_newline then 1 else 0)
  pub column : (c : ℕ) → column_from c (take gap.len bytes) ≡ (if gap.has_newline then 1 else c) + gap.on_line

abbrev pub IsStep : Bool → List ℕ → GapOrToken → Type 0
IsStep inside bytes (step.Gap gap) = IsGapHere inside bytes gap
IsStep inside bytes (step.Token s) = (begins_gap inside bytes ≡ false) × IsScanned bytes s

-- the token here, where no gap is
abbrev pub IsTokenStep : List ℕ → GapOrToken → Type 0
IsTokenStep bytes (step.Gap gap) = ⊥
IsTokenStep bytes (step.Token s) = IsScanned bytes s

-- no token stands here, and no gap
abbrev pub IsBadStep : Bool → List ℕ → Bad → Type 0
IsBadStep inside bytes bad = (begins_gap inside bytes ≡ false) × IsBadPlace bytes bad

-- this token is here, where these brackets are open, and those after its first byte
abbrev pub IsTakenAs : Scanned → ℕ → List ℕ → List ℕ → List ℕ → Type 0
IsTakenAs s depth opened after bytes =
    (begins_gap (is_inside opened) bytes ≡ false) × IsScanned bytes s × (bracket_fits depth opened (slice_index bytes 0) ≡ true)
    × (after ≡ open_after_token opened (slice_index bytes 0 ∷ []))

-- what stands here, and the brackets that are open after its first byte, where it is a token
abbrev pub IsTaken : ℕ → List ℕ → List ℕ → List ℕ → GapOrToken → Type 0
IsTaken depth opened after bytes (step.Gap gap) = IsGapHere (is_inside opened) bytes gap × (after ≡ opened)
IsTaken depth opened after bytes (step.Token s) = IsTakenAs s depth opened after bytes

-- the fault where no token stands here, or where its first byte is a bracket that does not fit
abbrev pub IsRefused : ℕ → List ℕ → List ℕ → ℕ → ℕ → LexFault → Type 0
IsRefused depth opened bytes line col fault =
    (begins_gap (is_inside opened) bytes ≡ false)
    × (((bad : Bad) × IsBadPlace bytes bad × (fault ≡ bad_fault bad line col))
    ⊎ ((misfit : Misfit) × IsMisfit depth opened (slice_index bytes 0) misfit × (fault ≡ misfit_fault misfit line col)))
