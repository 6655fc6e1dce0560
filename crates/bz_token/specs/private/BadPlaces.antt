-- For private clauses: what is wrong at a place.
use Rattle.std.specs.Prelude.{◌≡◌, ◌≤◌, ◌<◌, ℕ, List, length, true, false, not, ◌&&◌, ◌==◌, is_some}
use Rattle.std.specs.Char.{is_ascii_digit}
use Rattle.bz_token.specs.Lexical.{HasNoToken}
use Rattle.bz_token.specs.Brackets.{is_opening_bracket, is_closing_bracket, closes_innermost}
use Rattle.bz_token.specs.Common.{begins}
use Rattle.bz_token.specs.Strings.{opening}

-- a string opens here, and no quotes close it
pub record IsOpenText (place : List ℕ) : Type 0 where
  pub quoted : is_some (opening place) ≡ true
  pub none : HasNoToken place

-- a digit stands here, and the letters, digits and underscores here are no number
pub record IsBadNumber (place : List ℕ) : Type 0 where
  pub digit : begins is_ascii_digit place ≡ true
  pub none : HasNoToken place

-- a backslash that continues no line
abbrev pub IsBadBackslash : List ℕ → Type 0
IsBadBackslash place = begins (λ b. b == 92) place ≡ true

-- another byte, at which no token stands
pub record IsBadCharacter (place : List ℕ) : Type 0 where
  pub some : 0 < length place
  pub unquoted : is_some (opening place) ≡ false
  pub no_digit : begins is_ascii_digit place ≡ false
  pub no_backslash : begins (λ b. b == 92) place ≡ false
  pub none : HasNoToken place

-- a closing bracket that does not match the innermost open one
abbrev pub IsBadBracket : List ℕ → List ℕ → Type 0
IsBadBracket opened place = begins (λ b. is_closing_bracket b && not (closes_innermost opened b)) place ≡ true

-- an opening bracket where as many are open as may be
pub record IsTooDeep (depth : ℕ) (opened place : List ℕ) : Type 0 where
  pub bracket : begins is_opening_bracket place ≡ true
  pub deep : depth ≤ length opened
