-- For private clauses: what the parts of the scan find.
use Rattle.std.specs.Prelude.{◌≡◌, ◌≤◌, ◌<◌, List, [], ◌∷◌, ℕ, Bool, true, false, not, ◌&&◌, ◌==◌, length, take, drop, IsUtf8}
use Rattle.std.specs.List.{list_any}
use Rattle.std.specs.Str.{IsCharBoundary}
use Rattle.bz_token.specs.declared.brackets.Brackets.{Brackets}
use Rattle.bz_token.specs.declared.brackets.Misfit.{Misfit}
use Rattle.bz_token.specs.declared.brackets.Misfit.TheVariants.{TooDeep, NoMatch}
use Rattle.bz_token.specs.declared.fault.LexFault.{LexFault}
use Rattle.bz_token.specs.declared.scan_token.Scanned.{Scanned}
use Rattle.bz_token.specs.declared.scan_token.Bad.{Bad}
use Rattle.bz_token.specs.declared.scan_token.Bad.TheVariants.{Character, Number, OpenText, Backslash}
use Rattle.bz_token.specs.Lexical.{IsToken}
use Rattle.bz_token.specs.Common.{is_newline}
use Rattle.bz_token.specs.Brackets.{is_opening_bracket, is_closing_bracket, closes_innermost, open_tokens}
use Rattle.bz_token.specs.Places.{Placed}
use Rattle.bz_token.specs.private.BadPlaces.{IsBadCharacter, IsBadNumber, IsOpenText, IsBadBackslash}

-- the open brackets, from the innermost outwards
abbrev pub opened : Brackets → List ℕ
opened brackets = drop brackets.top brackets.bytes

-- the token at the front of these bytes
pub record IsScanned (bytes : List ℕ) (s : Scanned) : Type 0 where
  pub some : 0 < s.len
  pub within : s.len ≤ length bytes
  pub token : IsToken s.kind (take s.len bytes) (drop s.len bytes)
  pub one_line : s.has_newline ≡ false → list_any is_newline (take s.len bytes) ≡ false
  pub boundary : IsUtf8 bytes → IsCharBoundary bytes s.len

abbrev pub IsBadPlace : List ℕ → Bad → Type 0
IsBadPlace place Character = IsBadCharacter place
IsBadPlace place Number = IsBadNumber place
IsBadPlace place OpenText = IsOpenText place
IsBadPlace place Backslash = IsBadBackslash place

abbrev pub bad_fault : Bad → ℕ → ℕ → LexFault
bad_fault Character line col = LexFault.BadCharacter line col
bad_fault Number line col = LexFault.BadNumber line col
bad_fault OpenText line col = LexFault.OpenText line col
bad_fault Backslash line col = LexFault.BadBackslash line col

-- why a byte that a token begins with does not fit where these brackets are open
abbrev pub IsMisfit : ℕ → List ℕ → ℕ → Misfit → Type 0
IsMisfit depth opened b TooDeep = (is_opening_bracket b ≡ true) × (depth ≤ length opened)
IsMisfit depth opened b NoMatch = (is_closing_bracket b ≡ true) × (closes_innermost opened b ≡ false)

abbrev pub misfit_fault : Misfit → ℕ → ℕ → LexFault
misfit_fault TooDeep line col = LexFault.TooDeep line col
misfit_fault NoMatch line col = LexFault.BadBracket line col

-- the place of the innermost bracket that is open after these tokens
abbrev pub IsLeftOpen : List Placed → LexFault → Type 0
IsLeftOpen tokens fault = (t : Placed) × (outer : List Placed) × (open_tokens [] tokens ≡ t ∷ outer) × (fault ≡ LexFault.OpenBracket t.line t.col)

-- a byte that neither ends a short string with this quote nor escapes the next byte
abbrev pub is_plain : ℕ → ℕ → Bool
is_plain quote b = not (b == quote) && not (b == 10) && not (b == 92)
