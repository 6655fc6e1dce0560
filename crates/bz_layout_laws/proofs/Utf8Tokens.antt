-- The texts of tokens are UTF-8 where the text is in which they stand.
use Rattle.std.proofs.Common.{◌≡◌, ℕ, ◌<◌, ◌≤◌, ◌&&◌, List, [], ◌∷◌, ◌++◌, length, Bool, true, false, refl, sym, ap, subst, ◌∙◌, arith, inl, inr}
use Rattle.std.specs.Prelude.{get_or, nat_lt, ◌==◌}
use Rattle.std.specs.List.{list_all}
use Rattle.std.specs.Str.{IsUtf8, is_utf8, IsCharBoundary}
use Rattle.std.proofs.Math.Seq.{take-append_seam, drop-append_seam, get_or-append_seam}
use Rattle.std.proofs.lemmas.Bool.{cases_Bool, and_parts, false≢true}
use Rattle.std.proofs.lemmas.Bool.Decides.{nat_tests}
use Rattle.std.proofs.lemmas.Str.{IsUtf8-take, IsUtf8-drop, IsUtf8-nil, is_utf8-from_IsUtf8}
use Rattle.std.proofs.lemmas.List.{length-append, append-nil}
use Rattle.bz_token.proofs.Units.{gap_step}
use Rattle.bz_token.specs.declared.token.Kind.{Kind}
use Rattle.bz_token.specs.declared.token.Kind.TheVariants.{String}
use Rattle.bz_token.specs.Lexical.{is_text}
use Rattle.bz_token.specs.Brackets.{is_inside, open_after_token}
use Rattle.bz_token.specs.Places.{Placed, line_at}
use Rattle.bz_token.specs.Reading.{Piece, IsReading, is_gap, tokens_of, AreTokensOf}
use Rattle.bz_token.proofs.Classes.{unknown, can_start, class_of, text_class, empty_no_text}
use Rattle.bz_token.proofs.Quiet.{both}
use Rattle.bz_token.specs.Pieces.{is_white}

-- nothing, or an ASCII byte first
abbrev pub StartsLow : List ℕ → Type 0
StartsLow [] = Unit {0}
StartsLow (b ∷ bs) = b < 128

-- a text may be cut before an ASCII byte
pub cut_low : (a b : List ℕ) → StartsLow b → IsUtf8 (a ++ b) → IsUtf8 a × IsUtf8 b
cut_low a [] low u = (subst IsUtf8 (append-nil a) u, IsUtf8-nil)
cut_low a (x ∷ b) low u =
    let at : get_or (a ++ x ∷ b) (length a) 0 ≡ x = get_or-append_seam a x b 0 in
    let cut : IsCharBoundary (a ++ x ∷ b) (length a) = (omega (arith, length-append a (x ∷ b)), λ _ high. absurd (omega (arith, at, high, low))) in
    (subst IsUtf8 (take-append_seam a (x ∷ b)) (IsUtf8-take (a ++ x ∷ b) (length a) u cut), subst IsUtf8 (drop-append_seam a (x ∷ b)) (IsUtf8-drop (a ++ x ∷ b) (length a) u cut))

high_unknown : (b : ℕ) → 128 ≤ b → class_of b ≡ unknown
high_unknown b h = grind (arith, nat_tests)

starts_none : (kind : Kind) → can_start kind unknown ≡ false
starts_none String = refl
starts_none _ = refl

is_low : (b : ℕ) → nat_lt b 128 ≡ true → b < 128
is_low b h = grind (arith, nat_tests)

is_high : (b : ℕ) → nat_lt b 128 ≡ false → 128 ≤ b
is_high b h = grind (arith, nat_tests)

-- a token begins with an ASCII byte
pub text_low : (kind : Kind) (text after : List ℕ) → is_text kind text ≡ true → StartsLow (text ++ after)
text_low kind [] after is = absurd (empty_no_text kind is)
text_low kind (b ∷ bs) after is = elim (cases_Bool (nat_lt b 128)) [
  | inl low ↦ is_low b low
  | inr high ↦ absurd (false≢true (sym (starts_none kind) ∙ ap (can_start kind) (sym (high_unknown b (is_high b high))) ∙ text_class kind b bs is))
]

white_low : (inside : Bool) (b : ℕ) → is_white inside b ≡ true → b < 128
white_low true b h = grind (arith, nat_tests)
white_low false b h = grind (arith, nat_tests)

backslash_low : (b : ℕ) (t : Bool) → (b == 92 && t) ≡ true → b < 128
backslash_low b t h = let p = and_parts (b == 92) t h in grind (arith, nat_tests, p.0)

-- and so does a gap, if it has a byte
pub gap_low : (inside : Bool) (gap rest : List ℕ) → is_gap inside gap ≡ true → StartsLow rest → StartsLow (gap ++ rest)
gap_low inside [] rest h low = low
gap_low inside (b ∷ bs) rest h low = elim (cases_Bool (is_white inside b)) [
  | inl white ↦ white_low inside b white
  | inr other ↦ let k = rw other at (sym (gap_step inside b bs) ∙ h) in backslash_low b _ k
]

pub pieces_low : (depth : ℕ) (opened : List ℕ) (ps : List Piece) (rest bytes : List ℕ) → IsReading depth opened ps rest bytes → StartsLow rest → StartsLow bytes
pieces_low depth opened [] rest bytes r low = subst StartsLow (sym r) low
pieces_low depth opened (p ∷ ps) rest bytes r low =
    subst StartsLow (sym r.1.bytes_are) (gap_low (is_inside opened) p.gap (p.text ++ r.0) r.1.gap (text_low p.kind p.text r.0 r.1.token.whole))

abbrev pub is_utf8_token : Placed → Bool
is_utf8_token t = is_utf8 t.text

pieces_utf8 : (first depth : ℕ) (before lines opened : List ℕ) (ps : List Piece) (rest bytes : List ℕ) → IsReading depth opened ps rest bytes → StartsLow rest → IsUtf8 bytes
    → list_all is_utf8_token (tokens_of first before lines ps) ≡ true
pieces_utf8 first depth before lines opened [] rest bytes r low u = refl
pieces_utf8 first depth before lines opened (p ∷ ps) rest bytes r low u =
    let after = (cut_low p.gap (p.text ++ r.0) (text_low p.kind p.text r.0 r.1.token.whole) (subst IsUtf8 r.1.bytes_are u)).1 in
    let text = cut_low p.text r.0 (pieces_low depth (open_after_token opened p.text) ps rest r.0 r.2 low) after in
    both (is_utf8 p.text) _ (is_utf8-from_IsUtf8 p.text text.0)
    (pieces_utf8 first depth (before ++ (p.gap ++ p.text)) (line_at first (before ++ p.gap) ∷ lines) (open_after_token opened p.text) ps rest r.0 r.2 low text.1)

-- the tokens of a text that is UTF-8 are
pub tokens_utf8 : (first depth : ℕ) (bytes : List ℕ) (ts : List Placed) → AreTokensOf first depth bytes ts → IsUtf8 bytes → list_all is_utf8_token ts ≡ true
tokens_utf8 first depth bytes ts a u =
    subst (λ x. list_all is_utf8_token x ≡ true) (sym a.5)
    (pieces_utf8 first depth [] [] [] a.0 a.1 bytes a.2 (subst StartsLow (append-nil a.1) (gap_low false a.1 [] a.3 tt)) u)
