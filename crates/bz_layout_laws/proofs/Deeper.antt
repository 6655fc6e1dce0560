-- What is read at a depth is read alike where more brackets may be open; and its tokens are texts of their kinds.
use Rattle.std.proofs.Common.{◌≡◌, ℕ, ◌≤◌, ◌&&◌, List, [], ◌∷◌, ◌++◌, length, true, not, refl, sym, subst, arith, inl, inr}
use Rattle.std.specs.Prelude.{nat_lt}
use Rattle.std.specs.List.{list_all}
use Rattle.std.proofs.lemmas.Bool.{cases_Bool, and_from, and_parts}
use Rattle.std.proofs.lemmas.Bool.Decides.{nat_tests}
use Rattle.bz_token.specs.declared.token.Kind.{Kind}
use Rattle.bz_token.specs.Lexical.{is_text}
use Rattle.bz_token.specs.Brackets.{is_inside, is_line, is_opening_bracket, bracket_fits, fits, open_after_token}
use Rattle.bz_token.specs.Places.{Placed, line_at}
use Rattle.bz_token.specs.Reading.{Piece, IsReading, tokens_of, AreTokensOf}

bracket_deeper : (d e : ℕ) (opened : List ℕ) (b : ℕ) → d ≤ e → bracket_fits d opened b ≡ true → bracket_fits e opened b ≡ true
bracket_deeper d e opened b less h = elim (cases_Bool (is_opening_bracket b)) [
  | inl hit ↦ let fit = rw hit at h in rw hit (more (length opened) fit)
  | inr miss ↦ let fit = rw miss at h in rw miss fit
]
  where
    more : (n : ℕ) → nat_lt n d ≡ true → nat_lt n e ≡ true
    more n h = grind (arith, nat_tests)

fits_deeper : (d e : ℕ) (opened : List ℕ) (kind : Kind) (text : List ℕ) → d ≤ e → fits d opened kind text ≡ true → fits e opened kind text ≡ true
fits_deeper d e opened kind [] less h = refl
fits_deeper d e opened kind (b ∷ []) less h =
    let p = and_parts (not (is_line kind && is_inside opened)) (bracket_fits d opened b) h in
    and_from (not (is_line kind && is_inside opened)) (bracket_fits e opened b) p.0 (bracket_deeper d e opened b less p.1)
fits_deeper d e opened kind (b ∷ c ∷ bs) less h = refl

pub reading_deeper : (d e : ℕ) (opened : List ℕ) (ps : List Piece) (rest bytes : List ℕ) → d ≤ e → IsReading d opened ps rest bytes → IsReading e opened ps rest bytes
reading_deeper d e opened [] rest bytes less r = r
reading_deeper d e opened (p ∷ ps) rest bytes less r = (
  r.0,
  record { bytes_are = r.1.bytes_are; gap = r.1.gap; token = r.1.token; fits = fits_deeper d e opened p.kind p.text less r.1.fits },
  reading_deeper d e (open_after_token opened p.text) ps rest r.0 less r.2,
)

pub tokens_deeper : (first d e : ℕ) (bytes : List ℕ) (ts : List Placed) → d ≤ e → AreTokensOf first d bytes ts → AreTokensOf first e bytes ts
tokens_deeper first d e bytes ts less a = (a.0, a.1, reading_deeper d e [] a.0 a.1 bytes less a.2, a.3, a.4, a.5)

pieces_are_texts : (first depth : ℕ) (before lines opened : List ℕ) (ps : List Piece) (rest bytes : List ℕ) → IsReading depth opened ps rest bytes → list_all (λ t. is_text t.kind t.text) (tokens_of first before lines ps) ≡ true
pieces_are_texts first depth before lines opened [] rest bytes r = refl
pieces_are_texts first depth before lines opened (p ∷ ps) rest bytes r =
    and_from (is_text p.kind p.text) _ r.1.token.whole (pieces_are_texts first depth (before ++ (p.gap ++ p.text)) (line_at first (before ++ p.gap) ∷ lines) (open_after_token opened p.text) ps rest r.0 r.2)

pub tokens_are_texts : (first depth : ℕ) (bytes : List ℕ) (ts : List Placed) → AreTokensOf first depth bytes ts → list_all (λ t. is_text t.kind t.text) ts ≡ true
tokens_are_texts first depth bytes ts a = subst (λ x. list_all (λ t. is_text t.kind t.text) x ≡ true) (sym a.5) (pieces_are_texts first depth [] [] [] a.0 a.1 bytes a.2)
