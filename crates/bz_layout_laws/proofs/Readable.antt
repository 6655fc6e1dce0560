-- Pieces that pass the tests are what their bytes are read as.
use Rattle.std.proofs.Common.{◌≡◌, ℕ, ◌&&◌, List, [], ◌∷◌, ◌++◌, Bool, true, false, refl, sym, ap, subst, ◌∙◌, append_assoc, append-nil}
use Rattle.std.proofs.lemmas.Bool.{and_parts}
use Rattle.bz_token.specs.declared.token.Kind.{Kind}
use Rattle.bz_token.specs.declared.token.Kind.TheVariants.{Identifier, Keyword, Integer, String, Operator, Newline, Comment, Kept}
use Rattle.bz_token.specs.Lexical.{is_text}
use Rattle.bz_token.specs.Ends.{stops_at, ends}
use Rattle.bz_token.specs.Brackets.{is_inside, fits, open_after_token}
use Rattle.bz_token.specs.FreshStart.{ends_in_line, AreLinesOf}
use Rattle.bz_token.specs.Reading.{is_gap, Piece, IsReading, open_after, bytes_of, tokens_of, AreTokensOf}
use Rattle.bz_token.proofs.Stops.{token_ended, token_ends, stopped_ends}
use Rattle.bz_layout_laws.specs.Readable.{are_texts, are_ended, are_fitting}

both : (x y : Bool) → x ≡ true → y ≡ true → (x && y) ≡ true
both x y p q = rw (p, q) refl

pub laid_reading : (depth : ℕ) (opened : List ℕ) (ps : List Piece) (rest : List ℕ) → are_texts ps ≡ true → are_ended ps rest ≡ true → are_fitting depth opened ps ≡ true → IsReading depth opened ps rest (bytes_of ps ++ rest)
laid_reading depth opened [] rest texts ended fitting = refl
laid_reading depth opened (p ∷ ps) rest texts ended fitting =
    let t = and_parts (is_text p.kind p.text) (are_texts ps) texts in
    let e = and_parts (ends p.kind p.text (bytes_of ps ++ rest)) (are_ended ps rest) ended in
    let f = and_parts (is_gap (is_inside opened) p.gap && fits depth opened p.kind p.text) (are_fitting depth (open_after_token opened p.text) ps) fitting in
    let g = and_parts (is_gap (is_inside opened) p.gap) (fits depth opened p.kind p.text) f.0 in (
      bytes_of ps ++ rest,
      record {
        bytes_are = append_assoc p.gap (p.text ++ bytes_of ps) rest ∙ ap (λ x. p.gap ++ x) (append_assoc p.text (bytes_of ps) rest);
        gap = g.0;
        token = token_ended p.kind p.text (bytes_of ps ++ rest) t.0 e.0;
        fits = g.1;
      },
      laid_reading depth (open_after_token opened p.text) ps rest t.1 e.1 f.1,
    )

pub laid_tokens : (first depth : ℕ) (ps : List Piece) (rest : List ℕ) → are_texts ps ≡ true → are_ended ps rest ≡ true → are_fitting depth [] ps ≡ true → open_after [] ps ≡ [] → is_gap false rest ≡ true → AreTokensOf first depth (bytes_of ps ++ rest) (tokens_of first [] [] ps)
laid_tokens first depth ps rest texts ended fitting closed gap = (ps, rest, laid_reading depth [] ps rest texts ended fitting, gap, closed, refl)

pub laid_lines : (first depth : ℕ) (ps : List Piece) → are_texts ps ≡ true → are_ended ps [] ≡ true → are_fitting depth [] ps ≡ true → open_after [] ps ≡ [] → ends_in_line ps ≡ true → AreLinesOf first depth (bytes_of ps) (tokens_of first [] [] ps)
laid_lines first depth ps texts ended fitting closed last = (ps, subst (λ x. IsReading depth [] ps [] x) (append-nil (bytes_of ps)) (laid_reading depth [] ps [] texts ended fitting), closed, last, refl)

-- what bytes are read as passes the tests
pub read_is_laid : (depth : ℕ) (opened : List ℕ) (ps : List Piece) (rest bytes : List ℕ) → IsReading depth opened ps rest bytes → (bytes ≡ bytes_of ps ++ rest) × (are_texts ps ≡ true) × (are_ended ps rest ≡ true) × (are_fitting depth opened ps ≡ true)
read_is_laid depth opened [] rest bytes r = (r, refl, refl, refl)
read_is_laid depth opened (p ∷ ps) rest bytes r =
    let more = read_is_laid depth (open_after_token opened p.text) ps rest r.0 r.2 in
    let piece = r.1 in (
      piece.bytes_are ∙ ap (λ x. p.gap ++ (p.text ++ x)) more.0 ∙ sym (append_assoc p.gap (p.text ++ bytes_of ps) rest ∙ ap (λ x. p.gap ++ x) (append_assoc p.text (bytes_of ps) rest)),
      both (is_text p.kind p.text) (are_texts ps) piece.token.whole more.1,
      both (ends p.kind p.text (bytes_of ps ++ rest)) (are_ended ps rest) (ap (ends p.kind p.text) (sym more.0) ∙ token_ends p.kind p.text r.0 piece.token) more.2,
      both (is_gap (is_inside opened) p.gap && fits depth opened p.kind p.text) (are_fitting depth (open_after_token opened p.text) ps) (both (is_gap (is_inside opened) p.gap) (fits depth opened p.kind p.text) piece.gap piece.fits) more.3,
    )

pub bytes_join : (ps qs : List Piece) → bytes_of (ps ++ qs) ≡ bytes_of ps ++ bytes_of qs
bytes_join [] qs = refl
bytes_join (p ∷ ps) qs = ap (λ x. p.gap ++ (p.text ++ x)) (bytes_join ps qs) ∙ sym (append_assoc p.gap (p.text ++ bytes_of ps) (bytes_of qs) ∙ ap (λ x. p.gap ++ x) (append_assoc p.text (bytes_of ps) (bytes_of qs)))

and_assoc : (x y z : Bool) → (x && (y && z)) ≡ ((x && y) && z)
and_assoc true y z = refl
and_assoc false y z = refl

pub texts_join : (ps qs : List Piece) → are_texts (ps ++ qs) ≡ (are_texts ps && are_texts qs)
texts_join [] qs = refl
texts_join (p ∷ ps) qs = ap (λ x. is_text p.kind p.text && x) (texts_join ps qs) ∙ and_assoc (is_text p.kind p.text) (are_texts ps) (are_texts qs)

pub ended_join : (ps qs : List Piece) (rest : List ℕ) → are_ended (ps ++ qs) rest ≡ (are_ended ps (bytes_of qs ++ rest) && are_ended qs rest)
ended_join [] qs rest = refl
ended_join (p ∷ ps) qs rest =
    let bytes : bytes_of (ps ++ qs) ++ rest ≡ bytes_of ps ++ (bytes_of qs ++ rest) = ap (λ x. x ++ rest) (bytes_join ps qs) ∙ append_assoc (bytes_of ps) (bytes_of qs) rest in
    (λ i. ends p.kind p.text (bytes i) && ended_join ps qs rest i) ∙ and_assoc (ends p.kind p.text (bytes_of ps ++ (bytes_of qs ++ rest))) (are_ended ps (bytes_of qs ++ rest)) (are_ended qs rest)

pub fitting_join : (depth : ℕ) (opened : List ℕ) (ps qs : List Piece) → are_fitting depth opened (ps ++ qs) ≡ (are_fitting depth opened ps && are_fitting depth (open_after opened ps) qs)
fitting_join depth opened [] qs = refl
fitting_join depth opened (p ∷ ps) qs =
    ap (λ x. is_gap (is_inside opened) p.gap && fits depth opened p.kind p.text && x) (fitting_join depth (open_after_token opened p.text) ps qs)
    ∙ and_assoc (is_gap (is_inside opened) p.gap && fits depth opened p.kind p.text) (are_fitting depth (open_after_token opened p.text) ps) (are_fitting depth (open_after (open_after_token opened p.text) ps) qs)

pub open_join : (opened : List ℕ) (ps qs : List Piece) → open_after opened (ps ++ qs) ≡ open_after (open_after opened ps) qs
open_join opened [] qs = refl
open_join opened (p ∷ ps) qs = open_join (open_after_token opened p.text) ps qs

pub stopped_at_ends : (kind : Kind) (text after : List ℕ) → stops_at kind text after ≡ true → ends kind text after ≡ true
stopped_at_ends kind text (b ∷ bs) h = stopped_ends kind text b bs h
stopped_at_ends Identifier text [] h = refl
stopped_at_ends Keyword text [] h = refl
stopped_at_ends Integer text [] h = refl
stopped_at_ends String text [] h = refl
stopped_at_ends Operator text [] h = refl
stopped_at_ends Newline text [] h = refl
stopped_at_ends Comment text [] h = refl
stopped_at_ends Kept text [] h = refl
