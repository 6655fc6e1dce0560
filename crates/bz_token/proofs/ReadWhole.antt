-- What a reader has given at the end of its text.
use Rattle.std.proofs.Common.{◌≡◌, ℕ, List, [], ◌++◌, Bool, true, false, not, refl, sym, ap, subst, ◌∙◌, append-nil, ap₂, ◌∷◌}
use Rattle.std.specs.Prelude.{◌↔◌, IsTrue}
use Rattle.std.proofs.lemmas.Bool.{not-true}
use Rattle.bz_token.specs.declared.reader.TokenReader.{TokenReader}
use Rattle.bz_token.specs.Places.{Placed}
use Rattle.bz_token.specs.Brackets.{is_inside, open_after_token}
use Rattle.bz_token.specs.Reading.{Piece, IsPiece, IsReading, is_gap, open_after, bytes_of, tokens_of, AreTokensOf}
use Rattle.bz_token.specs.Batches.{HasGiven, left}
use Rattle.bz_token.specs.private.Scans.{opened}
use Rattle.bz_token.specs.private.Progress.{lines_of}
use Rattle.bz_token.proofs.Progress.{outside, none_left}
use Rattle.bz_token.proofs.Unique.{IsStuck, one_piece, gap_stuck}
use Rattle.bz_token.proofs.Joins.{tokens_of-append}
use Rattle.bz_token.proofs.OneReading.{StopsAfter, same_pieces}

at_end : (first depth : ℕ) (text : List ℕ) (given : List Placed) (reader : TokenReader) (h : HasGiven first depth text given reader) → left reader ≡ 0
    → IsReading depth [] h.read.pieces h.read.gap text × (is_gap (is_inside (open_after [] h.read.pieces)) h.read.gap ≡ true)
at_end first depth text given reader h none =
    let end : h.read.gap ++ reader.cursor.rest.now ≡ h.read.gap = ap (λ (bs : List ℕ). h.read.gap ++ bs) (none_left reader.cursor.rest.now none) ∙ append-nil h.read.gap in
    (subst (λ bs. IsReading depth [] h.read.pieces bs text) end h.read.reading, ap (is_gap (is_inside (open_after [] h.read.pieces))) (sym (append-nil h.read.gap)) ∙ h.read.goes_on [])

none_open : (opened : List ℕ) → opened ≡ [] → is_inside opened ≡ false
none_open opened is = ap is_inside is

pub complete : (first depth : ℕ) (text : List ℕ) (given : List Placed) (reader : TokenReader) (inside : Bool) → HasGiven first depth text given reader → left reader ≡ 0 → inside ≡ is_inside (opened reader.lexer.brackets)
    → IsTrue (not inside) ↔ ((left reader ≡ 0) × AreTokensOf first depth text given)
complete first depth text given reader inside h none is = (λ out. (none, whole out), λ both. closed both.1)
  where
    end : IsReading depth [] h.read.pieces h.read.gap text × (is_gap (is_inside (open_after [] h.read.pieces)) h.read.gap ≡ true)
    end = at_end first depth text given reader h none

    whole : IsTrue (not inside) → AreTokensOf first depth text given
    whole out =
        let outer : open_after [] h.read.pieces ≡ [] = sym h.read.opened_are ∙ outside (opened reader.lexer.brackets) (sym is ∙ not-true inside out) in
        (h.read.pieces, h.read.gap, end.0, rw outer at end.1, outer, h.read.tokens_are)

    closed : AreTokensOf first depth text given → IsTrue (not inside)
    closed (pieces, rest, reading, gap, outer, tokens) =
        let stop : StopsAfter depth text pieces = (rest, reading, gap_stuck depth (open_after [] pieces) rest (rw outer gap)) in
        let mine : StopsAfter depth text h.read.pieces = (h.read.gap, end.0, gap_stuck depth (open_after [] h.read.pieces) h.read.gap end.1) in
        let same : open_after [] h.read.pieces ≡ [] = ap (open_after []) (same_pieces depth text h.read.pieces pieces mine stop) ∙ outer in
        ap not (is ∙ none_open (opened reader.lexer.brackets) (h.read.opened_are ∙ same))

-- any reading is a front of one that cannot go on
reading_front : (depth : ℕ) (opened : List ℕ) (ps qs : List Piece) (r s bytes : List ℕ) → IsReading depth opened ps r bytes → IsReading depth opened qs s bytes → IsStuck depth (open_after opened qs) s → (more : List Piece) × (qs ≡ ps ++ more)
reading_front depth opened [] qs r s bytes a b stuck = (qs, refl)
reading_front depth opened (p ∷ ps) [] r s bytes a b stuck = absurd (stuck p a.0 (subst (λ z. IsPiece depth opened p z a.0) b a.1))
reading_front depth opened (p ∷ ps) (q ∷ qs) r s bytes a b stuck =
    let one = one_piece depth opened p q bytes a.0 b.0 a.1 b.1 in
    let opens : open_after_token opened q.text ≡ open_after_token opened p.text = ap (λ z. open_after_token opened z.text) (sym one.0) in
    let more = reading_front depth (open_after_token opened p.text) ps qs r s a.0 a.2
    (subst (λ z. IsReading depth z qs s a.0) opens (subst (λ z. IsReading depth (open_after_token opened q.text) qs s z) (sym one.1) b.2))
    (subst (λ z. IsStuck depth (open_after z qs) s) opens stuck) in
    (more.0, ap₂ (λ u us. u ∷ us) (sym one.0) more.1)

-- what was given is a front of the text's tokens
pub given_front : (first depth : ℕ) (text : List ℕ) (given tokens : List Placed) (reader : TokenReader) → HasGiven first depth text given reader → AreTokensOf first depth text tokens → (more : List Placed) × (tokens ≡ given ++ more)
given_front first depth text given tokens reader h (pieces, rest, reading, gap, outer, are) =
    let ps = h.read.pieces in
    let front = reading_front depth [] ps pieces (h.read.gap ++ reader.cursor.rest.now) rest text h.read.reading reading (gap_stuck depth (open_after [] pieces) rest (rw outer gap)) in
    let more = tokens_of first (bytes_of ps) (lines_of first [] [] ps) front.0 in
    (more, are ∙ ap (tokens_of first [] []) front.1 ∙ tokens_of-append first [] [] ps front.0 ∙ ap (λ ts. ts ++ more) (sym h.read.tokens_are))

-- and at the end all of them
pub given_all : (first depth : ℕ) (text : List ℕ) (given tokens : List Placed) (reader : TokenReader) → HasGiven first depth text given reader → left reader ≡ 0 → AreTokensOf first depth text tokens → tokens ≡ given
given_all first depth text given tokens reader h none (pieces, rest, reading, gap, outer, are) =
    let end = at_end first depth text given reader h none in
    let stop : StopsAfter depth text pieces = (rest, reading, gap_stuck depth (open_after [] pieces) rest (rw outer gap)) in
    let mine : StopsAfter depth text h.read.pieces = (h.read.gap, end.0, gap_stuck depth (open_after [] h.read.pieces) h.read.gap end.1) in
    are ∙ ap (tokens_of first [] []) (sym (same_pieces depth text h.read.pieces pieces mine stop)) ∙ sym h.read.tokens_are
