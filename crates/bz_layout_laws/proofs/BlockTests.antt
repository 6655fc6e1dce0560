-- A block's pieces pass the tests of a reading again where comment lines stand above them and newlines after them.
use Rattle.std.proofs.Common.{◌≡◌, ℕ, zero, suc, ◌&&◌, not, List, [], ◌∷◌, ◌++◌, replicate, take, Bool, true, false, refl, sym, ap, subst, ◌∙◌, inl, inr, append-nil, one-add, arith}
use Rattle.std.specs.Prelude.{codes, None}
use Rattle.std.specs.List.{list_all, prefix_len}
use Rattle.std.proofs.lemmas.Bool.{cases_Bool, false≢true, and_parts}
use Rattle.bz_token.specs.declared.token.Kind.{Kind}
use Rattle.bz_token.specs.declared.token.Kind.TheVariants.{Newline, Comment as CommentToken}
use Rattle.bz_token.specs.Brackets.{is_line, fits, open_after_token}
use Rattle.bz_token.specs.Ends.{ends, stops_at}
use Rattle.bz_token.specs.Lexical.{is_text}
use Rattle.bz_token.specs.Common.{is_newline}
use Rattle.bz_token.specs.Reading.{is_gap, Piece, open_after, bytes_of}
use Rattle.bz_token.proofs.Stops.{newline_stops}
use Rattle.bz_layout_laws.specs.Readable.{are_texts, are_ended, are_fitting}
use Rattle.bz_token.specs.TokenLines.{is_newline_piece}
use Rattle.bz_layout_laws.proofs.Readable.{texts_join, ended_join, fitting_join, open_join}
use Rattle.bz_tree.specs.declared.tree.Class.TheVariants.{Comment}
use Rattle.bz_tree.specs.Statement.{is_aside}
use Rattle.bz_tree.specs.Tree.{Statement}
use Rattle.bz_layout.specs.Pieces.{comment_lines}
use Rattle.bz_layout_laws.specs.Legible.{AreComments, IsLegible}
use Rattle.bz_layout_laws.specs.ReadPieces.{read_pieces}
use Rattle.bz_layout_laws.proofs.BlockParts.{is_aside_piece, AreParts}
use Rattle.bz_layout_laws.proofs.NoBrackets.{free_open, other_free}
use Rattle.bz_layout_laws.proofs.Texts.{both}
use Rattle.bz_layout_laws.proofs.TokensBack.{layout_read}
use Rattle.bz_token.specs.Pieces.{is_blank}

-- white space up to a newline stays so where the newline comes earlier
abbrev blank_to_newline : List ℕ → Bool
blank_to_newline xs = list_all is_blank (take (prefix_len (λ b. not (is_newline b)) xs) xs)

comment_before : (bytes after rest : List ℕ) → blank_to_newline (bytes ++ after) ≡ true → blank_to_newline (bytes ++ 10 ∷ rest) ≡ true
comment_before [] after rest h = refl
comment_before (b ∷ bs) after rest h = elim (cases_Bool (is_newline b)) [
  | inl hit ↦ rw hit refl
  | inr miss ↦
      let p = and_parts (is_blank b) (blank_to_newline (bs ++ after)) (rw (miss, one-add) at h) in
      rw (miss, one-add) (both (is_blank b) (blank_to_newline (bs ++ 10 ∷ rest)) p.0 (comment_before bs after rest p.1))
]

stops_before : (kind : Kind) (text bytes after rest : List ℕ) → is_text kind text ≡ true → stops_at kind text (bytes ++ after) ≡ true → stops_at kind text (bytes ++ 10 ∷ rest) ≡ true
stops_before kind text [] after rest is h = newline_stops kind text is
stops_before kind text (b ∷ bs) after rest is h = h

-- what ends a text ends it where a newline comes earlier
ends_before : (kind : Kind) (text bytes after rest : List ℕ) → is_text kind text ≡ true → ends kind text (bytes ++ after) ≡ true → ends kind text (bytes ++ 10 ∷ rest) ≡ true
ends_before CommentToken text bytes after rest is h = comment_before bytes after rest h
ends_before kind text bytes after rest is h = stops_before kind text bytes after rest is h

ended_before : (ps : List Piece) (after rest : List ℕ) → are_texts ps ≡ true → are_ended ps after ≡ true → are_ended ps (10 ∷ rest) ≡ true
ended_before [] after rest texts h = refl
ended_before (p ∷ ps) after rest texts h =
    let t = and_parts (is_text p.kind p.text) (are_texts ps) texts in
    let e = and_parts (ends p.kind p.text (bytes_of ps ++ after)) (are_ended ps after) h in
    both (ends p.kind p.text (bytes_of ps ++ 10 ∷ rest)) (are_ended ps (10 ∷ rest)) (ends_before p.kind p.text (bytes_of ps) after rest t.0 e.0) (ended_before ps after rest t.1 e.1)

-- comments and newlines open and close no brackets
aside_open : (kind : Kind) (text opened : List ℕ) → is_aside kind ≡ true → is_text kind text ≡ true → open_after_token opened text ≡ opened
aside_open CommentToken text opened h is = free_open opened text (other_free CommentToken text refl is)
aside_open Newline text opened h is = free_open opened text (other_free Newline text refl is)
aside_open _ text opened h is = absurd (false≢true h)

pub asides_open : (ps : List Piece) (opened : List ℕ) → list_all is_aside_piece ps ≡ true → are_texts ps ≡ true → open_after opened ps ≡ opened
asides_open [] opened h texts = refl
asides_open (p ∷ ps) opened h texts =
    let a = and_parts (is_aside p.kind) (list_all is_aside_piece ps) h in
    let t = and_parts (is_text p.kind p.text) (are_texts ps) texts in
    ap (λ o. open_after o ps) (aside_open p.kind p.text opened a.0 t.0) ∙ asides_open ps opened a.1 t.1

line_open : (kind : Kind) (text opened : List ℕ) → is_line kind ≡ true → is_text kind text ≡ true → open_after_token opened text ≡ opened
line_open Newline text opened h is = free_open opened text (other_free Newline text refl is)
line_open _ text opened h is = absurd (false≢true h)

newlines_open : (ps : List Piece) (opened : List ℕ) → list_all is_newline_piece ps ≡ true → are_texts ps ≡ true → open_after opened ps ≡ opened
newlines_open [] opened h texts = refl
newlines_open (p ∷ ps) opened h texts =
    let a = and_parts (is_line p.kind) (list_all is_newline_piece ps) h in
    let t = and_parts (is_text p.kind p.text) (are_texts ps) texts in
    ap (λ o. open_after o ps) (line_open p.kind p.text opened a.0 t.0) ∙ newlines_open ps opened a.1 t.1

-- the tests of a reading
pub record Passes (depth : ℕ) (ps : List Piece) (rest : List ℕ) : Type 0 where
  pub texts : are_texts ps ≡ true
  pub ended : are_ended ps rest ≡ true
  pub fitting : are_fitting depth [] ps ≡ true
  pub closed : open_after [] ps ≡ []

pub join : (depth : ℕ) (ps qs : List Piece) (rest : List ℕ) → Passes depth ps (bytes_of qs ++ rest) → Passes depth qs rest → Passes depth (ps ++ qs) rest
join depth ps qs rest a b = record {
  texts = texts_join ps qs ∙ both (are_texts ps) (are_texts qs) a.texts b.texts;
  ended = ended_join ps qs rest ∙ both (are_ended ps (bytes_of qs ++ rest)) (are_ended qs rest) a.ended b.ended;
  fitting = fitting_join depth [] ps qs ∙ both (are_fitting depth [] ps) (are_fitting depth (open_after [] ps) qs) a.fitting (ap (λ o. are_fitting depth o qs) a.closed ∙ b.fitting);
  closed = open_join [] ps qs ∙ ap (λ o. open_after o qs) a.closed ∙ b.closed;
}

-- comment lines
pub comments_pass : (depth : ℕ) (texts : List (List ℕ)) (rest : List ℕ) → AreComments texts → Passes depth (read_pieces (comment_lines texts)) rest
comments_pass depth texts rest h =
    let legible : IsLegible lines = record { some = λ e. absurd (false≢true (sym e)); before = h; nodes = tt; suffix = refl } in
    let t = layout_read depth lines rest legible (omega arith) in
    subst (λ ps. Passes depth (read_pieces ps) rest) (append-nil (comment_lines texts)) (record { texts = t.0; ended = t.1; fitting = t.2; closed = t.3 })
  where
    lines : Statement
    lines = record { before = texts; nodes = []; suffix = None; class = Comment; start = 0; end = 0 }

-- newlines
abbrev pub newline : Piece
newline = record { gap = []; kind = Newline; text = codes "\n" }

newline_ends : (after : List ℕ) → ends Newline (codes "\n") after ≡ true
newline_ends [] = refl
newline_ends (b ∷ bs) = refl

pub newlines_pass : (depth n : ℕ) (rest : List ℕ) → Passes depth (replicate n newline) rest
newlines_pass depth zero rest = record { texts = refl; ended = refl; fitting = refl; closed = refl }
newlines_pass depth (suc n) rest =
    let more = newlines_pass depth n rest in
    record {
      texts = more.texts;
      ended = both (ends Newline (codes "\n") (bytes_of (replicate n newline) ++ rest)) (are_ended (replicate n newline) rest) (newline_ends (bytes_of (replicate n newline) ++ rest)) more.ended;
      fitting = more.fitting;
      closed = more.closed;
    }

-- the first token without the gap before it
abbrev pub close : Piece → Piece
close p = record { gap = []; kind = p.kind; text = p.text }

-- the pieces of a block that was read
pub body_passes : (depth : ℕ) (front : List Piece) (header : Piece) (mid newlines : List Piece) (rest after : List ℕ) → AreParts front header mid newlines
    → Passes depth (front ++ ((header ∷ mid) ++ newlines)) rest → Passes depth (close header ∷ mid) (10 ∷ after)
body_passes depth front header mid newlines rest after h all =
    let body = header ∷ mid in
    let t = and_parts (are_texts front) (are_texts (body ++ newlines)) (sym (texts_join front (body ++ newlines)) ∙ all.texts) in
    let u = and_parts (are_texts body) (are_texts newlines) (sym (texts_join body newlines) ∙ t.1) in
    let e = and_parts (are_ended front (bytes_of (body ++ newlines) ++ rest)) (are_ended (body ++ newlines) rest) (sym (ended_join front (body ++ newlines) rest) ∙ all.ended) in
    let g = and_parts (are_ended body (bytes_of newlines ++ rest)) (are_ended newlines rest) (sym (ended_join body newlines rest) ∙ e.1) in
    let none = asides_open front [] h.asides t.0 in
    let f = and_parts (are_fitting depth [] front) (are_fitting depth (open_after [] front) (body ++ newlines)) (sym (fitting_join depth [] front (body ++ newlines)) ∙ all.fitting) in
    let room : are_fitting depth [] (body ++ newlines) ≡ true = sym (ap (λ o. are_fitting depth o (body ++ newlines)) none) ∙ f.1 in
    let j = and_parts (are_fitting depth [] body) (are_fitting depth (open_after [] body) newlines) (sym (fitting_join depth [] body newlines) ∙ room) in
    let left : open_after [] body ≡ [] =
    sym (newlines_open newlines (open_after [] body) h.lines u.1) ∙ sym (open_join [] body newlines) ∙ sym (ap (λ o. open_after o (body ++ newlines)) none) ∙ sym (open_join [] front (body ++ newlines)) ∙ all.closed in
    record {
      texts = u.0;
      ended = ended_before body (bytes_of newlines ++ rest) after u.0 g.0;
      fitting = closed_fits j.0;
      closed = left;
    }
  where
    closed_fits : are_fitting depth [] (header ∷ mid) ≡ true → are_fitting depth [] (close header ∷ mid) ≡ true
    closed_fits h =
        let p = and_parts (is_gap false header.gap && fits depth [] header.kind header.text) (are_fitting depth (open_after_token [] header.text) mid) h in
        let q = and_parts (is_gap false header.gap) (fits depth [] header.kind header.text) p.0 in
        both (fits depth [] header.kind header.text) (are_fitting depth (open_after_token [] header.text) mid) q.1 p.1
