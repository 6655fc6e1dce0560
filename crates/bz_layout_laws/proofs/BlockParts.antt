-- The pieces of a block: comments and newlines, its first token and what follows it up to its last one, and newlines.
use Rattle.std.proofs.Common.{◌≡◌, ℕ, ◌&&◌, not, List, [], ◌∷◌, ◌++◌, Bool, true, false, Some, refl, sym, ap, ◌∙◌, inl, inr, append-nil, append_assoc}
use Rattle.std.specs.Prelude.{if◌then◌else◌}
use Rattle.std.specs.List.{list_all}
use Rattle.std.proofs.lemmas.Bool.{cases_Bool, false≢true, and_parts}
use Rattle.bz_token.specs.Brackets.{is_line}
use Rattle.bz_token.specs.Places.{Placed, line_at, column_at, column_from}
use Rattle.bz_token.specs.Reading.{Piece, bytes_of, token_of, tokens_of}
use Rattle.bz_token.proofs.Progress.{column_from-append, lines_of}
use Rattle.bz_token.specs.TokenLines.{is_newline_piece}
use Rattle.bz_tree.specs.Statement.{is_aside, bare_tokens}
use Rattle.bz_tree.proofs.Trees.Sound.{none_is_some}
use Rattle.bz_layout_laws.proofs.BlockTokens.{all_shown, are_aside}
use Rattle.bz_layout_laws.proofs.BlockEnds.{are_newlines}
use Rattle.bz_layout_laws.proofs.Unlined.{line_aside}
use Rattle.bz_token.specs.Common.{first_of}

abbrev pub is_aside_piece : Piece → Bool
is_aside_piece p = is_aside p.kind

-- the last one is no newline, if there is any
abbrev pub ends_seen : List Piece → Bool
ends_seen [] = true
ends_seen (p ∷ []) = not (is_line p.kind)
ends_seen (p ∷ q ∷ ps) = ends_seen (q ∷ ps)

-- pieces without newlines at their end, and these
record Trimmed (ps : List Piece) : Type 0 where
  kept : List Piece
  newlines : List Piece
  are : ps ≡ kept ++ newlines
  seen : ends_seen kept ≡ true
  lines : list_all is_newline_piece newlines ≡ true

trim_more : (p : Piece) (ps : List Piece) → Trimmed ps → Trimmed (p ∷ ps)
trim_more p ps t = by t.kept t.are t.seen
  where
    by : (kept : List Piece) → ps ≡ kept ++ t.newlines → ends_seen kept ≡ true → Trimmed (p ∷ ps)
    by [] is seen = elim (cases_Bool (is_line p.kind)) [
      | inl line ↦ record { kept = []; newlines = p ∷ t.newlines; are = ap (λ l. p ∷ l) is; seen = refl; lines = ap (λ b. b && list_all is_newline_piece t.newlines) line ∙ t.lines }
      | inr other ↦ record { kept = p ∷ []; newlines = t.newlines; are = ap (λ l. p ∷ l) is; seen = ap not other; lines = t.lines }
    ]
    by (q ∷ kept) is seen = record { kept = p ∷ q ∷ kept; newlines = t.newlines; are = ap (λ l. p ∷ l) is; seen = seen; lines = t.lines }

trim : (ps : List Piece) → Trimmed ps
trim [] = record { kept = []; newlines = []; are = refl; seen = refl; lines = refl }
trim (p ∷ ps) = trim_more p ps (trim ps)

pub record AreParts (front : List Piece) (header : Piece) (mid newlines : List Piece) : Type 0 where
  pub asides : list_all is_aside_piece front ≡ true
  pub counted : is_aside header.kind ≡ false
  pub seen : ends_seen (header ∷ mid) ≡ true
  pub lines : list_all is_newline_piece newlines ≡ true

pub record Parts (ps : List Piece) : Type 0 where
  pub front : List Piece
  pub header : Piece
  pub mid : List Piece
  pub newlines : List Piece
  pub are : ps ≡ front ++ ((header ∷ mid) ++ newlines)
  pub parts : AreParts front header mid newlines

seen_here : (p : Piece) (ps : List Piece) → is_line p.kind ≡ false → ends_seen ps ≡ true → ends_seen (p ∷ ps) ≡ true
seen_here p [] other seen = ap not other
seen_here p (q ∷ ps) other seen = seen

parts_here : (p : Piece) (ps : List Piece) → is_aside p.kind ≡ false → is_line p.kind ≡ false → Parts (p ∷ ps)
parts_here p ps counted other =
    let t = trim ps in
    record {
      front = [];
      header = p;
      mid = t.kept;
      newlines = t.newlines;
      are = ap (λ l. p ∷ l) t.are;
      parts = record { asides = refl; counted = counted; seen = seen_here p t.kept other t.seen; lines = t.lines };
    }

parts_later : (p : Piece) (ps : List Piece) → is_aside p.kind ≡ true → Parts ps → Parts (p ∷ ps)
parts_later p ps aside h = record {
  front = p ∷ h.front;
  header = h.header;
  mid = h.mid;
  newlines = h.newlines;
  are = ap (λ l. p ∷ l) h.are;
  parts = record {
    asides = ap (λ b. b && list_all is_aside_piece h.front) aside ∙ h.parts.asides;
    counted = h.parts.counted;
    seen = h.parts.seen;
    lines = h.parts.lines;
  };
}

-- pieces whose tokens have a first one that is no comment have such parts
pub parts_of : (first : ℕ) (before lines : List ℕ) (ps : List Piece) (t : Placed) → first_of (bare_tokens (tokens_of first before lines ps)) ≡ Some t → Parts ps
parts_of first before lines [] t h = absurd (none_is_some t h)
parts_of first before lines (p ∷ ps) t h =
    by (is_aside p.kind) refl (λ e. parts_of first (before ++ (p.gap ++ p.text)) (line_at first (before ++ p.gap) ∷ lines) ps t e) h
  where
    by : (b : Bool) → is_aside p.kind ≡ b
        → (first_of (bare_tokens (tokens_of first (before ++ (p.gap ++ p.text)) (line_at first (before ++ p.gap) ∷ lines) ps)) ≡ Some t → Parts ps)
        → first_of (if b then bare_tokens (tokens_of first (before ++ (p.gap ++ p.text)) (line_at first (before ++ p.gap) ∷ lines) ps) else token_of first (before ++ p.gap) lines p ∷ bare_tokens (tokens_of first (before ++ (p.gap ++ p.text)) (line_at first (before ++ p.gap) ∷ lines) ps)) ≡ Some t
        → Parts (p ∷ ps)
    by true is more h = parts_later p ps is (more h)
    by false is more h = parts_here p ps is (no_line_here (is_line p.kind) refl)
      where
        no_line_here : (b : Bool) → is_line p.kind ≡ b → is_line p.kind ≡ false
        no_line_here false e = e
        no_line_here true e = absurd (false≢true (sym is ∙ line_aside p.kind e))

-- tokens of pieces, one after another
pub tokens_join : (first : ℕ) (before lines : List ℕ) (ps qs : List Piece) → tokens_of first before lines (ps ++ qs) ≡ tokens_of first before lines ps ++ tokens_of first (before ++ bytes_of ps) (lines_of first before lines ps) qs
tokens_join first before lines [] qs = ap (λ x. tokens_of first x lines qs) (sym (append-nil before))
tokens_join first before lines (p ∷ ps) qs =
    let next = before ++ (p.gap ++ p.text) in
    let more = line_at first (before ++ p.gap) ∷ lines in
    let same : next ++ bytes_of ps ≡ before ++ (p.gap ++ (p.text ++ bytes_of ps)) = simp append_assoc in
    ap (λ ts. token_of first (before ++ p.gap) lines p ∷ ts)
    (tokens_join first next more ps qs ∙ ap (λ x. tokens_of first next more ps ++ tokens_of first x (lines_of first next more ps) qs) same)

-- the columns of tokens hang on the column at which they begin alone
pub same_columns : (first second : ℕ) (a b over under : List ℕ) (ps : List Piece) → column_at a ≡ column_at b → all_shown (tokens_of first a over ps) ≡ all_shown (tokens_of second b under ps)
same_columns first second a b over under [] e = refl
same_columns first second a b over under (p ∷ ps) e =
    let here : column_at (a ++ p.gap) ≡ column_at (b ++ p.gap) = moved p.gap in
    let next : column_at (a ++ (p.gap ++ p.text)) ≡ column_at (b ++ (p.gap ++ p.text)) = moved (p.gap ++ p.text) in
    let rest = same_columns first second (a ++ (p.gap ++ p.text)) (b ++ (p.gap ++ p.text)) (line_at first (a ++ p.gap) ∷ over) (line_at second (b ++ p.gap) ∷ under) ps next in
    λ i. record { kind = p.kind; text = p.text; line = 0; col = here i; fresh = false } ∷ rest i
  where
    moved : (x : List ℕ) → column_at (a ++ x) ≡ column_at (b ++ x)
    moved x = column_from-append 1 a x ∙ ap (λ c. column_from c x) e ∙ sym (column_from-append 1 b x)

pub asides_tokens : (first : ℕ) (before lines : List ℕ) (ps : List Piece) → list_all is_aside_piece ps ≡ true → are_aside (tokens_of first before lines ps) ≡ true
asides_tokens first before lines [] h = refl
asides_tokens first before lines (p ∷ ps) h =
    let parts = and_parts (is_aside p.kind) (list_all is_aside_piece ps) h in
    ap (λ b. b && are_aside (tokens_of first (before ++ (p.gap ++ p.text)) (line_at first (before ++ p.gap) ∷ lines) ps)) parts.0
    ∙ asides_tokens first (before ++ (p.gap ++ p.text)) (line_at first (before ++ p.gap) ∷ lines) ps parts.1

pub newline_tokens : (first : ℕ) (before lines : List ℕ) (ps : List Piece) → list_all is_newline_piece ps ≡ true → are_newlines (tokens_of first before lines ps) ≡ true
newline_tokens first before lines [] h = refl
newline_tokens first before lines (p ∷ ps) h =
    let parts = and_parts (is_line p.kind) (list_all is_newline_piece ps) h in
    ap (λ b. b && are_newlines (tokens_of first (before ++ (p.gap ++ p.text)) (line_at first (before ++ p.gap) ∷ lines) ps)) parts.0
    ∙ newline_tokens first (before ++ (p.gap ++ p.text)) (line_at first (before ++ p.gap) ∷ lines) ps parts.1
