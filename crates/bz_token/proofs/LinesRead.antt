-- The lines of a chunk, as far as they were read.
use Rattle.std.proofs.Common.{◌≡◌, ℕ, ◌-◌, ◌<◌, ◌≤◌, suc, List, [], ◌∷◌, ◌++◌, length, take, drop, get_or, map, true, false, ◌⊎◌, inl, inr, refl, sym, ap, subst, ◌∙◌, arith, IsUtf8, append_assoc, append-nil, length-append}
use Rattle.std.specs.Prelude.{Option, Some, None}
use Rattle.std.specs.List.{list_any}
use Rattle.std.specs.Str.{IsCharBoundary}
use Rattle.std.proofs.lemmas.List.Folds.{list_any-append}
use Rattle.bz_token.specs.declared.token.Kind.{Kind}
use Rattle.bz_token.specs.declared.token.Kind.TheVariants.{Identifier, Keyword, Integer, String, Operator, Newline, Comment, Kept}
use Rattle.bz_token.specs.declared.token.Token.{Token}
use Rattle.bz_token.specs.declared.chunk.LineEnd.TheVariants.{Joins, Ends}
use Rattle.bz_token.specs.declared.chunk.FirstChunk.{FirstChunk}
use Rattle.bz_token.specs.declared.lexer.Lexer.{Lexer}
use Rattle.bz_token.specs.declared.lexer.Cursor.{Cursor}
use Rattle.bz_token.specs.Places.{Placed, placed}
use Rattle.bz_token.specs.Brackets.{is_line}
use Rattle.bz_token.specs.Reading.{Piece, IsReading, open_after, bytes_of, tokens_of, AreTokensOf}
use Rattle.bz_token.specs.LogicalLines.{lines}
use Rattle.bz_token.specs.Chunks.{is_comment_line}
use Rattle.bz_token.specs.Cuts.{IsChunk}
use Rattle.bz_token.specs.FirstChunk.{IsFirstChunk}
use Rattle.bz_token.specs.FreshStart.{ends_in_line, AreLinesOf}
use Rattle.bz_token.specs.TokenLines.{is_newline_piece, line_of, lines_of}
use Rattle.bz_token.specs.ChunkForms.{are_comments, ends_chunk}
use Rattle.bz_token.specs.private.LineEnds.{line_end}
use Rattle.bz_token.specs.private.LinesRead.{IsInLine, IsAfterLine}
use Rattle.bz_token.specs.private.Progress.{HasRead, Grows}
use Rattle.bz_token.specs.private.Scans.{opened}
use Rattle.bz_token.proofs.Progress.{reading_bytes, bytes_of-push, gap_boundary, read_fresh}
use Rattle.bz_token.proofs.Joins.{line_text}
use Rattle.bz_token.proofs.TokenLines.{lines_are_lines, lines_of_join, one_line}
use Rattle.bz_token.proofs.ChunkForms.{comments_snoc, statement_chunk}
use Rattle.bz_token.proofs.FirstLines.{lines_reading, closed_lines, split_reading, ends_snoc}
use Rattle.bz_token.proofs.LineEnds.{tokens_after, map_drop, joins_comment, line_ends}

-- before the first step
pub started : (first depth : ℕ) (bytes : List ℕ) (lexer : Lexer) (cursor : Cursor) → lexer.tokens.items ≡ [] → opened lexer.brackets ≡ [] → cursor.rest.now ≡ bytes → cursor.place.line ≡ first → cursor.place.col ≡ 1 → cursor.last_line ≡ None → IsUtf8 bytes → IsInLine first depth bytes lexer cursor 0
started first depth bytes lexer cursor no_tokens closed rest line col none utf8 =
    let r = read_fresh first depth bytes (map placed lexer.tokens.items) (opened lexer.brackets) cursor.last_line cursor.rest.now cursor.place.line cursor.place.col (ap (map placed) no_tokens) closed none rest line col utf8 in
    record { read = r.0; done = []; line = []; pieces_are = r.1; ended = refl; comments = refl; none = refl; start_is = refl }

no_newline : (ps : List Piece) (p : Piece) → list_any is_newline_piece ps ≡ false → is_line p.kind ≡ false → list_any is_newline_piece (ps ++ p ∷ []) ≡ false
no_newline ps p none h = list_any-append is_newline_piece ps (p ∷ []) ∙ rw (none, h) refl

-- after a gap, or a token within the line
pub stays : (first depth : ℕ) (bytes : List ℕ) (before lexer : Lexer) (old cursor : Cursor) (start : ℕ) (kind : Option Kind) (i : IsInLine first depth bytes before old start) (r : HasRead first depth bytes [] lexer cursor) → Grows kind i.read.pieces r.pieces r.gap → (kind ≡ Some Newline → ⊥)
    → IsInLine first depth bytes lexer cursor start
stays first depth bytes before lexer old cursor start None i r grows other =
    record { read = r; done = i.done; line = i.line; pieces_are = grows ∙ i.pieces_are; ended = i.ended; comments = i.comments; none = i.none; start_is = i.start_is }
stays first depth bytes before lexer old cursor start (Some kind) i r grows other =
    record {
      read = r;
      done = i.done;
      line = i.line ++ grows.0 ∷ [];
      pieces_are = grows.1 ∙ ap (λ ps. ps ++ grows.0 ∷ []) i.pieces_are ∙ append_assoc i.done i.line (grows.0 ∷ []);
      ended = i.ended;
      comments = i.comments;
      none = no_newline i.line grows.0 i.none (no_line kind grows.0.kind grows.2 other);
      start_is = i.start_is;
    }
  where
    is_kind : (kind : Kind) → (is_line kind ≡ false) ⊎ (kind ≡ Newline)
    is_kind Newline = inr refl
    is_kind Identifier = inl refl
    is_kind Keyword = inl refl
    is_kind Integer = inl refl
    is_kind String = inl refl
    is_kind Operator = inl refl
    is_kind Comment = inl refl
    is_kind Kept = inl refl

    no_line : (kind found : Kind) → found ≡ kind → (Some kind ≡ Some Newline → ⊥) → is_line found ≡ false
    no_line kind found same other = elim (is_kind found) [
      | inl none ↦ none
      | inr is ↦ absurd (other (ap (λ k. Some k) (sym same ∙ is)))
    ]

-- after the newline of a line
pub line_read : (first depth : ℕ) (bytes : List ℕ) (before lexer : Lexer) (old cursor : Cursor) (start : ℕ) (kind : Option Kind) (i : IsInLine first depth bytes before old start) (r : HasRead first depth bytes [] lexer cursor) → Grows kind i.read.pieces r.pieces r.gap → kind ≡ Some Newline
    → IsAfterLine first depth bytes lexer cursor start
line_read first depth bytes before lexer old cursor start kind i r grows is = by (subst (λ k. Grows k i.read.pieces r.pieces r.gap) is grows)
  where
    by : Grows (Some Newline) i.read.pieces r.pieces r.gap → IsAfterLine first depth bytes lexer cursor start
    by (p, pieces, kind, gap) = record {
      read = r;
      done = i.done;
      line = i.line;
      last = p;
      pieces_are = pieces ∙ ap (λ ps. ps ++ p ∷ []) i.pieces_are ∙ append_assoc i.done i.line (p ∷ []);
      gap_is = gap;
      ended = i.ended;
      comments = i.comments;
      none = i.none;
      newline = ap is_line kind;
      start_is = i.start_is;
    }

pieces_count : (first : ℕ) (before lines : List ℕ) (ps : List Piece) → length (tokens_of first before lines ps) ≡ length ps
pieces_count first before lines [] = refl
pieces_count first before lines (p ∷ ps) = ap suc (pieces_count first (before ++ (p.gap ++ p.text)) _ ps)

count_of_map : (ts : List Token) → length (map placed ts) ≡ length ts
count_of_map [] = refl
count_of_map (t ∷ ts) = ap suc (count_of_map ts)

-- as many tokens as pieces
pub token_count : (first depth : ℕ) (bytes : List ℕ) (lexer : Lexer) (cursor : Cursor) (r : HasRead first depth bytes [] lexer cursor) → length lexer.tokens.items ≡ length r.pieces
token_count first depth bytes lexer cursor r = sym (count_of_map lexer.tokens.items) ∙ ap length r.tokens_are ∙ pieces_count first [] [] r.pieces

pub start_within : (first depth : ℕ) (bytes : List ℕ) (lexer : Lexer) (cursor : Cursor) (start : ℕ) → IsAfterLine first depth bytes lexer cursor start → start ≤ length lexer.tokens.items
start_within first depth bytes lexer cursor start a =
    omega (arith, token_count first depth bytes lexer cursor a.read, ap length a.pieces_are, length-append a.done (a.line ++ a.last ∷ []), a.start_is)

-- the tokens of the line
pub line_tokens : (first depth : ℕ) (bytes : List ℕ) (lexer : Lexer) (cursor : Cursor) (start : ℕ) (a : IsAfterLine first depth bytes lexer cursor start) → (b ls : List ℕ) × (map placed (drop start lexer.tokens.items) ≡ tokens_of first b ls (a.line ++ a.last ∷ []))
line_tokens first depth bytes lexer cursor start a =
    let t = tokens_after first [] [] a.done (a.line ++ a.last ∷ []) in
    (t.0, t.1, map_drop start lexer.tokens.items ∙ ap (drop start) (a.read.tokens_are ∙ ap (tokens_of first [] []) a.pieces_are) ∙ ap (λ n. drop n (tokens_of first [] [] (a.done ++ (a.line ++ a.last ∷ [])))) a.start_is ∙ t.2)

all_ended : (done line : List Piece) (last : Piece) → is_line last.kind ≡ true → ends_in_line (done ++ (line ++ last ∷ [])) ≡ true
all_ended done line last newline = ap ends_in_line (sym (append_assoc done line (last ∷ []))) ∙ ends_snoc (done ++ line) last newline

lines_with : (done line : List Piece) (last : Piece) → ends_in_line done ≡ true → list_any is_newline_piece line ≡ false → is_line last.kind ≡ true → lines_of (done ++ (line ++ last ∷ [])) [] ≡ lines_of done [] ++ line_of (line ++ last ∷ []) [] ∷ []
lines_with done line last ended none newline = lines_of_join done (line ++ last ∷ []) [] ended ∙ ap (λ ls. lines_of done [] ++ ls) (one_line line last none newline)

-- after a line of comments
pub joined : (first depth : ℕ) (bytes : List ℕ) (lexer : Lexer) (cursor : Cursor) (start : ℕ) → IsAfterLine first depth bytes lexer cursor start → line_end (map placed (drop start lexer.tokens.items)) ≡ Joins → IsInLine first depth bytes lexer cursor (length lexer.tokens.items)
joined first depth bytes lexer cursor start a h =
    let t = line_tokens first depth bytes lexer cursor start a in
    let whole = a.line ++ a.last ∷ [] in
    let comment = joins_comment first t.0 t.1 whole (ap line_end (sym t.2) ∙ h) in
    record {
      read = a.read;
      done = a.done ++ whole;
      line = [];
      pieces_are = a.pieces_are ∙ sym (append-nil (a.done ++ whole));
      ended = all_ended a.done a.line a.last a.newline;
      comments = ap are_comments (lines_with a.done a.line a.last a.ended a.none a.newline) ∙ comments_snoc (lines_of a.done []) (line_of whole []) a.comments (ap is_comment_line comment);
      none = refl;
      start_is = token_count first depth bytes lexer cursor a.read ∙ ap length a.pieces_are;
    }

-- the text of the lines that were read, and what follows them
pub record Front (bytes rest : List ℕ) (text : List ℕ) : Type 0 where
  pub inner : List ℕ
  pub text_is : text ≡ inner ++ 10 ∷ []
  pub bytes_are : bytes ≡ inner ++ 10 ∷ rest

pub front : (first depth : ℕ) (bytes : List ℕ) (lexer : Lexer) (cursor : Cursor) (start : ℕ) (a : IsAfterLine first depth bytes lexer cursor start) → Front bytes cursor.rest.now (bytes_of a.read.pieces)
front first depth bytes lexer cursor start a =
    let before = a.done ++ a.line in
    let pieces : a.read.pieces ≡ before ++ a.last ∷ [] = a.pieces_are ∙ sym (append_assoc a.done a.line (a.last ∷ [])) in
    let r = split_reading depth [] before (a.last ∷ []) (a.read.gap ++ cursor.rest.now) bytes (subst (λ ps. IsReading depth [] ps (a.read.gap ++ cursor.rest.now) bytes) pieces a.read.reading) in
    let newline : a.last.text ≡ 10 ∷ [] = line_text a.last.kind a.last.text a.newline r.2.1.token.whole in
    let text : bytes_of a.read.pieces ≡ (bytes_of before ++ a.last.gap) ++ 10 ∷ [] = ap bytes_of pieces ∙ bytes_of-push before a.last ∙ sym (append_assoc (bytes_of before) a.last.gap a.last.text) ∙ ap (λ x. (bytes_of before ++ a.last.gap) ++ x) newline in
    record {
      inner = bytes_of before ++ a.last.gap;
      text_is = text;
      bytes_are = reading_bytes depth [] a.read.pieces (a.read.gap ++ cursor.rest.now) bytes a.read.reading ∙ ap (λ g. bytes_of a.read.pieces ++ (g ++ cursor.rest.now)) a.gap_is
          ∙ ap (λ x. x ++ cursor.rest.now) text ∙ append_assoc (bytes_of before ++ a.last.gap) (10 ∷ []) cursor.rest.now;
    }

front_length : (xs ys : List ℕ) → take (length xs) (xs ++ ys) ≡ xs
front_length [] ys = refl
front_length (x ∷ xs) ys = ap (λ zs. x ∷ zs) (front_length xs ys)

after_length : (xs ys : List ℕ) → drop (length xs) (xs ++ ys) ≡ ys
after_length [] ys = refl
after_length (x ∷ xs) ys = after_length xs ys

split_front : (bytes rest text : List ℕ) → Front bytes rest text → bytes ≡ text ++ rest
split_front bytes rest text f = f.bytes_are ∙ sym (append_assoc f.inner (10 ∷ []) rest) ∙ ap (λ x. x ++ rest) (sym f.text_is)

front_text : (bytes rest text : List ℕ) → Front bytes rest text → take (length bytes - length rest) bytes ≡ text
front_text bytes rest text f =
    let split = split_front bytes rest text f in
    let n : length bytes - length rest ≡ length text = omega (arith, ap length split, length-append text rest) in
    ap (λ k. take k bytes) n ∙ ap (take (length text)) split ∙ front_length text rest

pub front_within : (bytes rest text : List ℕ) → Front bytes rest text → length rest ≤ length bytes
front_within bytes rest text f = omega (arith, ap length f.bytes_are, length-append f.inner (10 ∷ rest))

pub front_boundary : (bytes rest text : List ℕ) → Front bytes rest text → IsUtf8 bytes → IsCharBoundary bytes (length bytes - length rest)
front_boundary bytes rest text f utf8 =
    gap_boundary bytes (length bytes - length rest) utf8 (omega arith) (λ some. omega (arith, byte))
  where
    at : (xs : List ℕ) → get_or (xs ++ 10 ∷ rest) (length xs) 0 ≡ 10
    at [] = refl
    at (x ∷ xs) = at xs

    byte : get_or bytes (length bytes - length rest - 1) 0 ≡ 10
    byte =
        let n : length bytes - length rest - 1 ≡ length f.inner = omega (arith, ap length f.bytes_are, length-append f.inner (10 ∷ rest)) in
        ap (get_or bytes (length bytes - length rest - 1)) refl ∙ ap (λ k. get_or bytes k 0) n ∙ ap (λ b. get_or b (length f.inner) 0) f.bytes_are ∙ at f.inner

-- what a line that ends its chunk shows
pub record Shown (first depth : ℕ) (text : List ℕ) (tokens : List Placed) : Type 0 where
  pub some : 0 < length text
  pub are_tokens : AreTokensOf first depth text tokens
  pub ends : IsChunk text

pub shown : (first depth : ℕ) (bytes : List ℕ) (lexer : Lexer) (cursor : Cursor) (start : ℕ) (a : IsAfterLine first depth bytes lexer cursor start) → line_end (map placed (drop start lexer.tokens.items)) ≡ Ends → Shown first depth (bytes_of a.read.pieces) (map placed lexer.tokens.items)
shown first depth bytes lexer cursor start a h =
    let ps = a.read.pieces in
    let whole = a.line ++ a.last ∷ [] in
    let rest = a.read.gap ++ cursor.rest.now in
    let ended : ends_in_line ps ≡ true = ap ends_in_line a.pieces_are ∙ all_ended a.done a.line a.last a.newline in
    let reading = lines_reading depth [] ps rest bytes a.read.reading ended in
    let closed = closed_lines depth [] ps rest bytes a.read.reading ended (λ e. refl) in
    let f = front first depth bytes lexer cursor start a in
    let parts = split_reading depth [] a.done whole [] (bytes_of ps) (subst (λ qs. IsReading depth [] qs [] (bytes_of ps)) a.pieces_are reading) in
    let outside : open_after [] a.done ≡ [] = closed_lines depth [] a.done parts.0 (bytes_of ps) parts.1 a.ended (λ e. refl) in
    let t = line_tokens first depth bytes lexer cursor start a in
    let last : ends_chunk (line_of whole []) ≡ true = line_ends first depth t.0 t.1 a.line a.last parts.0 (subst (λ o. IsReading depth o whole [] parts.0) outside parts.2) a.none a.newline (ap line_end (sym t.2) ∙ h) in
    let are : lines (bytes_of ps) ≡ lines_of a.done [] ++ line_of whole [] ∷ [] = lines_are_lines depth ps [] (bytes_of ps) reading refl ∙ ap (λ qs. lines_of qs []) a.pieces_are ∙ lines_with a.done a.line a.last a.ended a.none a.newline in
    let lined : AreLinesOf first depth (bytes_of ps) (map placed lexer.tokens.items) = (ps, reading, closed, ended, a.read.tokens_are) in
    record {
      some = omega (arith, ap length f.text_is, length-append f.inner (10 ∷ []));
      are_tokens = (ps, [], reading, refl, closed, a.read.tokens_are);
      ends = statement_chunk first depth (bytes_of ps) (map placed lexer.tokens.items) (lines_of a.done []) (line_of whole []) lined are a.comments last;
    }

pub first_chunk_is : (first depth : ℕ) (bytes rest text : List ℕ) (chunk : FirstChunk) (tokens : List Token) → Front bytes rest text → chunk.rest.now ≡ rest → chunk.text.now ≡ take (length bytes - length rest) bytes → chunk.tokens.now ≡ tokens → Shown first depth text (map placed tokens) → IsFirstChunk first depth bytes chunk
first_chunk_is first depth bytes rest text chunk tokens f after cut same s =
    let is : text ≡ chunk.text.now = sym (cut ∙ front_text bytes rest text f) in
    let split = split_front bytes rest text f in
    record {
      some = subst (λ x. 0 < length x) is s.some;
      within = omega (arith, ap length is, ap length split, length-append text rest);
      front = front_again bytes rest text f is;
      rest = after ∙ sym (ap (λ k. drop k bytes) (ap length (sym is)) ∙ ap (drop (length text)) split ∙ after_length text rest);
      tokens = rw same (subst (λ x. AreTokensOf first depth x (map placed tokens)) is s.are_tokens);
      ends = subst IsChunk is s.ends;
    }
  where
    front_again : (bytes rest text : List ℕ) → Front bytes rest text → text ≡ chunk.text.now → chunk.text.now ≡ take (length chunk.text.now) bytes
    front_again bytes rest text f is = sym (ap (take (length chunk.text.now)) (split_front bytes rest text f ∙ ap (λ x. x ++ rest) is) ∙ front_length chunk.text.now rest)
