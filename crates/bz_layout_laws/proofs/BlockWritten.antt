-- The pieces of a block's text: comment lines, the block with its first token in column 1, newlines.
use Rattle.std.proofs.Common.{◌≡◌, ℕ, zero, suc, List, [], ◌∷◌, ◌++◌, replicate, true, None, refl, sym, ap, ◌∙◌, append-nil, append_assoc}
use Rattle.std.specs.Prelude.{codes}
use Rattle.std.specs.List.{list_all}
use Rattle.std.proofs.lemmas.Bool.{false≢true}
use Rattle.bz_token.specs.declared.token.Kind.{Kind}
use Rattle.bz_token.specs.declared.token.Kind.TheVariants.{Keyword, Newline, Kept}
use Rattle.bz_token.specs.Places.{column_at}
use Rattle.bz_token.specs.Reading.{Piece, bytes_of, tokens_of}
use Rattle.bz_token.proofs.Progress.{column_from-append}
use Rattle.bz_token.specs.TokenLines.{is_newline_piece}
use Rattle.bz_layout_laws.proofs.Readable.{bytes_join}
use Rattle.bz_tree.specs.declared.tree.Class.TheVariants.{Block}
use Rattle.bz_tree.specs.Blocks.{above, is_block_word_at}
use Rattle.bz_tree.proofs.Trees.LogicalLines.{above_at, above_by_token, above_is}
use Rattle.bz_tree.specs.Kinds.{kind_mark}
use Rattle.bz_tree.specs.Tree.{leaf, Statement}
use Rattle.bz_layout.specs.declared.spacing.Gap.TheVariants.{Closed}
use Rattle.bz_layout.specs.Pieces.{piece, comment_lines, bytes_of as layout_bytes}
use Rattle.bz_layout.specs.Layout.{layout_text}
use Rattle.bz_layout.proofs.Pieces.{bytes_append}
use Rattle.bz_layout_laws.specs.Legible.{AreComments}
use Rattle.bz_layout_laws.specs.ReadPieces.{read_pieces}
use Rattle.bz_layout_laws.proofs.BlockParts.{is_aside_piece, ends_seen, AreParts}
use Rattle.bz_layout_laws.proofs.BlockTests.{Passes, join, comments_pass, newline, newlines_pass, close, body_passes}
use Rattle.bz_layout_laws.proofs.Ended.{read_bytes}
use Rattle.bz_layout_laws.proofs.BlockBody.{Body}

-- the pieces of the text: comment lines, the block with its first token in column 1, newlines
abbrev pub lines_above : List (List ℕ) → List Piece
lines_above texts = read_pieces (comment_lines texts)

abbrev pub written : List (List ℕ) → Piece → List Piece → ℕ → List Piece
written texts header mid more = lines_above texts ++ ((close header ∷ mid) ++ replicate (suc more) newline)

pub written_passes : (first depth : ℕ) (bytes : List ℕ) (s : Statement) (b : Body first depth bytes s) (texts : List (List ℕ)) (more : ℕ) → AreComments texts → Passes depth (written texts b.header b.mid more) []
written_passes first depth bytes s b texts more h =
    let body = close b.header ∷ b.mid in
    let ends = replicate (suc more) newline in
    join depth (lines_above texts) (body ++ ends) [] (comments_pass depth texts (bytes_of (body ++ ends) ++ []) h)
    (join depth body ends [] (body_passes depth b.front b.header b.mid b.newlines b.rest (bytes_of (replicate more newline) ++ []) b.parts b.passes) (newlines_pass depth (suc more) []))

newline_bytes : (n : ℕ) → bytes_of (replicate n newline) ≡ replicate n 10
newline_bytes zero = refl
newline_bytes (suc n) = ap (λ x. 10 ∷ x) (newline_bytes n)

abbrev pub with_above : List (List ℕ) → Statement → Statement
with_above texts s = record s { before = texts }

text_is : (texts : List (List ℕ)) (header : Piece) (mid : List Piece) (start end more : ℕ)
    → bytes_of (written texts header mid more) ≡ layout_text (record { before = texts; nodes = leaf Kept (header.text ++ bytes_of mid) ∷ []; suffix = None; class = Block; start = start; end = end }) ++ replicate more 10
text_is texts header mid start end more =
    let kept = header.text ++ bytes_of mid in
    bytes_join (lines_above texts) ((close header ∷ mid) ++ replicate (suc more) newline)
    ∙ ap (λ x. bytes_of (lines_above texts) ++ x) (bytes_join (close header ∷ mid) (replicate (suc more) newline) ∙ ap (λ x. kept ++ 10 ∷ x) (newline_bytes more))
    ∙ ap (λ x. x ++ (kept ++ 10 ∷ replicate more 10)) (read_bytes (comment_lines texts))
    ∙ regroup (layout_bytes (comment_lines texts)) kept (replicate more 10)
    ∙ ap (λ x. x ++ replicate more 10) (sym (bytes_append (comment_lines texts) (piece Closed Kept kept ∷ piece Closed Newline (codes "\n") ∷ [])))
  where
    regroup : (a k n : List ℕ) → a ++ (k ++ 10 ∷ n) ≡ (a ++ (k ++ 10 ∷ [])) ++ n
    regroup a k n = simp append_assoc

pub written_text : (first depth : ℕ) (bytes : List ℕ) (s : Statement) (b : Body first depth bytes s) (texts : List (List ℕ)) (more : ℕ) → bytes_of (written texts b.header b.mid more) ≡ layout_text (with_above texts s) ++ replicate more 10
written_text first depth bytes s b texts more =
    text_is texts b.header b.mid b.start b.end more ∙ ap (λ t. layout_text (with_above texts t) ++ replicate more 10) (sym b.is)

-- the column after lines is the first
newline_column : (before : List ℕ) → column_at (before ++ 10 ∷ []) ≡ 1
newline_column before = column_from-append 1 before (10 ∷ [])

pub lines_column : (texts : List (List ℕ)) (before : List ℕ) → column_at before ≡ 1 → column_at (before ++ bytes_of (lines_above texts)) ≡ 1
lines_column [] before h = ap column_at (append-nil before) ∙ h
lines_column (text ∷ texts) before h =
    let same : before ++ (text ++ 10 ∷ bytes_of (lines_above texts)) ≡ ((before ++ text) ++ 10 ∷ []) ++ bytes_of (lines_above texts) = simp append_assoc in
    ap column_at same ∙ lines_column texts ((before ++ text) ++ 10 ∷ []) (newline_column (before ++ text))

-- the comments of the lines
above_counted : (kind : Kind) (text word : List ℕ) (later : List (List ℕ)) → is_block_word_at kind text ≡ true → above_at (kind_mark kind text) word later ≡ []
above_counted Keyword text word later h = refl
above_counted _ text word later h = absurd (false≢true h)

each_above : (first : ℕ) (texts : List (List ℕ)) (header : Piece) (ps : List Piece) (before lines : List ℕ) → is_block_word_at header.kind header.text ≡ true
    → above_by_token (tokens_of first before lines (lines_above texts ++ (header ∷ ps))) ≡ texts
each_above first [] header ps before lines h = above_counted header.kind header.text header.text _ h
each_above first (text ∷ texts) header ps before lines h = ap (λ l. text ∷ l) (each_above first texts header ps _ _ h)

pub above_lines : (first : ℕ) (texts : List (List ℕ)) (header : Piece) (ps : List Piece) (before lines : List ℕ) → is_block_word_at header.kind header.text ≡ true → above (tokens_of first before lines (lines_above texts ++ (header ∷ ps))) ≡ texts
above_lines first texts header ps before lines h = above_is (tokens_of first before lines (lines_above texts ++ (header ∷ ps))) ∙ each_above first texts header ps before lines h

lines_aside : (texts : List (List ℕ)) → list_all is_aside_piece (lines_above texts) ≡ true
lines_aside [] = refl
lines_aside (text ∷ texts) = lines_aside texts

newlines_only : (n : ℕ) → list_all is_newline_piece (replicate n newline) ≡ true
newlines_only zero = refl
newlines_only (suc n) = newlines_only n

-- whether the last piece is a newline does not hang on the gap before the first
closed_seen : (p : Piece) (ps : List Piece) → ends_seen (p ∷ ps) ≡ true → ends_seen (close p ∷ ps) ≡ true
closed_seen p [] h = h
closed_seen p (q ∷ ps) h = h

pub written_parts : (first depth : ℕ) (bytes : List ℕ) (s : Statement) (b : Body first depth bytes s) (texts : List (List ℕ)) (more : ℕ) → AreParts (lines_above texts) (close b.header) b.mid (replicate (suc more) newline)
written_parts first depth bytes s b texts more = record {
  asides = lines_aside texts;
  counted = b.parts.counted;
  seen = closed_seen b.header b.mid b.parts.seen;
  lines = newlines_only (suc more);
}
