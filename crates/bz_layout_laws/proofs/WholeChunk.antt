-- The text of a statement is a chunk.
use Rattle.std.proofs.Common.{◌≡◌, ℕ, List, [], ◌∷◌, ◌++◌, true, false, not, Option, Some, None, refl, sym, ap, subst, ◌∙◌, append-nil, append_assoc, arith, inl, inr}
use Rattle.std.specs.Prelude.{codes, is_some, if◌then◌else◌}
use Rattle.std.proofs.lemmas.Bool.{cases_Bool, and_parts, false≢true}
use Rattle.std.proofs.lemmas.List.{map-append}
use Rattle.bz_token.specs.declared.token.Kind.{Kind}
use Rattle.bz_token.specs.declared.token.Kind.TheVariants.{String, Operator, Newline, Comment}
use Rattle.bz_token.specs.declared.cutter.block.Opener.{Opener}
use Rattle.bz_token.specs.Blocks.{opener_of, opener}
use Rattle.bz_token.specs.Brackets.{is_inside, is_line}
use Rattle.bz_token.specs.Chunks.{chunks}
use Rattle.bz_token.specs.Cuts.{IsChunk}
use Rattle.bz_token.specs.Ends.{is_comment_kind, ends}
use Rattle.bz_token.specs.Lexical.{is_text}
use Rattle.bz_token.specs.LogicalLines.{lines}
use Rattle.bz_token.specs.Reading.{Piece as ReadPiece, is_gap, open_after, bytes_of as bytes_read}
use Rattle.bz_token.proofs.Stops.{token_ended}
use Rattle.bz_token.specs.ChunkForms.{are_comments, ends_chunk}
use Rattle.bz_layout_laws.specs.Readable.{are_texts, are_ended}
use Rattle.bz_token.specs.TokenLines.{line_of, lines_of}
use Rattle.bz_token.proofs.BlockWords.{no_block}
use Rattle.bz_token.proofs.ChunkForms.{statement_chunk, comments_chunk}
use Rattle.bz_layout_laws.proofs.Readable.{laid_reading}
use Rattle.bz_token.proofs.TokenLines.{lines_are_lines, lines_of_join, one_line}
use Rattle.bz_tree.specs.declared.tree.GroupKind.{GroupKind}
use Rattle.bz_tree.specs.declared.tree.GroupKind.TheVariants.{Call}
use Rattle.bz_tree.specs.Tree.{leaf, group, Items, no_items, item, Statement, items_of}
use Rattle.bz_layout.specs.declared.spacing.Edge.TheVariants.{Start}
use Rattle.bz_layout.specs.declared.spacing.Gap.TheVariants.{Closed}
use Rattle.bz_layout.specs.Respell.{is_single}
use Rattle.bz_layout.specs.Pieces.{Piece, piece, comment_lines, suffix_piece}
use Rattle.bz_layout.specs.Layout.{is_comment, layout_text}
use Rattle.bz_layout.specs.Walked.{opening}
use Rattle.bz_layout_laws.specs.FreeLayout.{Choice, own, free, inside, text_of, items_by, statement_by, text_by}
use Rattle.bz_layout_laws.specs.Legible.{IsLegible, IsLegibleItem, AreLegible, are_some, begins_block, depth_of}
use Rattle.bz_layout_laws.specs.ReadPieces.{read_piece, read_pieces}
use Rattle.bz_layout_laws.proofs.OwnLayout.{line_by, text_own}
use Rattle.bz_layout_laws.proofs.NoBrackets.{leaf_line}
use Rattle.bz_layout_laws.proofs.Texts.{line_whole}
use Rattle.bz_layout_laws.proofs.NoLines.{join, items_no_line, suffix_no_line}
use Rattle.bz_layout_laws.proofs.Ended.{read_bytes, line_ended}
use Rattle.bz_layout_laws.proofs.TokensBack.{read_by, lines_by, comments_end, tokens_by}

-- the logical lines of a text are those of its pieces
text_lines : (c : Choice) (s : Statement) → IsLegible s → lines (text_by c s) ≡ lines_of (read_pieces (statement_by c s)) []
text_lines c s h =
    let ps = statement_by c s in
    let tests = read_by (depth_of s) c s [] h (omega arith) in
    let reading = laid_reading (depth_of s) [] (read_pieces ps) [] tests.0 tests.1 tests.2 in
    ap lines (sym (append-nil (text_by c s)) ∙ ap (λ x. x ++ []) (sym (read_bytes ps)))
    ∙ lines_are_lines (depth_of s) (read_pieces ps) [] (bytes_read (read_pieces ps) ++ []) reading (gap_at_end tests.3)
  where
    gap_at_end : open_after [] (read_pieces (statement_by c s)) ≡ [] → is_gap (is_inside (open_after [] (read_pieces (statement_by c s)))) [] ≡ true
    gap_at_end e = refl

-- comment lines are lines of their own
pub comments_are : (texts : List (List ℕ)) → are_comments (lines_of (read_pieces (comment_lines texts)) []) ≡ true
comments_are [] = refl
comments_are (text ∷ texts) = comments_are texts

-- the line of the nodes is one
line_is_one : (c : Choice) (s : Statement) → IsLegible s → lines_of (read_pieces (line_by c s)) [] ≡ line_of (read_pieces (line_by c s)) [] ∷ []
line_is_one c s h =
    let newline : List Piece = piece Closed Newline (codes "\n") ∷ [] in
    let nodes = items_by c 0 None Closed Start (items_of s.nodes) in
    let none = join (items_no_line c 0 None Closed Start (items_of s.nodes) h.nodes) (suffix_no_line s.suffix) in
    let parts : read_pieces (line_by c s) ≡ read_pieces (nodes ++ suffix_piece s.suffix) ++ read_piece (piece Closed Newline (codes "\n")) ∷ [] =
    ap read_pieces (sym (append_assoc nodes (suffix_piece s.suffix) newline)) ∙ map-append read_piece (nodes ++ suffix_piece s.suffix) newline in
    ap (λ ps. lines_of ps []) parts ∙ one_line (read_pieces (nodes ++ suffix_piece s.suffix)) (read_piece (piece Closed Newline (codes "\n"))) none.none refl ∙ sym (ap (λ ps. line_of ps [] ∷ []) parts)

-- a word that is spelled anew begins no block
spelled_opener : (c : Choice) (kind : Kind) (text : List ℕ) → opener_of text ≡ None → opener_of (text_of c kind text) ≡ None
spelled_opener (free breaks inner others) kind text h = h
spelled_opener own String text h = elim (cases_Bool (is_single text)) [ inl hit ↦ rw hit refl | inr miss ↦ rw miss h ]
spelled_opener own _ text h = h

opening_opener : (kind : GroupKind) → opener_of (opening kind) ≡ None
opening_opener Call = refl
opening_opener _ = refl

is_none : (o : Option Opener) → is_some o ≡ false → o ≡ None
is_none None h = refl
is_none (Some word) h = absurd (false≢true (sym h))

-- a line whose first piece is another token than these, and begins no block
first_piece : (kind : Kind) (text : List ℕ) (ps : List ReadPiece) → is_line kind ≡ false → is_comment_kind kind ≡ false → opener_of text ≡ None → are_texts (record { gap = []; kind = kind; text = text } ∷ ps) ≡ true
    → are_ended (record { gap = []; kind = kind; text = text } ∷ ps) [] ≡ true → ends_chunk (line_of (record { gap = []; kind = kind; text = text } ∷ ps) []) ≡ true
first_piece kind text ps line comment none texts ended =
    let is = (and_parts (is_text kind text) (are_texts ps) texts).0 in
    let ends_here = (and_parts (ends kind text (bytes_read ps ++ [])) (are_ended ps []) ended).0 in
    let token = token_ended kind text (bytes_read ps ++ []) is ends_here in
    let no = ap opener (append_assoc text (bytes_read ps) []) ∙ no_block kind text (bytes_read ps ++ []) token line none in
    rw (line, comment) (ap (λ o. not (is_some o)) no)

leaf_comment : (kind : Kind) (text : List ℕ) → IsLegibleItem (leaf kind text) → is_comment_kind kind ≡ false
leaf_comment Comment text h = absurd (false≢true h.1)
leaf_comment _ text h = refl

abbrev tail_of : List Piece → List Piece
tail_of [] = []
tail_of (p ∷ ps) = ps

abbrev nodes_of : Choice → Items → List Piece
nodes_of c xs = items_by c 0 None Closed Start xs

-- the nodes of a statement, and what follows them on their line
nodes_end : (c : Choice) (xs : Items) (ps : List Piece) → are_some xs ≡ true → AreLegible None Start xs → begins_block xs ≡ false → are_texts (read_pieces (nodes_of c xs ++ ps)) ≡ true → are_ended (read_pieces (nodes_of c xs ++ ps)) [] ≡ true
    → ends_chunk (line_of (read_pieces (nodes_of c xs ++ ps)) []) ≡ true
nodes_end c no_items ps some h none texts ended = absurd (false≢true some)
nodes_end c (item (leaf kind text) xs) ps some h none texts ended =
    first_piece kind (text_of (inside c) kind text) (read_pieces (tail_of (nodes_of c (item (leaf kind text) xs) ++ ps))) (leaf_line kind text h.1.1) (leaf_comment kind text h.1) (spelled_opener (inside c) kind text (is_none (opener_of text) none)) texts ended
nodes_end c (item (group kind segs one_comma end) xs) ps some h none texts ended =
    first_piece Operator (opening kind) (read_pieces (tail_of (nodes_of c (item (group kind segs one_comma end) xs) ++ ps))) refl refl (opening_opener kind) texts ended

pub chunked_by : (c : Choice) (s : Statement) → IsLegible s → is_comment s.class ≡ false → begins_block (items_of s.nodes) ≡ false → IsChunk (text_by c s)
chunked_by c s h class none =
    let last = line_of (read_pieces (line_by c s)) [] in
    let comments = lines_of (read_pieces (comment_lines s.before)) [] in
    let parts : read_pieces (statement_by c s) ≡ read_pieces (comment_lines s.before) ++ read_pieces (line_by c s) =
    ap (λ b. read_pieces (comment_lines s.before ++ (if b then [] else line_by c s))) class ∙ map-append read_piece (comment_lines s.before) (line_by c s) in
    let are : lines (text_by c s) ≡ comments ++ last ∷ [] =
    text_lines c s h ∙ ap (λ ps. lines_of ps []) parts ∙ lines_of_join (read_pieces (comment_lines s.before)) (read_pieces (line_by c s)) [] (comments_end s.before) ∙ ap (λ ls. comments ++ ls) (line_is_one c s h) in
    let ends : ends_chunk last ≡ true =
    nodes_end c (items_of s.nodes) (suffix_piece s.suffix ++ piece Closed Newline (codes "\n") ∷ []) (h.some class) h.nodes none (line_whole c s h).texts (line_ended c s [] h).ended in
    statement_chunk 1 (depth_of s) (text_by c s) (tokens_by 1 c s) comments last (lines_by 1 (depth_of s) c s h (omega arith)) are (comments_are s.before) ends

pub statement_chunked : (s : Statement) → IsLegible s → is_comment s.class ≡ false → begins_block (items_of s.nodes) ≡ false → IsChunk (layout_text s)
statement_chunked s h class none = subst IsChunk (text_own s) (chunked_by own s h class none)

pub comments_chunked : (s : Statement) (text : List ℕ) (texts : List (List ℕ)) → IsLegible s → is_comment s.class ≡ true → s.before ≡ text ∷ texts → chunks (layout_text s) ≡ layout_text s ∷ []
comments_chunked s text texts h class e =
    let one = line_of (read_pieces (piece Closed Comment text ∷ piece Closed Newline (codes "\n") ∷ [])) [] in
    let more = lines_of (read_pieces (comment_lines texts)) [] in
    let parts : read_pieces (statement_by own s) ≡ read_pieces (comment_lines (text ∷ texts)) =
    ap (λ b. read_pieces (comment_lines s.before ++ (if b then [] else line_by own s))) class ∙ ap read_pieces (append-nil (comment_lines s.before)) ∙ ap (λ ts. read_pieces (comment_lines ts)) e in
    comments_chunk (layout_text s) one more (ap lines (sym (text_own s)) ∙ text_lines own s h ∙ ap (λ ps. lines_of ps []) parts) (comments_are (text ∷ texts))
