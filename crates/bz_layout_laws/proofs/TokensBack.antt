-- The text of a statement is read as the tokens of the statement.
use Rattle.std.proofs.Common.{◌≡◌, ℕ, ◌+◌, ◌≤◌, ◌==◌, ◌&&◌, not, List, [], ◌∷◌, ◌++◌, Bool, true, false, Option, Some, None, refl, sym, ap, subst, ◌∙◌, append-nil, append_assoc}
use Rattle.std.specs.Prelude.{codes, count_by, if◌then◌else◌}
use Rattle.std.proofs.lemmas.Bool.{false≢true}
use Rattle.bz_token.specs.declared.token.Kind.TheVariants.{Newline}
use Rattle.bz_token.specs.Brackets.{is_line}
use Rattle.bz_token.specs.FreshStart.{ends_in_line, AreLinesOf}
use Rattle.bz_token.specs.Places.{Placed, line_at}
use Rattle.bz_token.specs.Reading.{open_after, tokens_of, AreTokensOf}
use Rattle.bz_token.proofs.OneFault.{one_tokens}
use Rattle.bz_layout_laws.specs.Readable.{are_texts, are_ended, are_fitting}
use Rattle.bz_layout_laws.proofs.GapLines.{line_stays, last_line_of}
use Rattle.bz_layout_laws.proofs.Readable.{laid_lines}
use Rattle.bz_token.specs.Ends.{is_comment_kind}
use Rattle.bz_tree.specs.Statement.{is_aside}
use Rattle.bz_tree.specs.Tree.{Statement, items_of}
use Rattle.bz_layout.specs.declared.spacing.Edge.TheVariants.{Start}
use Rattle.bz_layout.specs.declared.spacing.Gap.TheVariants.{Closed}
use Rattle.bz_layout.specs.Pieces.{Piece, piece, bytes_of, gap_bytes, comment_lines, suffix_piece}
use Rattle.bz_layout.specs.Layout.{is_comment, layout, layout_text}
use Rattle.bz_layout_laws.specs.FreeLayout.{Choice, own, items_by, statement_by, text_by, Stand}
use Rattle.bz_layout_laws.specs.Legible.{IsLegible, depth_of}
use Rattle.bz_layout_laws.specs.Lexemes.{is_on, lexemes_from, token_lexemes, lexemes_of}
use Rattle.bz_layout_laws.specs.ReadPieces.{read_pieces, piece_lexemes}
use Rattle.bz_layout_laws.proofs.Pieces.{layout_lexemes}
use Rattle.bz_layout_laws.proofs.OwnLayout.{line_by, statement_own}
use Rattle.bz_layout_laws.proofs.FreeLexemes.{lexemes_by, HaveShapes}
use Rattle.bz_layout_laws.proofs.FreePieces.{statement_pieces}
use Rattle.bz_layout_laws.proofs.Texts.{whole_by}
use Rattle.bz_layout_laws.proofs.Beside.{is_beside, AllBeside, layout_beside, beside_by}
use Rattle.bz_layout_laws.proofs.Fitting.{fits_by}
use Rattle.bz_layout_laws.proofs.Ended.{read_bytes, ended_by}

-- where the piece before ends, if it is a token
abbrev ended_on : Bool → ℕ → Option ℕ
ended_on token line = if token then Some line else None

-- the gaps tell which comments stand beside a token
pub pieces_read : (first : ℕ) (before lines : List ℕ) (token : Bool) (ps : List Piece) → AllBeside token ps
    → lexemes_from (ended_on token (line_at first before)) (tokens_of first before lines (read_pieces ps)) ≡ piece_lexemes ps
pieces_read first before lines token [] h = refl
pieces_read first before lines token (p ∷ ps) h =
    let next = before ++ (gap_bytes p.gap ++ p.text) in
    let line = line_at first (before ++ gap_bytes p.gap) in
    let rest = pieces_read first next (line ∷ lines) (not (is_aside p.kind)) ps h.1 in
    λ i. record { kind = p.kind; text = p.text; beside = (beside_is token ∙ h.0) i } ∷ (ap (λ last. lexemes_from last (tokens_of first next (line ∷ lines) (read_pieces ps))) (ends_is (is_aside p.kind)) ∙ rest) i
  where
    beside_is : (token : Bool) → (is_comment_kind p.kind && is_on (ended_on token (line_at first before)) (line_at first (before ++ gap_bytes p.gap))) ≡ is_beside token p
    beside_is true = ap (λ b. is_comment_kind p.kind && b) (line_stays first before (gap_bytes p.gap))
    beside_is false = refl

    end_is : line_at first (before ++ gap_bytes p.gap) + count_by (λ b. b == 10) p.text ≡ line_at first (before ++ (gap_bytes p.gap ++ p.text))
    end_is = sym (last_line_of first (before ++ gap_bytes p.gap) p.text) ∙ ap (line_at first) (append_assoc before (gap_bytes p.gap) p.text)

    ends_is : (aside : Bool) → (if aside then None else Some (line_at first (before ++ gap_bytes p.gap) + count_by (λ b. b == 10) p.text)) ≡ ended_on (not aside) (line_at first (before ++ (gap_bytes p.gap ++ p.text)))
    ends_is true = refl
    ends_is false = ap Some end_is

-- the last piece is a newline
abbrev ends_line : List Piece → Bool
ends_line [] = false
ends_line (p ∷ []) = is_line p.kind
ends_line (p ∷ q ∷ ps) = ends_line (q ∷ ps)

ends_after : (ps qs : List Piece) → ends_line qs ≡ true → ends_line (ps ++ qs) ≡ true
ends_after [] qs h = h
ends_after (p ∷ []) [] h = absurd (false≢true h)
ends_after (p ∷ []) (q ∷ qs) h = h
ends_after (p ∷ r ∷ ps) qs h = ends_after (r ∷ ps) qs h

ends_read : (ps : List Piece) → ends_line ps ≡ true → ends_in_line (read_pieces ps) ≡ true
ends_read [] h = absurd (false≢true h)
ends_read (p ∷ []) h = h
ends_read (p ∷ q ∷ ps) h = ends_read (q ∷ ps) h

pub comments_end : (texts : List (List ℕ)) → ends_in_line (read_pieces (comment_lines texts)) ≡ true
comments_end [] = refl
comments_end (text ∷ []) = refl
comments_end (text ∷ next ∷ texts) = comments_end (next ∷ texts)

line_by_ends : (c : Choice) (s : Statement) → ends_line (line_by c s) ≡ true
line_by_ends c s =
    let newline : List Piece = piece Closed Newline (codes "\n") ∷ [] in
    ends_after (items_by c 0 None Closed Start (items_of s.nodes)) (suffix_piece s.suffix ++ newline) (ends_after (suffix_piece s.suffix) newline refl)

ends_by : (c : Choice) (s : Statement) → ends_in_line (read_pieces (statement_by c s)) ≡ true
ends_by c s = by (is_comment s.class)
  where
    by : (b : Bool) → ends_in_line (read_pieces (comment_lines s.before ++ (if b then [] else line_by c s))) ≡ true
    by true = ap (λ ps. ends_in_line (read_pieces ps)) (append-nil (comment_lines s.before)) ∙ comments_end s.before
    by false = ends_read (comment_lines s.before ++ line_by c s) (ends_after (comment_lines s.before) (line_by c s) (line_by_ends c s))

pub layout_ends : (s : Statement) → ends_in_line (read_pieces (layout s)) ≡ true
layout_ends s = ap (λ ps. ends_in_line (read_pieces ps)) (sym (statement_own s)) ∙ ends_by own s

-- the three tests
pub read_by : (depth : ℕ) (c : Choice) (s : Statement) (rest : List ℕ) → IsLegible s → depth_of s ≤ depth
    → (are_texts (read_pieces (statement_by c s)) ≡ true) × (are_ended (read_pieces (statement_by c s)) rest ≡ true) × (are_fitting depth [] (read_pieces (statement_by c s)) ≡ true) × (open_after [] (read_pieces (statement_by c s)) ≡ [])
read_by depth c s rest h room =
    let fits = fits_by depth c s h room in
    ((whole_by c s h).texts, (ended_by c s rest h).ended, fits.fitting, fits.leaves)

pub layout_read : (depth : ℕ) (s : Statement) (rest : List ℕ) → IsLegible s → depth_of s ≤ depth
    → (are_texts (read_pieces (layout s)) ≡ true) × (are_ended (read_pieces (layout s)) rest ≡ true) × (are_fitting depth [] (read_pieces (layout s)) ≡ true) × (open_after [] (read_pieces (layout s)) ≡ [])
layout_read depth s rest h room =
    subst (λ ps. (are_texts (read_pieces ps) ≡ true) × (are_ended (read_pieces ps) rest ≡ true) × (are_fitting depth [] (read_pieces ps) ≡ true) × (open_after [] (read_pieces ps) ≡ [])) (statement_own s) (read_by depth own s rest h room)

abbrev pub tokens_back : ℕ → Statement → List Placed
tokens_back first s = tokens_of first [] [] (read_pieces (layout s))

-- in a free layout
abbrev pub tokens_by : ℕ → Choice → Statement → List Placed
tokens_by first c s = tokens_of first [] [] (read_pieces (statement_by c s))

pub lines_by : (first depth : ℕ) (c : Choice) (s : Statement) → IsLegible s → depth_of s ≤ depth → AreLinesOf first depth (text_by c s) (tokens_by first c s)
lines_by first depth c s h room =
    let tests = read_by depth c s [] h room in
    subst (λ bytes. AreLinesOf first depth bytes (tokens_by first c s)) (read_bytes (statement_by c s)) (laid_lines first depth (read_pieces (statement_by c s)) tests.0 tests.1 tests.2 tests.3 (ends_by c s))

pub lexemes_back : (first : ℕ) (c : Choice) (s : Statement) → IsLegible s → Stand c (items_of s.nodes) → HaveShapes (items_of s.nodes) → token_lexemes (tokens_by first c s) ≡ lexemes_by c s
lexemes_back first c s h stands shapes = pieces_read first [] [] false (statement_by c s) (beside_by c s h) ∙ statement_pieces c s stands shapes

-- of the layout
pub read_lines : (first depth : ℕ) (s : Statement) → IsLegible s → depth_of s ≤ depth → AreLinesOf first depth (layout_text s) (tokens_back first s)
read_lines first depth s h room = subst (λ ps. AreLinesOf first depth (bytes_of ps) (tokens_of first [] [] (read_pieces ps))) (statement_own s) (lines_by first depth own s h room)

back_lexemes : (first : ℕ) (s : Statement) → IsLegible s → token_lexemes (tokens_back first s) ≡ lexemes_of s
back_lexemes first s h = pieces_read first [] [] false (layout s) (layout_beside s h) ∙ layout_lexemes s

pub layout_tokens : (first depth : ℕ) (s : Statement) → IsLegible s → depth_of s ≤ depth → (tokens : List Placed) × AreLinesOf first depth (layout_text s) tokens × (token_lexemes tokens ≡ lexemes_of s)
layout_tokens first depth s h room = (tokens_back first s, read_lines first depth s h room, back_lexemes first s h)

pub lines_are_tokens : (first depth : ℕ) (bytes : List ℕ) (tokens : List Placed) → AreLinesOf first depth bytes tokens → AreTokensOf first depth bytes tokens
lines_are_tokens first depth bytes tokens a = (a.0, [], a.1, refl, a.2, a.4)

pub layout_tokens_only : (first depth : ℕ) (s : Statement) (tokens : List Placed) → IsLegible s → depth_of s ≤ depth → AreTokensOf first depth (layout_text s) tokens → token_lexemes tokens ≡ lexemes_of s
layout_tokens_only first depth s tokens h room are =
    ap token_lexemes (one_tokens first depth (layout_text s) tokens (tokens_back first s) are (lines_are_tokens first depth (layout_text s) (tokens_back first s) (read_lines first depth s h room)))
    ∙ back_lexemes first s h

pub tokens_by_only : (first depth : ℕ) (c : Choice) (s : Statement) (tokens : List Placed) → IsLegible s → depth_of s ≤ depth → Stand c (items_of s.nodes) → HaveShapes (items_of s.nodes) → AreTokensOf first depth (text_by c s) tokens → token_lexemes tokens ≡ lexemes_by c s
tokens_by_only first depth c s tokens h room stands shapes are =
    ap token_lexemes (one_tokens first depth (text_by c s) tokens (tokens_by first c s) are (lines_are_tokens first depth (text_by c s) (tokens_by first c s) (lines_by first depth c s h room)))
    ∙ lexemes_back first c s h stands shapes
