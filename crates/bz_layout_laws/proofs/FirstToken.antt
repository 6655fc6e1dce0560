-- The first token of a statement's text stands in column 1, and begins no block where the statement begins none.
use Rattle.std.proofs.Common.{◌≡◌, ℕ, ◌+◌, ◌==◌, List, [], ◌∷◌, ◌++◌, true, false, Some, None, refl, sym, ap, subst, ◌∙◌, append-nil}
use Rattle.std.specs.Prelude.{codes, is_some, if◌then◌else◌}
use Rattle.std.proofs.lemmas.Bool.{false≢true}
use Rattle.bz_token.specs.declared.token.Kind.{Kind}
use Rattle.bz_token.specs.declared.token.Kind.TheVariants.{Keyword}
use Rattle.bz_token.specs.Blocks.{opener_of}
use Rattle.bz_token.specs.Places.{Placed, line_at, column_from, column_at}
use Rattle.bz_token.specs.Reading.{tokens_of}
use Rattle.bz_tree.specs.Blocks.{is_block_word_at, is_block_word, block_indent}
use Rattle.bz_tree.specs.Chunk.{indent_at, indent_fault}
use Rattle.bz_tree.specs.Statement.{is_aside, bare_tokens, first_token}
use Rattle.bz_tree.specs.Tree.{leaf, group, Items, no_items, item, Statement, items_of}
use Rattle.bz_layout.specs.declared.spacing.Edge.TheVariants.{Start}
use Rattle.bz_layout.specs.declared.spacing.Gap.TheVariants.{Closed}
use Rattle.bz_layout.specs.Pieces.{Piece, comment_lines}
use Rattle.bz_layout.specs.Layout.{is_comment}
use Rattle.bz_layout_laws.specs.FreeLayout.{Choice, own, free, inside, text_of, items_by, statement_by}
use Rattle.bz_layout_laws.specs.Legible.{AreLegible, IsLegible, are_some, begins_block}
use Rattle.bz_layout_laws.specs.ReadPieces.{read_pieces}
use Rattle.bz_layout_laws.proofs.OwnLayout.{line_by}
use Rattle.bz_layout_laws.proofs.ReadSteps.{no_aside}
use Rattle.bz_token.specs.Common.{first_of, map_or}

column_newline : (column : ℕ) (bytes : List ℕ) → column_from column (bytes ++ 10 ∷ []) ≡ 1
column_newline column [] = refl
column_newline column (b ∷ bs) = column_newline (if b == 10 then 1 else column + 1) bs

-- the first token of these, where comments are none
pub record Front (tokens : List Placed) : Type 0 where
  pub token : Placed
  pub first : first_token tokens ≡ Some token
  pub col : token.col ≡ 1
  pub word : is_block_word token ≡ false

front_comment : (t n : Placed) (ts : List Placed) → is_aside t.kind ≡ true → is_aside n.kind ≡ true → Front ts → Front (t ∷ n ∷ ts)
front_comment t n ts p q f = record {
  token = f.token;
  first = ap (λ b. first_of (if b then bare_tokens (n ∷ ts) else t ∷ bare_tokens (n ∷ ts))) p ∙ ap (λ b. first_of (if b then bare_tokens ts else n ∷ bare_tokens ts)) q ∙ f.first;
  col = f.col;
  word = f.word;
}

-- after comment lines
after_comments : (first : ℕ) (texts : List (List ℕ)) (rest : List Piece) (before lines : List ℕ) → column_at before ≡ 1 → ((bs ls : List ℕ) → column_at bs ≡ 1 → Front (tokens_of first bs ls (read_pieces rest)))
    → Front (tokens_of first before lines (read_pieces (comment_lines texts ++ rest)))
after_comments first [] rest before lines column next = next before lines column
after_comments first (text ∷ texts) rest before lines column next =
    let ended = (before ++ ([] ++ text)) ++ ([] ++ codes "\n") in
    front_comment _ _ _ refl refl (after_comments first texts rest ended (line_at first ((before ++ ([] ++ text)) ++ []) ∷ line_at first (before ++ []) ∷ lines) (column_newline 1 (before ++ ([] ++ text))) next)

-- no word that begins a block
no_word : (c : Choice) (kind : Kind) (text : List ℕ) → is_some (opener_of text) ≡ false → is_block_word_at kind (text_of c kind text) ≡ false
no_word own Keyword text h = h
no_word (free breaks inner others) Keyword text h = h
no_word c _ text h = refl

front_token : (t : Placed) (ts : List Placed) → is_aside t.kind ≡ false → t.col ≡ 1 → is_block_word t ≡ false → Front (t ∷ ts)
front_token t ts none column word = record { token = t; first = ap (λ b. first_of (if b then bare_tokens ts else t ∷ bare_tokens ts)) none; col = column; word = word }

line_front : (first : ℕ) (c : Choice) (xs : Items) (rest : List Piece) (before lines : List ℕ) → are_some xs ≡ true → AreLegible None Start xs → begins_block xs ≡ false → column_at before ≡ 1
    → Front (tokens_of first before lines (read_pieces (items_by c 0 None Closed Start xs ++ rest)))
line_front first c no_items rest before lines some legible word column = absurd (false≢true some)
line_front first c (item (leaf kind text) xs) rest before lines some legible word column =
    front_token _ _ (no_aside kind text legible.1.1) (ap column_at (append-nil before) ∙ column) (no_word (inside c) kind text word)
line_front first c (item (group kind segs one_comma end) xs) rest before lines some legible word column =
    front_token _ _ refl (ap column_at (append-nil before) ∙ column) refl

pub front_by : (first : ℕ) (c : Choice) (s : Statement) → IsLegible s → is_comment s.class ≡ false → begins_block (items_of s.nodes) ≡ false → Front (tokens_of first [] [] (read_pieces (statement_by c s)))
front_by first c s h class word =
    subst (λ b. Front (tokens_of first [] [] (read_pieces (comment_lines s.before ++ (if b then [] else line_by c s))))) (sym class)
    (after_comments first s.before (line_by c s) [] [] refl (λ bs ls column. line_front first c (items_of s.nodes) _ bs ls (h.some class) h.nodes word column))

-- so no line is indented, and no block begins
pub upright : (tokens : List Placed) → Front tokens → (indent_fault tokens ≡ None) × (map_or false is_block_word (first_token tokens) ≡ false)
upright tokens f = (
  ap (λ o. indent_at o tokens) f.first ∙ ap (λ n. if n == 1 then (if is_block_word f.token then block_indent tokens else None) else Some f.token.line) f.col ∙ ap (λ b. if b then block_indent tokens else None) f.word,
  ap (map_or false is_block_word) f.first ∙ f.word,
)
