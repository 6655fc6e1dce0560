-- The text of a statement is parsed as the statement.
use Rattle.std.proofs.Common.{◌≡◌, ℕ, ◌≤◌, List, [], ◌∷◌, ◌++◌, Bool, true, false, None, Some, IsSome, refl, sym, ap, subst, ◌∙◌}
use Rattle.std.proofs.lemmas.Bool.{false≢true}
use Rattle.std.specs.Prelude.{if◌then◌else◌}
use Rattle.bz_token.specs.Places.{Placed}
use Rattle.bz_token.specs.Reading.{tokens_of}
use Rattle.bz_token.proofs.OneFault.{one_tokens}
use Rattle.bz_tree.specs.Brackets.{without_lines}
use Rattle.bz_tree.specs.Chunk.{IsBlockOrPlain, IsPlain, IsStatementIn, indent_at, indent_fault}
use Rattle.bz_tree.specs.Grammar.{IsStatement}
use Rattle.bz_tree.specs.Statement.{first_token, first_seen, bare_tokens}
use Rattle.bz_tree.specs.Tree.{Statement, items_of}
use Rattle.bz_layout.specs.Pieces.{Piece, comment_lines}
use Rattle.bz_layout.specs.Layout.{is_comment, layout_text}
use Rattle.bz_layout_laws.specs.FreeLayout.{Choice, own, spelled_by, text_by, Stand}
use Rattle.bz_layout_laws.specs.Legible.{IsLegible, depth_of, begins_block}
use Rattle.bz_layout_laws.specs.Parsed.{IsParsed}
use Rattle.bz_layout_laws.specs.Spelled.{spelled_statement}
use Rattle.bz_layout_laws.specs.Lineless.{lineless}
use Rattle.bz_layout_laws.proofs.FirstToken.{front_by, upright}
use Rattle.bz_layout_laws.specs.ReadPieces.{read_pieces}
use Rattle.bz_layout_laws.proofs.FreeSpelled.{spelled_own}
use Rattle.bz_layout_laws.proofs.OwnLayout.{line_by, statement_own, text_own}
use Rattle.bz_layout_laws.proofs.Shapes.{own_stands}
use Rattle.bz_layout_laws.proofs.ReadStatement.{none_there, reads_by, statement_only}
use Rattle.bz_layout_laws.proofs.SameGrammar.{free_grammar_stays}
use Rattle.bz_layout_laws.proofs.TokensBack.{tokens_back, read_lines, tokens_by, lines_by, lines_are_tokens}
use Rattle.bz_token.specs.Common.{first_of, is_filled, map_or}
use Rattle.bz_tree.proofs.Trees.Standing.{bare_empty}
use Rattle.bz_tree.specs.Blocks.{is_block_word}

-- where a token stands that is no comment, something stands
seen_some : (ts : List Placed) (t : Placed) → first_token ts ≡ Some t → IsSome (first_seen ts)
seen_some ts t e = by (without_lines ts) refl
  where
    by : (seen : List Placed) → without_lines ts ≡ seen → IsSome (first_of seen)
    by [] none = absurd (false≢true (subst IsSome (sym e ∙ ap first_of (bare_empty ts none)) refl))
    by (u ∷ us) some = refl

-- tokens of a chunk that is not indented, no block and not blank
record Upright (tokens : List Placed) : Type 0 where
  indent : indent_fault tokens ≡ None
  block : map_or false is_block_word (first_token tokens) ≡ false
  some : IsSome (first_seen tokens)

-- comment lines alone
pub comments_bare : (first : ℕ) (texts : List (List ℕ)) (before lines : List ℕ) → bare_tokens (tokens_of first before lines (read_pieces (comment_lines texts ++ []))) ≡ []
comments_bare first [] before lines = refl
comments_bare first (text ∷ texts) before lines = comments_bare first texts _ _

pub comments_seen : (first : ℕ) (texts : List (List ℕ)) (rest : List Piece) → is_filled texts ≡ true → IsSome (first_seen (tokens_of first [] [] (read_pieces (comment_lines texts ++ rest))))
comments_seen first [] rest h = absurd (false≢true h)
comments_seen first (text ∷ texts) rest h = refl

lines_upright : (first : ℕ) (c : Choice) (s : Statement) → IsParsed s → is_comment s.class ≡ true → Upright (tokens_by first c s)
lines_upright first c s parsed class =
    let none = none_there s.nodes (ap is_comment (sym parsed.class) ∙ class) in
    subst (λ b. Upright (tokens_of first [] [] (read_pieces (comment_lines s.before ++ (if b then [] else line_by c s))))) (sym class)
    (let tokens = tokens_of first [] [] (read_pieces (comment_lines s.before ++ [])) in
    let bare : first_token tokens ≡ None = ap first_of (comments_bare first s.before [] []) in
    record { indent = ap (λ o. indent_at o tokens) bare; block = ap (map_or false is_block_word) bare; some = comments_seen first s.before [] (parsed.lines none) })

is_upright : (first : ℕ) (c : Choice) (s : Statement) → IsLegible s → IsParsed s → begins_block (items_of s.nodes) ≡ false → Upright (tokens_by first c s)
is_upright first c s legible parsed word = by (is_comment s.class) refl
  where
    by : (b : Bool) → is_comment s.class ≡ b → Upright (tokens_by first c s)
    by true class = lines_upright first c s parsed class
    by false class =
        let front = front_by first c s legible class word in
        let stands = upright (tokens_by first c s) front in
        record { indent = stands.0; block = stands.1; some = seen_some (tokens_by first c s) front.token front.first }

pub parsed_by : (first depth : ℕ) (c : Choice) (s : Statement) → IsLegible s → IsParsed s → depth_of s ≤ depth → Stand c (items_of s.nodes) → begins_block (items_of s.nodes) ≡ false → IsStatement (items_of s.nodes)
    → (t : Statement) × IsStatementIn first depth (text_by c s) t × (lineless t ≡ lineless (spelled_by c s))
parsed_by first depth c s legible parsed room free word grammar =
    let tokens = tokens_by first c s in
    let are = lines_are_tokens first depth (text_by c s) tokens (lines_by first depth c s legible room) in
    let found = reads_by first depth c s tokens legible parsed room free are in
    let t = found.0 in
    let stands = is_upright first c s legible parsed word in
    let plain : IsPlain tokens t = record { tree = found.1; grammar = free_grammar_stays c s t found.2 grammar } in (
      t,
      record {
        tokens = tokens;
        are = are;
        reads = record {
          upright = stands.indent;
          some = stands.some;
          chunk = subst (λ b. IsBlockOrPlain b first (text_by c s) tokens t) (sym stands.block) plain;
        };
      },
      found.2,
    )

-- in the layout's own way
pub parsed_again : (first depth : ℕ) (s : Statement) → IsLegible s → IsParsed s → depth_of s ≤ depth → begins_block (items_of s.nodes) ≡ false → IsStatement (items_of s.nodes)
    → (t : Statement) × IsStatementIn first depth (layout_text s) t × (lineless t ≡ lineless (spelled_statement s))
parsed_again first depth s legible parsed room word grammar =
    let found = parsed_by first depth own s legible parsed room (own_stands (items_of s.nodes)) word grammar in
    (found.0, subst (λ bytes. IsStatementIn first depth bytes found.0) (text_own s) found.1, found.2 ∙ ap lineless (spelled_own s))

pub parsed_only : (first depth : ℕ) (s t : Statement) → IsLegible s → IsParsed s → depth_of s ≤ depth → begins_block (items_of s.nodes) ≡ false → IsStatementIn first depth (layout_text s) t
    → (lineless t ≡ lineless (spelled_statement s)) × (layout_text t ≡ layout_text s)
parsed_only first depth s t legible parsed room word is =
    let tokens = tokens_back first s in
    let are = lines_are_tokens first depth (layout_text s) tokens (read_lines first depth s legible room) in
    let same : is.tokens ≡ tokens = one_tokens first depth (layout_text s) is.tokens tokens is.are are in
    let stands = subst (λ ps. Upright (tokens_of first [] [] (read_pieces ps))) (statement_own s) (is_upright first own s legible parsed word) in
    let plain : IsPlain is.tokens t = subst (λ b. IsBlockOrPlain b first (layout_text s) is.tokens t) (ap (λ ts. map_or false is_block_word (first_token ts)) same ∙ stands.block) is.reads.chunk in
    statement_only first depth s t is.tokens legible parsed room is.are plain.tree
