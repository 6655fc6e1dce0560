-- Comment lines with the empty line after them are parsed as the comment lines.
use Rattle.std.proofs.Common.{◌≡◌, ℕ, ◌≤◌, List, [], ◌∷◌, ◌++◌, true, None, IsSome, refl, sym, ap, subst, ◌∙◌, false}
use Rattle.std.specs.Prelude.{codes, if◌then◌else◌}
use Rattle.bz_token.specs.Places.{Placed, line_at}
use Rattle.bz_token.specs.Reading.{Piece, tokens_of, token_of}
use Rattle.bz_tree.specs.Brackets.{is_line as is_line_mark, without_lines, AreNested}
use Rattle.bz_tree.specs.Chunk.{IsBlockOrPlain, IsPlain, IsStatementIn, indent_at}
use Rattle.bz_tree.specs.declared.tree.kinds.Preceding.TheVariants.{Other}
use Rattle.bz_tree.specs.Grammar.{IsStatement}
use Rattle.bz_tree.specs.Kinds.{mark_of}
use Rattle.bz_tree.specs.Statement.{first_token, first_seen, bare_tokens, is_aside, segment_of, statement_with}
use Rattle.bz_tree.specs.Tree.{Statement, items_of}
use Rattle.bz_layout.specs.Pieces.{comment_lines}
use Rattle.bz_layout.specs.Layout.{statement_line, is_comment, layout, layout_text}
use Rattle.bz_layout_laws.specs.Legible.{IsLegible, depth_of}
use Rattle.bz_layout_laws.specs.Parsed.{IsParsed}
use Rattle.bz_layout_laws.specs.ReadPieces.{read_pieces}
use Rattle.bz_layout_laws.specs.Spelled.{spelled_statement}
use Rattle.bz_layout_laws.specs.Lineless.{lineless}
use Rattle.bz_layout_laws.proofs.CommentChunk.{newline, with_newline, lines_and_blank}
use Rattle.bz_layout_laws.proofs.ParsedAgain.{comments_bare, comments_seen}
use Rattle.bz_layout_laws.proofs.ReadStatement.{none_there, statement_reads}
use Rattle.bz_layout_laws.proofs.SameGrammar.{grammar_stays}
use Rattle.bz_layout_laws.proofs.TokensBack.{tokens_back, read_lines, lines_are_tokens}
use Rattle.bz_token.specs.Common.{first_of, map_or}
use Rattle.bz_tree.specs.Blocks.{is_block_word}

-- a newline at the end is neither a comment nor another token
newline_out : (first : ℕ) (ps : List Piece) (before lines : List ℕ) → without_lines (tokens_of first before lines (ps ++ newline ∷ [])) ≡ without_lines (tokens_of first before lines ps)
newline_out first [] before lines = refl
newline_out first (p ∷ ps) before lines =
    let t = token_of first (before ++ p.gap) lines p in
    ap (λ ts. if is_line_mark (mark_of t) then ts else t ∷ ts) (newline_out first ps (before ++ (p.gap ++ p.text)) (line_at first (before ++ p.gap) ∷ lines))

newline_bare : (first : ℕ) (ps : List Piece) (before lines : List ℕ) → bare_tokens (tokens_of first before lines (ps ++ newline ∷ [])) ≡ bare_tokens (tokens_of first before lines ps)
newline_bare first [] before lines = refl
newline_bare first (p ∷ ps) before lines =
    let t = token_of first (before ++ p.gap) lines p in
    ap (λ ts. if is_aside t.kind then ts else t ∷ ts) (newline_bare first ps (before ++ (p.gap ++ p.text)) (line_at first (before ++ p.gap) ∷ lines))

abbrev pub tokens_and_blank : ℕ → Statement → List Placed
tokens_and_blank first s = tokens_of first [] [] (with_newline s)

seen_same : (first : ℕ) (s : Statement) → without_lines (tokens_and_blank first s) ≡ without_lines (tokens_back first s)
seen_same first s = newline_out first (read_pieces (layout s)) [] []

no_token : (first : ℕ) (s : Statement) → is_comment s.class ≡ true → first_token (tokens_and_blank first s) ≡ None
no_token first s class =
    ap first_of (newline_bare first (read_pieces (layout s)) [] []
    ∙ ap (λ b. bare_tokens (tokens_of first [] [] (read_pieces (comment_lines s.before ++ (if b then [] else statement_line s))))) class ∙ comments_bare first s.before [] [])

some_seen : (first : ℕ) (s : Statement) → IsParsed s → is_comment s.class ≡ true → IsSome (first_seen (tokens_and_blank first s))
some_seen first s parsed class =
    let none = none_there s.nodes (ap is_comment (sym parsed.class) ∙ class) in
    subst (λ ts. IsSome (first_of ts)) (sym (seen_same first s)) (comments_seen first s.before (if is_comment s.class then [] else statement_line s) (parsed.lines none))

pub comments_read : (first depth : ℕ) (s : Statement) → IsLegible s → IsParsed s → depth_of s ≤ depth → IsStatement (items_of s.nodes) → is_comment s.class ≡ true
    → (t : Statement) × IsStatementIn first depth (layout_text s ++ codes "\n") t × (lineless t ≡ lineless (spelled_statement s))
comments_read first depth s legible parsed room grammar class =
    let bytes = layout_text s ++ codes "\n" in
    let all = tokens_and_blank first s in
    let tokens = tokens_back first s in
    let found = statement_reads first depth s tokens legible parsed room (lines_are_tokens first depth (layout_text s) tokens (read_lines first depth s legible room)) in
    let tree = found.1 in
    let t = statement_with all (segment_of tree.inners) in
    let same : lineless t ≡ lineless (spelled_statement s) = sym (ap lineless tree.is) ∙ found.2 in
    let none = no_token first s class in
    let plain : IsPlain all t = record {
      tree = record { inners = tree.inners; nested = subst (λ ts. AreNested Other ts tree.inners) (sym (seen_same first s)) tree.nested; is = refl };
      grammar = grammar_stays s t same grammar;
    } in (
      t,
      record {
        tokens = all;
        are = lines_are_tokens first depth bytes all (lines_and_blank first depth s legible room);
        reads = record {
          upright = ap (λ o. indent_at o all) none;
          some = some_seen first s parsed class;
          chunk = subst (λ b. IsBlockOrPlain b first bytes all t) (sym (ap (map_or false is_block_word) none)) plain;
        };
      },
      same,
    )
