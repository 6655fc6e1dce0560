-- Tokens without newlines have the lexemes without newlines.
use Rattle.std.proofs.Common.{◌≡◌, ℕ, ◌&&◌, ◌||◌, not, List, [], ◌∷◌, ◌++◌, Bool, true, false, Option, Some, None, refl, sym, ap, ◌∙◌, inl, inr}
use Rattle.std.specs.Prelude.{codes, if◌then◌else◌}
use Rattle.std.specs.List.{list_any}
use Rattle.std.specs.Str.{bytes_eq}
use Rattle.std.proofs.lemmas.Bool.{false≢true, and_parts, or_parts, or_cases}
use Rattle.bz_token.specs.declared.token.Kind.{Kind}
use Rattle.bz_token.specs.declared.token.Kind.TheVariants.{Operator, Newline, Comment}
use Rattle.bz_token.specs.Brackets.{is_line}
use Rattle.bz_token.specs.Ends.{is_comment_kind}
use Rattle.bz_token.specs.Places.{Placed}
use Rattle.bz_token.specs.TokenLines.{is_newline_piece}
use Rattle.bz_tree.specs.Brackets.{is_line as is_line_mark, without_lines, end_line}
use Rattle.bz_tree.specs.declared.tree.kinds.Shape.TheVariants.{Round, Square, Curly}
use Rattle.bz_tree.specs.declared.tree.kinds.Mark.TheVariants.{Open, Close, Comma, Plain}
use Rattle.bz_tree.specs.Kinds.{kind_mark}
use Rattle.bz_tree.specs.Statement.{is_aside}
use Rattle.bz_tree.specs.Tree.{Statement, items_of}
use Rattle.bz_layout.specs.declared.spacing.Edge.TheVariants.{Start}
use Rattle.bz_layout.specs.declared.spacing.Gap.TheVariants.{Closed}
use Rattle.bz_layout.specs.Pieces.{Piece}
use Rattle.bz_layout.specs.Layout.{is_comment}
use Rattle.bz_layout_laws.specs.FreeLayout.{Choice, items_by, Stand}
use Rattle.bz_layout_laws.specs.Inside.{without_newlines}
use Rattle.bz_layout_laws.specs.Legible.{IsLegible}
use Rattle.bz_layout_laws.specs.Lexemes.{Lexeme, lexeme, end_after, is_on, lexemes_from, token_lexemes, suffix_lexemes, comment_line_lexemes}
use Rattle.bz_layout_laws.specs.ReadPieces.{piece_lexemes, read_pieces}
use Rattle.bz_layout_laws.proofs.NoLines.{items_no_line}
use Rattle.bz_layout_laws.proofs.FreeLexemes.{items_lexemes_by, line_lexemes_by, lexemes_by, HaveShapes}
use Rattle.bz_layout_laws.proofs.FreePieces.{items_written}
use Rattle.bz_layout_laws.proofs.Taken.{no_tokens}
use Rattle.bz_token.specs.Common.{is_filled}

-- each newline stands directly after a comment or a newline, or nothing stands after it
abbrev newlines_end : Bool → List Lexeme → Bool
newlines_end aside [] = true
newlines_end aside (l ∷ ls) = (if is_line l.kind then aside || not (is_filled ls) else true) && newlines_end (is_aside l.kind) ls

-- no operator is a newline
no_line : (a b c d e f g : Bool) → is_line_mark (if a then Open Round else (if b then Open Square else (if c then Open Curly else (if d then Close Round else (if e then Close Square else (if f then Close Curly else (if g then Comma else Plain))))))) ≡ false
no_line true b c d e f g = refl
no_line false true c d e f g = refl
no_line false false true d e f g = refl
no_line false false false true e f g = refl
no_line false false false false true f g = refl
no_line false false false false false true g = refl
no_line false false false false false false true = refl
no_line false false false false false false false = refl

pub line_mark : (kind : Kind) (text : List ℕ) → is_line_mark (kind_mark kind text) ≡ is_line kind
line_mark Operator text = no_line (bytes_eq text (codes "(")) (bytes_eq text (codes "[")) (bytes_eq text (codes "{")) (bytes_eq text (codes ")")) (bytes_eq text (codes "]")) (bytes_eq text (codes "}")) (bytes_eq text (codes ","))
line_mark _ text = refl

pub line_aside : (kind : Kind) → is_line kind ≡ true → is_aside kind ≡ true
line_aside Newline h = refl
line_aside Comment h = refl
line_aside _ h = h

none_after : (t : Placed) → is_aside t.kind ≡ true → end_after t ≡ None
none_after t h = ap (λ b. if b then None else Some (end_line t)) h

nothing_there : {A : Type 0} (xs : List A) → not (is_filled xs) ≡ true → xs ≡ []
nothing_there [] h = refl
nothing_there (x ∷ xs) h = absurd (false≢true h)

-- as `lexemes_from` has it
abbrev lexeme_at : Option ℕ → Placed → Lexeme
lexeme_at last t = record { kind = t.kind; text = t.text; beside = is_comment_kind t.kind && is_on last t.line }

unlined : (aside : Bool) (last : Option ℕ) (ts : List Placed) → (aside ≡ true → last ≡ None) → newlines_end aside (lexemes_from last ts) ≡ true → lexemes_from last (without_lines ts) ≡ without_newlines (lexemes_from last ts)
unlined aside last [] none h = refl
unlined aside last (t ∷ ts) none h =
    let parts = and_parts (if is_line t.kind then aside || not (is_filled (lexemes_from (end_after t) ts)) else true) (newlines_end (is_aside t.kind) (lexemes_from (end_after t) ts)) h in
    ap (λ b. lexemes_from last (if b then without_lines ts else t ∷ without_lines ts)) (line_mark t.kind t.text)
    ∙ by (is_line t.kind) refl parts.0 (unlined (is_aside t.kind) (end_after t) ts (none_after t) parts.1)
  where
    by : (b : Bool) → is_line t.kind ≡ b → (if b then aside || not (is_filled (lexemes_from (end_after t) ts)) else true) ≡ true
        → lexemes_from (end_after t) (without_lines ts) ≡ without_newlines (lexemes_from (end_after t) ts)
        → lexemes_from last (if b then without_lines ts else t ∷ without_lines ts) ≡ (if b then without_newlines (lexemes_from (end_after t) ts) else lexeme_at last t ∷ without_newlines (lexemes_from (end_after t) ts))
    by true is stands rest = elim (or_cases aside (not (is_filled (lexemes_from (end_after t) ts))) stands) [
      | inl after ↦ ap (λ l. lexemes_from l (without_lines ts)) (none after ∙ sym (none_after t (line_aside t.kind is))) ∙ rest
      | inr over ↦ ap (λ us. lexemes_from last (without_lines us)) (no_tokens (end_after t) ts (nothing_there (lexemes_from (end_after t) ts) over)) ∙ sym (ap without_newlines (nothing_there (lexemes_from (end_after t) ts) over))
    ]
    by false is stands rest = ap (λ l. lexeme_at last t ∷ l) rest

-- in the text of a statement they stand so
no_newline : (ls rest : List Lexeme) (aside : Bool) → list_any (λ l. is_line l.kind) ls ≡ false → ((a : Bool) → newlines_end a rest ≡ true) → newlines_end aside (ls ++ rest) ≡ true
no_newline [] rest aside none h = h aside
no_newline (l ∷ ls) rest aside none h =
    let parts = or_parts (is_line l.kind) (list_any (λ l. is_line l.kind) ls) none in
    ap (λ b. (if b then aside || not (is_filled (ls ++ rest)) else true) && newlines_end (is_aside l.kind) (ls ++ rest)) parts.0 ∙ no_newline ls rest (is_aside l.kind) parts.1 h

pub any_line : (ps : List Piece) → list_any (λ l. is_line l.kind) (piece_lexemes ps) ≡ list_any is_newline_piece (read_pieces ps)
any_line [] = refl
any_line (p ∷ ps) = ap (λ b. is_line p.kind || b) (any_line ps)

-- among the nodes stands none
pub nodes_none : (c : Choice) (s : Statement) → IsLegible s → Stand c (items_of s.nodes) → HaveShapes (items_of s.nodes) → list_any (λ l. is_line l.kind) (items_lexemes_by c (items_of s.nodes)) ≡ false
nodes_none c s h stands shapes =
    let ps = items_by c 0 None Closed Start (items_of s.nodes) in
    ap (list_any (λ l. is_line l.kind)) (sym (items_written c 0 None Closed Start (items_of s.nodes) refl stands shapes)) ∙ any_line ps ∙ (items_no_line c 0 None Closed Start (items_of s.nodes) h.nodes).none

newline_last : (suffix : Option (List ℕ)) (aside : Bool) → newlines_end aside (suffix_lexemes suffix ++ lexeme Newline (codes "\n") ∷ []) ≡ true
newline_last None true = refl
newline_last None false = refl
newline_last (Some text) aside = refl

above_end : (texts : List (List ℕ)) (rest : List Lexeme) (aside : Bool) → ((a : Bool) → newlines_end a rest ≡ true) → newlines_end aside (comment_line_lexemes texts ++ rest) ≡ true
above_end [] rest aside h = h aside
above_end (text ∷ texts) rest aside h = above_end texts rest true h

whole_end : (c : Choice) (s : Statement) → IsLegible s → Stand c (items_of s.nodes) → HaveShapes (items_of s.nodes) → newlines_end false (lexemes_by c s) ≡ true
whole_end c s h stands shapes = above_end s.before (if is_comment s.class then [] else line_lexemes_by c s) false (λ a. by (is_comment s.class) a)
  where
    by : (b a : Bool) → newlines_end a (if b then [] else line_lexemes_by c s) ≡ true
    by true a = refl
    by false a = no_newline (items_lexemes_by c (items_of s.nodes)) (suffix_lexemes s.suffix ++ lexeme Newline (codes "\n") ∷ []) a (nodes_none c s h stands shapes) (newline_last s.suffix)

pub lines_out : (c : Choice) (s : Statement) (tokens : List Placed) → IsLegible s → Stand c (items_of s.nodes) → HaveShapes (items_of s.nodes) → token_lexemes tokens ≡ lexemes_by c s → lexemes_from None (without_lines tokens) ≡ without_newlines (lexemes_by c s)
lines_out c s tokens h stands shapes e = unlined false None tokens (λ f. absurd (false≢true f)) (ap (newlines_end false) e ∙ whole_end c s h stands shapes) ∙ ap without_newlines e
