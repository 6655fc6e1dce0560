-- What stands outside brackets is written in one form.
use Rattle.std.proofs.Common.{◌≡◌, ℕ, List, [], ◌∷◌, ◌++◌, map, Bool, true, false, Option, Some, None, refl, sym, ap, ◌∙◌, append-nil}
use Rattle.std.specs.Prelude.{codes, if◌then◌else◌}
use Rattle.std.specs.List.{list_any}
use Rattle.std.proofs.lemmas.Bool.{or_parts}
use Rattle.bz_token.specs.declared.token.Kind.TheVariants.{Newline, Comment}
use Rattle.bz_token.specs.Brackets.{is_line}
use Rattle.bz_tree.specs.Cells.{a_node}
use Rattle.bz_tree.specs.Tree.{Item, Statement, items_of, list_of}
use Rattle.bz_layout_laws.specs.Written.{own_lines, suffix_entry, written_entries}
use Rattle.bz_layout.specs.declared.spacing.Edge.TheVariants.{Start}
use Rattle.bz_layout.specs.declared.spacing.Gap.TheVariants.{Closed}
use Rattle.bz_layout.specs.declared.broken.Style.TheVariants.{Broken}
use Rattle.bz_layout.specs.Layout.{is_comment}
use Rattle.bz_layout.specs.Walked.{items_pieces}
use Rattle.bz_layout_laws.specs.Inside.{entries_lexemes, own_segment, without_newlines}
use Rattle.bz_layout_laws.specs.FreeLayout.{Choice}
use Rattle.bz_layout_laws.specs.Legible.{IsLegible}
use Rattle.bz_layout_laws.specs.Lexemes.{Lexeme, lexeme, comment_lexemes, suffix_lexemes, items_lexemes, comment_line_lexemes, line_lexemes, lexemes_of}
use Rattle.bz_layout_laws.proofs.FreeLexemes.{items_lexemes_by, line_lexemes_by, lexemes_by}
use Rattle.bz_layout_laws.proofs.NoLines.{layout_no_line}
use Rattle.bz_layout_laws.proofs.Pieces.{items_pieces_are}
use Rattle.bz_layout_laws.proofs.Unlined.{any_line}
use Rattle.bz_layout_laws.proofs.Written.{own_lines_are, segment_is}

without_join : (xs ys : List Lexeme) → without_newlines (xs ++ ys) ≡ without_newlines xs ++ without_newlines ys
without_join [] ys = refl
without_join (x ∷ xs) ys = by (is_line x.kind) (without_join xs ys)
  where
    by : (b : Bool) → without_newlines (xs ++ ys) ≡ without_newlines xs ++ without_newlines ys → (if b then without_newlines (xs ++ ys) else x ∷ without_newlines (xs ++ ys)) ≡ (if b then without_newlines xs else x ∷ without_newlines xs) ++ without_newlines ys
    by true rest = rest
    by false rest = ap (λ l. x ∷ l) rest

-- lexemes without a newline
none_out : (ls : List Lexeme) → list_any (λ l. is_line l.kind) ls ≡ false → without_newlines ls ≡ ls
none_out [] h = refl
none_out (l ∷ ls) h =
    let q = or_parts (is_line l.kind) (list_any (λ l. is_line l.kind) ls) h in
    rw (q.0, none_out ls q.1) refl

nodes_stay : (s : Statement) → IsLegible s → without_newlines (items_lexemes (items_of s.nodes)) ≡ items_lexemes (items_of s.nodes)
nodes_stay s h =
    let ps = items_pieces Broken 0 None Closed Start (items_of s.nodes) in
    none_out (items_lexemes (items_of s.nodes)) (ap (list_any (λ l. is_line l.kind)) (sym (items_pieces_are 0 None Closed Start (items_of s.nodes) refl)) ∙ any_line ps ∙ (layout_no_line s h).none)

above : (texts : List (List ℕ)) → without_newlines (comment_line_lexemes texts) ≡ comment_lexemes texts
above [] = refl
above (text ∷ texts) = ap (λ l. lexeme Comment text ∷ l) (above texts)

aside : (suffix : Option (List ℕ)) → without_newlines (suffix_lexemes suffix ++ lexeme Newline (codes "\n") ∷ []) ≡ suffix_lexemes suffix
aside None = refl
aside (Some text) = refl

same_nodes : (xs : List Item) → list_of (items_of xs) ≡ xs
same_nodes [] = refl
same_nodes (x ∷ xs) = ap (λ l. x ∷ l) (same_nodes xs)

-- comments, nodes and the comment beside them, without newlines
pub line_out : (before : List (List ℕ)) (ns : List Lexeme) (suffix : Option (List ℕ)) → without_newlines ns ≡ ns
    → without_newlines (comment_line_lexemes before ++ (ns ++ (suffix_lexemes suffix ++ lexeme Newline (codes "\n") ∷ []))) ≡ comment_lexemes before ++ (ns ++ (suffix_lexemes suffix ++ []))
line_out before ns suffix stay =
    without_join (comment_line_lexemes before) (ns ++ (suffix_lexemes suffix ++ lexeme Newline (codes "\n") ∷ []))
    ∙ rw (above before, without_join ns (suffix_lexemes suffix ++ lexeme Newline (codes "\n") ∷ []), stay, aside suffix) (ap (λ l. comment_lexemes before ++ (ns ++ l)) (sym (append-nil (suffix_lexemes suffix))))

statement_line_is : (s : Statement) → IsLegible s → is_comment s.class ≡ false → without_newlines (lexemes_of s) ≡ comment_lexemes s.before ++ (items_lexemes (items_of s.nodes) ++ (suffix_lexemes s.suffix ++ []))
statement_line_is s h class =
    ap (λ b. without_newlines (comment_line_lexemes s.before ++ (if b then [] else line_lexemes s))) class ∙ line_out s.before (items_lexemes (items_of s.nodes)) s.suffix (nodes_stay s h)

-- in a free layout
pub free_line_is : (c : Choice) (s : Statement) → list_any (λ l. is_line l.kind) (items_lexemes_by c (items_of s.nodes)) ≡ false → is_comment s.class ≡ false
    → without_newlines (lexemes_by c s) ≡ comment_lexemes s.before ++ (items_lexemes_by c (items_of s.nodes) ++ (suffix_lexemes s.suffix ++ []))
free_line_is c s none class =
    ap (λ b. without_newlines (comment_line_lexemes s.before ++ (if b then [] else line_lexemes_by c s))) class ∙ line_out s.before (items_lexemes_by c (items_of s.nodes)) s.suffix (none_out (items_lexemes_by c (items_of s.nodes)) none)

pub free_comments_are : (c : Choice) (s : Statement) → is_comment s.class ≡ true → without_newlines (lexemes_by c s) ≡ comment_lexemes s.before
free_comments_are c s class =
    ap (λ b. without_newlines (comment_line_lexemes s.before ++ (if b then [] else line_lexemes_by c s))) class ∙ ap without_newlines (append-nil (comment_line_lexemes s.before)) ∙ above s.before

pub statement_written : (s : Statement) → IsLegible s → is_comment s.class ≡ false → without_newlines (lexemes_of s) ≡ entries_lexemes (written_entries false (own_segment s ∷ []) [])
statement_written s h class =
    statement_line_is s h class
    ∙ sym (segment_is s.before (items_of s.nodes) false s.suffix [])
    ∙ ap (λ xs. entries_lexemes (own_lines s.before ++ (map a_node xs ++ (suffix_entry s.suffix ++ [])))) (same_nodes s.nodes)

pub comments_written : (s : Statement) → is_comment s.class ≡ true → without_newlines (lexemes_of s) ≡ entries_lexemes (written_entries false [] s.before)
comments_written s class =
    ap (λ b. without_newlines (comment_line_lexemes s.before ++ (if b then [] else line_lexemes s))) class
    ∙ ap without_newlines (append-nil (comment_line_lexemes s.before)) ∙ above s.before ∙ sym (own_lines_are s.before)
