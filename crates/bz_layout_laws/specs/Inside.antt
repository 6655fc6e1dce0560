-- What stands in a bracket as lexemes, and the form of groups that parsing gives.
use Rattle.std.specs.Prelude.{◌≡◌, codes, ℕ, nat_le, List, [], ◌∷◌, ◌++◌, Bool, true, if◌then◌else◌}
use Rattle.bz_token.specs.declared.token.Kind.TheVariants.{Operator, Comment}
use Rattle.bz_token.specs.Brackets.{is_line}
use Rattle.bz_tree.specs.declared.tree.GroupKind.{GroupKind}
use Rattle.bz_tree.specs.declared.tree.GroupKind.TheVariants.{Paren}
use Rattle.bz_tree.specs.Kinds.{is_one}
use Rattle.bz_tree.specs.Cells.{Entry, a_node, a_comma, a_comment}
use Rattle.bz_tree.specs.Tree.{Segs, Segment, Statement}
use Rattle.bz_layout.specs.Walked.{count, is_broken, segs_hold}
use Rattle.bz_layout.specs.Layout.{has_commas}
use Rattle.bz_layout_laws.specs.Lexemes.{Lexeme, lexeme, item_lexemes}

abbrev pub entry_lexemes : Entry → List Lexeme
entry_lexemes (a_node x) = item_lexemes x
entry_lexemes a_comma = lexeme Operator (codes ",") ∷ []
entry_lexemes (a_comment beside text) = record { kind = Comment; text = text; beside = beside } ∷ []

abbrev pub entries_lexemes : List Entry → List Lexeme
entries_lexemes [] = []
entries_lexemes (e ∷ es) = entry_lexemes e ++ entries_lexemes es

-- a comma is written after the last segment
abbrev pub has_last_comma : GroupKind → Segs → Bool → List (List ℕ) → Bool
has_last_comma kind segs one_comma end = if is_broken kind segs end (segs_hold segs) then has_commas kind one_comma (count segs) else one_comma

-- an index or a comprehension has one segment, and so has `(x,)`
pub record HasShape (kind : GroupKind) (segs : Segs) (one_comma : Bool) : Type 0 where
  pub one : is_one kind ≡ true → nat_le (count segs) 1 ≡ true
  pub comma : one_comma ≡ true → (kind ≡ Paren) × (count segs ≡ 1)

abbrev pub without_newlines : List Lexeme → List Lexeme
without_newlines [] = []
without_newlines (l ∷ ls) = if is_line l.kind then without_newlines ls else l ∷ without_newlines ls

-- a statement as the one segment that stands outside brackets
abbrev pub own_segment : Statement → Segment
own_segment s = record { before = s.before; nodes = s.nodes; suffix = s.suffix }
