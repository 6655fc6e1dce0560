-- Worked examples of the definitions.
use Rattle.std.proofs.Common.{◌≡◌, ℕ, List, [], ◌∷◌, ◌++◌, Bool, true, false, Some, None, refl, sym, ap}
use Rattle.std.specs.Str.{bytes_eq}
use Rattle.std.proofs.lemmas.Bool.{false≢true}
use Rattle.std.specs.Prelude.{codes}
use Rattle.bz_token.specs.declared.token.Kind.{Kind}
use Rattle.bz_token.specs.declared.token.Kind.TheVariants.{Identifier, Keyword, Operator, Newline, Comment as CommentToken}
use Rattle.bz_token.specs.Places.{Placed}
use Rattle.bz_tree.specs.declared.tree.Class.TheVariants.{Comment, Other}
use Rattle.bz_tree.specs.declared.tree.GroupKind.TheVariants.{Call}
use Rattle.bz_tree.specs.Tree.{Item, leaf, group, is_rule, no_items, item, no_segs, seg, Statement}
use Rattle.bz_tree.specs.Brackets.{leaf_of}
use Rattle.bz_tree.specs.Owners.{node, comma, comment, inside, no_empty_cell}
use Rattle.bz_tree.specs.Statement.{class_of, start_of}
use Rattle.bz_tree.specs.Blocks.{above, block_indent, ends_open, has_header_colon, is_block, logical_lines}
use Rattle.bz_tree.specs.Chunk.{indent_fault}
use Rattle.bz_tree.specs.Comments.{Lists, owners_of, AreDealt}

abbrev x : Placed
x = record { kind = Identifier; text = codes "x"; line = 1; col = 1; fresh = true }

abbrev pub at : Kind → List ℕ → ℕ → ℕ → Placed
at kind text line col = record { kind = kind; text = text; line = line; col = col; fresh = false }

abbrev pub a : List ℕ
a = codes "# a"

abbrev pub b : List ℕ
b = codes "# b"

-- after the last comma on its line: the last segment's suffix; on the next line: an end comment
after_last_comma : inside (node 1 (leaf_of x) ∷ comma (at Operator (codes ",") 1 2) ∷ comment 1 a ∷ comment 2 b ∷ []) ≡ record { segs = record { before = []; nodes = leaf_of x ∷ []; suffix = Some a } ∷ []; trailing = true; end = b ∷ [] }
after_last_comma = refl

-- between a node and its comma on the next line: the suffix of its segment
before_comma : inside (node 1 (leaf_of x) ∷ comment 1 a ∷ comma (at Operator (codes ",") 2 1) ∷ node 2 (leaf_of x) ∷ [])
    ≡ record { segs = record { before = []; nodes = leaf_of x ∷ []; suffix = Some a } ∷ record { before = []; nodes = leaf_of x ∷ []; suffix = None } ∷ []; trailing = false; end = [] }
before_comma = refl

-- above a node: before its segment
above_node : inside (comment 1 a ∷ node 2 (leaf_of x) ∷ []) ≡ record { segs = record { before = a ∷ []; nodes = leaf_of x ∷ []; suffix = None } ∷ []; trailing = false; end = [] }
above_node = refl

-- `# b` above `(x # a`, and `# b` before the closing bracket: the comments above and after the statement, those above and after the
-- segment, those at the bracket's end
abbrev in_brackets : Statement
in_brackets = record { before = b ∷ []; nodes = group Call (seg [] (item (leaf_of x) no_items) (Some a) no_segs) false (b ∷ []) ∷ []; suffix = None; class = Other; start = 2; end = 4 }

five_owners : owners_of in_brackets ≡ (b ∷ []) ∷ [] ∷ [] ∷ (a ∷ []) ∷ (b ∷ []) ∷ []
five_owners = refl

-- `# a` and `# b` of one owner are not dealt to it the other way round
abbrev begins_with_b : Lists → Bool
begins_with_b ((text ∷ texts) ∷ lists) = bytes_eq text b
begins_with_b _ = false

not_first : (front back : Lists) (rest : List (List ℕ)) → (b ∷ a ∷ []) ∷ [] ≡ front ++ (a ∷ rest) ∷ back → ⊥
not_first [] back rest e = absurd (false≢true (sym (ap begins_with_b e)))
not_first (list ∷ []) back rest e = cc
not_first (list ∷ other ∷ front) back rest e = cc

not_turned : AreDealt (a ∷ b ∷ []) ((b ∷ a ∷ []) ∷ []) → ⊥
not_turned d = not_first d.1.front d.1.back d.1.rest d.1.lists_are

-- `[ # a`, `x + # b`, `y`, `, # a`, `x # b`, `]`: above the last node of its segment, beside the comma, beside the last node
between_operands : inside (comment 1 a ∷ node 2 (leaf_of x) ∷ comment 2 b ∷ node 3 (leaf_of x) ∷ comma (at Operator (codes ",") 4 1) ∷ comment 4 a ∷ node 5 (leaf_of x) ∷ comment 5 b ∷ [])
    ≡ record { segs = record { before = a ∷ b ∷ []; nodes = leaf_of x ∷ leaf_of x ∷ []; suffix = Some a } ∷ record { before = []; nodes = leaf_of x ∷ []; suffix = Some b } ∷ []; trailing = false; end = [] }
between_operands = refl

-- beside the node and beside its comma: the first is the suffix
two_beside : inside (node 1 (leaf_of x) ∷ comment 1 a ∷ comma (at Operator (codes ",") 2 1) ∷ comment 2 b ∷ comment 3 a ∷ []) ≡ record { segs = record { before = b ∷ []; nodes = leaf_of x ∷ []; suffix = Some a } ∷ []; trailing = true; end = a ∷ [] }
two_beside = refl

-- comments alone are end comments
no_segment : inside (comment 1 a ∷ comment 2 b ∷ []) ≡ record { segs = []; trailing = false; end = a ∷ b ∷ [] }
no_segment = refl

-- no segment is empty
two_commas : no_empty_cell (node 1 (leaf_of x) ∷ comma (at Operator (codes ",") 1 2) ∷ comma (at Operator (codes ",") 1 3) ∷ []) ≡ false
two_commas = refl

-- `x = 1` and a comment
lines_of_one : start_of (at CommentToken a 1 1 ∷ at Newline (10 ∷ []) 1 4 ∷ at Identifier (codes "x") 2 1 ∷ at CommentToken b 2 3 ∷ []) ≡ 2
lines_of_one = refl

-- `def f:`, two columns on `x`, one column on `y`
wrong_indent : block_indent (at Keyword (codes "def") 1 1 ∷ at Identifier (codes "f") 1 5 ∷ at Operator (codes ":") 1 6 ∷ at Newline (10 ∷ []) 1 7 ∷ at Identifier (codes "x") 2 3 ∷ at Newline (10 ∷ []) 2 4 ∷ at Identifier (codes "y") 3 2 ∷ []) ≡ Some 3
wrong_indent = refl

right_indent : block_indent (at Keyword (codes "def") 1 1 ∷ at Identifier (codes "f") 1 5 ∷ at Operator (codes ":") 1 6 ∷ at Newline (10 ∷ []) 1 7 ∷ at Identifier (codes "x") 2 3 ∷ at Newline (10 ∷ []) 2 4 ∷ at Identifier (codes "y") 3 3 ∷ []) ≡ None
right_indent = refl

-- a header without anything after its colon
open_block : is_block (at Keyword (codes "def") 1 1 ∷ at Identifier (codes "f") 1 5 ∷ at Operator (codes ":") 1 6 ∷ at Newline (10 ∷ []) 1 7 ∷ []) ≡ false
open_block = refl

second_column : indent_fault (at Identifier (codes "x") 4 2 ∷ []) ≡ Some 4
second_column = refl

nothing_there : class_of [] ≡ Comment
nothing_there = refl

-- `x.x()` is a rule, `x.()` and `x()()` are none
abbrev dot : Item
dot = leaf Operator (codes ".")

abbrev call : Item
call = group Call no_segs false []

dotted_rule : is_rule (leaf_of x ∷ dot ∷ leaf_of x ∷ call ∷ []) ≡ true
dotted_rule = refl

no_name : is_rule (leaf_of x ∷ dot ∷ call ∷ []) ≡ false
no_name = refl

two_calls : is_rule (leaf_of x ∷ call ∷ call ∷ []) ≡ false
two_calls = refl

-- two comment lines above `x`, which ends its line with a comment, and an empty line
abbrev newline : Placed
newline = at Newline (10 ∷ []) 1 9

abbrev lines : List Placed
lines = at CommentToken a 1 1 ∷ newline ∷ at CommentToken b 2 1 ∷ newline ∷ x ∷ at CommentToken a 3 3 ∷ newline ∷ newline ∷ []

four_lines : logical_lines lines ≡ [] ∷ [] ∷ (x ∷ []) ∷ [] ∷ [] ∷ []
four_lines = refl

both_above : above lines ≡ a ∷ b ∷ []
both_above = refl

-- a colon in brackets is none of the header
in_brackets_only : has_header_colon (at Keyword (codes "if") 1 1 ∷ at Operator (codes "[") 1 4 ∷ at Operator (codes ":") 1 5 ∷ at Operator (codes "]") 1 6 ∷ newline ∷ []) ≡ false
in_brackets_only = refl

last_colon : ends_open (x ∷ at Operator (codes ":") 1 2 ∷ []) ≡ true
last_colon = refl
