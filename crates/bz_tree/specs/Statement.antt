-- The statement that a list of tokens is: its tree, its class and its lines (this project's own form).
-- Begin with `IsStatementOf`.
use Rattle.std.specs.Prelude.{codes, ℕ, List, [], ◌∷◌, ◌++◌, map, Bool, true, false, if◌then◌else◌, ◌≡◌, ◌<◌, ◌^◌, Option}
use Rattle.bz_token.specs.declared.token.Kind.{Kind}
use Rattle.bz_token.specs.declared.token.Kind.TheVariants.{Comment as CommentToken, Newline, Kept}
use Rattle.bz_token.specs.Places.{Placed}
use Rattle.bz_tree.specs.declared.tree.GroupKind.TheVariants.{RuleCall}
use Rattle.bz_tree.specs.declared.tree.Class.{Class}
use Rattle.bz_tree.specs.declared.tree.Class.TheVariants.{Load, Assign, Rule, Other, Comment, Block}
use Rattle.bz_tree.specs.declared.tree.kinds.Preceding.TheVariants.{Other as OtherPreceding}
use Rattle.bz_tree.specs.Tree.{Item, leaf, group, Segment, Statement, is_operator_among, is_rule}
use Rattle.bz_tree.specs.Owners.{Inner, end_comments, cell_segment}
use Rattle.bz_tree.specs.Kinds.{is_load_word}
use Rattle.bz_tree.specs.Brackets.{AreNested, with_comma_nodes, end_line, without_lines}
use Rattle.bz_token.specs.Common.{first_of, last_of, map_or}
use Rattle.bz_token.specs.Lexical.{augmented}
use Rattle.std.specs.List.{list_any}
use Rattle.std.specs.Option.{option_or}

-- a call as one of a rule
abbrev pub as_rule_call : Item → Item
as_rule_call (leaf kind text) = leaf kind text
as_rule_call (group kind segs one_comma end) = group RuleCall segs one_comma end

-- What stands in a statement outside brackets (`inners`) is one cell, in which a comma is a node. Its segment has
-- the nodes and comments of the statement: the end comments of the cell stand before it too (comment lines alone
-- have no node, so all their comments are end comments). The call of a rule is made a `RuleCall`.
abbrev pub segment_of : List Inner → Segment
segment_of inners =
    let cell = with_comma_nodes true inners in
    let s = cell_segment cell in
    record {
      before = s.before ++ end_comments cell;
      nodes = (if is_rule s.nodes then map as_rule_call s.nodes else s.nodes);
      suffix = s.suffix;
    }

-- the assignment operators
abbrev pub assignments : List (List ℕ)
assignments = codes "=" ∷ augmented

-- an assignment operator
abbrev pub is_assign : Item → Bool
is_assign x = is_operator_among assignments x

-- the one node of a block, its text: `kept_statement` of `Blocks`, the next file but one, makes it, and no token
-- is one
abbrev pub is_kept : Item → Bool
is_kept (leaf Kept text) = true
is_kept _ = false

-- The class of a statement, by its nodes: without nodes it is comment lines alone. (`Class` is an enum of
-- `src/tree.rt`.)
abbrev pub class_of : List Item → Class
class_of [] = Comment
class_of (x ∷ xs) =
    if is_kept x then Block
    else (if is_load_word x then Load
    else (if list_any is_assign (x ∷ xs) then Assign
    else (if is_rule (x ∷ xs) then Rule
    else Other)))

-- a comment or a newline
abbrev pub is_aside : Kind → Bool
is_aside CommentToken = true
is_aside Newline = true
is_aside _ = false

-- the tokens without comments and newlines
abbrev pub bare_tokens : List Placed → List Placed
bare_tokens [] = []
bare_tokens (t ∷ ts) = if is_aside t.kind then bare_tokens ts else t ∷ bare_tokens ts

-- the first token of a statement, comments not counted
abbrev pub first_token : List Placed → Option Placed
first_token tokens = first_of (bare_tokens tokens)

-- the last token, comments not counted
abbrev pub last_token : List Placed → Option Placed
last_token tokens = last_of (bare_tokens tokens)

-- the first token or comment
abbrev pub first_seen : List Placed → Option Placed
first_seen tokens = first_of (without_lines tokens)

-- the last token or comment
abbrev pub last_seen : List Placed → Option Placed
last_seen tokens = last_of (without_lines tokens)

-- the line of the first token; comments count only where nothing else is there
abbrev pub start_of : List Placed → ℕ
start_of tokens = map_or 0 (λ t. t.line) (option_or (first_token tokens) (first_seen tokens))

-- the line on which the last token ends
abbrev pub end_of : List Placed → ℕ
end_of tokens = map_or 0 end_line (option_or (last_token tokens) (last_seen tokens))

-- a segment of these tokens as a statement: its three parts, and the class and the lines
abbrev pub statement_with : List Placed → Segment → Statement
statement_with tokens s = record {
  before = s.before;
  nodes = s.nodes;
  suffix = s.suffix;
  class = class_of s.nodes;
  start = start_of tokens;
  end = end_of tokens;
}

-- The statement of the tokens, by their brackets, its comments with their owners.
pub record IsStatementOf (tokens : List Placed) (s : Statement) : Type 0 where
  pub inners : List Inner
  pub nested : AreNested OtherPreceding (without_lines tokens) inners
  pub is : s ≡ statement_with tokens (segment_of inners)

-- each token ends on a line that can be counted
abbrev pub EndsFit : List Placed → Type 0
EndsFit [] = Unit {0}
EndsFit (t ∷ ts) = (end_line t < 2 ^ 64) × EndsFit ts
