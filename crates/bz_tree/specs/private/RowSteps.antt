-- For private clauses: the walk over the tokens of a statement that pushes the parts of its row.
use Rattle.std.specs.Prelude.{◌≡◌, ℕ, ◌+◌, ◌==◌, count_by, List, [], ◌∷◌, ◌++◌, map, reverse, Bool, true, false, not, ◌||◌, ◌&&◌, if◌then◌else◌, Option, Some, None, is_some, option_map, option_and_then, codes}
use Rattle.std.specs.Bool.{then_some}
use Rattle.bz_token.specs.declared.token.Kind.{Kind}
use Rattle.bz_token.specs.declared.token.Kind.TheVariants.{Integer, String as StringKind}
use Rattle.bz_token.specs.Places.{Placed}
use Rattle.bz_tree.specs.declared.tree.GroupKind.{GroupKind}
use Rattle.bz_tree.specs.declared.tree.GroupKind.TheVariants.{RuleCall, Paren, List as ListKind}
use Rattle.bz_tree.specs.declared.tree.Class.{Class}
use Rattle.bz_tree.specs.declared.tree.Class.TheVariants.{Assign, Rule, Load as LoadClass, Comment as CommentClass, Other as OtherClass}
use Rattle.bz_tree.specs.declared.tree.kinds.Shape.{Shape}
use Rattle.bz_tree.specs.declared.tree.kinds.Mark.{Mark}
use Rattle.bz_tree.specs.declared.tree.kinds.Mark.TheVariants.{Open, Close, Comma, Comment, Newline, Plain}
use Rattle.bz_tree.specs.declared.tree.kinds.Preceding.TheVariants.{Operand, Other}
use Rattle.bz_tree.specs.declared.grammar.role.Role.{Role}
use Rattle.bz_tree.specs.declared.grammar.role.Role.TheVariants.{Stray}
use Rattle.bz_tree.specs.declared.grammar.stage.Stage.{Stage}
use Rattle.bz_tree.specs.declared.grammar.stage.Stage.TheVariants.{Statement, Text, Done}
use Rattle.bz_tree.specs.declared.tree.classes.Naming.{Naming}
use Rattle.bz_tree.specs.declared.tree.classes.Naming.TheVariants.{Name, Join, End, Never, Lost}
use Rattle.bz_tree.specs.declared.row.spot.SegmentCount.{SegmentCount}
use Rattle.bz_tree.specs.declared.row.spot.SegmentCount.TheVariants.{Zero, One, More}
use Rattle.bz_tree.specs.declared.row.spot.Here.{Here}
use Rattle.bz_tree.specs.declared.row.spot.Here.TheVariants.{Nothing, Comma as AfterComma, Node as AfterNode, Ended}
use Rattle.bz_tree.specs.declared.row.spot.Read.{Read}
use Rattle.bz_tree.specs.declared.row.spot.Spot.{Spot}
use Rattle.bz_tree.specs.declared.row.rows.RowWalk.{RowWalk}
use Rattle.bz_tree.specs.declared.row.Row.{Row}
use Rattle.bz_tree.specs.Kinds.{mark_of, group_kind, is_one}
use Rattle.bz_tree.specs.Brackets.{is_paren, end_line}
use Rattle.bz_tree.specs.Blocks.{is_block_word}
use Rattle.bz_tree.specs.private.Productions.{is_assignment}
use Rattle.bz_tree.specs.Tree.{is_call}
use Rattle.bz_tree.specs.private.KindSteps.{is_ident, kind_after, is_for_at, same_shape, is_operator_at}
use Rattle.bz_tree.specs.Rows.{RowPart, a_token, opening, closing, segment_end, above, beside, part_view}
use Rattle.bz_tree.specs.private.Machine.{next, begin, later, may_end, group_role, kind_role}
use Rattle.bz_tree.specs.private.Steps.{shape_of}

-- Where the walk stands in a bracket: no node of a segment has come, and no comma directly before; directly after a comma on this
-- line; directly after a node that ends on this line; after the end of the last segment.
pub data At : Type 0 where
  nothing : At
  a_comma : ℕ → At
  a_node : ℕ → At
  an_end : At

abbrev pub here_view : Here → At
here_view Nothing = nothing
here_view (AfterComma line) = a_comma line
here_view (AfterNode line text) = a_node (line + count_by (λ b. b == 10) text.now)
here_view Ended = an_end

abbrev pub is_ended : At → Bool
is_ended an_end = true
is_ended _ = false

-- the beginning of a rule, after one more token
abbrev pub named : Naming → Kind → List ℕ → Naming
named Name kind text = if is_ident kind then Join else Never
named Join kind text = if is_operator_at (codes ".") kind text then Name else Never
named Never kind text = Never
named End kind text = Lost
named Lost kind text = Lost

-- after a bracket
abbrev pub called : Naming → GroupKind → Naming
called Name kind = Never
called Join kind = if is_call kind then End else Never
called Never kind = Never
called End kind = Lost
called Lost kind = Lost

-- as what a bracket is shown that opens here
abbrev pub shown_kind : Naming → GroupKind → GroupKind
shown_kind Join kind = if is_call kind then RuleCall else kind
shown_kind _ kind = kind

-- the nodes of a segment so far
abbrev pub start : Option GroupKind → Read
start None = record { stage = Statement; at = Other; naming = Name; assigns = false }
start (Some kind) = record { stage = begin kind; at = Other; naming = Never; assigns = false }

abbrev pub read_leaf : Kind → List ℕ → Read → Read
read_leaf kind text r = record {
  stage = next r.stage (kind_role kind text);
  at = kind_after kind text;
  naming = named r.naming kind text;
  assigns = r.assigns || is_assignment (kind_role kind text);
}

abbrev pub read_group : GroupKind → Read → Read
read_group kind r = record { stage = next r.stage (group_role kind); at = Operand; naming = called r.naming kind; assigns = r.assigns }

abbrev pub one_more : SegmentCount → SegmentCount
one_more Zero = One
one_more _ = More

-- a bracket that is open, or the top
pub record Stand : Type 0 where
  pub kind : Option GroupKind
  pub done : SegmentCount
  pub here : At
  pub read : Read

abbrev pub stand : Spot → Stand
stand s = record { kind = s.kind; done = s.done; here = here_view s.here; read = s.read }

abbrev pub new_stand : Option GroupKind → Stand
new_stand kind = record { kind = kind; done = Zero; here = nothing; read = start kind }

-- after one more node, which ends on this line
abbrev pub with_node : ℕ → Read → Stand → Stand
with_node line read s = record { kind = s.kind; done = s.done; here = a_node line; read = read }

-- a segment is done, and then a comma is on this line; what is read stays
abbrev pub ended_at : ℕ → Stand → Stand
ended_at line s = record { kind = s.kind; done = one_more s.done; here = a_comma line; read = s.read }

-- after a comma on this line
abbrev pub with_comma : ℕ → Stand → Stand
with_comma line s = record { kind = s.kind; done = one_more s.done; here = a_comma line; read = record (start s.kind) { stage = later (start s.kind).stage } }

-- the bracket that is open here, those around it, the innermost first, and the parts so far
pub record RowState : Type 0 where
  pub top : Stand
  pub outer : List Stand
  pub parts : List RowPart

abbrev pub row_state : RowWalk → RowState
row_state w = record { top = stand w.top; outer = reverse (map stand w.outer.items); parts = map part_view w.parts.items }

abbrev pub step_to : Stand → List RowPart → RowState → RowState
step_to top parts s = record { top = top; outer = s.outer; parts = s.parts ++ parts }

abbrev pub is_stray : Role → Bool
is_stray Stray = true
is_stray _ = false

abbrev pub is_refused : Placed → At → Bool
is_refused t here = is_stray (kind_role t.kind t.text) || (is_for_at t.kind t.text || is_ended here)

-- Each of the following is none where the statement is left to its tree.
abbrev pub leaf_next : Placed → RowState → Option RowState
leaf_next t s =
    if is_refused t s.top.here then None
    else Some (step_to (with_node (end_line t) (read_leaf t.kind t.text s.top.read) s.top) (a_token t.kind t.text ∷ []) s)

abbrev pub comma_next : Option GroupKind → At → Placed → RowState → Option RowState
comma_next None here t s = leaf_next t s
comma_next (Some kind) (a_node end) t s = if may_end s.top.read.stage then Some (step_to (with_comma t.line s.top) (segment_end ∷ []) s) else None
comma_next (Some kind) _ t s = None

abbrev pub is_value : Kind → Bool
is_value StringKind = true
is_value Integer = true
is_value _ = false

-- a list or a tuple
abbrev pub is_list : Option GroupKind → Bool
is_list (Some Paren) = true
is_list (Some ListKind) = true
is_list _ = false

-- an element that is one token, and the comma on this line
abbrev pub after_element : Kind → List ℕ → ℕ → RowState → RowState
after_element kind text line s = step_to (ended_at line s.top) (a_token kind text ∷ segment_end ∷ []) s

-- the next segment of this bracket begins, if one is open
abbrev pub IsAfterComma : Option GroupKind → Stand → Type 0
IsAfterComma None s = Unit {0}
IsAfterComma (Some kind) s = (is_ended s.here ≡ false) × (s.read ≡ record (start (Some kind)) { stage = later (start (Some kind)).stage })

-- a comment that is on the line of what stands before it, or not
abbrev pub comment_part : Bool → List ℕ → RowPart
comment_part true text = beside text
comment_part false text = above text

abbrev pub after_comment_next : Option GroupKind → Bool → List ℕ → RowState → Option RowState
after_comment_next None true text s = Some (step_to (record (s.top) { here = an_end }) (beside text ∷ []) s)
after_comment_next None false text s = None
after_comment_next (Some kind) on text s = Some (step_to (record (s.top) { here = an_end }) (segment_end ∷ comment_part on text ∷ []) s)

abbrev pub comment_next : At → ℕ → List ℕ → RowState → Option RowState
comment_next nothing line text s = Some (step_to s.top (above text ∷ []) s)
comment_next (a_comma end) line text s = Some (step_to (record (s.top) { here = nothing }) (comment_part (end == line) text ∷ []) s)
comment_next (a_node end) line text s = after_comment_next s.top.kind (end == line) text s
comment_next an_end line text s = then_some (is_some s.top.kind) (step_to s.top (above text ∷ []) s)

abbrev pub open_next : GroupKind → RowState → Option RowState
open_next kind s =
    if is_one kind then None
    else Some (record { top = new_stand (Some kind); outer = s.top ∷ s.outer; parts = s.parts ++ opening (shown_kind s.top.read.naming kind) ∷ [] })

-- the first segment of a load, which has one
abbrev pub is_text : Stage → Bool
is_text Text = true
is_text _ = false

-- what ends the last segment, if it may end
abbrev pub last_end : At → Stage → Option (List RowPart)
last_end nothing stage = if is_text stage then None else Some []
last_end (a_comma line) stage = Some []
last_end (a_node line) stage = if may_end stage then Some (segment_end ∷ []) else None
last_end an_end stage = if may_end stage then Some [] else None

abbrev pub is_single : SegmentCount → Bool
is_single One = true
is_single _ = false

abbrev pub has_node : At → Bool
has_node nothing = false
has_node (a_comma line) = false
has_node _ = true

-- `(x,)`
abbrev pub is_one_comma : GroupKind → Stand → Bool
is_one_comma kind s = if has_node s.here then false else (is_paren kind && is_single s.done)

abbrev pub close_below : GroupKind → ℕ → List RowPart → List Stand → RowState → Option RowState
close_below kind line parts [] s = None
close_below kind line parts (below ∷ outer) s =
    if is_ended below.here then None
    else Some (record { top = with_node line (read_group kind below.read) below; outer = outer; parts = (s.parts ++ parts) ++ closing (is_one_comma kind s.top) ∷ [] })

abbrev pub close_next : Option GroupKind → Shape → ℕ → RowState → Option RowState
close_next None shape line s = None
close_next (Some kind) shape line s =
    if same_shape (Some (shape_of kind)) shape
    then option_and_then (λ parts. close_below kind line parts s.outer s) (last_end s.top.here s.top.read.stage)
    else None

abbrev pub row_next_at : Mark → Placed → RowState → Option RowState
row_next_at Newline t s = Some s
row_next_at Plain t s = leaf_next t s
row_next_at Comma t s = comma_next s.top.kind s.top.here t s
row_next_at Comment t s = comment_next s.top.here t.line t.text s
row_next_at (Open shape) t s = open_next (group_kind shape s.top.read.at false) s
row_next_at (Close shape) t s = close_next s.top.kind shape t.line s

-- its parts and its class
pub record RowView : Type 0 where
  pub parts : List RowPart
  pub class : Class

abbrev pub row_view : Row → RowView
row_view row = record { parts = map part_view row.parts.items; class = row.class }

abbrev pub is_rule_read : Naming → Bool
is_rule_read End = true
is_rule_read _ = false

abbrev pub is_lost : Naming → Bool
is_lost Lost = true
is_lost _ = false

abbrev pub is_done : Stage → Bool
is_done Done = true
is_done _ = false

abbrev pub read_class : Read → Class
read_class r = if is_done r.stage then LoadClass else (if r.assigns then Assign else (if is_rule_read r.naming then Rule else OtherClass))

-- the class of a statement that ends here; none: it is left to its tree
abbrev pub end_class : At → Read → Option Class
end_class nothing r = Some CommentClass
end_class _ r = then_some (may_end r.stage && not (is_lost r.naming)) (read_class r)

abbrev pub row_end : Option GroupKind → List Stand → RowState → Option RowView
row_end None [] s = option_map (λ class. record { parts = s.parts; class = class }) (end_class s.top.here s.top.read)
row_end _ outer s = None

abbrev pub row_run : RowState → List Placed → Option RowView
row_run s [] = row_end s.top.kind s.outer s
row_run s (t ∷ ts) = option_and_then (λ r. row_run r ts) (row_next_at (mark_of t) t s)

abbrev pub row_start : RowState
row_start = record { top = new_stand None; outer = []; parts = [] }

-- the statement begins in column 1, and is no block, or it is comment lines alone
abbrev pub is_upright : Option Placed → Bool
is_upright None = true
is_upright (Some t) = (t.col == 1) && not (is_block_word t)
