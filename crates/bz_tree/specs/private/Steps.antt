-- For private clauses: the walk over what stands in one bracket, and the walk over the tokens with a stack of open brackets.
use Rattle.std.specs.Prelude.{ℕ, ◌+◌, ◌==◌, count_by, List, [], ◌∷◌, ◌++◌, map, reverse, Bool, true, false, not, ◌&&◌, if◌then◌else◌, Option, Some, None, option_map, option_and_then}
use Rattle.bz_tree.specs.declared.tree.GroupKind.{GroupKind}
use Rattle.bz_tree.specs.declared.tree.GroupKind.TheVariants.{Call, RuleCall, Load, Paren, List as ListKind, Index, Dict, ListComp, DictComp}
use Rattle.bz_tree.specs.declared.tree.kinds.Shape.{Shape}
use Rattle.bz_tree.specs.declared.tree.kinds.Shape.TheVariants.{Round, Square, Curly}
use Rattle.bz_tree.specs.declared.tree.kinds.Mark.{Mark}
use Rattle.bz_tree.specs.declared.tree.kinds.Mark.TheVariants.{Open, Close, Newline}
use Rattle.bz_tree.specs.declared.tree.kinds.Preceding.{Preceding}
use Rattle.bz_tree.specs.declared.tree.kinds.Preceding.TheVariants.{Other}
use Rattle.bz_tree.specs.declared.tree.owners.Before.{Before}
use Rattle.bz_tree.specs.declared.tree.owners.Before.TheVariants.{Nothing, Node as BeforeNode, Comma as BeforeComma}
use Rattle.bz_tree.specs.declared.tree.owners.Walk.{Walk}
use Rattle.bz_tree.specs.declared.tree.owners.Inside.{Inside as RustInside}
use Rattle.bz_tree.specs.declared.tree.build.Frame.{Frame}
use Rattle.bz_tree.specs.declared.tree.build.State.{State}
use Rattle.bz_token.specs.Places.{Placed}
use Rattle.bz_tree.specs.Tree.{Item, Segment}
use Rattle.bz_tree.specs.Comments.{beside as texts_of}
use Rattle.bz_tree.specs.View.{text_of, texts, node_view, seg_view}
use Rattle.bz_tree.specs.Kinds.{mark_of, is_one, group_kind}
use Rattle.bz_tree.specs.private.KindSteps.{same_shape}
use Rattle.bz_tree.specs.Owners.{Inner, node, comma, comment, Inside}
use Rattle.bz_tree.specs.Cells.{Last, no_token, end_of_node, end_of_comma, is_on}
use Rattle.bz_tree.specs.Brackets.{leaf_of, preceding, is_for_item, group_with}
use Rattle.bz_tree.specs.Elements.{own_of}
use Rattle.bz_tree.specs.Elements.{segment_with}
use Rattle.bz_token.specs.Common.{is_filled}

-- One bracket: the segments that are done, and of the segment here its nodes, the comments before its last node, its suffix so far, the comments after that.
pub record Walked : Type 0 where
  pub segs : List Segment
  pub before : List (List ℕ)
  pub nodes : List Item
  pub suffix : Option (List ℕ)
  pub after : List (List ℕ)
  pub last : Last
  pub trailing : Bool

abbrev pub last_view : Before → Last
last_view Nothing = no_token
last_view (BeforeNode line text) = end_of_node (line + count_by (λ b. b == 10) text.now)
last_view (BeforeComma line) = end_of_comma line

abbrev pub walked : Walk → Walked
walked w = record { segs = map seg_view w.segs.items; before = texts w.here.before.items; nodes = map node_view w.here.nodes.items; suffix = option_map text_of w.here.suffix; after = texts w.after.items; last = last_view w.last; trailing = w.trailing }

abbrev pub inside_view : RustInside → Inside
inside_view i = record { segs = map seg_view i.segs.items; trailing = i.trailing; end = texts i.end.items }

abbrev pub at_start : Walked
at_start = record { segs = []; before = []; nodes = []; suffix = None; after = []; last = no_token; trailing = false }

abbrev pub after_node : ℕ → Item → Walked → Walked
after_node line x w = record { segs = w.segs; before = w.before ++ (texts_of w.suffix ++ w.after); nodes = w.nodes ++ x ∷ []; suffix = None; after = []; last = end_of_node line; trailing = false }

abbrev pub after_comma : ℕ → Walked → Option Walked
after_comma line w = after_nodes w.nodes
  where
    after_nodes : List Item → Option Walked
    after_nodes [] = None
    after_nodes (x ∷ xs) = Some (record { segs = w.segs ++ record { before = w.before ++ w.after; nodes = x ∷ xs; suffix = w.suffix } ∷ []; before = []; nodes = []; suffix = None; after = []; last = end_of_comma line; trailing = true })

-- one more comment after a segment's comma
abbrev pub add_beside : List ℕ → Segment → Segment
add_beside text s = beside s.suffix
  where
    beside : Option (List ℕ) → Segment
    beside None = record { before = s.before; nodes = s.nodes; suffix = Some text }
    beside (Some other) = record { before = s.before ++ text ∷ []; nodes = s.nodes; suffix = Some other }

abbrev pub to_last : List ℕ → List Segment → List Segment
to_last text [] = []
to_last text (s ∷ []) = add_beside text s ∷ []
to_last text (s ∷ r ∷ ss) = s ∷ to_last text (r ∷ ss)

abbrev pub commented : Last → Bool → List ℕ → Walked → Walked
commented (end_of_node end) true text w = record w { suffix = Some text; last = no_token }
commented (end_of_comma end) true text w = record w { segs = to_last text w.segs; last = no_token }
commented last on text w = record w { after = w.after ++ text ∷ []; last = no_token }

abbrev pub after_comment : ℕ → List ℕ → Walked → Walked
after_comment line text w = commented w.last (is_on w.last line) text w

abbrev pub done : Walked → Inside
done w = at_end w.nodes
  where
    at_end : List Item → Inside
    at_end [] = record { segs = w.segs; trailing = w.trailing; end = w.after }
    at_end (x ∷ xs) = record { segs = w.segs ++ record { before = w.before; nodes = x ∷ xs; suffix = w.suffix } ∷ []; trailing = w.trailing; end = w.after }

-- what was walked over, unless a segment is empty
abbrev pub so_far : Walk → Option Walked
so_far w = if w.whole then Some (walked w) else None

-- no comma was met
abbrev pub is_in_first : Option Walked → Bool
is_in_first None = false
is_in_first (Some w) = not (is_filled w.segs)

abbrev pub shape_of : GroupKind → Shape
shape_of Call = Round
shape_of RuleCall = Round
shape_of Load = Round
shape_of Paren = Round
shape_of ListKind = Square
shape_of Index = Square
shape_of ListComp = Square
shape_of Dict = Curly
shape_of DictComp = Curly

-- what a bracket is once `for` stands in its first segment
abbrev pub as_comprehension : Option GroupKind → Option GroupKind
as_comprehension (Some ListKind) = Some ListComp
as_comprehension (Some Dict) = Some DictComp
as_comprehension kind = kind

-- its commas are nodes, as at the top
abbrev pub has_one : Option GroupKind → Bool
has_one None = true
has_one (Some kind) = is_one kind

abbrev pub is_for : Inner → Bool
is_for (node line x) = is_for_item x
is_for (comma t) = false
is_for (comment line text) = false

-- one more thing, unless a segment is empty; where all is one segment, a comma is a node
abbrev pub after_own : Bool → Inner → Option Walked → Option Walked
after_own one (node line x) w = option_map (after_node line x) w
after_own one (comment line text) w = option_map (after_comment line text) w
after_own true (comma t) w = option_map (after_node t.line (leaf_of t)) w
after_own false (comma t) w = option_and_then (after_comma t.line) w

-- The stack of open brackets: what each is so far (nothing at the top), the walk over it, and what stands directly before what comes next.
pub record Level : Type 0 where
  pub kind : Option GroupKind
  pub walked : Option Walked
  pub at : Preceding

abbrev pub level : Frame → Level
level f = record { kind = f.kind; walked = so_far f.walk; at = f.at }

-- the innermost first
abbrev pub levels : List Frame → List Level
levels fs = reverse (map level fs)

abbrev pub Levels : Type 0
Levels = Level × List Level

abbrev pub with_own : Level → Inner → Level
with_own l own = record {
  kind = if is_for own && is_in_first l.walked then as_comprehension l.kind else l.kind;
  walked = after_own (has_one l.kind) own l.walked;
  at = preceding l.at own;
}

abbrev pub new_level : Option GroupKind → Level
new_level kind = record { kind = kind; walked = Some at_start; at = Other }

-- the group of a bracket that is closed
abbrev pub closed : Option GroupKind → Option Walked → Option Item
closed None w = None
closed (Some kind) w = option_map (group_with kind) (option_map done w)

abbrev pub next_at : Mark → Placed → Level → List Level → Option Levels
next_at Newline t top outer = Some (top, outer)
next_at (Open shape) t top outer = Some (new_level (Some (group_kind shape top.at false)), top ∷ outer)
next_at (Close shape) t top [] = None
next_at (Close shape) t top (below ∷ outer) =
    if same_shape (option_map shape_of top.kind) shape then option_map (λ g. (with_own below (node t.line g), outer)) (closed top.kind top.walked) else None
next_at m t top outer = Some (with_own top (own_of m t), outer)

abbrev pub next : Placed → Levels → Option Levels
next t ls = next_at (mark_of t) t ls.0 ls.1

abbrev pub finish : Option GroupKind → Option Walked → List Level → Option Segment
finish None w [] = option_map segment_with (option_map done w)
finish _ w outer = None

abbrev pub run : Level → List Level → List Placed → Option Segment
run top outer [] = finish top.kind top.walked outer
run top outer (t ∷ ts) = option_and_then (λ ls. run ls.0 ls.1 ts) (next t (top, outer))

abbrev pub state : State → Levels
state s = (level s.top, levels s.outer.items)
