-- The nodes that parts are of: a walk over the parts, with a stack of open brackets. Parts of no nodes come to something too.
use Rattle.std.specs.Prelude.{ℕ, List, [], ◌∷◌, ◌++◌, Bool, Some, None}
use Rattle.bz_tree.specs.declared.tree.GroupKind.{GroupKind}
use Rattle.bz_tree.specs.Tree.{Item, leaf, group, Segment, segs_of}
use Rattle.bz_tree.specs.Rows.{RowPart, a_token, opening, closing, segment_end, above, beside}

-- what stands in a bracket, or at the top, so far: the segments that have ended, the comments after them, the nodes after those
pub record Content : Type 0 where
  pub segs : List Segment
  pub comments : List (List ℕ)
  pub nodes : List Item

-- a bracket that is open, and what stands before it in the one around it
pub record Outer : Type 0 where
  pub kind : GroupKind
  pub content : Content

-- the outer ones, the innermost first
pub record Nest : Type 0 where
  pub here : Content
  pub outer : List Outer

abbrev pub nothing : Content
nothing = record { segs = []; comments = []; nodes = [] }

abbrev pub with_node : Item → Content → Content
with_node x c = record { segs = c.segs; comments = c.comments; nodes = c.nodes ++ x ∷ [] }

-- the nodes end as a segment, with the comments above it
abbrev pub with_segment : Content → Content
with_segment c = record { segs = c.segs ++ record { before = c.comments; nodes = c.nodes; suffix = None } ∷ []; comments = []; nodes = [] }

abbrev pub beside_last : List ℕ → List Segment → List Segment
beside_last text [] = []
beside_last text (s ∷ []) = record { before = s.before; nodes = s.nodes; suffix = Some text } ∷ []
beside_last text (s ∷ r ∷ ss) = s ∷ beside_last text (r ∷ ss)

abbrev pub with_beside : List ℕ → Content → Content
with_beside text c = record { segs = beside_last text c.segs; comments = c.comments; nodes = c.nodes }

abbrev pub opened : GroupKind → Nest → Nest
opened kind n = record { here = nothing; outer = record { kind = kind; content = n.here } ∷ n.outer }

-- what stood in a bracket is a node of the one around it
abbrev pub closed : Bool → Content → List Outer → Nest
closed one_comma c [] = record { here = c; outer = [] }
closed one_comma c (o ∷ os) = record { here = with_node (group o.kind (segs_of c.segs) one_comma c.comments) o.content; outer = os }

abbrev pub step : RowPart → Nest → Nest
step (a_token kind text) n = record n { here = with_node (leaf kind text) n.here }
step (opening kind) n = opened kind n
step (closing one_comma) n = closed one_comma n.here n.outer
step segment_end n = record n { here = with_segment n.here }
step (above text) n = record n { here = record (n.here) { comments = n.here.comments ++ text ∷ [] } }
step (beside text) n = record n { here = with_beside text n.here }

abbrev pub steps : List RowPart → Nest → Nest
steps [] n = n
steps (p ∷ ps) n = steps ps (step p n)

abbrev pub nodes_of_parts : List RowPart → List Item
nodes_of_parts ps = (steps ps (record { here = nothing; outer = [] })).here.nodes
