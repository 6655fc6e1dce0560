-- For private clauses: how the walk over one bracket and the stack of open brackets are spelled, and that all is one segment at the top.
use Rattle.std.specs.Prelude.{◌≡◌, List, [], ◌∷◌, ◌++◌, map, Option, Some, None}
use Rattle.bz_token.specs.Places.{Placed}
use Rattle.bz_tree.specs.declared.tree.GroupKind.{GroupKind}
use Rattle.bz_tree.specs.declared.tree.owners.Walk.{Walk}
use Rattle.bz_tree.specs.declared.tree.owners.Inside.{Inside}
use Rattle.bz_tree.specs.declared.tree.build.Frame.{Frame}
use Rattle.bz_tree.specs.declared.tree.build.State.{State}
use Rattle.bz_tree.specs.declared.tree.Node.{Node}
use Rattle.bz_tree.specs.declared.tree.Seg.{Seg}
use Rattle.bz_tree.specs.Places.{Spelled, opens, joined, node_spelling, seg_spelling, AreSpelled}
use Rattle.bz_tree.specs.private.Steps.{Walked, Level}

abbrev pub nodes_spelling : List Node → List Spelled
nodes_spelling ns = joined (map node_spelling ns)

abbrev pub segs_spelling : List Seg → List Spelled
segs_spelling ss = joined (map seg_spelling ss)

abbrev pub walk_spelling : Walk → List Spelled
walk_spelling w = segs_spelling w.segs.items ++ nodes_spelling w.here.nodes.items

abbrev pub inside_spelling : Inside → List Spelled
inside_spelling i = segs_spelling i.segs.items

abbrev pub frame_spelling : Frame → List Spelled
frame_spelling f = walk_spelling f.walk

-- what stands before a bracket that is still open, and that bracket
abbrev pub opened : Frame → List Spelled
opened f = frame_spelling f ++ opens ∷ []

abbrev pub state_spelling : State → List Spelled
state_spelling s = joined (map opened s.outer.items) ++ frame_spelling s.top

-- what is spelled after these tokens, from what was spelled before
abbrev pub AreSpelledFrom : List Spelled → List Placed → List Spelled → Type 0
AreSpelledFrom before tokens now = (ps : List Spelled) × ((now ≡ before ++ ps) × AreSpelled tokens ps)

-- at the top no segment ends
abbrev pub IsFlatAt : Option GroupKind → Option Walked → Type 0
IsFlatAt None (Some w) = w.segs ≡ []
IsFlatAt _ _ = Unit {0}

abbrev pub IsFlat : Level → Type 0
IsFlat l = IsFlatAt l.kind l.walked

abbrev pub AreFlat : List Level → Type 0
AreFlat [] = Unit {0}
AreFlat (l ∷ ls) = IsFlat l × AreFlat ls
