-- For private clauses: how many texts are owned in the walk over one bracket and in the stack of open brackets.
use Rattle.std.specs.Prelude.{ℕ, ◌+◌, List, map}
use Rattle.bz_tree.specs.declared.tree.owners.Walk.{Walk}
use Rattle.bz_tree.specs.declared.tree.owners.Inside.{Inside}
use Rattle.bz_tree.specs.declared.tree.build.Frame.{Frame}
use Rattle.bz_tree.specs.declared.tree.build.State.{State}
use Rattle.bz_tree.specs.declared.tree.Node.{Node}
use Rattle.bz_tree.specs.declared.tree.Seg.{Seg}
use Rattle.bz_tree.specs.Borrowed.{total, owned_in, owned_of, node_owned, seg_owned}

abbrev pub nodes_owned : List Node → ℕ
nodes_owned ns = total (map node_owned ns)

abbrev pub segs_owned : List Seg → ℕ
segs_owned ss = total (map seg_owned ss)

abbrev pub walk_owned : Walk → ℕ
walk_owned w = segs_owned w.segs.items + owned_in w.here.before.items + nodes_owned w.here.nodes.items + owned_of w.here.suffix + owned_in w.after.items

abbrev pub inside_owned : Inside → ℕ
inside_owned i = segs_owned i.segs.items + owned_in i.end.items

abbrev pub frame_owned : Frame → ℕ
frame_owned f = walk_owned f.walk

abbrev pub state_owned : State → ℕ
state_owned s = frame_owned s.top + total (map frame_owned s.outer.items)
