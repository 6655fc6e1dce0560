-- The statement that a `Stmt` stands for, texts as bytes.
use Rattle.std.specs.Prelude.{ℕ, List, map, Option, option_map}
use Rattle.std.specs.Cow.{cow_str_bytes}
use Rattle.std.specs.declared.borrow.CowStr.{CowStr}
use Rattle.std.specs.declared.alloc.Global.{Global}
use Rattle.bz_tree.specs.declared.tree.Stmt.{Stmt}
use Rattle.bz_tree.specs.declared.tree.Node.{Node, fold-Node}
use Rattle.bz_tree.specs.declared.tree.Seg.{Seg, fold-Seg}
use Rattle.bz_tree.specs.declared.tree.Group.{Group, fold-Group}
use Rattle.bz_tree.specs.declared.tree.Node.TheOpen.{Node-F, Group-F, Seg-F}
use Rattle.bz_tree.specs.Tree.{Item, leaf, group, Segment, Statement, segs_of}

-- the text of a leaf or a comment
abbrev pub text_of : CowStr Global → List ℕ
text_of = cow_str_bytes

abbrev pub texts : List (CowStr Global) → List (List ℕ)
texts ss = map text_of ss

-- One level, with each part inside already seen as its item or segment.
abbrev pub node_step : Node-F Item Item Segment → Item
node_step (Node-F.Token t) = leaf t.kind (text_of t.text)
node_step (Node-F.Group g) = g

abbrev pub group_step : Group-F Item Item Segment → Item
group_step g = group g.kind (segs_of g.segs.items) g.one_comma (texts g.end.items)

abbrev pub seg_step : Seg-F Item Item Segment → Segment
seg_step s = record { before = texts s.before.items; nodes = s.nodes.items; suffix = option_map text_of s.suffix }

abbrev pub node_view : Node → Item
node_view = fold-Node Item Item Segment node_step group_step seg_step

abbrev pub group_view : Group → Item
group_view = fold-Group Item Item Segment node_step group_step seg_step

abbrev pub seg_view : Seg → Segment
seg_view = fold-Seg Item Item Segment node_step group_step seg_step

abbrev pub nodes_view : List Node → List Item
nodes_view ns = map node_view ns

abbrev pub segs_view : List Seg → List Segment
segs_view ss = map seg_view ss

abbrev pub view : Stmt → Statement
view s = record { before = texts s.before.items; nodes = nodes_view s.nodes.items; suffix = option_map text_of s.suffix; class = s.class; start = s.start; end = s.end }

abbrev pub slot_view : Option Stmt → Option Statement
slot_view slot = option_map view slot
