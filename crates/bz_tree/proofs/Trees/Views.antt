-- The view of a node, a group and a segment, level by level.
use Rattle.std.proofs.Common.{◌≡◌, option_map, rules}
use Rattle.bz_tree.specs.declared.tree.Node.{Group, the_lemmas}
use Rattle.bz_tree.specs.declared.tree.Group.{Group as GroupValue, out-Group}
use Rattle.bz_tree.specs.declared.tree.Seg.{Seg}
use Rattle.bz_tree.specs.Tree.{group, segs_of}
use Rattle.bz_tree.specs.View.{text_of, node_view, group_view, seg_view, nodes_view, segs_view, texts}

pub view-Group : (g : GroupValue) → node_view (Group g) ≡ group_view g
view-Group g = search (rules, the_lemmas)

pub view-group : (g : GroupValue) → group_view g ≡ group (out-Group g).kind (segs_of (segs_view (out-Group g).segs.items)) (out-Group g).one_comma (texts (out-Group g).end.items)
view-group g = search (rules, the_lemmas)

pub view-seg : (s : Seg) → seg_view s ≡ record { before = texts s.before.items; nodes = nodes_view s.nodes.items; suffix = option_map text_of s.suffix }
view-seg s = search (rules, the_lemmas)
