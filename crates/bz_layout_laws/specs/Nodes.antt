-- Other nodes in the place of a bracket's nodes.
use Rattle.std.specs.Prelude.{map}
use Rattle.bz_tree.specs.Tree.{Item, Segment}
use Rattle.bz_tree.specs.Owners.{Inside}
use Rattle.bz_tree.specs.Cells.{Entry, a_node, a_comma, a_comment}

abbrev pub entry_mapped : (Item → Item) → Entry → Entry
entry_mapped f (a_node x) = a_node (f x)
entry_mapped f a_comma = a_comma
entry_mapped f (a_comment on text) = a_comment on text

abbrev pub segment_mapped : (Item → Item) → Segment → Segment
segment_mapped f s = record { before = s.before; nodes = map f s.nodes; suffix = s.suffix }

abbrev pub inside_mapped : (Item → Item) → Inside → Inside
inside_mapped f i = record { segs = map (segment_mapped f) i.segs; trailing = i.trailing; end = i.end }
