-- Statements with their strings spelled as they are written.
use Rattle.std.specs.Prelude.{map}
use Rattle.bz_tree.specs.Tree.{Item, leaf, group, Items, no_items, item, Segs, no_segs, seg, Statement}
use Rattle.bz_layout.specs.Respell.{respell}

abbrev mutual
  pub spelled : Item → Item
  spelled (leaf kind text) = leaf kind (respell kind text)
  spelled (group kind segs one_comma end) = group kind (spelled_segs segs) one_comma end

  pub spelled_items : Items → Items
  spelled_items no_items = no_items
  spelled_items (item x xs) = item (spelled x) (spelled_items xs)

  pub spelled_segs : Segs → Segs
  spelled_segs no_segs = no_segs
  spelled_segs (seg before nodes suffix ss) = seg before (spelled_items nodes) suffix (spelled_segs ss)

abbrev pub spelled_statement : Statement → Statement
spelled_statement s = record s { nodes = map spelled s.nodes }
