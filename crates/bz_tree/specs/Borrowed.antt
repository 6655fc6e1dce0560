-- How many texts of a statement are owned: those that are no slice of the chunk. A statement with 0 of them borrows every text.
use Rattle.std.specs.Prelude.{ℕ, ◌+◌, List, [], ◌∷◌, map, Option, Some, None}
use Rattle.std.specs.declared.borrow.CowStr.{CowStr}
use Rattle.std.specs.declared.borrow.CowStr.TheVariants.{Borrowed, Owned}
use Rattle.std.specs.declared.alloc.Global.{Global}
use Rattle.bz_tree.specs.declared.tree.Stmt.{Stmt}
use Rattle.bz_tree.specs.declared.tree.Node.{Node, fold-Node}
use Rattle.bz_tree.specs.declared.tree.Seg.{Seg, fold-Seg}
use Rattle.bz_tree.specs.declared.tree.Group.{Group, fold-Group}
use Rattle.bz_tree.specs.declared.tree.Node.TheOpen.{Node-F, Group-F, Seg-F}

abbrev pub total : List ℕ → ℕ
total [] = 0
total (n ∷ ns) = n + total ns

-- 1 where the text is owned, 0 where it is borrowed
abbrev pub owned : CowStr Global → ℕ
owned (Borrowed slice) = 0
owned (Owned string) = 1

abbrev pub owned_in : List (CowStr Global) → ℕ
owned_in ts = total (map owned ts)

abbrev pub owned_of : Option (CowStr Global) → ℕ
owned_of None = 0
owned_of (Some text) = owned text

-- One level, with the texts of each part inside already counted.
abbrev pub node_step : Node-F ℕ ℕ ℕ → ℕ
node_step (Node-F.Token t) = owned t.text
node_step (Node-F.Group g) = g

abbrev pub group_step : Group-F ℕ ℕ ℕ → ℕ
group_step g = total g.segs.items + owned_in g.end.items

abbrev pub seg_step : Seg-F ℕ ℕ ℕ → ℕ
seg_step s = owned_in s.before.items + total s.nodes.items + owned_of s.suffix

abbrev pub node_owned : Node → ℕ
node_owned = fold-Node ℕ ℕ ℕ node_step group_step seg_step

abbrev pub group_owned : Group → ℕ
group_owned = fold-Group ℕ ℕ ℕ node_step group_step seg_step

abbrev pub seg_owned : Seg → ℕ
seg_owned = fold-Seg ℕ ℕ ℕ node_step group_step seg_step

abbrev pub owned_texts : Stmt → ℕ
owned_texts s = owned_in s.before.items + total (map node_owned s.nodes.items) + owned_of s.suffix
