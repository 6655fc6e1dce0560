-- Arguments of a call and elements of a list as parsing gives them: what `IsWellFormed` of bz_layout_laws says of a statement, of
-- one segment.
use Rattle.std.specs.Prelude.{ℕ, ◌≤◌, List, false}
use Rattle.std.specs.List.{AllByRecursion}
use Rattle.bz_tree.specs.declared.tree.kinds.Preceding.TheVariants.{Other}
use Rattle.bz_tree.specs.Comments.{beside}
use Rattle.bz_tree.specs.Tree.{Item, Items, Segment, items_of}
use Rattle.bz_layout_laws.specs.Legible.{AreComments, items_depth}
use Rattle.bz_layout_laws.specs.Parsed.{HaveKinds}
use Rattle.bz_layout_laws.specs.TextsOfKinds.{HaveTexts}

-- nodes at the front of a segment that has no commas, with so many brackets open at once at most
pub record AreNodes (depth : ℕ) (nodes : List Item) : Type 0 where
  pub texts : HaveTexts (items_of nodes)
  pub kinds : HaveKinds false Other (items_of nodes)
  pub depth_fits : items_depth (items_of nodes) ≤ depth

-- a segment with its comments, whose nodes are such and in the grammar
pub record IsFormed (Form : Items → Type 0) (depth : ℕ) (s : Segment) : Type 0 where
  pub before : AreComments s.before
  pub suffix : AreComments (beside s.suffix)
  pub nodes : AreNodes depth s.nodes
  pub form : Form (items_of s.nodes)

abbrev pub AreFormed : (Items → Type 0) → ℕ → List Segment → Type 0
AreFormed Form depth ss = AllByRecursion (IsFormed Form depth) ss
