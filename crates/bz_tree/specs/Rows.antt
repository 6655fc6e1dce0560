-- A statement as its parts, in the order in which they are written: tokens, brackets, the ends of segments, and comments where their
-- owners have them.
use Rattle.std.specs.Prelude.{◌≡◌, ℕ, List, [], ◌∷◌, ◌++◌, map, Bool, Option, Some, None}
use Rattle.bz_token.specs.declared.token.Kind.{Kind}
use Rattle.bz_tree.specs.declared.tree.GroupKind.{GroupKind}
use Rattle.bz_tree.specs.declared.row.Part.{Part}
use Rattle.bz_tree.specs.declared.row.Row.{Row}
use Rattle.bz_tree.specs.Tree.{Item, leaf, group, Items, no_items, item, Segs, no_segs, seg, Statement, items_of}

pub data RowPart : Type 0 where
  a_token : Kind → List ℕ → RowPart
  -- a bracket opens
  opening : GroupKind → RowPart
  -- it closes; whether it is `(x,)`
  closing : Bool → RowPart
  -- a segment ends
  segment_end : RowPart
  -- a comment on a line of its own, above what follows or at the end of a bracket
  above : List ℕ → RowPart
  -- a comment beside what stands before it
  beside : List ℕ → RowPart

abbrev pub beside_part : Option (List ℕ) → List RowPart
beside_part None = []
beside_part (Some text) = beside text ∷ []

abbrev mutual
  pub item_parts : Item → List RowPart
  item_parts (leaf kind text) = a_token kind text ∷ []
  item_parts (group kind segs one_comma end) = opening kind ∷ (segs_parts segs ++ (map above end ++ closing one_comma ∷ []))

  pub items_parts : Items → List RowPart
  items_parts no_items = []
  items_parts (item x xs) = item_parts x ++ items_parts xs

  pub segs_parts : Segs → List RowPart
  segs_parts no_segs = []
  segs_parts (seg before nodes suffix ss) = map above before ++ (items_parts nodes ++ (segment_end ∷ (beside_part suffix ++ segs_parts ss)))

abbrev pub parts_of : Statement → List RowPart
parts_of s = map above s.before ++ (items_parts (items_of s.nodes) ++ beside_part s.suffix)

-- what a part of the code stands for
abbrev pub part_view : Part → RowPart
part_view (Part.Token kind text) = a_token kind text.now
part_view (Part.Open kind) = opening kind
part_view (Part.Close one_comma) = closing one_comma
part_view Part.End = segment_end
part_view (Part.Above text) = above text.now
part_view (Part.Beside text) = beside text.now

-- the row of a statement
pub record IsRowOf (s : Statement) (row : Row) : Type 0 where
  pub parts : map part_view row.parts.items ≡ parts_of s
  pub class : row.class ≡ s.class
  pub start : row.start ≡ s.start
  pub end : row.end ≡ s.end
