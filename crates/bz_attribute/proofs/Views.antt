-- The view of a group, level by level.
use Rattle.std.proofs.Common.{◌≡◌, List, [], ◌∷◌, refl, ◌∙◌}
use Rattle.bz_tree.specs.declared.tree.Node.{Group}
use Rattle.bz_tree.specs.declared.tree.Group.{Group as GroupValue, out-Group}
use Rattle.bz_tree.specs.Tree.{group, Segment, segs_of, segments}
use Rattle.bz_tree.specs.View.{node_view, segs_view, texts}
use Rattle.bz_tree.proofs.Trees.Views.{view-Group, view-group}
use Rattle.bz_tree.proofs.Rows.FromParts.{listed_back}

pub segments_of : (ss : List Segment) → segments (segs_of ss) ≡ ss
segments_of [] = refl
segments_of (s ∷ ss) = λ i. record { before = s.before; nodes = listed_back s.nodes i; suffix = s.suffix } ∷ segments_of ss i

pub view_of_group : (g : GroupValue) → node_view (Group g) ≡ group (out-Group g).kind (segs_of (segs_view (out-Group g).segs.items)) (out-Group g).one_comma (texts (out-Group g).end.items)
view_of_group g = view-Group g ∙ view-group g
