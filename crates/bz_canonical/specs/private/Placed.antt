-- Arguments of a rule, and how they stand, for private clauses.
use Rattle.std.specs.Prelude.{◌≡◌, ◌≤◌, ℕ, List, [], ◌∷◌, map, true, false}
use Rattle.bz_tree.specs.declared.tree.GroupKind.TheVariants.{RuleCall}
use Rattle.bz_tree.specs.Tree.{Segs, Segment, items_of, segs_of}
use Rattle.bz_layout.specs.Pieces.{bytes_of}
use Rattle.bz_layout_laws.specs.FreeLayout.{Choice, own, free, Stand, broken_by, items_spelled_by}
use Rattle.bz_layout_laws.specs.Legible.{segs_depth}
use Rattle.bz_layout_laws.specs.Parsed.{SegsHaveKinds}
use Rattle.bz_layout_laws.specs.TextsOfKinds.{SegsHaveTexts}
use Rattle.bz_canonical.specs.private.Segments.{AreOf}

-- what well-formed statements ask of segments
pub record AreFormed (depth : ℕ) (segs : Segs) : Type 0 where
  pub texts : SegsHaveTexts segs
  pub kinds : SegsHaveKinds false segs
  pub grammar : AreOf RuleCall segs
  pub depth_fits : segs_depth segs ≤ depth

-- an argument, and how it stands
pub record Placed : Type 0 where
  pub arg : Segment
  pub choice : Choice

-- how it stands on lines of its own
abbrev pub placed_lines : Placed → List ℕ
placed_lines p = bytes_of (broken_by (free true p.choice own) 1 RuleCall true (segs_of (p.arg ∷ [])))

-- its strings are as they stand
pub record IsPlaced (depth : ℕ) (p : Placed) : Type 0 where
  pub formed : AreFormed depth (segs_of (p.arg ∷ []))
  pub stand : Stand p.choice (items_of p.arg.nodes)
  pub spelled : items_spelled_by p.choice (items_of p.arg.nodes) ≡ items_of p.arg.nodes

abbrev pub ArePlaced : ℕ → List Placed → Type 0
ArePlaced depth [] = Unit {0}
ArePlaced depth (p ∷ ps) = IsPlaced depth p × ArePlaced depth ps

abbrev pub args_of : List Placed → List Segment
args_of ps = map (λ p. p.arg) ps
