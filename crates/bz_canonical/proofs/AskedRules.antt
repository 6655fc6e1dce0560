-- The parts of a small rule.
use Rattle.std.proofs.Common.{◌≡◌, ℕ, ◌+◌, List, [], ◌∷◌, ◌++◌, false, length, map, take, drop, ap, sym, ◌∙◌, arith, append-nil}
use Rattle.std.specs.Prelude.{codes}
use Rattle.std.specs.List.{drop-map}
use Rattle.std.proofs.Math.Seq.{take-append_seam}
use Rattle.std.proofs.lemmas.List.{length-append, length-map}
use Rattle.bz_tree.specs.declared.row.Part.{Part}
use Rattle.bz_tree.specs.Rows.{RowPart, above, closing, part_view, parts_of, segs_parts}
use Rattle.bz_tree.specs.Tree.{Segment, Statement, segs_of}
use Rattle.bz_attribute.proofs.Slices.{front_seen}
use Rattle.bz_layout_laws.specs.Lineless.{lineless}
use Rattle.bz_canonical.specs.Canonical.{small_rule}
use Rattle.bz_canonical.specs.SealedRules.{small_parts}

parts_joined : (S : List RowPart) (k o a c : RowPart) → (k ∷ ((o ∷ (S ++ (a ∷ c ∷ []))) ++ [])) ++ [] ≡ k ∷ o ∷ (S ++ (a ∷ c ∷ []))
parts_joined S k o a c = append-nil (k ∷ ((o ∷ (S ++ (a ∷ c ∷ []))) ++ [])) ∙ ap (λ t. k ∷ t) (append-nil (o ∷ (S ++ (a ∷ c ∷ []))))

pub parts_small : (args : List Segment) (t : Statement) → lineless t ≡ lineless (small_rule args) → parts_of t ≡ small_parts args
parts_small args t is = ap parts_of is ∙ parts_joined (segs_parts (segs_of args)) _ _ _ _

pub parts_asked : (args : List Segment) (ps : List Part) (len : ℕ) → map part_view ps ≡ small_parts args → len + 4 ≡ length ps → map part_view (take len (drop 2 ps)) ≡ segs_parts (segs_of args)
parts_asked args ps len is size =
    let rest : map part_view (drop 2 ps) ≡ segs_parts (segs_of args) ++ above (codes "#") ∷ closing false ∷ [] = sym (drop-map part_view 2 ps) ∙ ap (drop 2) is in
    let at : len ≡ length (segs_parts (segs_of args)) = omega (arith, size, length-map ps part_view, ap length is, length-append (segs_parts (segs_of args)) (above (codes "#") ∷ closing false ∷ [])) in
    front_seen (drop 2 ps) len ∙ ap (take len) rest ∙ ap (λ n. take n (segs_parts (segs_of args) ++ above (codes "#") ∷ closing false ∷ [])) at ∙ take-append_seam (segs_parts (segs_of args)) (above (codes "#") ∷ closing false ∷ [])
