-- The parts of arguments, one after another.
use Rattle.std.proofs.Common.{◌≡◌, ℕ, suc, ◌+◌, ◌-◌, List, [], ◌∷◌, ◌++◌, length, map, take, drop, ap, sym, ◌∙◌, arith, append-nil}
use Rattle.std.proofs.Math.Seq.{take-append_seam, drop-append_seam}
use Rattle.std.proofs.lemmas.List.{length-append}
use Rattle.bz_tree.specs.Tree.{Segment, segs_of}
use Rattle.bz_tree.specs.Rows.{a_token, beside_part, part_view, segment_end, segs_parts}
use Rattle.bz_token.specs.declared.token.Kind.TheVariants.{Kept}
use Rattle.bz_layout.specs.Pieces.{bytes_of, suffix_piece}
use Rattle.std.specs.List.{drop-map}
use Rattle.bz_tree.specs.declared.row.Part.{Part}
use Rattle.bz_attribute.proofs.EditedAt.{segs_join}
use Rattle.bz_attribute.proofs.Slices.{front_seen}
use Rattle.bz_canonical.specs.Canonical.{argument_lines}
use Rattle.bz_canonical.specs.SealedRules.{between, sealed}

-- the parts of the first argument, and of those after it
pub asked_split : (a : Segment) (others : List Segment) (ps : List Part) (to : ℕ) → map part_view ps ≡ segs_parts (segs_of (a ∷ others)) → to ≡ length (segs_parts (segs_of (a ∷ [])))
    → (map part_view (drop to ps) ≡ segs_parts (segs_of others)) × (map part_view (take to ps) ≡ segs_parts (segs_of (a ∷ [])))
asked_split a others ps to is ends =
    let both : map part_view ps ≡ segs_parts (segs_of (a ∷ [])) ++ segs_parts (segs_of others) = is ∙ segs_join (a ∷ []) others in (
      sym (drop-map part_view to ps) ∙ ap (drop to) both ∙ ap (λ n. drop n (segs_parts (segs_of (a ∷ [])) ++ segs_parts (segs_of others))) ends ∙ drop-append_seam (segs_parts (segs_of (a ∷ []))) (segs_parts (segs_of others)),
      front_seen ps to ∙ ap (take to) both ∙ ap (λ n. take n (segs_parts (segs_of (a ∷ [])) ++ segs_parts (segs_of others))) ends ∙ take-append_seam (segs_parts (segs_of (a ∷ []))) (segs_parts (segs_of others)),
    )

pub inner_is : (inner side lines : List ℕ) → lines ≡ 10 ∷ 32 ∷ 32 ∷ 32 ∷ 32 ∷ (inner ++ 44 ∷ side) → take (length (drop 5 lines) - suc (length side)) (drop 5 lines) ≡ inner
inner_is inner side lines is =
    let size : length (inner ++ 44 ∷ side) - suc (length side) ≡ length inner = omega (arith, length-append inner (44 ∷ side)) in
    ap (λ t. take (length (drop 5 t) - suc (length side)) (drop 5 t)) is ∙ ap (λ n. take n (inner ++ 44 ∷ side)) size ∙ take-append_seam inner (44 ∷ side)

pub sealed_parts : (a : Segment) (inner : List ℕ) → argument_lines (a ∷ []) ≡ 10 ∷ 32 ∷ 32 ∷ 32 ∷ 32 ∷ (inner ++ 44 ∷ bytes_of (suffix_piece a.suffix))
    → a_token Kept inner ∷ segment_end ∷ beside_part a.suffix ≡ segs_parts (segs_of (sealed a ∷ []))
sealed_parts a inner is =
    sym (ap (λ t. a_token Kept t ∷ segment_end ∷ (beside_part a.suffix ++ [])) (inner_is inner (bytes_of (suffix_piece a.suffix)) (argument_lines (a ∷ [])) is) ∙ ap (λ t. a_token Kept inner ∷ segment_end ∷ t) (append-nil (beside_part a.suffix)))

pub lines_cut : (start from to : ℕ) (lines after written : List ℕ) → drop start written ≡ lines ++ after → from ≡ start → to ≡ start + length lines → between from to written ≡ lines
lines_cut start from to lines after written is begins ends =
    let size : to - from ≡ length lines = omega (arith, begins, ends) in
    ap (λ n. take (to - from) (drop n written)) begins ∙ ap (λ t. take (to - from) t) is ∙ ap (λ n. take n (lines ++ after)) size ∙ take-append_seam lines after
