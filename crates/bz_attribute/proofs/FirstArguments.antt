-- The first of some arguments among their parts.
use Rattle.std.proofs.Common.{◌≡◌, ℕ, ◌+◌, List, [], ◌∷◌, ◌++◌, Option, length, map, drop, refl, ap, sym, ◌∙◌, arith}
use Rattle.std.proofs.lemmas.List.{length-map}
use Rattle.std.proofs.Math.Seq.{drop-append_seam}
use Rattle.bz_tree.specs.Tree.{Segment, items_of, segs_of}
use Rattle.bz_tree.specs.Rows.{RowPart, segment_end, above, beside_part, items_parts, segs_parts}
use Rattle.bz_attribute.specs.RowPlaces.{IsFirstArgument, argument_parts}
use Rattle.bz_attribute.specs.private.Parts.{above_len, end_len, flat_name, segment_len}
use Rattle.bz_attribute.proofs.EndsBack.{argument_long, no_beside_argument, segment_long}
use Rattle.bz_attribute.proofs.FoundArgs.{named}
use Rattle.bz_attribute.proofs.Lengths.{above_passed, no_more_above}

-- nothing stands beside what comes before arguments
end_before : (others : List Segment) → end_len (segment_end ∷ segs_parts (segs_of others)) ≡ 1
end_before [] = refl
end_before (b ∷ others) = no_beside_argument b.before (items_of b.nodes) (beside_part b.suffix ++ segs_parts (segs_of others))

pub is_first : (a : Segment) (others : List Segment) (ps : List RowPart) (nodes to : ℕ) (name : Option (List ℕ)) → ps ≡ argument_parts a others → nodes ≡ above_len ps
    → to ≡ nodes + segment_len (drop nodes ps) → name ≡ flat_name (drop nodes ps) → IsFirstArgument a nodes to name
is_first a others ps nodes to name are begins ends is =
    let comments : List RowPart = map above a.before in
    let own : List RowPart = items_parts (items_of a.nodes) in
    let more : List RowPart = beside_part a.suffix ++ segs_parts (segs_of others) in
    let rest : List RowPart = own ++ (segment_end ∷ more) in
    let len : nodes ≡ length a.before =
    begins ∙ ap above_len are ∙ above_passed a.before rest ∙ omega (arith, no_more_above (items_of a.nodes) more) in
    let seam : length a.before ≡ length comments = sym (length-map a.before above) in
    let dropped : drop nodes ps ≡ rest = (λ i. drop ((len ∙ seam) i) (are i)) ∙ drop-append_seam comments rest in
    let long : segment_len (drop nodes ps) ≡ length own + (1 + length (beside_part a.suffix)) = ap segment_len dropped ∙ segment_long a (segs_parts (segs_of others)) (end_before others) in
    record {
      begins = len;
      ends = omega (arith, ends, long, len, seam, argument_long a);
      named = is ∙ ap flat_name dropped ∙ named a.nodes more;
    }
