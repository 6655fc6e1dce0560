-- What a slice of parts is seen as.
use Rattle.std.proofs.Common.{◌≡◌, ℕ, ◌-◌, List, [], ◌∷◌, length, map, take, drop, ap, sym, ◌∙◌, ◌++◌, append_assoc}
use Rattle.std.specs.List.{take-map, drop-map}
use Rattle.std.proofs.lemmas.List.{map-append, take_rest}
use Rattle.bz_tree.specs.declared.row.Part.{Part}
use Rattle.bz_tree.specs.Rows.{RowPart, part_view}

pub slice_seen : (ps : List Part) (from n : ℕ) → map part_view (take n (drop from ps)) ≡ take n (drop from (map part_view ps))
slice_seen ps from n = sym (take-map part_view n (drop from ps)) ∙ ap (take n) (sym (drop-map part_view from ps))

pub rest_seen : (ps : List Part) (from : ℕ) → map part_view (take (length ps - from) (drop from ps)) ≡ drop from (map part_view ps)
rest_seen ps from = ap (map part_view) (take_rest ps from) ∙ sym (drop-map part_view from ps)

pub front_seen : (ps : List Part) (to : ℕ) → map part_view (take to ps) ≡ take to (map part_view ps)
front_seen ps to = sym (take-map part_view to ps)

-- one part more
pub one_more : (old new : List Part) (p : Part) → new ≡ old ++ p ∷ [] → map part_view new ≡ map part_view old ++ part_view p ∷ []
one_more old new p is = ap (map part_view) is ∙ map-append part_view old (p ∷ [])

-- parts written in place of others
pub three_written : (ps one two three : List Part) (from to : ℕ) (own : List RowPart) → one ≡ take from ps → map part_view two ≡ map part_view one ++ own → three ≡ two ++ take (length ps - to) (drop to ps)
    → map part_view three ≡ take from (map part_view ps) ++ (own ++ drop to (map part_view ps))
three_written ps one two three from to own first mid last =
    ap (map part_view) last ∙ map-append part_view two (take (length ps - to) (drop to ps))
    ∙ (λ i. mid i ++ rest_seen ps to i)
    ∙ append_assoc (map part_view one) own (drop to (map part_view ps))
    ∙ ap (λ (qs : List RowPart). qs ++ (own ++ drop to (map part_view ps))) (ap (map part_view) first ∙ front_seen ps from)
