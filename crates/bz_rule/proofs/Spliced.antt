-- Parts put in a place of a list.
use Rattle.std.proofs.Common.{◌≡◌, ◌∙◌, ◌++◌, List, map, take, drop, ap, sym}
use Rattle.std.specs.List.{splice, take-map, drop-map}
use Rattle.std.proofs.lemmas.List.{map-append}
use Rattle.bz_tree.specs.declared.row.Part.{Part}
use Rattle.bz_tree.specs.Rows.{RowPart, part_view, parts_of}
use Rattle.bz_tree.specs.Tree.{Statement}
use Rattle.bz_attribute.specs.RowEdits.{replaced_at}
use Rattle.bz_attribute.specs.declared.place.Place.{Place}

-- what the parts are seen as
pub spliced_seen : (place : Place) (ps new : List Part) → map part_view (splice ps place.from place.to new) ≡ replaced_at place (map part_view new) (map part_view ps)
spliced_seen place ps new =
    map-append part_view (take place.from ps) (new ++ drop place.to ps)
    ∙ ap (λ (qs : List RowPart). map part_view (take place.from ps) ++ qs) (map-append part_view new (drop place.to ps))
    ∙ (λ i. sym (take-map part_view place.from ps) i ++ (map part_view new ++ sym (drop-map part_view place.to ps) i))

-- and so those of another statement
pub of_next : (place : Place) (ps new others : List Part) (s after : Statement) → others ≡ splice ps place.from place.to new → map part_view ps ≡ parts_of s → replaced_at place (map part_view new) (parts_of s) ≡ parts_of after
    → map part_view others ≡ parts_of after
of_next place ps new others s after put are made = ap (map part_view) put ∙ spliced_seen place ps new ∙ ap (replaced_at place (map part_view new)) are ∙ made
