-- A value that is one list, and its end, by its parts.
use Rattle.std.proofs.Common.{◌≡◌, is_some, ℕ, ◌+◌, ◌-◌, ◌≤◌, map, take, length-append, length-drop, List, [], ◌∷◌, ◌++◌, Bool, true, false, ◌&&◌, length, drop, refl, ap, sym, ◌∙◌, arith, append_assoc, drop-drop}
use Rattle.std.proofs.lemmas.Bool.{false≢true}
use Rattle.std.proofs.Math.Seq.{drop-append_seam, take-append_seam}
use Rattle.std.proofs.lemmas.List.{length-map}
use Rattle.bz_tree.specs.declared.row.Part.{Part}
use Rattle.bz_tree.specs.FromParts.{nodes_of_parts}
use Rattle.bz_tree.specs.declared.tree.GroupKind.TheVariants.{List as ListKind}
use Rattle.bz_tree.specs.Tree.{Item, leaf, group, Segs, items_of}
use Rattle.bz_tree.specs.Rows.{RowPart, part_view, segment_end, item_parts, items_parts}
use Rattle.bz_attribute.specs.Elements.{IsOnlyList, value_parts}
use Rattle.bz_attribute.specs.Lists.{only_list}
use Rattle.bz_attribute.specs.ListWalk.{is_list, is_only}
use Rattle.bz_attribute.proofs.ListPieces.{only_is}
use Rattle.bz_attribute.specs.private.Parts.{ItemEnds, begins_list, ends_value, parts_len}
use Rattle.bz_attribute.proofs.ItemParts.{opened, rest_of}
use Rattle.bz_attribute.proofs.Lengths.{nodes_ended}
use Rattle.bz_tree.proofs.Rows.FromParts.{listed_back, nodes_back, segs_back}

pub value_ended : (nodes : List Item) (after ps : List RowPart) (value end : ℕ) → drop value ps ≡ value_parts nodes after → end ≡ value + parts_len true 0 (drop value ps) → drop end ps ≡ segment_end ∷ after
value_ended nodes after ps value end read is =
    let own : List RowPart = items_parts (items_of nodes) in
    let size : end ≡ value + length own = is ∙ ap (λ (n : ℕ). value + n) (ap (parts_len true 0) read ∙ nodes_ended (items_of nodes) after) in
    ap (λ (n : ℕ). drop n ps) size ∙ sym (drop-drop (length own) value ps) ∙ ap (drop (length own)) read ∙ drop-append_seam own (segment_end ∷ after)

-- its parts, up to its end
pub value_slice : (nodes : List Item) (after : List RowPart) (parts : List Part) (value end : ℕ) → drop value (map part_view parts) ≡ value_parts nodes after → drop end (map part_view parts) ≡ segment_end ∷ after
    → (value ≤ end) × (end ≤ length parts) → take (end - value) (drop value (map part_view parts)) ≡ items_parts (items_of nodes)
value_slice nodes after parts value end read left within =
    let ps : List RowPart = map part_view parts in
    let own : List RowPart = items_parts (items_of nodes) in
    let size : end - value ≡ length own =
    omega (arith, ap length read, ap length left, length-drop value ps, length-drop end ps, length-append own (segment_end ∷ after), length-map parts part_view, within.0, within.1) in
    (λ i. take (size i) (read i)) ∙ take-append_seam own (segment_end ∷ after)

-- the nodes that are read of its parts
pub value_read : (nodes : List Item) (after : List RowPart) (parts : List Part) (value end : ℕ) → drop value (map part_view parts) ≡ value_parts nodes after → drop end (map part_view parts) ≡ segment_end ∷ after
    → (value ≤ end) × (end ≤ length parts) → nodes_of_parts (take (end - value) (drop value (map part_view parts))) ≡ nodes
value_read nodes after parts value end read left within =
    ap nodes_of_parts (value_slice nodes after parts value end read left within) ∙ nodes_back (items_of nodes) ∙ listed_back nodes

begins_told : (x : Item) (xs : List Item) (after : List RowPart) → begins_list (value_parts (x ∷ xs) after) ≡ is_list x
begins_told (leaf kind text) xs after = refl
begins_told (group ListKind segs one_comma end) xs after = refl
begins_told (group _ segs one_comma end) xs after = refl

abbrev is_nil : List Item → Bool
is_nil [] = true
is_nil (x ∷ xs) = false

ends_told : (xs : List Item) (after : List RowPart) → ends_value (value_parts xs after) ≡ is_nil xs
ends_told [] after = refl
ends_told (leaf kind text ∷ xs) after = refl
ends_told (group kind segs one_comma end ∷ xs) after = refl

both_told : (x : Item) (xs : List Item) → is_list x && is_nil xs ≡ is_only is_list (x ∷ xs)
both_told x [] = elim (is_list x) as (λ b. b && true ≡ b) [ true ↦ refl | false ↦ refl ]
both_told x (y ∷ xs) = elim (is_list x) as (λ b. b && false ≡ false) [ true ↦ refl | false ↦ refl ]

pub only_told : (nodes : List Item) (after qs : List RowPart) (end : ℕ) → qs ≡ value_parts nodes after → ItemEnds qs 0 end → begins_list qs && ends_value (drop end qs) ≡ is_some (only_list nodes)
only_told [] after qs end are ends = ap (λ (ps : List RowPart). begins_list ps && ends_value (drop end qs)) are
only_told (x ∷ xs) after qs end are ends =
    let cut : qs ≡ item_parts x ++ value_parts xs after = are ∙ append_assoc (item_parts x) (items_parts (items_of xs)) (segment_end ∷ after) in
    let long : end ≡ length (item_parts x) = omega (arith, ends x xs after are) in
    let left : drop end qs ≡ value_parts xs after = (λ i. drop (long i) (cut i)) ∙ drop-append_seam (item_parts x) (value_parts xs after) in
    (λ i. (ap begins_list are ∙ begins_told x xs after) i && (ap ends_value left ∙ ends_told xs after) i) ∙ both_told x xs ∙ sym (only_is (x ∷ xs))

pub only_there : (nodes : List Item) (after ps : List RowPart) (value to : ℕ) → drop value ps ≡ value_parts nodes after → to ≡ value + 1 → is_some (only_list nodes) ≡ true → IsOnlyList nodes after ps to
only_there [] after ps value to read to_is is = absurd (false≢true is)
only_there (leaf kind text ∷ []) after ps value to read to_is is = absurd (false≢true is)
only_there (group ListKind segs one_comma end ∷ []) after ps value to read to_is is = record {
  list = rest_of segs one_comma end [];
  are = ap (λ (ss : Segs). group ListKind ss one_comma end ∷ []) (sym (segs_back segs));
  read = ap (λ (n : ℕ). drop n ps) to_is ∙ sym (drop-drop 1 value ps) ∙ ap (drop 1) (read ∙ opened ListKind segs one_comma end [] after);
}
only_there (group _ segs one_comma end ∷ []) after ps value to read to_is is = absurd (false≢true is)
only_there (x ∷ y ∷ xs) after ps value to read to_is is = absurd (false≢true (sym (only_is (x ∷ y ∷ xs)) ∙ is))
