-- Edits of the first list part of a value, by its parts.
use Rattle.std.proofs.Common.{◌≡◌, ℕ, ◌+◌, ◌-◌, List, [], ◌∷◌, ◌++◌, Bool, true, map, length, take, drop, refl, ap, sym, ◌∙◌, arith, append_assoc, length-append, drop-drop, take-add}
use Rattle.std.proofs.Math.Seq.{drop-append_seam, take-append_seam}
use Rattle.bz_tree.specs.declared.tree.GroupKind.TheVariants.{List as ListKind}
use Rattle.bz_tree.specs.Tree.{Item, Segment, items_of, segs_of}
use Rattle.bz_tree.specs.Rows.{RowPart, above, closing, opening, segment_end, item_parts, items_parts, segs_parts}
use Rattle.bz_attribute.specs.ListWalk.{edit_element, edit_first_part}
use Rattle.bz_attribute.specs.Elements.{IsListIn, ListRest, found_rest, list_item, rest_parts, value_parts}
use Rattle.bz_attribute.proofs.EditedAt.{segs_join}

-- items one after another
pub items_join : (xs ys : List Item) → items_parts (items_of (xs ++ ys)) ≡ items_parts (items_of xs) ++ items_parts (items_of ys)
items_join [] ys = refl
items_join (x ∷ xs) ys = ap (λ (ps : List RowPart). item_parts x ++ ps) (items_join xs ys) ∙ sym (append_assoc (item_parts x) (items_parts (items_of xs)) (items_parts (items_of ys)))

-- the parts before the elements of a list part, and from them on
abbrev pub opened : List Item → List RowPart
opened front = items_parts (items_of front) ++ opening ListKind ∷ []

pub list_cut : (front : List Item) (l : ListRest) (after : List RowPart) → value_parts (front ++ list_item l ∷ l.items) after ≡ opened front ++ rest_parts l after
list_cut front l after =
    let inner : List RowPart = segs_parts (segs_of l.elements) ++ (map above l.end ++ closing l.one_comma ∷ []) in
    let last : List RowPart = items_parts (items_of l.items) in
    let moved : (items_parts (items_of front) ++ ((opening ListKind ∷ inner) ++ last)) ++ segment_end ∷ after ≡ opened front ++ rest_parts l after = simp append_assoc in
    ap (λ (ps : List RowPart). ps ++ segment_end ∷ after) (items_join front (list_item l ∷ l.items)) ∙ moved

pub long_opened : (front : List Item) → length (opened front) ≡ length (items_parts (items_of front)) + 1
long_opened front = length-append (items_parts (items_of front)) (opening ListKind ∷ [])

-- what stands before the elements of the first list part
first_opened : (nodes : List Item) (after ps : List RowPart) (from to : ℕ) → drop from ps ≡ value_parts nodes after → (l : IsListIn true nodes after ps from to) → take (to - from) (drop from ps) ≡ opened l.front
first_opened nodes after ps from to read l =
    let size : to - from ≡ length (opened l.front) = omega (arith, l.begins, long_opened l.front) in
    (λ i. take (size i) ((read ∙ ap (λ (xs : List Item). value_parts xs after) l.are ∙ list_cut l.front l.list after) i)) ∙ take-append_seam (opened l.front) (rest_parts l.list after)

-- where the first element that passes is edited
pub found_opened : (p : Segment → Bool) (f : Segment → Segment) (nodes : List Item) (after ps : List RowPart) (from to : ℕ) → drop from ps ≡ value_parts nodes after → (l : IsListIn true nodes after ps from to)
    → take from ps ++ value_parts (edit_element p f nodes) after ≡ take to ps ++ rest_parts (found_rest p f l.list) after
found_opened p f nodes after ps from to read l =
    let front : take to ps ≡ take from ps ++ opened l.front =
    ap (λ (k : ℕ). take k ps) (omega (arith, l.begins)) ∙ take-add from (to - from) ps ∙ ap (λ (qs : List RowPart). take from ps ++ qs) (first_opened nodes after ps from to read l) in
    ap (λ (xs : List Item). take from ps ++ value_parts xs after) (l.found p f)
    ∙ ap (λ (qs : List RowPart). take from ps ++ qs) (list_cut l.front (found_rest p f l.list) after)
    ∙ sym (append_assoc (take from ps) (opened l.front) (rest_parts (found_rest p f l.list) after))
    ∙ ap (λ (qs : List RowPart). qs ++ rest_parts (found_rest p f l.list) after) (sym front)

-- the next list part
pub ended : (end : List (List ℕ)) (one_comma : Bool) (front : List Item) (l : ListRest) (after : List RowPart)
    → map above end ++ closing one_comma ∷ value_parts (front ++ list_item l ∷ l.items) after ≡ (map above end ++ closing one_comma ∷ opened front) ++ rest_parts l after
ended end one_comma front l after =
    ap (λ (qs : List RowPart). map above end ++ closing one_comma ∷ qs) (list_cut front l after) ∙ sym (append_assoc (map above end) (closing one_comma ∷ opened front) (rest_parts l after))

-- elements at the end of the first list part
pub appended : (new : List Segment) (nodes : List Item) (after ps : List RowPart) (from to end : ℕ) → drop from ps ≡ value_parts nodes after → (l : IsListIn true nodes after ps from to)
    → drop to ps ≡ segs_parts (segs_of l.list.elements) ++ drop end ps → end ≡ to + length (segs_parts (segs_of l.list.elements))
    → value_parts (edit_first_part (λ ss. ss ++ new) nodes) after ≡ take (end - from) (drop from ps) ++ (segs_parts (segs_of new) ++ drop end ps)
appended new nodes after ps from to end read l own size =
    let elements : List RowPart = segs_parts (segs_of l.list.elements) in
    let last : List RowPart = map above l.list.end ++ closing l.list.one_comma ∷ value_parts l.list.items after in
    let more : ListRest = record { elements = l.list.elements ++ new; end = l.list.end; one_comma = l.list.one_comma; items = l.list.items } in
    let whole : drop from ps ≡ (opened l.front ++ elements) ++ last =
    read ∙ ap (λ (xs : List Item). value_parts xs after) l.are ∙ list_cut l.front l.list after ∙ sym (append_assoc (opened l.front) elements last) in
    let left : drop end ps ≡ last = ap (λ (n : ℕ). drop n ps) size ∙ sym (drop-drop (length elements) to ps) ∙ ap (drop (length elements)) l.read ∙ drop-append_seam elements last in
    let place : end - from ≡ length (opened l.front ++ elements) = omega (arith, l.begins, size, long_opened l.front, length-append (opened l.front) elements) in
    let taken : take (end - from) (drop from ps) ≡ opened l.front ++ elements = (λ i. take (place i) (whole i)) ∙ take-append_seam (opened l.front ++ elements) last in
    let moved : opened l.front ++ ((elements ++ segs_parts (segs_of new)) ++ last) ≡ (opened l.front ++ elements) ++ (segs_parts (segs_of new) ++ last) = simp append_assoc in
    ap (λ (xs : List Item). value_parts xs after) (l.first (λ ss. ss ++ new))
    ∙ list_cut l.front more after
    ∙ ap (λ (qs : List RowPart). opened l.front ++ (qs ++ last)) (segs_join l.list.elements new)
    ∙ moved
    ∙ (λ i. sym taken i ++ (segs_parts (segs_of new) ++ sym left i))
