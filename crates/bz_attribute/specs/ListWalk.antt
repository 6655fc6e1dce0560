-- The list parts of a value as a walk over its items meets them, and what an edit of one leaves of those after it
-- (`Lists` and `edit_part` of `Effects` say what they are).
use Rattle.std.specs.Prelude.{List, [], ◌∷◌, ◌++◌, codes, Bool, true, false, ◌&&◌, if◌then◌else◌}
use Rattle.std.specs.List.{list_any}
use Rattle.bz_tree.specs.declared.tree.GroupKind.TheVariants.{List as ListKind}
use Rattle.bz_tree.specs.Tree.{Item, leaf, group, Segment, segs_of, segments, is_operator_item}
use Rattle.bz_attribute.specs.Effects.{edit_first, edit_part}

-- the operator `+`
abbrev pub is_plus : Item → Bool
is_plus x = is_operator_item (codes "+") x

-- the segments of a bracket
abbrev pub elements : Item → List Segment
elements (leaf kind text) = []
elements (group kind segs one_comma end) = segments segs

abbrev pub is_list : Item → Bool
is_list (group ListKind segs one_comma end) = true
is_list _ = false

-- the nodes are one, which passes
abbrev pub is_only : (Item → Bool) → List Item → Bool
is_only p (x ∷ []) = p x
is_only p _ = false

-- a piece ends here
abbrev pub ends : List Item → Bool
ends [] = true
ends (x ∷ xs) = is_plus x

-- `start`: a piece begins with x
abbrev pub is_part : Bool → Item → List Item → Bool
is_part start x xs = start && is_list x && ends xs

abbrev pub parts_from : Bool → List Item → List (List Segment)
parts_from start [] = []
parts_from start (x ∷ xs) = (if is_part start x xs then elements x ∷ [] else []) ++ parts_from (is_plus x) xs

abbrev pub edit_list : (List Segment → List Segment) → Item → Item
edit_list f (leaf kind text) = leaf kind text
edit_list f (group kind segs one_comma end) = group kind (segs_of (f (segments segs))) one_comma end

-- each list part edited
abbrev pub edit_from : (List Segment → List Segment) → Bool → List Item → List Item
edit_from f start [] = []
edit_from f start (x ∷ xs) = (if is_part start x xs then edit_list f x else x) ∷ edit_from f (is_plus x) xs

-- the first list part edited
abbrev pub edit_one_from : (List Segment → List Segment) → Bool → List Item → List Item
edit_one_from f start [] = []
edit_one_from f start (x ∷ xs) = if is_part start x xs then edit_list f x ∷ xs else x ∷ edit_one_from f (is_plus x) xs

abbrev pub edit_first_part : (List Segment → List Segment) → List Item → List Item
edit_first_part f nodes = edit_part (λ ss. true) f nodes

-- in the list parts of a value, the first element that passes is edited
abbrev pub edit_element_from : (Segment → Bool) → (Segment → Segment) → Bool → List Item → List Item
edit_element_from p f start [] = []
edit_element_from p f start (x ∷ xs) =
    if is_part start x xs && list_any p (elements x) then edit_list (edit_first p (λ s. f s ∷ [])) x ∷ xs
    else x ∷ edit_element_from p f (is_plus x) xs

abbrev pub edit_element : (Segment → Bool) → (Segment → Segment) → List Item → List Item
edit_element p f nodes = edit_part (list_any p) (edit_first p (λ s. f s ∷ [])) nodes
