-- Texts that pass a test do so where list parts or arguments are edited.
use Rattle.std.proofs.Common.{Bool, List, [], false, if◌then◌else◌, subst, sym, true, ℕ, ◌&&◌, ◌++◌, ◌∷◌}
use Rattle.std.proofs.lemmas.Bool.{and_parts}
use Rattle.std.specs.List.{AllByRecursion, list_all, list_any}
use Rattle.bz_attribute.specs.Effects.{edit_first}
use Rattle.bz_attribute.specs.ListWalk.{edit_element, edit_element_from, edit_first_part, edit_from, edit_list, edit_one_from, is_part, parts_from, elements, is_plus}
use Rattle.bz_attribute.proofs.ListPieces.{edit_element_is, edit_first_part_is, edit_parts_are, parts_are}
use Rattle.bz_attribute.specs.Lists.{edit_parts, may_be_in_sum, parts}
use Rattle.bz_layout_laws.specs.EachText.{segs_pass}
use Rattle.bz_laws.proofs.PassingTexts.{NodePasses, NodesPass, SegmentPasses, SegmentsPass, elements_pass, group_passes}
use Rattle.bz_laws.proofs.Segments.{all_appended, either_way}
use Rattle.bz_tree.specs.Tree.{Item, Segment, group, leaf, segments}

-- the segments that an edit leaves pass
abbrev pub KeepsPassing : (List ℕ → Bool) → (List Segment → List Segment) → Type 0
KeepsPassing q f = (ss : List Segment) → SegmentsPass q ss → SegmentsPass q (f ss)

pub edited_first_passes : (q : List ℕ → Bool) (p : Segment → Bool) (f : Segment → List Segment) → ((s : Segment) → SegmentPasses q s → SegmentsPass q (f s)) → KeepsPassing q (edit_first p f)
edited_first_passes q p f keep [] h = tt
edited_first_passes q p f keep (s ∷ ss) h =
    either_way (SegmentsPass q) (p s) (all_appended (SegmentPasses q) (f s) ss (keep s h.0) h.1) (h.0, edited_first_passes q p f keep ss h.1)

list_edited : (q : List ℕ → Bool) (f : List Segment → List Segment) → KeepsPassing q f → (x : Item) → NodePasses q x → NodePasses q (edit_list f x)
list_edited q f keep (leaf kind text) h = h
list_edited q f keep (group kind segs one_comma end) h =
    group_passes q kind (f (segments segs)) one_comma end (keep (segments segs) (elements_pass q (group kind segs one_comma end) h)) (and_parts (segs_pass q segs) (list_all q end) h).1

from_edited : (q : List ℕ → Bool) (f : List Segment → List Segment) → KeepsPassing q f → (start : Bool) (xs : List Item) → NodesPass q xs → NodesPass q (edit_from f start xs)
from_edited q f keep start [] h = tt
from_edited q f keep start (x ∷ xs) h =
    let rest = from_edited q f keep (is_plus x) xs h.1 in
    elim (is_part start x xs) as (λ b. NodesPass q ((if b then edit_list f x else x) ∷ edit_from f (is_plus x) xs)) [ true ↦ (list_edited q f keep x h.0, rest) | false ↦ (h.0, rest) ]

one_edited : (q : List ℕ → Bool) (f : List Segment → List Segment) → KeepsPassing q f → (start : Bool) (xs : List Item) → NodesPass q xs → NodesPass q (edit_one_from f start xs)
one_edited q f keep start [] h = tt
one_edited q f keep start (x ∷ xs) h =
    either_way (NodesPass q) (is_part start x xs) (list_edited q f keep x h.0, h.1) (h.0, one_edited q f keep (is_plus x) xs h.1)

element_from_edited : (q : List ℕ → Bool) (p : Segment → Bool) (g : Segment → Segment) → KeepsPassing q (edit_first p (λ s. g s ∷ [])) → (start : Bool) (xs : List Item) → NodesPass q xs
    → NodesPass q (edit_element_from p g start xs)
element_from_edited q p g keep start [] h = tt
element_from_edited q p g keep start (x ∷ xs) h =
    either_way (NodesPass q) (is_part start x xs && list_any p (elements x)) (list_edited q (edit_first p (λ s. g s ∷ [])) keep x h.0, h.1) (h.0, element_from_edited q p g keep (is_plus x) xs h.1)

-- each list part, the first one, or one element of these is edited
pub edited_parts_pass : (q : List ℕ → Bool) (f : List Segment → List Segment) → KeepsPassing q f → (nodes : List Item) → NodesPass q nodes → NodesPass q (edit_parts f nodes)
edited_parts_pass q f keep nodes h =
    subst (NodesPass q) (sym (edit_parts_are f nodes)) (either_way (NodesPass q) (list_all may_be_in_sum nodes) (from_edited q f keep true nodes h) h)

pub edited_first_part_passes : (q : List ℕ → Bool) (f : List Segment → List Segment) → KeepsPassing q f → (nodes : List Item) → NodesPass q nodes → NodesPass q (edit_first_part f nodes)
edited_first_part_passes q f keep nodes h =
    subst (NodesPass q) (sym (edit_first_part_is f nodes)) (either_way (NodesPass q) (list_all may_be_in_sum nodes) (one_edited q f keep true nodes h) h)

pub edited_element_passes : (q : List ℕ → Bool) (p : Segment → Bool) (g : Segment → Segment) → ((s : Segment) → SegmentPasses q s → SegmentPasses q (g s)) → (nodes : List Item) → NodesPass q nodes
    → NodesPass q (edit_element p g nodes)
edited_element_passes q p g keep nodes h =
    subst (NodesPass q) (sym (edit_element_is p g nodes)) (either_way (NodesPass q) (list_all may_be_in_sum nodes) (element_from_edited q p g (edited_first_passes q p (λ s. g s ∷ []) (λ s k. (keep s k, tt))) true nodes h) h)

-- the elements of list parts
from_pass : (q : List ℕ → Bool) (start : Bool) (xs : List Item) → NodesPass q xs → AllByRecursion (SegmentsPass q) (parts_from start xs)
from_pass q start [] h = tt
from_pass q start (x ∷ xs) h =
    let rest = from_pass q (is_plus x) xs h.1 in
    elim (is_part start x xs) as (λ b. AllByRecursion (SegmentsPass q) ((if b then elements x ∷ [] else []) ++ parts_from (is_plus x) xs)) [ true ↦ (elements_pass q x h.0, rest) | false ↦ rest ]

pub parts_pass : (q : List ℕ → Bool) (nodes : List Item) → NodesPass q nodes → AllByRecursion (SegmentsPass q) (parts nodes)
parts_pass q nodes h =
    subst (AllByRecursion (SegmentsPass q)) (sym (parts_are nodes)) (either_way (AllByRecursion (SegmentsPass q)) (list_all may_be_in_sum nodes) (from_pass q true nodes h) tt)
