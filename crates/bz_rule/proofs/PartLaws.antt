-- The list parts of a value whose list parts are edited.
use Rattle.std.proofs.Common.{◌≡◌, List, [], ◌∷◌, ◌++◌, Bool, true, false, ◌&&◌, if◌then◌else◌, map, refl, ap, subst, sym, ◌∙◌}
use Rattle.std.specs.List.{list_all}
use Rattle.bz_tree.specs.declared.tree.GroupKind.TheVariants.{Call, RuleCall, Load, Paren, List as ListKind, Index, Dict, ListComp, DictComp}
use Rattle.bz_tree.specs.Tree.{Item, leaf, group, Segs, Segment, segs_of, segments}
use Rattle.bz_attribute.specs.ListWalk.{elements, is_list, edit_list, edit_from, edit_one_from, edit_first_part, ends, is_part, parts_from, is_plus}
use Rattle.bz_attribute.specs.Lists.{edit_parts, may_be_in_sum, parts}
use Rattle.bz_attribute.proofs.ListPieces.{edit_first_part_is, edit_parts_are, parts_are, walked_parts}
use Rattle.bz_attribute.proofs.Views.{segments_of}
use Rattle.bz_tree.proofs.Rows.FromParts.{segs_back}

pub joint_edited : (f : List Segment → List Segment) (x : Item) → may_be_in_sum (edit_list f x) ≡ may_be_in_sum x
joint_edited f (leaf kind text) = refl
joint_edited f (group kind segs one_comma end) = refl

pub plus_edited : (f : List Segment → List Segment) (x : Item) → is_plus (edit_list f x) ≡ is_plus x
plus_edited f (leaf kind text) = refl
plus_edited f (group kind segs one_comma end) = refl

pub list_edited : (f : List Segment → List Segment) (x : Item) → is_list (edit_list f x) ≡ is_list x
list_edited f (leaf kind text) = refl
list_edited f (group Call segs one_comma end) = refl
list_edited f (group RuleCall segs one_comma end) = refl
list_edited f (group Load segs one_comma end) = refl
list_edited f (group Paren segs one_comma end) = refl
list_edited f (group ListKind segs one_comma end) = refl
list_edited f (group Index segs one_comma end) = refl
list_edited f (group Dict segs one_comma end) = refl
list_edited f (group ListComp segs one_comma end) = refl
list_edited f (group DictComp segs one_comma end) = refl

pub elements_edited : (f : List Segment → List Segment) (x : Item) → is_list x ≡ true → elements (edit_list f x) ≡ f (elements x)
elements_edited f (leaf kind text) h = absurd cc
elements_edited f (group kind segs one_comma end) h = segments_of (f (segments segs))

pub same_edited : (f : List Segment → List Segment) (x : Item) → f (elements x) ≡ elements x → edit_list f x ≡ x
same_edited f (leaf kind text) h = refl
same_edited f (group kind segs one_comma end) h = ap (λ (ss : List Segment). group kind (segs_of ss) one_comma end) h ∙ ap (λ (ss : Segs). group kind ss one_comma end) (segs_back segs)

part_list : (start list last : Bool) → start && list && last ≡ true → list ≡ true
part_list true true last h = refl
part_list true false last h = absurd cc
part_list false list last h = absurd cc

ends_edited : (f : List Segment → List Segment) (start : Bool) (xs : List Item) → ends (edit_from f start xs) ≡ ends xs
ends_edited f start [] = refl
ends_edited f start (x ∷ xs) = elim (is_part start x xs) as (λ b. is_plus (if b then edit_list f x else x) ≡ is_plus x) [ true ↦ plus_edited f x | false ↦ refl ]

joints_edited : (f : List Segment → List Segment) (start : Bool) (xs : List Item) → list_all may_be_in_sum (edit_from f start xs) ≡ list_all may_be_in_sum xs
joints_edited f start [] = refl
joints_edited f start (x ∷ xs) =
    let rest : list_all may_be_in_sum (edit_from f (is_plus x) xs) ≡ list_all may_be_in_sum xs = joints_edited f (is_plus x) xs in
    elim (is_part start x xs) as (λ b. may_be_in_sum (if b then edit_list f x else x) && list_all may_be_in_sum (edit_from f (is_plus x) xs) ≡ may_be_in_sum x && list_all may_be_in_sum xs)
    [ true ↦ rw (joint_edited f x, rest) refl | false ↦ rw rest refl ]

parts_edited_from : (f : List Segment → List Segment) (start : Bool) (xs : List Item) → parts_from start (edit_from f start xs) ≡ map f (parts_from start xs)
parts_edited_from f start [] = refl
parts_edited_from f start (x ∷ xs) =
    let rest : parts_from (is_plus x) (edit_from f (is_plus x) xs) ≡ map f (parts_from (is_plus x) xs) = parts_edited_from f (is_plus x) xs in
    let last : ends (edit_from f (is_plus x) xs) ≡ ends xs = ends_edited f (is_plus x) xs in
    elim (is_part start x xs) as (λ b. is_part start x xs ≡ b → parts_from start ((if b then edit_list f x else x) ∷ edit_from f (is_plus x) xs) ≡ map f ((if b then elements x ∷ [] else []) ++ parts_from (is_plus x) xs)) [
      | true ↦ λ e.
          let list : is_list x ≡ true = part_list start (is_list x) (ends xs) e in
          let part : is_part start (edit_list f x) (edit_from f (is_plus x) xs) ≡ true = rw (list_edited f x, last) e in
          rw (part, plus_edited f x, elements_edited f x list, rest) refl
      | false ↦ λ e.
          let part : is_part start x (edit_from f (is_plus x) xs) ≡ false = rw last e in
          rw (part, rest) refl
    ] refl

-- each list part edited: the lists are
pub parts_edited : (f : List Segment → List Segment) (nodes : List Item) → parts (edit_parts f nodes) ≡ map f (parts nodes)
parts_edited f nodes =
    ap parts (edit_parts_are f nodes) ∙ parts_are (if list_all may_be_in_sum nodes then edit_from f true nodes else nodes)
    ∙ elim (list_all may_be_in_sum nodes) as (λ b. list_all may_be_in_sum nodes ≡ b → walked_parts (if b then edit_from f true nodes else nodes) ≡ map f (if b then parts_from true nodes else []))
    [ true ↦ λ e. rw (joints_edited f true nodes, e) (parts_edited_from f true nodes) | false ↦ λ e. rw e refl ] refl
    ∙ ap (map f) (sym (parts_are nodes))

-- the first of some lists edited
abbrev pub edit_head : (List Segment → List Segment) → List (List Segment) → List (List Segment)
edit_head f [] = []
edit_head f (ss ∷ lists) = f ss ∷ lists

ends_one : (f : List Segment → List Segment) (start : Bool) (xs : List Item) → ends (edit_one_from f start xs) ≡ ends xs
ends_one f start [] = refl
ends_one f start (x ∷ xs) = elim (is_part start x xs) as (λ b. ends (if b then edit_list f x ∷ xs else x ∷ edit_one_from f (is_plus x) xs) ≡ is_plus x) [ true ↦ plus_edited f x | false ↦ refl ]

joints_one : (f : List Segment → List Segment) (start : Bool) (xs : List Item) → list_all may_be_in_sum (edit_one_from f start xs) ≡ list_all may_be_in_sum xs
joints_one f start [] = refl
joints_one f start (x ∷ xs) =
    elim (is_part start x xs) as (λ b. list_all may_be_in_sum (if b then edit_list f x ∷ xs else x ∷ edit_one_from f (is_plus x) xs) ≡ may_be_in_sum x && list_all may_be_in_sum xs)
    [ true ↦ rw (joint_edited f x) refl | false ↦ rw (joints_one f (is_plus x) xs) refl ]

parts_one_from : (f : List Segment → List Segment) (start : Bool) (xs : List Item) → parts_from start (edit_one_from f start xs) ≡ edit_head f (parts_from start xs)
parts_one_from f start [] = refl
parts_one_from f start (x ∷ xs) =
    let rest : parts_from (is_plus x) (edit_one_from f (is_plus x) xs) ≡ edit_head f (parts_from (is_plus x) xs) = parts_one_from f (is_plus x) xs in
    let last : ends (edit_one_from f (is_plus x) xs) ≡ ends xs = ends_one f (is_plus x) xs in
    elim (is_part start x xs) as (λ b. is_part start x xs ≡ b → parts_from start (if b then edit_list f x ∷ xs else x ∷ edit_one_from f (is_plus x) xs) ≡ edit_head f ((if b then elements x ∷ [] else []) ++ parts_from (is_plus x) xs)) [
      | true ↦ λ e.
          let list : is_list x ≡ true = part_list start (is_list x) (ends xs) e in
          let part : is_part start (edit_list f x) xs ≡ true = rw (list_edited f x) e in
          rw (part, plus_edited f x, elements_edited f x list) refl
      | false ↦ λ e.
          let part : is_part start x (edit_one_from f (is_plus x) xs) ≡ false = rw last e in
          rw (part, rest) refl
    ] refl

-- the first list part edited: the first list is
pub parts_first_edited : (f : List Segment → List Segment) (nodes : List Item) → parts (edit_first_part f nodes) ≡ edit_head f (parts nodes)
parts_first_edited f nodes =
    ap parts (edit_first_part_is f nodes) ∙ parts_are (if list_all may_be_in_sum nodes then edit_one_from f true nodes else nodes)
    ∙ elim (list_all may_be_in_sum nodes) as (λ b. list_all may_be_in_sum nodes ≡ b → walked_parts (if b then edit_one_from f true nodes else nodes) ≡ edit_head f (if b then parts_from true nodes else []))
    [ true ↦ λ e. rw (joints_one f true nodes, e) (parts_one_from f true nodes) | false ↦ λ e. rw e refl ] refl
    ∙ ap (edit_head f) (sym (parts_are nodes))

parts_stay_from : (f : List Segment → List Segment) (start : Bool) (xs : List Item) → map f (parts_from start xs) ≡ parts_from start xs → edit_from f start xs ≡ xs
parts_stay_from f start [] h = refl
parts_stay_from f start (x ∷ xs) h =
    elim (is_part start x xs) as (λ b. map f ((if b then elements x ∷ [] else []) ++ parts_from (is_plus x) xs) ≡ (if b then elements x ∷ [] else []) ++ parts_from (is_plus x) xs → (if b then edit_list f x else x) ∷ edit_from f (is_plus x) xs ≡ x ∷ xs) [
      | true ↦ λ k.
          let here : f (elements x) ≡ elements x = cc in
          let later : map f (parts_from (is_plus x) xs) ≡ parts_from (is_plus x) xs = cc in
          rw (same_edited f x here, parts_stay_from f (is_plus x) xs later) refl
      | false ↦ λ k. ap (λ (zs : List Item). x ∷ zs) (parts_stay_from f (is_plus x) xs k)
    ] h

-- where the lists stay, so does the value
pub parts_stay : (f : List Segment → List Segment) (nodes : List Item) → map f (parts nodes) ≡ parts nodes → edit_parts f nodes ≡ nodes
parts_stay f nodes h =
    edit_parts_are f nodes
    ∙ elim (list_all may_be_in_sum nodes) as (λ b. map f (if b then parts_from true nodes else []) ≡ (if b then parts_from true nodes else []) → (if b then edit_from f true nodes else nodes) ≡ nodes)
    [ true ↦ λ k. parts_stay_from f true nodes k | false ↦ λ k. refl ] (subst (λ (lists : List (List Segment)). map f lists ≡ lists) (parts_are nodes) h)

first_stays_from : (f : List Segment → List Segment) (start : Bool) (xs : List Item) → edit_head f (parts_from start xs) ≡ parts_from start xs → edit_one_from f start xs ≡ xs
first_stays_from f start [] h = refl
first_stays_from f start (x ∷ xs) h =
    elim (is_part start x xs) as (λ b. edit_head f ((if b then elements x ∷ [] else []) ++ parts_from (is_plus x) xs) ≡ (if b then elements x ∷ [] else []) ++ parts_from (is_plus x) xs → (if b then edit_list f x ∷ xs else x ∷ edit_one_from f (is_plus x) xs) ≡ x ∷ xs) [
      | true ↦ λ k. let here : f (elements x) ≡ elements x = cc in rw (same_edited f x here) refl
      | false ↦ λ k. ap (λ (zs : List Item). x ∷ zs) (first_stays_from f (is_plus x) xs k)
    ] h

-- where the first list stays, so does the value
pub first_part_stays : (f : List Segment → List Segment) (nodes : List Item) → edit_head f (parts nodes) ≡ parts nodes → edit_first_part f nodes ≡ nodes
first_part_stays f nodes h =
    edit_first_part_is f nodes
    ∙ elim (list_all may_be_in_sum nodes) as (λ b. edit_head f (if b then parts_from true nodes else []) ≡ (if b then parts_from true nodes else []) → (if b then edit_one_from f true nodes else nodes) ≡ nodes)
    [ true ↦ λ k. first_stays_from f true nodes k | false ↦ λ k. refl ] (subst (λ (lists : List (List Segment)). edit_head f lists ≡ lists) (parts_are nodes) h)
