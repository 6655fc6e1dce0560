-- A walk over the items of a value meets its list parts.
use Rattle.std.proofs.Common.{◌≡◌, List, [], ◌∷◌, ◌++◌, Bool, true, false, ◌&&◌, if◌then◌else◌, Option, Some, None, is_some, map, refl, ap, sym, ◌∙◌, append-nil, codes, inl, inr}
use Rattle.std.specs.List.{list_all, list_any, filter_map, cons_option, slice_split}
use Rattle.std.specs.Prelude.{cond}
use Rattle.std.proofs.lemmas.Bool.{false≢true, cases_Bool}
use Rattle.std.proofs.lemmas.Slice.Eq.{bytes_eq-Decides}
use Rattle.bz_token.specs.declared.token.Kind.TheVariants.{Operator}
use Rattle.bz_token.specs.Common.{is_empty, map_or}
use Rattle.bz_tree.specs.declared.tree.GroupKind.TheVariants.{List as ListKind}
use Rattle.bz_tree.specs.Tree.{Item, leaf, group, Segment}
use Rattle.bz_attribute.specs.ListWalk.{elements, ends, is_list, is_only, is_part, parts_from, edit_element, edit_first_part, edit_list, edit_from, edit_one_from, edit_element_from, is_plus}
use Rattle.bz_attribute.specs.Lists.{may_be_in_sum, only_list, sum_of, parts, edit_piece, edit_parts}
use Rattle.bz_attribute.specs.Effects.{edit_first, edit_part}

-- the piece that begins a list of items, and those after it
abbrev front : List Item → List Item
front [] = []
front (x ∷ xs) = if is_plus x then [] else x ∷ front xs

abbrev others : List Item → List (List Item)
others [] = []
others (x ∷ xs) = if is_plus x then front xs ∷ others xs else others xs

split_is : (xs : List Item) → slice_split is_plus xs ≡ front xs ∷ others xs
split_is [] = refl
split_is (x ∷ xs) =
    rw (split_is xs)
    (elim (is_plus x) as (λ b. cond b ([] ∷ front xs ∷ others xs) ((x ∷ front xs) ∷ others xs) ≡ (if b then [] else x ∷ front xs) ∷ (if b then front xs ∷ others xs else others xs)) [ true ↦ refl | false ↦ refl ])

abbrev plus : Item
plus = leaf Operator (codes "+")

plus_is : (x : Item) → is_plus x ≡ true → x ≡ plus
plus_is (leaf Operator text) h = ap (leaf Operator) ((bytes_eq-Decides text (codes "+")).0 h)
plus_is (leaf _ text) h = absurd (false≢true h)
plus_is (group kind segs one_comma end) h = absurd (false≢true h)

sum_onto : (x : Item) (piece : List Item) (pieces : List (List Item)) → sum_of ((x ∷ piece) ∷ pieces) ≡ x ∷ sum_of (piece ∷ pieces)
sum_onto x piece pieces = refl

back : (xs : List Item) → sum_of (front xs ∷ others xs) ≡ xs
back [] = refl
back (x ∷ xs) =
    elim (is_plus x) as (λ b. is_plus x ≡ b → sum_of ((if b then [] else x ∷ front xs) ∷ (if b then front xs ∷ others xs else others xs)) ≡ x ∷ xs)
    [ true ↦ λ e. (λ i. sym (plus_is x e) i ∷ back xs i) | false ↦ λ e. sum_onto x (front xs) (others xs) ∙ ap (λ (ys : List Item). x ∷ ys) (back xs) ] refl

-- a piece that is one list
ends_front : (xs : List Item) → ends xs ≡ is_empty (front xs)
ends_front [] = refl
ends_front (x ∷ xs) = elim (is_plus x) as (λ b. b ≡ is_empty (if b then [] else x ∷ front xs)) [ true ↦ refl | false ↦ refl ]

alone : (x : Item) (ys : List Item) → only_list (x ∷ ys) ≡ (if is_list x && is_empty ys then Some (elements x) else None)
alone (leaf kind text) ys = refl
alone (group ListKind segs one_comma end) [] = refl
alone (group ListKind segs one_comma end) (y ∷ ys) = refl
alone (group _ segs one_comma end) ys = refl

-- of one node, and of more
pub only_one : (x : Item) → only_list (x ∷ []) ≡ (if is_list x then Some (elements x) else None)
only_one x = alone x [] ∙ elim (is_list x) as (λ b. (if b && true then Some (elements x) else None) ≡ (if b then Some (elements x) else None)) [ true ↦ refl | false ↦ refl ]

pub only_more : (x y : Item) (xs : List Item) → only_list (x ∷ y ∷ xs) ≡ None
only_more x y xs = alone x (y ∷ xs) ∙ elim (is_list x) as (λ b. (if b && false then Some (elements x) else None) ≡ None) [ true ↦ refl | false ↦ refl ]

pub only_is : (nodes : List Item) → is_some (only_list nodes) ≡ is_only is_list nodes
only_is [] = refl
only_is (x ∷ []) = ap is_some (only_one x) ∙ elim (is_list x) as (λ b. is_some (if b then Some (elements x) else None) ≡ b) [ true ↦ refl | false ↦ refl ]
only_is (x ∷ y ∷ xs) = ap is_some (only_more x y xs)

alone_edited : (f : List Segment → List Segment) (x : Item) (ys : List Item) → edit_piece f (x ∷ ys) ≡ (if is_list x && is_empty ys then edit_list f x else x) ∷ ys
alone_edited f (leaf kind text) ys = refl
alone_edited f (group ListKind segs one_comma end) [] = refl
alone_edited f (group ListKind segs one_comma end) (y ∷ ys) = refl
alone_edited f (group _ segs one_comma end) ys = refl

is_alone : (x : Item) (xs : List Item) → only_list (x ∷ front xs) ≡ (if is_part true x xs then Some (elements x) else None)
is_alone x xs = rw (ends_front xs) (alone x (front xs))

is_edited : (f : List Segment → List Segment) (x : Item) (xs : List Item) → edit_piece f (x ∷ front xs) ≡ (if is_part true x xs then edit_list f x else x) ∷ front xs
is_edited f x xs = rw (ends_front xs) (alone_edited f x (front xs))

plus_list : (start : Bool) (x : Item) (xs : List Item) → is_plus x ≡ true → is_part start x xs ≡ false
plus_list true (leaf kind text) xs h = refl
plus_list false (leaf kind text) xs h = refl
plus_list start (group kind segs one_comma end) xs h = absurd (false≢true h)

-- the list parts
abbrev pieces_from : Bool → List Item → List (List Item)
pieces_from start xs = if start then front xs ∷ others xs else others xs

parts_walked : (start : Bool) (xs : List Item) → filter_map only_list (pieces_from start xs) ≡ parts_from start xs
parts_walked true [] = refl
parts_walked false [] = refl
parts_walked start (x ∷ xs) = elim (cases_Bool (is_plus x)) [
  | inl is ↦ rw (is, plus_list start x xs is) (elim start as (λ b. filter_map only_list (if b then [] ∷ front xs ∷ others xs else front xs ∷ others xs) ≡ parts_from true xs) [ true ↦ parts_walked true xs | false ↦ parts_walked true xs ])
  | inr other ↦ rw other (elim start as (λ b. filter_map only_list (if b then (x ∷ front xs) ∷ others xs else others xs) ≡ (if is_part b x xs then elements x ∷ [] else []) ++ parts_from false xs) [
    | true ↦ rw (is_alone x xs) (elim (is_part true x xs) as (λ b. cons_option (if b then Some (elements x) else None) (filter_map only_list (others xs)) ≡ (if b then elements x ∷ [] else []) ++ parts_from false xs)
        [ true ↦ ap (λ (zs : List (List Segment)). elements x ∷ zs) (parts_walked false xs) | false ↦ parts_walked false xs ])
    | false ↦ parts_walked false xs
  ])
]

-- each edited
abbrev first_edited : (List Segment → List Segment) → Bool → List Item → List Item
first_edited f start xs = if start then edit_piece f (front xs) else front xs

all_walked : (f : List Segment → List Segment) (start : Bool) (xs : List Item) → sum_of (first_edited f start xs ∷ map (edit_piece f) (others xs)) ≡ edit_from f start xs
all_walked f true [] = refl
all_walked f false [] = refl
all_walked f start (x ∷ xs) = elim (cases_Bool (is_plus x)) [
  | inl is ↦ rw (is, plus_list start x xs is) (elim start as (λ b. sum_of ((if b then [] else []) ∷ edit_piece f (front xs) ∷ map (edit_piece f) (others xs)) ≡ x ∷ edit_from f true xs)
      [ true ↦ (λ i. sym (plus_is x is) i ∷ all_walked f true xs i) | false ↦ (λ i. sym (plus_is x is) i ∷ all_walked f true xs i) ])
  | inr other ↦ rw other (elim start as (λ b. sum_of ((if b then edit_piece f (x ∷ front xs) else x ∷ front xs) ∷ map (edit_piece f) (others xs)) ≡ (if is_part b x xs then edit_list f x else x) ∷ edit_from f false xs) [
    | true ↦
        let y : Item = if is_part true x xs then edit_list f x else x in
        ap (λ (piece : List Item). sum_of (piece ∷ map (edit_piece f) (others xs))) (is_edited f x xs) ∙ sum_onto y (front xs) (map (edit_piece f) (others xs)) ∙ ap (λ (ys : List Item). y ∷ ys) (all_walked f false xs)
    | false ↦ sum_onto x (front xs) (map (edit_piece f) (others xs)) ∙ ap (λ (ys : List Item). x ∷ ys) (all_walked f false xs)
  ])
]

-- the first that passes edited
abbrev passes : (List Segment → Bool) → List Item → Bool
passes p piece = map_or false p (only_list piece)

abbrev first_of : (List Segment → Bool) → (List Segment → List Segment) → List (List Item) → List (List Item)
first_of p f = edit_first (passes p) (λ piece. edit_piece f piece ∷ [])

abbrev edited_from : (List Segment → Bool) → (List Segment → List Segment) → Bool → List Item → List (List Item)
edited_from p f start xs = if start then first_of p f (front xs ∷ others xs) else front xs ∷ first_of p f (others xs)

abbrev edit_part_from : (List Segment → Bool) → (List Segment → List Segment) → Bool → List Item → List Item
edit_part_from p f start [] = []
edit_part_from p f start (x ∷ xs) = if is_part start x xs && p (elements x) then edit_list f x ∷ xs else x ∷ edit_part_from p f (is_plus x) xs

sum_after : (p : List Segment → Bool) (f : List Segment → List Segment) (piece : List Item) (pieces : List (List Item)) → sum_of ([] ∷ first_of p f (piece ∷ pieces)) ≡ plus ∷ sum_of (first_of p f (piece ∷ pieces))
sum_after p f piece pieces =
    elim (passes p piece) as (λ b. sum_of ([] ∷ (if b then edit_piece f piece ∷ pieces else piece ∷ first_of p f pieces)) ≡ plus ∷ sum_of (if b then edit_piece f piece ∷ pieces else piece ∷ first_of p f pieces)) [ true ↦ refl | false ↦ refl ]

alone_passes : (p : List Segment → Bool) (x : Item) (xs : List Item) → passes p (x ∷ front xs) ≡ (is_part true x xs && p (elements x))
alone_passes p x xs = rw (is_alone x xs) (elim (is_part true x xs) as (λ b. map_or false p (if b then Some (elements x) else None) ≡ (b && p (elements x))) [ true ↦ refl | false ↦ refl ])

first_walked : (p : List Segment → Bool) (f : List Segment → List Segment) (start : Bool) (xs : List Item) → sum_of (edited_from p f start xs) ≡ edit_part_from p f start xs
first_walked p f true [] = refl
first_walked p f false [] = refl
first_walked p f start (x ∷ xs) = elim (cases_Bool (is_plus x)) [
  | inl is ↦
      let after : sum_of ([] ∷ first_of p f (front xs ∷ others xs)) ≡ x ∷ edit_part_from p f true xs = sum_after p f (front xs) (others xs) ∙ (λ i. sym (plus_is x is) i ∷ first_walked p f true xs i) in
      rw (is, plus_list start x xs is)
      (elim start as (λ b. sum_of (if b then [] ∷ first_of p f (front xs ∷ others xs) else [] ∷ first_of p f (front xs ∷ others xs)) ≡ x ∷ edit_part_from p f true xs) [ true ↦ after | false ↦ after ])
  | inr other ↦
      let later : sum_of ((x ∷ front xs) ∷ first_of p f (others xs)) ≡ x ∷ edit_part_from p f false xs = sum_onto x (front xs) (first_of p f (others xs)) ∙ ap (λ (ys : List Item). x ∷ ys) (first_walked p f false xs) in
      rw other (elim start as (λ b. sum_of (if b then (if passes p (x ∷ front xs) then edit_piece f (x ∷ front xs) ∷ others xs else (x ∷ front xs) ∷ first_of p f (others xs)) else (x ∷ front xs) ∷ first_of p f (others xs))
      ≡ (if is_part b x xs && p (elements x) then edit_list f x ∷ xs else x ∷ edit_part_from p f false xs)) [
        | true ↦ rw (alone_passes p x xs) (elim (cases_Bool (is_part true x xs)) [
          | inl part ↦ rw part (elim (p (elements x)) as (λ b. sum_of (if b then edit_piece f (x ∷ front xs) ∷ others xs else (x ∷ front xs) ∷ first_of p f (others xs)) ≡ (if b then edit_list f x ∷ xs else x ∷ edit_part_from p f false xs)) [
            | true ↦
                let here : edit_piece f (x ∷ front xs) ≡ edit_list f x ∷ front xs = is_edited f x xs ∙ ap (λ (b : Bool). (if b then edit_list f x else x) ∷ front xs) part in
                ap (λ (piece : List Item). sum_of (piece ∷ others xs)) here ∙ sum_onto (edit_list f x) (front xs) (others xs) ∙ ap (λ (ys : List Item). edit_list f x ∷ ys) (back xs)
            | false ↦ later
          ])
          | inr none ↦ rw none later
        ])
        | false ↦ later
      ])
]

-- where not all are joints, there is one piece, and no list
no_list : (nodes : List Item) → list_all may_be_in_sum nodes ≡ false → only_list nodes ≡ None
no_list [] h = refl
no_list (leaf kind text ∷ xs) h = refl
no_list (group ListKind segs one_comma end ∷ []) h = absurd (false≢true (sym h))
no_list (group ListKind segs one_comma end ∷ x ∷ xs) h = refl
no_list (group _ segs one_comma end ∷ xs) h = refl

stays : (f : List Segment → List Segment) (nodes : List Item) → list_all may_be_in_sum nodes ≡ false → edit_piece f nodes ≡ nodes
stays f [] h = refl
stays f (leaf kind text ∷ xs) h = refl
stays f (group ListKind segs one_comma end ∷ []) h = absurd (false≢true (sym h))
stays f (group ListKind segs one_comma end ∷ x ∷ xs) h = refl
stays f (group _ segs one_comma end ∷ xs) h = refl

abbrev pub walked_parts : List Item → List (List Segment)
walked_parts nodes = if list_all may_be_in_sum nodes then parts_from true nodes else []

pub parts_are : (nodes : List Item) → parts nodes ≡ walked_parts nodes
parts_are nodes = elim (cases_Bool (list_all may_be_in_sum nodes)) [
  | inl is ↦ rw is (ap (filter_map only_list) (split_is nodes) ∙ parts_walked true nodes)
  | inr other ↦ rw other (ap (λ (o : Option (List Segment)). cons_option o []) (no_list nodes other))
]

pub edit_parts_are : (f : List Segment → List Segment) (nodes : List Item) → edit_parts f nodes ≡ (if list_all may_be_in_sum nodes then edit_from f true nodes else nodes)
edit_parts_are f nodes = elim (cases_Bool (list_all may_be_in_sum nodes)) [
  | inl is ↦ rw is (ap (λ (ps : List (List Item)). sum_of (map (edit_piece f) ps)) (split_is nodes) ∙ all_walked f true nodes)
  | inr other ↦ rw other (append-nil (edit_piece f nodes) ∙ stays f nodes other)
]

edit_part_is : (p : List Segment → Bool) (f : List Segment → List Segment) (nodes : List Item) → edit_part p f nodes ≡ (if list_all may_be_in_sum nodes then edit_part_from p f true nodes else nodes)
edit_part_is p f nodes = elim (cases_Bool (list_all may_be_in_sum nodes)) [
  | inl is ↦ rw is (ap (λ (ps : List (List Item)). sum_of (first_of p f ps)) (split_is nodes) ∙ first_walked p f true nodes)
  | inr other ↦ rw (other, no_list nodes other) (append-nil nodes)
]

one_is : (f : List Segment → List Segment) (start : Bool) (xs : List Item) → edit_part_from (λ ss. true) f start xs ≡ edit_one_from f start xs
one_is f start [] = refl
one_is f start (x ∷ xs) = rw (one_is f (is_plus x) xs)
    (elim (is_part start x xs) as (λ b. (if b && true then edit_list f x ∷ xs else x ∷ edit_one_from f (is_plus x) xs) ≡ (if b then edit_list f x ∷ xs else x ∷ edit_one_from f (is_plus x) xs)) [ true ↦ refl | false ↦ refl ])

pub edit_first_part_is : (f : List Segment → List Segment) (nodes : List Item) → edit_first_part f nodes ≡ (if list_all may_be_in_sum nodes then edit_one_from f true nodes else nodes)
edit_first_part_is f nodes = edit_part_is (λ ss. true) f nodes ∙ ap (λ (xs : List Item). if list_all may_be_in_sum nodes then xs else nodes) (one_is f true nodes)

element_is : (p : Segment → Bool) (f : Segment → Segment) (start : Bool) (xs : List Item) → edit_part_from (list_any p) (edit_first p (λ s. f s ∷ [])) start xs ≡ edit_element_from p f start xs
element_is p f start [] = refl
element_is p f start (x ∷ xs) = rw (element_is p f (is_plus x) xs) refl

pub edit_element_is : (p : Segment → Bool) (f : Segment → Segment) (nodes : List Item) → edit_element p f nodes ≡ (if list_all may_be_in_sum nodes then edit_element_from p f true nodes else nodes)
edit_element_is p f nodes = edit_part_is (list_any p) (edit_first p (λ s. f s ∷ [])) nodes ∙ ap (λ (xs : List Item). if list_all may_be_in_sum nodes then xs else nodes) (element_is p f true nodes)
