-- The list parts of a value and the elements of each, among the parts of its rule.
use Rattle.std.specs.Prelude.{◌≡◌, ℕ, ◌+◌, ◌-◌, List, [], ◌∷◌, ◌++◌, Bool, true, false, if◌then◌else◌, Option, None, Some, is_some, length, map, take, drop}
use Rattle.std.specs.List.{list_any, flat_map}
use Rattle.bz_tree.specs.declared.tree.GroupKind.TheVariants.{List as ListKind}
use Rattle.bz_tree.specs.Tree.{Item, group, Segment, Statement, items_of, segs_of}
use Rattle.bz_tree.specs.Rows.{RowPart, above, closing, segment_end, items_parts, parts_of, segs_parts}
use Rattle.bz_label.specs.Labels.{Package}
use Rattle.bz_attribute.specs.Rules.{Rule, first_named, is_named, only_text, value}
use Rattle.bz_attribute.specs.Lists.{edit_parts, equals, parts, with_value, only_list}
use Rattle.bz_attribute.specs.ListWalk.{edit_first_part, edit_from, edit_one_from, ends, parts_from, edit_element, edit_element_from}
use Rattle.bz_attribute.specs.Effects.{edit_first, with_args, with_comment}

-- the parts of a value, the end of its argument, and those after that
abbrev pub value_parts : List Item → List RowPart → List RowPart
value_parts nodes after = items_parts (items_of nodes) ++ segment_end ∷ after

-- of each value that stands there, and the parts after it
abbrev pub ForValue : List RowPart → ℕ → (List Item → List RowPart → List RowPart → Type 0) → Type 0
ForValue ps at P = (nodes : List Item) (after : List RowPart) → drop at ps ≡ value_parts nodes after → P nodes after ps

-- the value of the first argument of a name stands there
pub record IsValueAt (name : List ℕ) (s : Statement) (r : Rule) (ps : List RowPart) (at : ℕ) : Type 0 where
  pub arg : Segment
  pub after : List RowPart
  pub first : first_named name r.args ≡ Some arg
  pub read : drop at ps ≡ value_parts (value arg) after
  -- others in its place make the rule with that argument edited
  pub put : (edit : Segment → List Segment) (nodes : List Item) → edit arg ≡ with_value nodes arg ∷ []
      → take at ps ++ value_parts nodes after ≡ parts_of (with_args (edit_first (is_named name) edit) s)

-- what is left of a value from a place in a list part on
pub record ListRest : Type 0 where
  -- the elements that are left of the list part, and how it ends
  pub elements : List Segment
  pub end : List (List ℕ)
  pub one_comma : Bool
  -- what comes after it in the value
  pub items : List Item

abbrev pub list_item : ListRest → Item
list_item l = group ListKind (segs_of l.elements) l.one_comma l.end

abbrev pub rest_parts : ListRest → List RowPart → List RowPart
rest_parts l after = segs_parts (segs_of l.elements) ++ (map above l.end ++ closing l.one_comma ∷ value_parts l.items after)

-- of each rest of a value that stands there, and the parts after it
abbrev pub ForRest : List RowPart → ℕ → (ListRest → List RowPart → List RowPart → Type 0) → Type 0
ForRest ps at P = (rest : ListRest) (after : List RowPart) → drop at ps ≡ rest_parts rest after → P rest after ps

-- The elements of each list part of a value (`whole`), or of what comes after a list part of it.
abbrev pub lists_in : Bool → List Item → List (List Segment)
lists_in whole nodes = if whole then parts nodes else parts_from false nodes

abbrev pub edit_in : Bool → (List Segment → List Segment) → List Item → List Item
edit_in whole f nodes = if whole then edit_parts f nodes else edit_from f false nodes

abbrev pub edit_one_in : Bool → (List Segment → List Segment) → List Item → List Item
edit_one_in whole f nodes = if whole then edit_first_part f nodes else edit_one_from f false nodes

abbrev pub edit_element_in : Bool → (Segment → Bool) → (Segment → Segment) → List Item → List Item
edit_element_in whole p f nodes = if whole then edit_element p f nodes else edit_element_from p f false nodes

-- what is left of a value, where its first element that passes is edited
abbrev pub found_rest : (Segment → Bool) → (Segment → Segment) → ListRest → ListRest
found_rest p f l =
    if list_any p l.elements then record l { elements = edit_first p (λ s. f s ∷ []) l.elements }
    else record l { items = edit_element_from p f false l.items }

-- what is left of a value, where the elements of each list part are edited
abbrev pub edited_rest : (List Segment → List Segment) → ListRest → ListRest
edited_rest f l = record l { elements = f l.elements; items = edit_from f false l.items }

-- The first list part of nodes that stand at `from`: its elements begin at `to`.
pub record IsListIn (whole : Bool) (nodes : List Item) (after ps : List RowPart) (from to : ℕ) : Type 0 where
  pub front : List Item
  pub list : ListRest
  pub are : nodes ≡ front ++ list_item list ∷ list.items
  pub begins : to ≡ from + (length (items_parts (items_of front)) + 1)
  pub read : drop to ps ≡ rest_parts list after
  pub lists : lists_in whole nodes ≡ list.elements ∷ parts_from false list.items
  pub ends : ends list.items ≡ true
  pub edit : (f : List Segment → List Segment)
      → edit_in whole f nodes ≡ front ++ list_item (record list { elements = f list.elements }) ∷ edit_from f false list.items
  pub first : (f : List Segment → List Segment)
      → edit_one_in whole f nodes ≡ front ++ list_item (record list { elements = f list.elements }) ∷ list.items
  pub found : (p : Segment → Bool) (f : Segment → Segment)
      → edit_element_in whole p f nodes ≡ front ++ list_item (found_rest p f list) ∷ (found_rest p f list).items

-- there is none
pub record HasNoList (whole : Bool) (nodes : List Item) : Type 0 where
  pub none : lists_in whole nodes ≡ []
  pub same : (f : List Segment → List Segment) → edit_in whole f nodes ≡ nodes

-- The next of the elements that are left, which begin at `at`: its nodes begin at `token`, and it ends at `to`.
pub record IsElementOf (l : ListRest) (after ps : List RowPart) (at token to : ℕ) (string : Option (List ℕ)) : Type 0 where
  pub element : Segment
  pub others : List Segment
  pub are : l.elements ≡ element ∷ others
  pub begins : token ≡ at + length element.before
  pub ends : to ≡ at + length (segs_parts (segs_of (element ∷ [])))
  pub own : drop at ps ≡ segs_parts (segs_of (element ∷ [])) ++ drop to ps
  pub read : drop to ps ≡ rest_parts (record l { elements = others }) after
  pub text : string ≡ only_text element.nodes

-- the value is one list: its elements begin at `to`
pub record IsOnlyList (nodes : List Item) (after ps : List RowPart) (to : ℕ) : Type 0 where
  pub list : ListRest
  pub are : nodes ≡ list_item list ∷ []
  pub read : drop to ps ≡ rest_parts list after

-- it may be none
abbrev pub OnlyList : List Item → List RowPart → List RowPart → Option ℕ → Type 0
OnlyList nodes after ps None = is_some (only_list nodes) ≡ false
OnlyList nodes after ps (Some to) = IsOnlyList nodes after ps to

-- all elements that are left of the value
abbrev pub elements_left : ListRest → List Segment
elements_left l = l.elements ++ flat_map (λ ss. ss) (parts_from false l.items)

-- The next of the elements that are left from `at` on stands from `from` to `to`, and its nodes begin at `token`.
pub record IsNextElement (l : ListRest) (after ps : List RowPart) (at from token to : ℕ) (string : Option (List ℕ)) : Type 0 where
  pub element : Segment
  pub left : ListRest
  pub are : elements_left l ≡ element ∷ elements_left left
  pub begins : token ≡ from + length element.before
  pub own : take (to - from) (drop from ps) ≡ segs_parts (segs_of (element ∷ []))
  pub read : drop to ps ≡ rest_parts left after
  pub text : string ≡ only_text element.nodes
  -- each is edited: this one, and then those after it
  pub edited : (f : Segment → List Segment) → rest_parts (edited_rest (flat_map f) l) after
      ≡ take (from - at) (drop at ps) ++ (segs_parts (segs_of (f element)) ++ rest_parts (edited_rest (flat_map f) left) after)
  -- the first that passes gets a comment line: this one, or one of those after it
  pub line : (p : Segment → Bool) (line : List ℕ) → p element ≡ true
      → take at ps ++ rest_parts (found_rest p (with_comment line) l) after ≡ take token ps ++ above line ∷ drop token ps
  pub passed : (p : Segment → Bool) (f : Segment → Segment) → p element ≡ false
      → take at ps ++ rest_parts (found_rest p f l) after ≡ take to ps ++ rest_parts (found_rest p f left) after

-- Of what is left of a value from `from` on, the first element that equals the word begins at `at`, with its nodes.
pub record IsFirstEqual (home : Package) (word : List ℕ) (l : ListRest) (after ps : List RowPart) (from at : ℕ) : Type 0 where
  pub there : list_any (equals home word) (elements_left l) ≡ true
  pub line : (line : List ℕ)
      → take from ps ++ rest_parts (found_rest (equals home word) (with_comment line) l) after ≡ take at ps ++ above line ∷ drop at ps

-- the elements of a list part end at `end`
pub record AreElementsTo (l : ListRest) (ps : List RowPart) (from end : ℕ) : Type 0 where
  pub are : drop from ps ≡ segs_parts (segs_of l.elements) ++ drop end ps
  pub size : end ≡ from + length (segs_parts (segs_of l.elements))

-- the list parts of a value, where the elements of the first begin at a place
pub record AreListsAt (ps : List RowPart) (from : ℕ) (lists : List (List Segment)) : Type 0 where
  pub rest : ListRest
  pub after : List RowPart
  pub read : drop from ps ≡ rest_parts rest after
  pub are : lists ≡ rest.elements ∷ parts_from false rest.items

-- there may be none
abbrev pub AreLists : List RowPart → Option ℕ → List (List Segment) → Type 0
AreLists ps None lists = lists ≡ []
AreLists ps (Some from) lists = AreListsAt ps from lists
