-- A walk over all elements of a value.
use Rattle.std.proofs.Common.{◌≡◌, ℕ, ◌+◌, ◌-◌, ◌≤◌, List, [], ◌∷◌, ◌++◌, Bool, true, false, ◌||◌, if◌then◌else◌, Option, None, Some, is_some, map, length, take, drop, ap, sym, ◌∙◌, arith, append_assoc, length-append, drop-drop, take-add}
use Rattle.std.specs.Prelude.{IfNone}
use Rattle.std.specs.List.{list_any, flat_map}
use Rattle.std.proofs.lemmas.List.{append_cancel_left, length-map, map-append}
use Rattle.std.proofs.Math.Seq.{drop-append_seam, take-append_seam}
use Rattle.bz_tree.specs.Tree.{Item, Segment, items_of, segs_of}
use Rattle.bz_tree.specs.Rows.{RowPart, above, beside_part, closing, items_parts, segment_end, segs_parts}
use Rattle.bz_attribute.specs.Effects.{edit_first, with_comment}
use Rattle.bz_attribute.specs.ListWalk.{edit_element_from, parts_from}
use Rattle.bz_attribute.specs.Elements.{IsElementOf, IsListIn, IsNextElement, ListRest, edited_rest, elements_left, found_rest, rest_parts, value_parts}
use Rattle.bz_attribute.proofs.ListElements.{HasElement}
use Rattle.bz_attribute.proofs.EditedAt.{segs_join}
use Rattle.bz_attribute.proofs.ListEdits.{ended, long_opened, opened}

-- no element is left of the list part that `at` is in, and of the value what was left before
pub record IsEmptiedTo (l : ListRest) (after ps : List RowPart) (from at : ℕ) : Type 0 where
  pub left : ListRest
  pub none : left.elements ≡ []
  pub same : elements_left l ≡ elements_left left
  pub read : drop at ps ≡ rest_parts left after
  pub found : (p : Segment → Bool) (f : Segment → Segment) → take from ps ++ rest_parts (found_rest p f l) after ≡ take at ps ++ rest_parts (found_rest p f left) after
  pub edited : (f : Segment → List Segment) → take from ps ++ rest_parts (edited_rest (flat_map f) l) after ≡ take at ps ++ rest_parts (edited_rest (flat_map f) left) after

abbrev pub HasEmptied : List RowPart → ℕ → ℕ → Type 0
HasEmptied ps from at = (l : ListRest) (after : List RowPart) → drop from ps ≡ rest_parts l after → IsEmptiedTo l after ps from at

-- the next list part
abbrev last : ListRest → List RowPart → List RowPart
last l after = map above l.end ++ closing l.one_comma ∷ value_parts l.items after

-- the parts of what is left of a value up to the next list part
abbrev up_to_next : ListRest → List Item → List RowPart
up_to_next l front = map above l.end ++ closing l.one_comma ∷ opened front

next_taken : (l : ListRest) (after ps : List RowPart) (at to : ℕ) → l.elements ≡ [] → drop at ps ≡ rest_parts l after → (n : IsListIn false l.items after ps (at + length l.end + 1) to) → take to ps ≡ take at ps ++ up_to_next l n.front
next_taken l after ps at to none read n =
    let own : List RowPart = up_to_next l n.front in
    let cut : drop at ps ≡ own ++ rest_parts n.list after =
    read ∙ ap (λ (ss : List Segment). segs_parts (segs_of ss) ++ last l after) none
    ∙ ap (λ (xs : List Item). map above l.end ++ closing l.one_comma ∷ value_parts xs after) n.are ∙ ended l.end l.one_comma n.front n.list after in
    let size : to - at ≡ length own = omega (arith, n.begins, long_opened n.front, length-append (map above l.end) (closing l.one_comma ∷ opened n.front), length-map l.end above) in
    ap (λ (k : ℕ). take k ps) (omega (arith, n.begins)) ∙ take-add at (to - at) ps ∙ ap (λ (qs : List RowPart). take at ps ++ qs) ((λ i. take (size i) (cut i)) ∙ take-append_seam own (rest_parts n.list after))

-- it is passed, where what comes after is edited
list_passed : (l l2 m2 : ListRest) (after ps : List RowPart) (at to : ℕ) → l.elements ≡ [] → drop at ps ≡ rest_parts l after → (n : IsListIn false l.items after ps (at + length l.end + 1) to) → rest_parts l2 after ≡ up_to_next l n.front ++ rest_parts m2 after
    → take at ps ++ rest_parts l2 after ≡ take to ps ++ rest_parts m2 after
list_passed l l2 m2 after ps at to none read n made =
    ap (λ (qs : List RowPart). take at ps ++ qs) made ∙ sym (append_assoc (take at ps) (up_to_next l n.front) (rest_parts m2 after))
    ∙ ap (λ (qs : List RowPart). qs ++ rest_parts m2 after) (sym (next_taken l after ps at to none read n))

found_list : (p : Segment → Bool) (f : Segment → Segment) (l : ListRest) (after ps : List RowPart) (at to : ℕ) → l.elements ≡ [] → drop at ps ≡ rest_parts l after → (n : IsListIn false l.items after ps (at + length l.end + 1) to)
    → take at ps ++ rest_parts (found_rest p f l) after ≡ take to ps ++ rest_parts (found_rest p f n.list) after
found_list p f l after ps at to none read n =
    list_passed l (found_rest p f l) (found_rest p f n.list) after ps at to none read n
    (ap (λ (ss : List Segment). rest_parts (found_rest p f (record l { elements = ss })) after) none
    ∙ ap (λ (xs : List Item). map above l.end ++ closing l.one_comma ∷ value_parts xs after) (n.found p f) ∙ ended l.end l.one_comma n.front (found_rest p f n.list) after)

edited_list : (f : Segment → List Segment) (l : ListRest) (after ps : List RowPart) (at to : ℕ) → l.elements ≡ [] → drop at ps ≡ rest_parts l after → (n : IsListIn false l.items after ps (at + length l.end + 1) to)
    → take at ps ++ rest_parts (edited_rest (flat_map f) l) after ≡ take to ps ++ rest_parts (edited_rest (flat_map f) n.list) after
edited_list f l after ps at to none read n =
    list_passed l (edited_rest (flat_map f) l) (edited_rest (flat_map f) n.list) after ps at to none read n
    (ap (λ (ss : List Segment). rest_parts (edited_rest (flat_map f) (record l { elements = ss })) after) none
    ∙ ap (λ (xs : List Item). map above l.end ++ closing l.one_comma ∷ value_parts xs after) (n.edit (flat_map f)) ∙ ended l.end l.one_comma n.front (edited_rest (flat_map f) n.list) after)

abbrev HasNext : List RowPart → ℕ → ℕ → Type 0
HasNext ps end from = (rest : ListRest) (after : List RowPart) → drop end ps ≡ rest_parts rest after → rest.elements ≡ [] → IsListIn false rest.items after ps (end + length rest.end + 1) from

next_left : (l m : ListRest) (lists : List (List Segment)) → l.elements ≡ [] → parts_from false l.items ≡ m.elements ∷ parts_from false m.items → elements_left l ≡ elements_left m
next_left l m lists none are = (λ i. none i ++ flat_map (λ ss. ss) (are i))

pub next_emptied : (ps : List RowPart) (at end from : ℕ) → HasEmptied ps at end → HasNext ps end from → ((rest : ListRest) (after : List RowPart) → drop from ps ≡ rest_parts rest after → rest.elements ≡ []) → HasEmptied ps at from
next_emptied ps at end from emptied next none = λ l after read.
    let m = emptied l after read in
    let n = next m.left after m.read m.none in
    record {
      left = n.list;
      none = none n.list after n.read;
      same = m.same ∙ next_left m.left n.list [] m.none n.lists;
      read = n.read;
      found = λ p f. m.found p f ∙ found_list p f m.left after ps end from m.none m.read n;
      edited = λ f. m.edited f ∙ edited_list f m.left after ps end from m.none m.read n;
    }

-- the first element that is left passes, or not
parts_split : (s : Segment) (ss : List Segment) (qs : List RowPart) → segs_parts (segs_of (s ∷ ss)) ++ qs ≡ segs_parts (segs_of (s ∷ [])) ++ (segs_parts (segs_of ss) ++ qs)
parts_split s ss qs = ap (λ (ps : List RowPart). ps ++ qs) (segs_join (s ∷ []) ss) ∙ append_assoc (segs_parts (segs_of (s ∷ []))) (segs_parts (segs_of ss)) qs

found_passed : (p : Segment → Bool) (f : Segment → Segment) (l : ListRest) (after : List RowPart) (s : Segment) (ss : List Segment) → l.elements ≡ s ∷ ss → p s ≡ false
    → rest_parts (found_rest p f l) after ≡ segs_parts (segs_of (s ∷ [])) ++ rest_parts (found_rest p f (record l { elements = ss })) after
found_passed p f l after s ss are is =
    let edit : List Segment → List Segment = edit_first p (λ z. f z ∷ []) in
    let later : ListRest = record l { elements = s ∷ ss; items = edit_element_from p f false l.items } in
    ap (λ (zs : List Segment). rest_parts (found_rest p f (record l { elements = zs })) after) are
    ∙ ap (λ (b : Bool). rest_parts (if b || list_any p ss then record l { elements = if b then f s ∷ ss else s ∷ edit ss } else later) after) is
    ∙ elim (list_any p ss) as (λ b. rest_parts (if b then record l { elements = s ∷ edit ss } else later) after
    ≡ segs_parts (segs_of (s ∷ [])) ++ rest_parts (if b then record l { elements = edit ss } else record l { elements = ss; items = edit_element_from p f false l.items }) after) [
      | true ↦ parts_split s (edit ss) (last l after)
      | false ↦ parts_split s ss (last (record l { items = edit_element_from p f false l.items }) after)
    ]

found_first : (p : Segment → Bool) (f : Segment → Segment) (l : ListRest) (after : List RowPart) (s : Segment) (ss : List Segment) → l.elements ≡ s ∷ ss → p s ≡ true → rest_parts (found_rest p f l) after ≡ segs_parts (segs_of (f s ∷ ss)) ++ last l after
found_first p f l after s ss are is =
    let edit : List Segment → List Segment = edit_first p (λ z. f z ∷ []) in
    let later : ListRest = record l { elements = s ∷ ss; items = edit_element_from p f false l.items } in
    ap (λ (zs : List Segment). rest_parts (found_rest p f (record l { elements = zs })) after) are
    ∙ ap (λ (b : Bool). rest_parts (if b || list_any p ss then record l { elements = if b then f s ∷ ss else s ∷ edit ss } else later) after) is

-- a comment line more above its nodes
line_above : (line : List ℕ) (s : Segment) (qs ps : List RowPart) (at token : ℕ) → drop at ps ≡ map above s.before ++ qs → token ≡ at + length s.before → take at ps ++ (map above (s.before ++ line ∷ []) ++ qs) ≡ take token ps ++ above line ∷ drop token ps
line_above line s qs ps at token cut begins =
    let own : List RowPart = map above s.before in
    let size : token ≡ at + length own = omega (arith, begins, length-map s.before above) in
    let front : take token ps ≡ take at ps ++ own =
    ap (λ (k : ℕ). take k ps) size ∙ take-add at (length own) ps ∙ ap (λ (zs : List RowPart). take at ps ++ zs) (ap (take (length own)) cut ∙ take-append_seam own qs) in
    let left : drop token ps ≡ qs = ap (λ (k : ℕ). drop k ps) size ∙ sym (drop-drop (length own) at ps) ∙ ap (drop (length own)) cut ∙ drop-append_seam own qs in
    ap (λ (zs : List RowPart). take at ps ++ (zs ++ qs)) (map-append above s.before (line ∷ []))
    ∙ ap (λ (zs : List RowPart). take at ps ++ zs) (append_assoc own (above line ∷ []) qs)
    ∙ sym (append_assoc (take at ps) own (above line ∷ qs)) ∙ (λ i. sym front i ++ above line ∷ sym left i)

-- it is edited, and then the others
edited_first : (f : Segment → List Segment) (l : ListRest) (after ps : List RowPart) (at from : ℕ) (s : Segment) (ss : List Segment) → from ≡ at → l.elements ≡ s ∷ ss
    → rest_parts (edited_rest (flat_map f) l) after ≡ take (from - at) (drop at ps) ++ (segs_parts (segs_of (f s)) ++ rest_parts (edited_rest (flat_map f) (record l { elements = ss })) after)
edited_first f l after ps at from s ss begins are =
    let none : from - at ≡ 0 = omega (arith, begins) in
    ap (λ (zs : List Segment). rest_parts (edited_rest (flat_map f) (record l { elements = zs })) after) are
    ∙ ap (λ (qs : List RowPart). qs ++ last (edited_rest (flat_map f) l) after) (segs_join (f s) (flat_map f ss))
    ∙ append_assoc (segs_parts (segs_of (f s))) (segs_parts (segs_of (flat_map f ss))) (last (edited_rest (flat_map f) l) after)
    ∙ ap (λ (k : ℕ). take k (drop at ps) ++ (segs_parts (segs_of (f s)) ++ rest_parts (edited_rest (flat_map f) (record l { elements = ss })) after)) (sym none)

element_next : (l : ListRest) (after ps : List RowPart) (at from token to : ℕ) (string : Option (List ℕ)) → from ≡ at → drop at ps ≡ rest_parts l after → IsElementOf l after ps at token to string → IsNextElement l after ps at from token to string
element_next l after ps at from token to string begins read e =
    let s : Segment = e.element in
    let own : List RowPart = segs_parts (segs_of (s ∷ [])) in
    let nodes : List RowPart = items_parts (items_of s.nodes) ++ (segment_end ∷ (beside_part s.suffix ++ segs_parts (segs_of e.others))) in
    let cut : drop at ps ≡ map above s.before ++ (nodes ++ last l after) =
    read ∙ ap (λ (ss : List Segment). segs_parts (segs_of ss) ++ last l after) e.are ∙ append_assoc (map above s.before) nodes (last l after) in
    let front : take to ps ≡ take at ps ++ own =
    ap (λ (k : ℕ). take k ps) e.ends ∙ take-add at (length own) ps ∙ ap (λ (qs : List RowPart). take at ps ++ qs) (ap (take (length own)) e.own ∙ take-append_seam own (drop to ps)) in
    record {
      element = s;
      left = record l { elements = e.others };
      are = ap (λ (ss : List Segment). ss ++ flat_map (λ ss. ss) (parts_from false l.items)) e.are;
      begins = e.begins ∙ ap (λ (k : ℕ). k + length s.before) (sym begins);
      edited = λ f. edited_first f l after ps at from s e.others begins e.are;
      own =
          let size : to - from ≡ length own = omega (arith, begins, e.ends) in
          (λ i. take (size i) (drop (begins i) ps)) ∙ ap (take (length own)) e.own ∙ take-append_seam own (drop to ps);
      read = e.read;
      text = e.text;
      line = λ p line is.
          ap (λ (qs : List RowPart). take at ps ++ qs) (found_first p (with_comment line) l after s e.others e.are is ∙ append_assoc (map above (s.before ++ line ∷ [])) nodes (last l after))
          ∙ line_above line s (nodes ++ last l after) ps at token cut e.begins;
      passed = λ p f is.
          ap (λ (qs : List RowPart). take at ps ++ qs) (found_passed p f l after s e.others e.are is)
          ∙ sym (append_assoc (take at ps) own (rest_parts (found_rest p f (record l { elements = e.others })) after))
          ∙ ap (λ (qs : List RowPart). qs ++ rest_parts (found_rest p f (record l { elements = e.others })) after) (sym front);
    }

pub next_here : (ps : List RowPart) (at from token to : ℕ) (string : Option (List ℕ)) (l : ListRest) (after : List RowPart) → from ≡ at → HasElement ps at token to string → drop at ps ≡ rest_parts l after
    → IsNextElement l after ps at from token to string
next_here ps at from token to string l after begins next read = element_next l after ps at from token to string begins read (next l after read)

pub next_later : (ps : List RowPart) (at end list from token to : ℕ) (string : Option (List ℕ)) (l : ListRest) (after : List RowPart) → at ≤ end → from ≡ list → HasEmptied ps at end → HasNext ps end list → HasElement ps list token to string → drop at ps ≡ rest_parts l after
    → IsNextElement l after ps at from token to string
next_later ps at end list from token to string l after order begins emptied next element read =
    let m = emptied l after read in
    let n = next m.left after m.read m.none in
    let e = element_next n.list after ps list from token to string begins n.read (element n.list after n.read) in
    let found : (p : Segment → Bool) (f : Segment → Segment) → take at ps ++ rest_parts (found_rest p f l) after ≡ take list ps ++ rest_parts (found_rest p f n.list) after =
    λ p f. m.found p f ∙ found_list p f m.left after ps end list m.none m.read n in
    record {
      element = e.element;
      left = e.left;
      are = m.same ∙ next_left m.left n.list [] m.none n.lists ∙ e.are;
      begins = e.begins;
      edited = λ f.
          let later : List RowPart = segs_parts (segs_of (f e.element)) ++ rest_parts (edited_rest (flat_map f) e.left) after in
          let none : from - list ≡ 0 = omega (arith, begins) in
          append_cancel_left (take at ps) (rest_parts (edited_rest (flat_map f) l) after) (take (from - at) (drop at ps) ++ later)
          (m.edited f ∙ edited_list f m.left after ps end list m.none m.read n
          ∙ ap (λ (qs : List RowPart). take list ps ++ qs) (e.edited f ∙ ap (λ (k : ℕ). take k (drop list ps) ++ later) none)
          ∙ ap (λ (qs : List RowPart). qs ++ later) (ap (λ (k : ℕ). take k ps) (omega (arith, begins, order, n.begins)) ∙ take-add at (from - at) ps)
          ∙ append_assoc (take at ps) (take (from - at) (drop at ps)) later);
      own = e.own;
      read = e.read;
      text = e.text;
      line = λ p line is. found p (with_comment line) ∙ e.line p line is;
      passed = λ p f is. found p f ∙ e.passed p f is;
    }

pub when_none : {A P : Type 0} (o : Option A) → is_some o ≡ false → IfNone o P → P
when_none None h p = p
when_none (Some a) h p = absurd cc
