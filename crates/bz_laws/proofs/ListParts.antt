-- Values whose list parts are edited: they are well formed as before.
use Rattle.std.proofs.Common.{Bool, List, [], ap, arith, false, if◌then◌else◌, refl, subst, suc, sym, true, ℕ, ◌&&◌, ◌++◌, ◌∙◌, ◌∷◌, ◌≡◌, ◌≤◌}
use Rattle.std.proofs.lemmas.Bool.{and_parts, false≢true}
use Rattle.std.specs.List.{AllByRecursion, list_all, list_any}
use Rattle.bz_attribute.specs.Effects.{edit_first, list_item}
use Rattle.bz_attribute.specs.ListWalk.{is_list, edit_element, edit_element_from, edit_first_part, edit_from, edit_list, edit_one_from, ends, is_part, parts_from, elements, is_plus}
use Rattle.bz_attribute.proofs.ListPieces.{edit_element_is, edit_first_part_is, edit_parts_are, parts_are}
use Rattle.bz_attribute.specs.Lists.{edit_parts, may_be_in_sum, parts}
use Rattle.bz_layout_laws.specs.Inside.{HasShape}
use Rattle.bz_layout_laws.specs.Legible.{item_depth, items_depth, segs_depth}
use Rattle.bz_layout_laws.specs.Parsed.{HasKind, HaveKinds, SegsHaveKinds, have_for, is_comma}
use Rattle.bz_layout_laws.specs.TextsOfKinds.{HasText, HaveTexts, SegsHaveTexts}
use Rattle.bz_laws.proofs.Accepting.{accepted_test, list_role, test_accepted, test_some}
use Rattle.bz_laws.proofs.ArgumentValues.{IsValue, no_for}
use Rattle.bz_laws.proofs.Segments.{AreFormed, form_tests, good_elements, taken_apart, either_way}
use Rattle.bz_laws.proofs.Tests.{Each, IsInner, is_list_kind, test_inner}
use Rattle.bz_tree.specs.private.Productions.{AreTests, IsTest, list, no_suffix, operand, plain, primary, single}
use Rattle.bz_tree.specs.Kinds.{group_kind, after_item}
use Rattle.bz_tree.specs.Tree.{Item, Items, Segment, Segs, group, item, items_of, leaf, segments, segs_of}
use Rattle.bz_tree.specs.declared.tree.kinds.Preceding.{Preceding}
use Rattle.bz_tree.specs.declared.tree.kinds.Preceding.TheVariants.{Other}
use Rattle.bz_tree.specs.declared.tree.kinds.Shape.TheVariants.{Square}
use Rattle.bz_tree.specs.declared.tree.GroupKind.TheVariants.{List as ListKind}
use Rattle.bz_tree.specs.private.Machine.{accepts, next, role_of}
use Rattle.bz_tree.proofs.Rows.FromParts.{segs_back}

-- a node is itself, or a list with other elements
data IsEdit (depth : ℕ) : Item → Item → Type 0 where
  same : {x : Item} → IsEdit depth x x
  edited : {segs : Segs} {one_comma : Bool} {end : List (List ℕ)} (ss : List Segment) → (AreFormed IsTest depth (segments segs) → AreFormed IsTest depth ss)
      → IsEdit depth (group ListKind segs one_comma end) (group ListKind (segs_of ss) one_comma end)

data AreEdits (depth : ℕ) : List Item → List Item → Type 0 where
  none : AreEdits depth [] []
  more : {x y : Item} {xs ys : List Item} → IsEdit depth x y → AreEdits depth xs ys → AreEdits depth (x ∷ xs) (y ∷ ys)

all_same : (depth : ℕ) (xs : List Item) → AreEdits depth xs xs
all_same depth [] = none
all_same depth (x ∷ xs) = more same (all_same depth xs)

-- a node after `b`
record IsNode (depth : ℕ) (b : Preceding) (x : Item) : Type 0 where
  text : HasText x
  kind : HasKind b x
  depth_fits : item_depth x ≤ depth
  inner : IsInner x

record Nodes (depth : ℕ) (b : Preceding) (xs : Items) : Type 0 where
  texts : HaveTexts xs
  kinds : HaveKinds false b xs
  depth_fits : items_depth xs ≤ depth
  inner : Each IsInner xs

first_node : (depth : ℕ) (b : Preceding) (x : Item) (xs : Items) → Nodes depth b (item x xs) → IsNode depth b x
first_node depth b x xs h = let fits : items_depth (item x xs) ≤ depth = h.depth_fits in record { text = h.texts.0; kind = h.kinds.1; depth_fits = omega arith; inner = h.inner.0 }

other_nodes : (depth : ℕ) (b : Preceding) (x : Item) (xs : Items) → Nodes depth b (item x xs) → Nodes depth (after_item x) xs
other_nodes depth b x xs h = let fits : items_depth (item x xs) ≤ depth = h.depth_fits in record { texts = h.texts.1; kinds = h.kinds.2; depth_fits = omega arith; inner = h.inner.1 }

-- the elements of a list
list_elements : (depth : ℕ) (b : Preceding) (segs : Segs) (one_comma : Bool) (end : List (List ℕ)) → IsNode (suc depth) b (group ListKind segs one_comma end) → AreFormed IsTest depth (segments segs)
list_elements depth b segs one_comma end h =
    let back = sym (segs_back segs) in
    let fits : item_depth (group ListKind segs one_comma end) ≤ suc depth = h.depth_fits in
    let inside : segs_depth segs ≤ depth = omega arith in
    good_elements depth (segments segs)
    (record { texts = subst SegsHaveTexts back h.text.0; kinds = subst (SegsHaveKinds false) back h.kind.3; depth_fits = subst (λ ss. segs_depth ss ≤ depth) back inside })
    (subst AreTests back (h.inner.1 refl))

-- a list with such elements
no_comma : (segs : Segs) → HasShape ListKind segs false
no_comma segs = record { one = λ e. absurd (false≢true e); comma = λ e. absurd (false≢true e) }

list_shape : (segs others : Segs) (one_comma : Bool) → HasShape ListKind segs one_comma → HasShape ListKind others one_comma
list_shape segs others false h = no_comma others
list_shape segs others true h = absurd (false≢true (sym (ap is_list_kind (h.comma refl).0)))

record IsLike (depth : ℕ) (b : Preceding) (x y : Item) : Type 0 where
  text : HasText y
  kind : HasKind b y
  depth_fits : item_depth y ≤ depth
  role : role_of y ≡ role_of x
  after : after_item y ≡ after_item x
  comma : is_comma y ≡ is_comma x

edited_node : (depth : ℕ) (b : Preceding) (x y : Item) → IsEdit depth x y → IsNode (suc depth) b x → IsLike (suc depth) b x y
edited_node depth b x _ same h = record { text = h.text; kind = h.kind; depth_fits = h.depth_fits; role = refl; after = refl; comma = refl }
edited_node depth b _ _ (edited {segs} {one_comma} {end} ss keep) h =
    let old = list_elements depth b segs one_comma end h in
    let new = keep old in
    let inside = taken_apart IsTest test_some depth ss new in
    let fits : segs_depth (segs_of ss) ≤ depth = inside.depth_fits in
    let fors : have_for segs ≡ have_for (segs_of ss) = ap have_for (sym (segs_back segs)) ∙ no_for depth (segments segs) old ∙ sym (no_for depth ss new) in
    record {
      text = (inside.texts, h.text.1);
      kind = (h.kind.0, h.kind.1 ∙ ap (group_kind h.kind.0 b) fors, list_shape segs (segs_of ss) one_comma h.kind.2, inside.kinds);
      depth_fits = omega arith;
      role = list_role (segs_of ss) one_comma end (form_tests depth ss new) ∙ sym (list_role segs one_comma end (h.inner.1 refl));
      after = refl;
      comma = refl;
    }

record AreLike (depth : ℕ) (b : Preceding) (ys : Items) : Type 0 where
  texts : HaveTexts ys
  kinds : HaveKinds false b ys
  depth_fits : items_depth ys ≤ depth

edited_nodes : (depth : ℕ) (b : Preceding) (xs ys : List Item) → AreEdits depth xs ys → Nodes (suc depth) b (items_of xs) → AreLike (suc depth) b (items_of ys)
edited_nodes depth b _ _ none h = record { texts = tt; kinds = tt; depth_fits = omega arith }
edited_nodes depth b _ _ (more {x} {y} {xs} {ys} e es) h =
    let first = edited_node depth b x y e (first_node (suc depth) b x (items_of xs) h) in
    let rest = edited_nodes depth (after_item x) xs ys es (other_nodes (suc depth) b x (items_of xs) h) in
    let here : item_depth y ≤ suc depth = first.depth_fits in
    let there : items_depth (items_of ys) ≤ suc depth = rest.depth_fits in
    record {
      texts = (first.text, rest.texts);
      kinds = (λ c. h.kinds.0 (sym first.comma ∙ c), first.kind, subst (λ a. HaveKinds false a (items_of ys)) (sym first.after) rest.kinds);
      depth_fits = omega arith;
    }

edited_accepted : (depth : ℕ) (b : Preceding) (stage : _) (xs ys : List Item) → AreEdits depth xs ys → Nodes (suc depth) b (items_of xs) → accepts stage (items_of ys) ≡ accepts stage (items_of xs)
edited_accepted depth b stage _ _ none h = refl
edited_accepted depth b stage _ _ (more {x} {y} {xs} {ys} e es) h =
    let first = edited_node depth b x y e (first_node (suc depth) b x (items_of xs) h) in
    ap (λ r. accepts (next stage r) (items_of ys)) first.role
    ∙ edited_accepted depth (after_item x) (next stage (role_of x)) xs ys es (other_nodes (suc depth) b x (items_of xs) h)

value_nodes : (depth : ℕ) (nodes : List Item) → IsValue depth nodes → Nodes depth Other (items_of nodes)
value_nodes depth nodes v = record { texts = v.nodes_are.texts; kinds = v.nodes_are.kinds; depth_fits = v.nodes_are.depth_fits; inner = test_inner v.test }

edited_value : (depth : ℕ) (xs ys : List Item) → AreEdits depth xs ys → IsValue (suc depth) xs → IsValue (suc depth) ys
edited_value depth xs ys e v =
    let nodes = value_nodes (suc depth) xs v in
    let like = edited_nodes depth Other xs ys e nodes in
    record {
      nodes_are = record { texts = like.texts; kinds = like.kinds; depth_fits = like.depth_fits };
      test = accepted_test (items_of ys) (edited_accepted depth Other _ xs ys e nodes ∙ test_accepted (items_of xs) v.test);
    }

-- the edits of list parts
abbrev pub KeepsGood : ℕ → (List Segment → List Segment) → Type 0
KeepsGood depth f = (ss : List Segment) → AreFormed IsTest depth ss → AreFormed IsTest depth (f ss)

list_edit : (depth : ℕ) (f : List Segment → List Segment) → KeepsGood depth f → (x : Item) → is_list x ≡ true → IsEdit depth x (edit_list f x)
list_edit depth f keep (leaf kind bytes) h = absurd (false≢true h)
list_edit depth f keep (group ListKind segs one_comma end) h = edited (f (segments segs)) (keep (segments segs))
list_edit depth f keep (group _ segs one_comma end) h = absurd (false≢true h)

part_list : (start : Bool) (x : Item) (xs : List Item) → is_part start x xs ≡ true → is_list x ≡ true
part_list start x xs h = (and_parts start (is_list x) (and_parts (start && is_list x) (ends xs) h).0).1

from_edits : (depth : ℕ) (f : List Segment → List Segment) → KeepsGood depth f → (start : Bool) (xs : List Item) → AreEdits depth xs (edit_from f start xs)
from_edits depth f keep start [] = none
from_edits depth f keep start (x ∷ xs) =
    elim (is_part start x xs) as (λ b. is_part start x xs ≡ b → AreEdits depth (x ∷ xs) ((if b then edit_list f x else x) ∷ edit_from f (is_plus x) xs)) [
      | true ↦ λ e. more (list_edit depth f keep x (part_list start x xs e)) (from_edits depth f keep (is_plus x) xs)
      | false ↦ λ e. more same (from_edits depth f keep (is_plus x) xs)
    ] refl

one_edits : (depth : ℕ) (f : List Segment → List Segment) → KeepsGood depth f → (start : Bool) (xs : List Item) → AreEdits depth xs (edit_one_from f start xs)
one_edits depth f keep start [] = none
one_edits depth f keep start (x ∷ xs) =
    elim (is_part start x xs) as (λ b. is_part start x xs ≡ b → AreEdits depth (x ∷ xs) (if b then edit_list f x ∷ xs else x ∷ edit_one_from f (is_plus x) xs)) [
      | true ↦ λ e. more (list_edit depth f keep x (part_list start x xs e)) (all_same depth xs)
      | false ↦ λ e. more same (one_edits depth f keep (is_plus x) xs)
    ] refl

element_edits : (depth : ℕ) (p : Segment → Bool) (g : Segment → Segment) → KeepsGood depth (edit_first p (λ s. g s ∷ [])) → (start : Bool) (xs : List Item) → AreEdits depth xs (edit_element_from p g start xs)
element_edits depth p g keep start [] = none
element_edits depth p g keep start (x ∷ xs) =
    elim (is_part start x xs && list_any p (elements x)) as (λ b. (is_part start x xs && list_any p (elements x)) ≡ b
    → AreEdits depth (x ∷ xs) (if b then edit_list (edit_first p (λ s. g s ∷ [])) x ∷ xs else x ∷ edit_element_from p g (is_plus x) xs)) [
      | true ↦ λ e. more (list_edit depth (edit_first p (λ s. g s ∷ [])) keep x (part_list start x xs (and_parts (is_part start x xs) (list_any p (elements x)) e).0)) (all_same depth xs)
      | false ↦ λ e. more same (element_edits depth p g keep (is_plus x) xs)
    ] refl

pub edited_parts_good : (depth : ℕ) (f : List Segment → List Segment) → KeepsGood depth f → (nodes : List Item) → IsValue (suc depth) nodes → IsValue (suc depth) (edit_parts f nodes)
edited_parts_good depth f keep nodes v =
    subst (IsValue (suc depth)) (sym (edit_parts_are f nodes)) (either_way (IsValue (suc depth)) (list_all may_be_in_sum nodes) (edited_value depth nodes (edit_from f true nodes) (from_edits depth f keep true nodes) v) v)

pub edited_first_part_good : (depth : ℕ) (f : List Segment → List Segment) → KeepsGood depth f → (nodes : List Item) → IsValue (suc depth) nodes → IsValue (suc depth) (edit_first_part f nodes)
edited_first_part_good depth f keep nodes v =
    subst (IsValue (suc depth)) (sym (edit_first_part_is f nodes)) (either_way (IsValue (suc depth)) (list_all may_be_in_sum nodes) (edited_value depth nodes (edit_one_from f true nodes) (one_edits depth f keep true nodes) v) v)

pub edited_element_good : (depth : ℕ) (p : Segment → Bool) (g : Segment → Segment) → KeepsGood depth (edit_first p (λ s. g s ∷ [])) → (nodes : List Item) → IsValue (suc depth) nodes → IsValue (suc depth) (edit_element p g nodes)
edited_element_good depth p g keep nodes v =
    subst (IsValue (suc depth)) (sym (edit_element_is p g nodes)) (either_way (IsValue (suc depth)) (list_all may_be_in_sum nodes) (edited_value depth nodes (edit_element_from p g true nodes) (element_edits depth p g keep true nodes) v) v)

-- the elements of list parts
part_elements : (depth : ℕ) (b : Preceding) (x : Item) → is_list x ≡ true → IsNode (suc depth) b x → AreFormed IsTest depth (elements x)
part_elements depth b (leaf kind bytes) l h = absurd (false≢true l)
part_elements depth b (group ListKind segs one_comma end) l h = list_elements depth b segs one_comma end h
part_elements depth b (group _ segs one_comma end) l h = absurd (false≢true l)

from_good : (depth : ℕ) (b : Preceding) (start : Bool) (xs : List Item) → Nodes (suc depth) b (items_of xs) → AllByRecursion (AreFormed IsTest depth) (parts_from start xs)
from_good depth b start [] h = tt
from_good depth b start (x ∷ xs) h =
    let rest = from_good depth (after_item x) (is_plus x) xs (other_nodes (suc depth) b x (items_of xs) h) in
    elim (is_part start x xs) as (λ t. is_part start x xs ≡ t → AllByRecursion (AreFormed IsTest depth) ((if t then elements x ∷ [] else []) ++ parts_from (is_plus x) xs)) [
      | true ↦ λ e. (part_elements depth b x (part_list start x xs e) (first_node (suc depth) b x (items_of xs) h), rest)
      | false ↦ λ e. rest
    ] refl

pub parts_good : (depth : ℕ) (nodes : List Item) → IsValue (suc depth) nodes → AllByRecursion (AreFormed IsTest depth) (parts nodes)
parts_good depth nodes v =
    subst (AllByRecursion (AreFormed IsTest depth)) (sym (parts_are nodes)) (either_way (AllByRecursion (AreFormed IsTest depth)) (list_all may_be_in_sum nodes) (from_good depth Other true nodes (value_nodes (suc depth) nodes v)) tt)

-- a value that is one list
pub list_value : (depth : ℕ) (ss : List Segment) → AreFormed IsTest depth ss → IsValue (suc depth) (list_item ss ∷ [])
list_value depth ss h =
    let inside = taken_apart IsTest test_some depth ss h in
    let fits : segs_depth (segs_of ss) ≤ depth = inside.depth_fits in
    record {
      nodes_are = record {
        texts = ((inside.texts, refl), tt);
        kinds = (λ e. e, (Square, rw (no_for depth ss h) refl, no_comma (segs_of ss), inside.kinds), tt);
        depth_fits = omega arith;
      };
      test = plain (single (primary (operand (list (form_tests depth ss h)) no_suffix)));
    }
