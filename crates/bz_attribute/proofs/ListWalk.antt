-- A walk over the items of a value, by their parts, from one list part to the next.
use Rattle.std.proofs.Common.{◌≡◌, ℕ, ◌+◌, ◌<◌, ◌≤◌, List, [], ◌∷◌, ◌++◌, Bool, true, false, ◌&&◌, if◌then◌else◌, map, length, drop, get_or, refl, ap, sym, ◌∙◌, subst, arith, append_assoc, length-append, drop-drop}
use Rattle.std.specs.List.{list_all, list_any}
use Rattle.std.proofs.lemmas.Bool.{false≢true}
use Rattle.std.specs.Prelude.{Option, Some, None, is_some, IfSome, IfNone}
use Rattle.bz_tree.specs.declared.row.Part.{Part}
use Rattle.bz_tree.specs.declared.tree.GroupKind.TheVariants.{List as ListKind}
use Rattle.bz_tree.specs.Tree.{Item, leaf, group, Segs, Segment, items_of, segments}
use Rattle.bz_tree.specs.Rows.{RowPart, part_view, item_parts, items_parts}
use Rattle.bz_attribute.specs.Effects.{edit_first}
use Rattle.bz_attribute.specs.ListWalk.{is_list, edit_element_from, edit_from, edit_list, edit_one_from, parts_from}
use Rattle.bz_attribute.specs.Elements.{HasNoList, IsListIn, ListRest, edit_element_in, edit_in, edit_one_in, found_rest, list_item, lists_in, value_parts}
use Rattle.bz_attribute.specs.Lists.{only_list}
use Rattle.bz_attribute.specs.Lists as lists
use Rattle.bz_attribute.specs.ListWalk as walk
use Rattle.bz_attribute.proofs.ListPieces.{parts_are, edit_parts_are, edit_first_part_is, edit_element_is, only_is}
use Rattle.bz_attribute.specs.private.Parts.{is_end, ItemEnds, ends_piece, may_be_in_sum, is_plus, opens_list}
use Rattle.bz_attribute.proofs.ItemParts.{item_at, none_after, none_at, opened, piece_told, rest_of}
use Rattle.bz_tree.proofs.Rows.FromParts.{segs_back}

-- an edit of items, of which `start` says whether a piece begins with the first: where that is no list part, it stays
abbrev pub KeepsOthers : (Bool → List Item → List Item) → Type 0
KeepsOthers e = (start : Bool) (x : Item) (xs : List Item) → walk.is_part start x xs ≡ false → e start (x ∷ xs) ≡ x ∷ e (walk.is_plus x) xs

-- Of nodes that begin at `from`, those before `at` are no list parts. A piece begins there where `start`.
pub record IsWalked (whole start : Bool) (nodes : List Item) (after ps : List RowPart) (from at : ℕ) : Type 0 where
  pub front : List Item
  pub back : List Item
  pub are : nodes ≡ front ++ back
  pub place : at ≡ from + length (items_parts (items_of front))
  pub read : drop at ps ≡ value_parts back after
  pub lists : walk.parts_from whole nodes ≡ walk.parts_from start back
  pub others : (e : Bool → List Item → List Item) → KeepsOthers e → e whole nodes ≡ front ++ e start back

abbrev pub HasWalked : Bool → Bool → List RowPart → ℕ → ℕ → Type 0
HasWalked whole start ps from at = (nodes : List Item) (after : List RowPart) → drop from ps ≡ value_parts nodes after → IsWalked whole start nodes after ps from at

-- Of nodes that begin at `from`, those before `at` are joints.
pub record AreJoints (nodes : List Item) (after ps : List RowPart) (at : ℕ) : Type 0 where
  pub back : List Item
  pub read : drop at ps ≡ value_parts back after
  pub joints : list_all lists.may_be_in_sum nodes ≡ list_all lists.may_be_in_sum back

abbrev pub HasJoints : List RowPart → ℕ → ℕ → Type 0
HasJoints ps from at = (nodes : List Item) (after : List RowPart) → drop from ps ≡ value_parts nodes after → AreJoints nodes after ps at

pub joints_pass : (ps : List Part) (from at end : ℕ) (d : Part) → HasJoints (map part_view ps) from at → at < length ps → is_end (part_view (get_or ps at d)) ≡ false → may_be_in_sum (part_view (get_or ps at d)) ≡ true
    → ItemEnds (map part_view ps) at end → HasJoints (map part_view ps) from end
joints_pass ps from at end d w h more joint end_is = λ nodes after read.
    let j = w nodes after read in
    let i = item_at j.back after ps at d j.read h more in
    record {
      back = i.xs;
      read = i.next end end_is;
      joints = j.joints ∙ ap (list_all lists.may_be_in_sum) i.are ∙ ap (λ (b : Bool). b && list_all lists.may_be_in_sum i.xs) (sym i.joint ∙ joint);
    }

pub no_joint : (ps : List Part) (from at : ℕ) (d : Part) (nodes : List Item) (after : List RowPart) → HasJoints (map part_view ps) from at → at < length ps → is_end (part_view (get_or ps at d)) ≡ false → may_be_in_sum (part_view (get_or ps at d)) ≡ false
    → drop from (map part_view ps) ≡ value_parts nodes after → list_all lists.may_be_in_sum nodes ≡ false
no_joint ps from at d nodes after w h more joint read =
    let j = w nodes after read in
    let i = item_at j.back after ps at d j.read h more in
    j.joints ∙ ap (list_all lists.may_be_in_sum) i.are ∙ ap (λ (b : Bool). b && list_all lists.may_be_in_sum i.xs) (sym i.joint ∙ joint)

pub all_joints : (ps : List Part) (from at : ℕ) (d : Part) (nodes : List Item) (after : List RowPart) → HasJoints (map part_view ps) from at → at < length ps → is_end (part_view (get_or ps at d)) ≡ true
    → drop from (map part_view ps) ≡ value_parts nodes after → list_all lists.may_be_in_sum nodes ≡ true
all_joints ps from at d nodes after w h end read =
    let j = w nodes after read in
    j.joints ∙ ap (list_all lists.may_be_in_sum) (none_at j.back after ps at d j.read h end)

pub no_joints_after : {P : Type 0} (ps : List Part) (from at : ℕ) (nodes : List Item) (after : List RowPart) → HasJoints (map part_view ps) from at → length ps ≤ at → drop from (map part_view ps) ≡ value_parts nodes after → P
no_joints_after ps from at nodes after w h read = let j = w nodes after read in none_after j.back after ps at j.read h

joined_long : (front : List Item) (x : Item) → length (items_parts (items_of (front ++ x ∷ []))) ≡ length (items_parts (items_of front)) + length (item_parts x)
joined_long [] x = omega (arith, length-append (item_parts x) [])
joined_long (y ∷ front) x =
    omega (arith, joined_long front x, length-append (item_parts y) (items_parts (items_of (front ++ x ∷ []))), length-append (item_parts y) (items_parts (items_of front)))

pub walk_passes : (whole start next : Bool) (ps : List Part) (from at end : ℕ) (d : Part) → HasWalked whole start (map part_view ps) from at → at < length ps → is_end (part_view (get_or ps at d)) ≡ false
    → start && opens_list (part_view (get_or ps at d)) && ends_piece (drop end (map part_view ps)) ≡ false → next ≡ is_plus (part_view (get_or ps at d)) → ItemEnds (map part_view ps) at end
    → HasWalked whole next (map part_view ps) from end
walk_passes whole start next ps from at end d w h more none plus end_is = λ nodes after read.
    let k = w nodes after read in
    let i = item_at k.back after ps at d k.read h more in
    let no_part : walk.is_part start i.x i.xs ≡ false = (λ j. start && sym i.list j && (sym (piece_told i.xs after) ∙ ap ends_piece (sym (i.next end end_is))) j) ∙ none in
    let is_next : next ≡ walk.is_plus i.x = plus ∙ i.plus in
    record {
      front = k.front ++ i.x ∷ [];
      back = i.xs;
      are = k.are ∙ ap (λ (ys : List Item). k.front ++ ys) i.are ∙ sym (append_assoc k.front (i.x ∷ []) i.xs);
      place = omega (arith, i.long end end_is, k.place, joined_long k.front i.x);
      read = i.next end end_is;
      lists = k.lists ∙ ap (parts_from start) i.are ∙ rw no_part (ap (λ (b : Bool). parts_from b i.xs) (sym is_next));
      others = λ e keeps.
          k.others e keeps
          ∙ ap (λ (ys : List Item). k.front ++ ys) (ap (e start) i.are ∙ keeps start i.x i.xs no_part ∙ ap (λ (b : Bool). i.x ∷ e b i.xs) (sym is_next))
          ∙ sym (append_assoc k.front (i.x ∷ []) (e next i.xs));
    }

-- the edits of all parts and of the first
keeps_all : (f : List Segment → List Segment) → KeepsOthers (edit_from f)
keeps_all f start x xs told = rw told refl

keeps_first : (f : List Segment → List Segment) → KeepsOthers (edit_one_from f)
keeps_first f start x xs told = rw told refl

keeps_found : (p : Segment → Bool) (f : Segment → Segment) → KeepsOthers (edit_element_from p f)
keeps_found p f start x xs told = rw told refl

abbrev Joined : Bool → List Item → Type 0
Joined whole nodes = whole ≡ true → list_all lists.may_be_in_sum nodes ≡ true

all_lists : (whole : Bool) (nodes : List Item) → Joined whole nodes → lists_in whole nodes ≡ parts_from whole nodes
all_lists true nodes h = parts_are nodes ∙ rw (h refl) refl
all_lists false nodes h = refl

all_edited : (whole : Bool) (f : List Segment → List Segment) (nodes : List Item) → Joined whole nodes → edit_in whole f nodes ≡ edit_from f whole nodes
all_edited true f nodes h = edit_parts_are f nodes ∙ rw (h refl) refl
all_edited false f nodes h = refl

one_edited : (whole : Bool) (f : List Segment → List Segment) (nodes : List Item) → Joined whole nodes → edit_one_in whole f nodes ≡ edit_one_from f whole nodes
one_edited true f nodes h = edit_first_part_is f nodes ∙ rw (h refl) refl
one_edited false f nodes h = refl

found_edited : (whole : Bool) (p : Segment → Bool) (f : Segment → Segment) (nodes : List Item) → Joined whole nodes → edit_element_in whole p f nodes ≡ edit_element_from p f whole nodes
found_edited true p f nodes h = edit_element_is p f nodes ∙ rw (h refl) refl
found_edited false p f nodes h = refl

-- the end
nothing_left : (whole start : Bool) (nodes : List Item) (after ps : List RowPart) (from at : ℕ) → (w : IsWalked whole start nodes after ps from at) → w.back ≡ [] → Joined whole nodes → HasNoList whole nodes
nothing_left whole start nodes after ps from at w none joined = record {
  none = all_lists whole nodes joined ∙ w.lists ∙ ap (parts_from start) none;
  same = λ f. all_edited whole f nodes joined ∙ w.others (edit_from f) (keeps_all f) ∙ ap (λ (ys : List Item). w.front ++ edit_from f start ys) none ∙ ap (λ (ys : List Item). w.front ++ ys) (sym none) ∙ sym w.are;
}

pub walk_ends : (whole start : Bool) (ps : List Part) (from at : ℕ) (d : Part) (nodes : List Item) (after : List RowPart) → HasWalked whole start (map part_view ps) from at → at < length ps → is_end (part_view (get_or ps at d)) ≡ true
    → drop from (map part_view ps) ≡ value_parts nodes after → Joined whole nodes → HasNoList whole nodes
walk_ends whole start ps from at d nodes after w h end read joined =
    let k = w nodes after read in
    nothing_left whole start nodes after (map part_view ps) from at k (none_at k.back after ps at d k.read h end) joined

pub no_walk_after : {P : Type 0} (whole start : Bool) (ps : List Part) (from at : ℕ) (nodes : List Item) (after : List RowPart) → HasWalked whole start (map part_view ps) from at → length ps ≤ at → drop from (map part_view ps) ≡ value_parts nodes after → P
no_walk_after whole start ps from at nodes after w h read = let k = w nodes after read in none_after k.back after ps at k.read h

-- a list part
record IsListItem (x : Item) : Type 0 where
  segs : Segs
  one_comma : Bool
  end : List (List ℕ)
  is : x ≡ group ListKind segs one_comma end

list_is : (x : Item) → is_list x ≡ true → IsListItem x
list_is (group ListKind segs one_comma end) h = record { segs = segs; one_comma = one_comma; end = end; is = refl }
list_is (group _ segs one_comma end) h = absurd cc
list_is (leaf kind text) h = absurd cc

pub found_here : (p : Segment → Bool) (f : Segment → Segment) (segs : Segs) (one_comma : Bool) (end : List (List ℕ)) (xs : List Item) → walk.ends xs ≡ true
    → edit_element_from p f true (group ListKind segs one_comma end ∷ xs) ≡ list_item (found_rest p f (rest_of segs one_comma end xs)) ∷ (found_rest p f (rest_of segs one_comma end xs)).items
found_here p f segs one_comma end xs ends =
    let x : Item = group ListKind segs one_comma end in
    let edit : List Segment → List Segment = edit_first p (λ s. f s ∷ []) in
    let after : List Item = edit_element_from p f false xs in
    let there : ListRest = record { elements = edit (segments segs); end = end; one_comma = one_comma; items = xs } in
    let later : ListRest = record { elements = segments segs; end = end; one_comma = one_comma; items = after } in
    ap (λ (b : Bool). if b && list_any p (segments segs) then edit_list edit x ∷ xs else x ∷ after) ends
    ∙ elim (list_any p (segments segs)) as (λ b. (if b then edit_list edit x ∷ xs else x ∷ after) ≡ list_item (if b then there else later) ∷ (if b then there else later).items)
    [ true ↦ refl | false ↦ ap (λ (ss : Segs). group ListKind ss one_comma end ∷ after) (sym (segs_back segs)) ]

here : (whole : Bool) (nodes : List Item) (after ps : List RowPart) (from at : ℕ) (xs : List Item) (segs : Segs) (one_comma : Bool) (end : List (List ℕ))
    → (w : IsWalked whole true nodes after ps from at) → w.back ≡ group ListKind segs one_comma end ∷ xs → walk.ends xs ≡ true → Joined whole nodes → IsListIn whole nodes after ps from (at + 1)
here whole nodes after ps from at xs segs one_comma end w back ends joined =
    let x : Item = group ListKind segs one_comma end in
    let list : ListRest = rest_of segs one_comma end xs in
    let same : list_item list ≡ x = ap (λ (ss : Segs). group ListKind ss one_comma end) (segs_back segs) in
    let part : walk.is_part true x xs ≡ true = ends in
    record {
      front = w.front;
      list = list;
      are = w.are ∙ ap (λ (ys : List Item). w.front ++ ys) (back ∙ ap (λ (y : Item). y ∷ xs) (sym same));
      begins = omega (arith, w.place);
      read = ap (λ (n : ℕ). drop n ps) (omega arith) ∙ sym (drop-drop 1 at ps) ∙ ap (drop 1) (w.read ∙ ap (λ (ys : List Item). value_parts ys after) back ∙ opened ListKind segs one_comma end xs after);
      lists = all_lists whole nodes joined ∙ w.lists ∙ ap (parts_from true) back ∙ rw part refl;
      ends = ends;
      edit = λ f. all_edited whole f nodes joined ∙ w.others (edit_from f) (keeps_all f) ∙ ap (λ (ys : List Item). w.front ++ ys) (ap (edit_from f true) back ∙ rw part refl);
      first = λ f. one_edited whole f nodes joined ∙ w.others (edit_one_from f) (keeps_first f) ∙ ap (λ (ys : List Item). w.front ++ ys) (ap (edit_one_from f true) back ∙ rw part refl);
      found = λ p f.
          found_edited whole p f nodes joined ∙ w.others (edit_element_from p f) (keeps_found p f)
          ∙ ap (λ (ys : List Item). w.front ++ ys) (ap (edit_element_from p f true) back ∙ found_here p f segs one_comma end xs ends);
    }

pub list_here : (whole start : Bool) (ps : List Part) (from at end : ℕ) (d : Part) (nodes : List Item) (after : List RowPart) → HasWalked whole start (map part_view ps) from at → at < length ps → is_end (part_view (get_or ps at d)) ≡ false
    → start ≡ true → opens_list (part_view (get_or ps at d)) ≡ true → ends_piece (drop end (map part_view ps)) ≡ true → ItemEnds (map part_view ps) at end
    → drop from (map part_view ps) ≡ value_parts nodes after → Joined whole nodes → IsListIn whole nodes after (map part_view ps) from (at + 1)
list_here whole start ps from at end d nodes after w h more starts opens piece end_is read joined =
    let k = subst (λ (b : Bool). IsWalked whole b nodes after (map part_view ps) from at) starts (w nodes after read) in
    let i = item_at k.back after ps at d k.read h more in
    let l = list_is i.x (sym i.list ∙ opens) in
    here whole nodes after (map part_view ps) from at i.xs l.segs l.one_comma l.end k (i.are ∙ ap (λ (y : Item). y ∷ i.xs) l.is) (sym (piece_told i.xs after) ∙ ap ends_piece (sym (i.next end end_is)) ∙ piece) joined

-- where it is the only item
pub only_here : (nodes : List Item) (after ps : List RowPart) (from to : ℕ) → drop from ps ≡ value_parts nodes after → to ≡ from + 1 → is_some (only_list nodes) ≡ true → IsListIn true nodes after ps from to
only_here [] after ps from to read to_is is = absurd (false≢true is)
only_here (x ∷ []) after ps from to read to_is is =
    let l = list_is x (sym (only_is (x ∷ [])) ∙ is) in
    let start : IsWalked true true (x ∷ []) after ps from from = record { front = []; back = x ∷ []; are = refl; place = omega arith; read = read; lists = refl; others = λ e keeps. refl } in
    let joint : list_all lists.may_be_in_sum (x ∷ []) ≡ true = ap (λ (y : Item). list_all lists.may_be_in_sum (y ∷ [])) l.is in
    subst (IsListIn true (x ∷ []) after ps from) (sym to_is) (here true (x ∷ []) after ps from from [] l.segs l.one_comma l.end start (ap (λ (y : Item). y ∷ []) l.is) refl (λ h. joint))
only_here (x ∷ y ∷ xs) after ps from to read to_is is = absurd (false≢true (sym (only_is (x ∷ y ∷ xs)) ∙ is))

-- an answer that tells more
pub some_as : {A : Type 0} (P Q : A → Type 0) (o : Option A) → ((n : A) → P n → Q n) → IfSome o P → IfSome o Q
some_as P Q None f h = h
some_as P Q (Some n) f h = f n h

pub some_both : {A : Type 0} (P Q R : A → Type 0) (o : Option A) → ((n : A) → P n → Q n → R n) → IfSome o P → IfSome o Q → IfSome o R
some_both P Q R None f h k = h
some_both P Q R (Some n) f h k = f n h k

pub none_as : {A : Type 0} (P Q : Type 0) (o : Option A) → (P → Q) → IfNone o P → IfNone o Q
none_as P Q None f h = f h
none_as P Q (Some n) f h = h
