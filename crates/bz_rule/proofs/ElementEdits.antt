-- The elements of a value, edited one by one among its parts.
use Rattle.std.proofs.Common.{◌≡◌, ℕ, ◌+◌, ◌-◌, ◌<◌, ◌≤◌, List, [], ◌∷◌, ◌++◌, Bool, true, false, ◌||◌, if◌then◌else◌, Option, Some, None, length, map, take, drop, refl, ap, sym, ◌∙◌, arith, append_assoc, append-nil, length-append, length-drop, length-take-le, drop-drop, take-append-drop}
use Rattle.std.specs.List.{list_any, flat_map}
use Rattle.std.proofs.lemmas.Bool.{false≢true}
use Rattle.std.proofs.lemmas.List.{append_cancel_right, length-map}
use Rattle.std.proofs.lemmas.List.Folds.{list_any-append}
use Rattle.std.proofs.Math.Seq.{drop-append_seam}
use Rattle.std.proofs.Math.Bool.{or-false, or_assoc}
use Rattle.bz_token.specs.declared.token.Kind.TheVariants.{String}
use Rattle.bz_tree.specs.Tree.{Item, leaf, group, Segment, items_of, no_segs, seg, segs_of}
use Rattle.bz_tree.specs.Rows.{RowPart, a_token, above, beside_part, closing, segment_end, items_parts, segs_parts}
use Rattle.bz_label.specs.Labels.{Package}
use Rattle.bz_attribute.specs.Rules.{only_text}
use Rattle.bz_attribute.specs.ListWalk.{elements, edit_from, edit_list, is_part, parts_from, is_plus}
use Rattle.bz_attribute.specs.Elements.{HasNoList, IsListIn, IsNextElement, ListRest, edited_rest, elements_left, rest_parts, value_parts}
use Rattle.bz_attribute.specs.Lists.{edit_parts, parts}
use Rattle.bz_attribute.specs.declared.place.Place.{Place}
use Rattle.bz_attribute.proofs.LabelSets.{any_joined}
use Rattle.bz_attribute.proofs.ListEdits.{list_cut, long_opened, opened}
use Rattle.bz_rule.specs.private.StringEdits.{become, become_all, HasMadeWay, in_place, is_meant, IsUpTo, literal_in, literal_parts, means_in, place_in, written_to}
use Rattle.bz_rule.specs.declared.commands.string_edit.Meant.{Meant}
use Rattle.bz_rule.specs.declared.commands.string_edit.Meant.TheVariants.{Any, Unlike, Word, Words}
use Rattle.bz_rule.specs.private.ArgumentEdits.{HasEditedValue}
use Rattle.bz_rule.proofs.WrittenParts.{between, later, passed, passed_to, put, up_to_made}

-- what stands after some parts
pub after_them : (ps xs ys : List RowPart) (at k : ℕ) → drop at ps ≡ xs ++ ys → k ≡ at + length xs → drop k ps ≡ ys
after_them ps xs ys at k are size = ap (λ (n : ℕ). drop n ps) size ∙ sym (drop-drop (length xs) at ps) ∙ ap (drop (length xs)) are ∙ drop-append_seam xs ys

pub and_them : (ps xs ys : List RowPart) (at k : ℕ) → drop at ps ≡ xs ++ ys → k ≡ at + length xs → drop at ps ≡ xs ++ drop k ps
and_them ps xs ys at k are size = are ∙ ap (λ (qs : List RowPart). xs ++ qs) (sym (after_them ps xs ys at k are size))

-- an element that is one string token
record IsString (nodes : List Item) : Type 0 where
  text : List ℕ
  are : nodes ≡ leaf String text ∷ []

is_string : (nodes : List Item) (p : Option (List ℕ) → Bool) → p None ≡ false → p (only_text nodes) ≡ true → IsString nodes
is_string [] p none h = absurd (false≢true (sym none ∙ h))
is_string (leaf String text ∷ []) p none h = record { text = text; are = refl }
is_string (leaf _ text ∷ []) p none h = absurd (false≢true (sym none ∙ h))
is_string (group k segs one_comma end ∷ []) p none h = absurd (false≢true (sym none ∙ h))
is_string (leaf String text ∷ y ∷ xs) p none h = absurd (false≢true (sym none ∙ h))
is_string (leaf _ text ∷ y ∷ xs) p none h = absurd (false≢true (sym none ∙ h))
is_string (group k segs one_comma end ∷ y ∷ xs) p none h = absurd (false≢true (sym none ∙ h))

-- what becomes another is a string
pub strings_only : (home : Package) (meant : Meant) (literal : List ℕ) → literal_in meant ≡ Some literal → means_in home meant None ≡ false
strings_only home Any literal h = absurd cc
strings_only home (Word word) literal h = refl
strings_only home (Words set) literal h = refl
strings_only home (Unlike old new) literal h = refl

-- what comes of the next element, and of what stands before it
abbrev pub piece : (Option (List ℕ) → Bool) → Option (List ℕ) → List RowPart → ℕ → ℕ → Segment → List RowPart
piece p literal ps at from s = take (from - at) (drop at ps) ++ segs_parts (segs_of (become p literal s))

-- an element that is not meant stays
pub element_stays : (p : Option (List ℕ) → Bool) (literal : Option (List ℕ)) (l : ListRest) (after ps : List RowPart) (at from token to : ℕ) (string : Option (List ℕ)) (written : Option Place) (out : List RowPart) → IsUpTo written at → at ≤ from → from ≤ to → (n : IsNextElement l after ps at from token to string)
    → p string ≡ false → written_to written out ps to ≡ written_to written out ps at ++ piece p literal ps at from n.element
element_stays p literal l after ps at from token to string written out h first second n none =
    let s : Segment = n.element in
    let stays : become p literal s ≡ s ∷ [] = ap (λ (o : Option (List ℕ)). if p o then in_place literal s else s ∷ []) (sym n.text) ∙ ap (λ (b : Bool). if b then in_place literal s else s ∷ []) none in
    passed_to written out ps at to h (omega (arith, first, second))
    ∙ ap (λ (qs : List RowPart). written_to written out ps at ++ qs) (between ps at from to first second ∙ ap (λ (qs : List RowPart). take (from - at) (drop at ps) ++ qs) (n.own ∙ ap (λ (ss : List Segment). segs_parts (segs_of ss)) (sym stays)))

pub place_early : (literal : Option (List ℕ)) (from token to : ℕ) → token < to → (place_in literal from token to).to ≤ to
place_early None from token to h = omega arith
place_early (Some literal) from token to h = omega (arith, h)

joined : (a b c d e : List RowPart) → (((a ++ b) ++ c) ++ d) ++ e ≡ a ++ (b ++ (c ++ (d ++ e)))
joined a b c d e = simp append_assoc

-- one that is meant makes way, or its string does
pub element_put : (p : Option (List ℕ) → Bool) (literal : Option (List ℕ)) (l : ListRest) (after ps : List RowPart) (at from token to : ℕ) (string : Option (List ℕ)) (was is : Option Place) (out one two : List RowPart) → IsUpTo was at → at ≤ from → from ≤ to → to ≤ length ps
    → ((new : List ℕ) → literal ≡ Some new → p None ≡ false) → (n : IsNextElement l after ps at from token to string) → p string ≡ true
    → HasMadeWay (written_to was out ps (place_in literal from token to).from) ps one (place_in literal from token to) is → two ≡ one ++ literal_parts literal
    → written_to is two ps to ≡ written_to was out ps at ++ piece p literal ps at from n.element
element_put p None l after ps at from token to string was is out one two h first second fits strings n meant made pushed =
    let s : Segment = n.element in
    let before : List RowPart = take (from - at) (drop at ps) in
    let goes : become p None s ≡ [] = ap (λ (b : Bool). if b then [] else s ∷ []) (ap p (sym n.text) ∙ meant) in
    put _ ps one two [] (record { from = from; to = to }) is made pushed ∙ ap (λ (qs : List RowPart). qs ++ []) (passed_to was out ps at from h first)
    ∙ append_assoc (written_to was out ps at) before [] ∙ ap (λ (ss : List Segment). written_to was out ps at ++ (before ++ segs_parts (segs_of ss))) (sym goes)
element_put p (Some literal) l after ps at from token to string was is out one two h first second fits strings n meant made pushed =
    let s : Segment = n.element in
    let new : List RowPart = a_token String literal ∷ [] in
    let text : IsString s.nodes = is_string s.nodes p (strings literal refl) (ap p (sym n.text) ∙ meant) in
    let before : List RowPart = take (from - at) (drop at ps) in
    let comments : List RowPart = map above s.before in
    let last : List RowPart = segment_end ∷ (beside_part s.suffix ++ []) in
    let all : take (to - from) (drop from ps) ≡ comments ++ (a_token String text.text ∷ last) = n.own ∙ ap (λ (nodes : List Item). comments ++ (items_parts (items_of nodes) ++ last)) text.are in
    let back : from + (to - from) ≡ to = omega (arith, second) in
    let own : drop from ps ≡ comments ++ (a_token String text.text ∷ (last ++ drop to ps)) =
    sym (take-append-drop (to - from) (drop from ps)) ∙ (λ i. all i ++ drop (to - from) (drop from ps)) ∙ append_assoc comments (a_token String text.text ∷ last) (drop (to - from) (drop from ps))
    ∙ ap (λ (qs : List RowPart). comments ++ (a_token String text.text ∷ (last ++ qs))) (drop-drop (to - from) from ps ∙ ap (λ (k : ℕ). drop k ps) back) in
    let long : length (take (to - from) (drop from ps)) ≡ to - from = length-take-le (to - from) (drop from ps) (omega (arith, length-drop from ps, fits, second)) in
    let begins : token ≡ from + length comments = omega (arith, n.begins, length-map s.before above) in
    let at_token : drop token ps ≡ a_token String text.text ∷ (last ++ drop to ps) = after_them ps comments (a_token String text.text ∷ (last ++ drop to ps)) from token own begins in
    let at_last : drop (token + 1) ps ≡ last ++ drop to ps = after_them ps (a_token String text.text ∷ []) (last ++ drop to ps) token (token + 1) at_token refl in
    let ends : to ≡ token + 1 + length last = omega (arith, begins, second, long, ap length all, length-append comments (a_token String text.text ∷ last)) in
    let at_string = passed_to was out ps at from h first in
    let string_at = passed was out ps comments from token (later was at from h first) (and_them ps comments (a_token String text.text ∷ (last ++ drop to ps)) from token own begins) begins in
    let after_string = put _ ps one two new (record { from = token; to = token + 1 }) is made pushed in
    let whole = passed is two ps last (token + 1) to (up_to_made made) at_last ends in
    let goes : become p (Some literal) s ≡ in_place (Some literal) s = ap (λ (b : Bool). if b then in_place (Some literal) s else s ∷ []) (ap p (sym n.text) ∙ meant) in
    whole ∙ ap (λ (qs : List RowPart). qs ++ last) (after_string ∙ ap (λ (qs : List RowPart). qs ++ new) (string_at ∙ ap (λ (qs : List RowPart). qs ++ comments) at_string))
    ∙ joined (written_to was out ps at) before comments new last ∙ ap (λ (ss : List Segment). written_to was out ps at ++ (before ++ segs_parts (segs_of ss))) (sym goes)

-- of a value, the elements before `at` were
pub record HasEditedFront (p : Option (List ℕ) → Bool) (literal : Option (List ℕ)) (nodes : List Item) (after ps : List RowPart) (at : ℕ) (was is : Bool) (old now : List RowPart) : Type 0 where
  pub left : ListRest
  pub made : List RowPart
  pub read : drop at ps ≡ rest_parts left after
  pub changed : (is || list_any (is_meant p) (elements_left left)) ≡ (was || list_any (list_any (is_meant p)) (parts nodes))
  pub total : made ++ rest_parts (edited_rest (become_all p literal) left) after ≡ value_parts (edit_parts (become_all p literal) nodes) after
  pub written : now ≡ old ++ made

-- the walk over the elements
pub none_edited : (p : Option (List ℕ) → Bool) (literal : Option (List ℕ)) (nodes : List Item) (after ps : List RowPart) (from to : ℕ) (written : Option Place) (out : List RowPart) (was : Bool) → IsUpTo written from → drop from ps ≡ value_parts nodes after → IsListIn true nodes after ps from to
    → HasEditedFront p literal nodes after ps to was was (written_to written out ps from) (written_to written out ps to)
none_edited p literal nodes after ps from to written out was h read l =
    let some : List (List Segment) = parts_from false l.list.items in
    let cut : drop from ps ≡ opened l.front ++ rest_parts l.list after = read ∙ ap (λ (xs : List Item). value_parts xs after) l.are ∙ list_cut l.front l.list after in
    record {
      left = l.list;
      made = opened l.front;
      read = l.read;
      changed = ap (λ (b : Bool). was || b)
          (list_any-append (is_meant p) l.list.elements (flat_map (λ ss. ss) some) ∙ ap (λ (b : Bool). list_any (is_meant p) l.list.elements || b) (any_joined (is_meant p) some)
          ∙ ap (list_any (list_any (is_meant p))) (sym l.lists));
      total = sym (ap (λ (xs : List Item). value_parts xs after) (l.edit (become_all p literal)) ∙ list_cut l.front (edited_rest (become_all p literal) l.list) after);
      written = passed written out ps (opened l.front) from to h (cut ∙ ap (λ (qs : List RowPart). opened l.front ++ qs) (sym l.read)) (omega (arith, l.begins, long_opened l.front));
    }

grouped : (a b c d : List RowPart) → (a ++ (b ++ c)) ++ d ≡ a ++ (b ++ (c ++ d))
grouped a b c d = simp append_assoc

pub one_edited : (p : Option (List ℕ) → Bool) (literal : Option (List ℕ)) (nodes : List Item) (after ps : List RowPart) (at from token to : ℕ) (string : Option (List ℕ)) (was is more : Bool) (old now next : List RowPart) → (f : HasEditedFront p literal nodes after ps at was is old now)
    → (n : IsNextElement f.left after ps at from token to string) → more ≡ (is || p string) → next ≡ now ++ piece p literal ps at from n.element → HasEditedFront p literal nodes after ps to was more old next
one_edited p literal nodes after ps at from token to string was is more old now next f n changed on =
    let own : List RowPart = segs_parts (segs_of (become p literal n.element)) in
    let others : List Segment = elements_left n.left in
    record {
      left = n.left;
      made = f.made ++ piece p literal ps at from n.element;
      read = n.read;
      changed = ap (λ (b : Bool). b || list_any (is_meant p) others) changed ∙ or_assoc is (p string) (list_any (is_meant p) others)
          ∙ (λ i. is || (p (n.text i) || list_any (is_meant p) others)) ∙ ap (λ (ss : List Segment). is || list_any (is_meant p) ss) (sym n.are) ∙ f.changed;
      total = grouped f.made (take (from - at) (drop at ps)) own (rest_parts (edited_rest (become_all p literal) n.left) after) ∙ ap (λ (qs : List RowPart). f.made ++ qs) (sym (n.edited (become p literal))) ∙ f.total;
      written = on ∙ ap (λ (qs : List RowPart). qs ++ piece p literal ps at from n.element) f.written ∙ append_assoc old f.made (piece p literal ps at from n.element);
    }

-- where no element is left, nothing is edited
nil_both : (xs ys : List Segment) → xs ++ ys ≡ [] → (xs ≡ []) × (ys ≡ [])
nil_both [] ys h = (refl, h)
nil_both (x ∷ xs) ys h = absurd cc

empty_stays : (g : Segment → List Segment) (x : Item) → elements x ≡ [] → edit_list (flat_map g) x ≡ x
empty_stays g (leaf kind text) h = refl
empty_stays g (group kind no_segs one_comma end) h = refl
empty_stays g (group kind (seg before nodes suffix segs) one_comma end) h = absurd cc

rest_stays : (g : Segment → List Segment) (start : Bool) (xs : List Item) → flat_map (λ ss. ss) (parts_from start xs) ≡ [] → edit_from (flat_map g) start xs ≡ xs
rest_stays g start [] h = refl
rest_stays g start (x ∷ xs) h =
    elim (is_part start x xs) as (λ b. flat_map (λ ss. ss) ((if b then elements x ∷ [] else []) ++ parts_from (is_plus x) xs) ≡ [] → (if b then edit_list (flat_map g) x else x) ∷ edit_from (flat_map g) (is_plus x) xs ≡ x ∷ xs)
    [ true ↦ λ k. let both = nil_both (elements x) (flat_map (λ ss. ss) (parts_from (is_plus x) xs)) k in (λ i. empty_stays g x both.0 i ∷ rest_stays g (is_plus x) xs both.1 i) | false ↦ λ k. ap (λ (ys : List Item). x ∷ ys) (rest_stays g (is_plus x) xs k) ] h

pub all_edited : (p : Option (List ℕ) → Bool) (literal : Option (List ℕ)) (nodes : List Item) (after ps : List RowPart) (at : ℕ) (was is : Bool) (old now : List RowPart) → (f : HasEditedFront p literal nodes after ps at was is old now) → elements_left f.left ≡ []
    → HasEditedValue p literal nodes after (drop at ps) was is old now
all_edited p literal nodes after ps at was is old now f none =
    let l : ListRest = f.left in
    let both = nil_both l.elements (flat_map (λ ss. ss) (parts_from false l.items)) none in
    let rest : List RowPart = map above l.end ++ closing l.one_comma ∷ items_parts (items_of l.items) in
    let ends : rest_parts (record l { elements = [] }) after ≡ rest ++ segment_end ∷ after = sym (append_assoc (map above l.end) (closing l.one_comma ∷ items_parts (items_of l.items)) (segment_end ∷ after)) in
    let stays : rest_parts (edited_rest (become_all p literal) l) after ≡ rest ++ segment_end ∷ after =
    (λ i. rest_parts (record l { elements = become_all p literal (both.0 i); items = rest_stays (become p literal) false l.items both.1 i }) after) ∙ ends in
    record {
      rest = rest;
      made = f.made;
      read = f.read ∙ ap (λ (ss : List Segment). rest_parts (record l { elements = ss }) after) both.0 ∙ ends;
      changed = sym (or-false is) ∙ ap (λ (ss : List Segment). is || list_any (is_meant p) ss) (sym none) ∙ f.changed;
      total = append_cancel_right (f.made ++ rest) _ (segment_end ∷ after) (append_assoc f.made rest (segment_end ∷ after) ∙ ap (λ (qs : List RowPart). f.made ++ qs) (sym stays) ∙ f.total);
      written = f.written;
    }

-- a value without list part
pub no_list_there : (p : Option (List ℕ) → Bool) (literal : Option (List ℕ)) (nodes : List Item) (after left : List RowPart) (was : Bool) (old : List RowPart) → left ≡ value_parts nodes after → HasNoList true nodes → HasEditedValue p literal nodes after left was was old old
no_list_there p literal nodes after left was old read lack = record {
  rest = items_parts (items_of nodes);
  made = [];
  read = read;
  changed = sym (or-false was) ∙ ap (λ (zs : List (List Segment)). was || list_any (list_any (is_meant p)) zs) (sym lack.none);
  total = ap (λ (xs : List Item). items_parts (items_of xs)) (sym (lack.same (become_all p literal)));
  written = sym (append-nil old);
}
