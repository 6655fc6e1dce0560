-- What `set` makes of an argument whose value is one list of strings.
use Rattle.std.proofs.Common.{◌≡◌, ◌<◌, ℕ, ◌+◌, ◌-◌, length, take, get_or, List, [], ◌∷◌, ◌++◌, Bool, true, false, ◌||◌, ◌&&◌, not, refl, sym, ap, ◌∙◌, append_assoc, append-nil, subst, bytes_eq, map, arith}
use Rattle.std.proofs.lemmas.List.{length-map, map-append, take_more}
use Rattle.std.specs.Cmp.Lexicographic.{pointwise}
use Rattle.std.specs.List.{list_any}
use Rattle.std.specs.Prelude.{codes, is_some, nat_le, Option, None, Some, Result, Ok, Err, IfOk, IsTrue, if◌then◌else◌}
use Rattle.bz_token.specs.Common.{is_empty, map_or}
use Rattle.bz_token.specs.declared.token.Kind.TheVariants.{Identifier, Operator, String}
use Rattle.bz_tree.specs.declared.tree.GroupKind.TheVariants.{List as ListKind}
use Rattle.bz_tree.specs.Tree.{leaf, group, Segment, segments}
use Rattle.bz_label.specs.Values.{quoted, value_of}
use Rattle.bz_layout.specs.Pieces.{bytes_of, indent, suffix_piece}
use Rattle.bz_layout.specs.Respell.{respell}
use Rattle.bz_attribute.specs.Effects.{argument, edit_first, has}
use Rattle.bz_attribute.specs.Lists.{only_list, with_value}
use Rattle.bz_attribute.specs.Rules.{first_named, is_named, is_text, string_value, value}
use Rattle.bz_rule.specs.Reports.{sets}
use Rattle.bz_rule.specs.Set.{New, NewStrings, is_list_attribute, is_value, new_of, new_value, new_word, set, set_in}
use Rattle.bz_rule.specs.declared.forms.AttributeValues.{AttributeValues}
use Rattle.bz_canonical.specs.Canonical.{argument_lines}
use Rattle.bz_canonical.specs.SetList.{IsSet, SetsInLines}
use Rattle.bz_canonical.specs.declared.edited.EditedList.TheVariants.{Unchanged, Written}
use Rattle.bz_canonical.specs.declared.edited.PassedList.{PassedList}
use Rattle.bz_canonical.specs.declared.lists.ReadElement.{ReadElement}
use Rattle.bz_canonical.specs.declared.set_list.ComparedList.{ComparedList}
use Rattle.bz_canonical.specs.private.Added.{IsListAlone, list_arg}
use Rattle.bz_canonical.specs.private.Arguments.{IsHeadRead}
use Rattle.bz_canonical.specs.private.Edited.{EndsList}
use Rattle.bz_canonical.specs.private.Elements.{Element, IsElementRead, IsLast, are_broken, closing, element_line, element_lines, element_segs, element_written, is_noted}
use Rattle.bz_canonical.specs.private.NewValues.{new_element}
use Rattle.bz_canonical.specs.private.SetList.{AreCompared, IsListCompared, PutsValues, have_values, left_after, none_left}
use Rattle.bz_canonical.proofs.AddedLines.{news_segs}
use Rattle.bz_canonical.proofs.EditedLines.{front_of, list_bytes}
use Rattle.bz_canonical.proofs.ElementLists.{elements_read, flat_one, or_yes, passed_more, passed_none}
use Rattle.bz_canonical.proofs.ListLines.{first_is, head_front, list_alone}
use Rattle.bz_canonical.proofs.Taken.{taken}

-- elements that are compared

pub compared_none : (values : List (List ℕ)) (lines : Bool) (text : List ℕ) → AreCompared values lines false text text (Some values)
compared_none values lines text = record { written = []; broken = false; passed = passed_none lines text; left_is = λ more. refl }

with_one : (left : Option (List (List ℕ))) (e : Element) (more : List Element)
    → map_or false (λ others. have_values others (e ∷ more)) left ≡ map_or false (λ others. have_values others more) (left_after left e.token)
with_one None e more = refl
with_one (Some []) e more = refl
with_one (Some (value ∷ values)) e more = by (is_text value (value_of e.token))
  where
    by : (b : Bool) → (b && have_values values more) ≡ map_or false (λ others. have_values others more) (if b then Some values else None)
    by true = refl
    by false = refl

pub compared_more : (values : List (List ℕ)) (lines one : Bool) (text rest : List ℕ) (left after : Option (List (List ℕ))) (read : ReadElement) → AreCompared values lines one text rest left → IsElementRead lines one rest read
    → after ≡ left_after left read.string.token.now → AreCompared values lines true text read.rest.now after
compared_more values lines one text rest left after read o e after_is = record {
  written = o.written ++ element_written read;
  broken = o.broken || (one || read.noted);
  passed = passed_more lines one o.broken text rest o.written read o.passed e;
  left_is = λ more.
      ap (have_values values) (append_assoc o.passed.elements (e.element ∷ []) more) ∙ o.left_is (e.element ∷ more) ∙ with_one left e.element more
      ∙ ap (map_or false (λ others. have_values others more)) (ap (left_after left) e.token_is ∙ sym after_is);
}

none_more : (values : List (List ℕ)) → have_values values [] ≡ is_empty values
none_more [] = refl
none_more (value ∷ values) = refl

all_told : (left : Option (List (List ℕ))) → map_or false (λ others. have_values others []) left ≡ none_left left
all_told None = refl
all_told (Some values) = none_more values

pub list_compared : (depth : ℕ) (new : AttributeValues) (text rest : List ℕ) (list : ComparedList) (lines one : Bool) (left : Option (List (List ℕ))) → 1 < depth → IsHeadRead new.attr.now text (91 ∷ list.inside.now) true
    → AreCompared new.values.now lines one list.inside.now rest left → rest ≡ closing lines ++ list.end.now → IsLast list.end.now → list.same ≡ none_left left → IsListCompared depth new text list
list_compared depth new text rest list lines one left deep head o ends last same = record {
  written = o.written;
  one = one;
  broken = o.broken;
  deep = deep;
  head = head;
  read = elements_read lines one o.broken list.inside.now rest list.end.now o.written o.passed ends;
  last = last;
  same_is = same ∙ sym (all_told left) ∙ sym (o.left_is []) ∙ ap (have_values new.values.now) (append-nil o.passed.elements);
}

-- the argument

abbrev is_alone : (depth : ℕ) (new : AttributeValues) (text : List ℕ) (list : ComparedList) → IsListCompared depth new text list → IsListAlone depth new.attr.now text
is_alone depth new text list l = list_alone depth new.attr.now text list.inside.now list.end.now l.written l.one l.broken l.deep l.head l.read l.last

-- where the value is a list, it is set to one
new_is : (attr : List ℕ) (values : List (List ℕ)) (a : Segment) → bytes_eq attr (codes "name") ≡ false → is_some (only_list (value a)) ≡ true → new_of attr values (Some a) ≡ NewStrings values
new_is attr [] a other list = refl
new_is attr (v ∷ []) a other list = rw other (ap (λ b. if b then NewStrings (v ∷ []) else new_word v) (or_yes (is_list_attribute attr) (is_some (only_list (value a))) list))
new_is attr (v ∷ w ∷ values) a other list = refl

segments_are : (values : List (List ℕ)) (es : List Element) → pointwise (λ value s. is_text value (string_value s.nodes)) values (segments (element_segs es)) ≡ have_values values es
segments_are [] [] = refl
segments_are [] (e ∷ es) = refl
segments_are (v ∷ values) [] = refl
segments_are (v ∷ values) (e ∷ es) = ap (λ b. is_text v (value_of e.token) && b) (segments_are values es)

sets_is : (attr word : List ℕ) (values notes : List (List ℕ)) (es : List Element) (suffix : Option (List ℕ)) → bytes_eq attr word ≡ true → bytes_eq attr (codes "name") ≡ false
    → sets attr values (first_named attr (list_arg notes word es suffix ∷ [])) ≡ not (have_values values es)
sets_is attr word values notes es suffix named other =
    let a : Segment = list_arg notes word es suffix in
    ap (sets attr values) (first_is attr word notes es suffix named) ∙ ap (λ (n : New). not (is_value n (value a))) (new_is attr values a other refl) ∙ ap not (segments_are values es)

set_is : (attr word : List ℕ) (values notes : List (List ℕ)) (es : List Element) (suffix : Option (List ℕ)) → bytes_eq attr word ≡ true → bytes_eq attr (codes "name") ≡ false → have_values values es ≡ false
    → set attr values (list_arg notes word es suffix ∷ []) ≡ list_arg notes word (map new_element values) suffix ∷ []
set_is attr word values notes es suffix named other differs =
    let a : Segment = list_arg notes word es suffix in
    let new : new_of attr values (first_named attr (a ∷ [])) ≡ NewStrings values = ap (new_of attr values) (first_is attr word notes es suffix named) ∙ new_is attr values a other refl in
    ap (λ (n : New). if has attr (a ∷ []) then edit_first (is_named attr) (λ x. set_in n x ∷ []) (a ∷ []) else (a ∷ []) ++ argument attr (new_value n) ∷ []) new
    ∙ rw named (ap (λ b. (if b then a else with_value (new_value (NewStrings values)) a) ∷ []) (segments_are values es ∙ differs)
    ∙ ap (λ ss. record { before = notes; nodes = leaf Identifier word ∷ leaf Operator (codes "=") ∷ group ListKind ss false [] ∷ []; suffix = suffix } ∷ []) (news_segs values))

-- what is made of its lines

pub values_stay : (depth : ℕ) (new : AttributeValues) (text before after : List ℕ) (list : ComparedList) → IsListCompared depth new text list → bytes_eq new.attr.now (codes "name") ≡ false → list.same ≡ true → SetsInLines depth text new before after Unchanged
values_stay depth new text before after list l other same = λ args reads.
    let a = is_alone depth new text list l in
    let attr = new.attr.now in
    let values = new.values.now in
    ap (λ xs. sets attr values (first_named attr xs)) (a.same args reads) ∙ sets_is attr a.name values a.notes a.elements a.suffix a.named other ∙ ap not (sym l.same_is ∙ same)

pub values_set : (depth : ℕ) (new : AttributeValues) (text head old put after : List ℕ) (list : ComparedList) → IsListCompared depth new text list → bytes_eq new.attr.now (codes "name") ≡ false → list.same ≡ false
    → head ≡ take (length text - length list.inside.now) text → put ≡ old ++ head → PutsValues new.values.now list.end.now put after → SetsInLines depth text new old after Written
values_set depth new text head old put after list l other differs head_is put_is puts =
    let a = is_alone depth new text list l in
    let attr = new.attr.now in
    let values = new.values.now in
    let es : List Element = map new_element values in
    let F : List ℕ = front_of a.notes a.name in
    let end = list.end.now in
    let front : head ≡ F = head_is ∙ taken text F list.inside.now (head_front attr text list.inside.now l.head) in
    let less : have_values values a.elements ≡ false = sym l.same_is ∙ differs in (
      F ++ (puts.0 ++ end),
      puts.2 ∙ ap (λ (t : List ℕ). t ++ (puts.0 ++ end)) (put_is ∙ ap (λ (t : List ℕ). old ++ t) front) ∙ append_assoc old F (puts.0 ++ end),
      λ args reads. subst (λ xs. IsSet new xs (F ++ (puts.0 ++ end))) (sym (a.same args reads)) (record {
        sets_is = sets_is attr a.name values a.notes a.elements a.suffix a.named other ∙ ap not less;
        lines_are = ap (λ (t : List ℕ). F ++ (puts.0 ++ t)) l.last.front ∙ sym (append_assoc F puts.0 (44 ∷ bytes_of (suffix_piece a.suffix))) ∙ sym (list_bytes a.notes a.name es a.suffix puts.0 puts.1)
            ∙ ap argument_lines (sym (set_is attr a.name values a.notes a.elements a.suffix a.named other less));
      }),
    )

-- new elements are written

pub line_more : (values : List (List ℕ)) (i : ℕ) (v d old buffer after literal : List ℕ) → i < length values → v ≡ get_or values i d → buffer ≡ old ++ element_lines (respell String) (map new_element (take i values)) → literal ≡ quoted v
    → after ≡ buffer ++ (10 ∷ (indent 2 ++ (literal ++ 44 ∷ []))) → after ≡ old ++ element_lines (respell String) (map new_element (take (i + 1) values))
line_more values i v d old buffer after literal less is buffer_is literal_is after_is =
    let L : List ℕ = element_lines (respell String) (map new_element (take i values)) in
    let line : List ℕ = element_line (respell String) (new_element v) in
    after_is ∙ (λ j. buffer_is j ++ (10 ∷ (indent 2 ++ (literal_is j ++ 44 ∷ [])))) ∙ append_assoc old L line
    ∙ ap (λ (t : List ℕ). old ++ t) (sym (flat_one (element_line (respell String)) (map new_element (take i values)) (new_element v))
    ∙ ap (element_lines (respell String)) (sym (map-append new_element (take i values) (v ∷ [])) ∙ ap (map new_element) (sym (take_more values i d less ∙ ap (λ (w : List ℕ). take i values ++ w ∷ []) (sym is)))))

-- their list is on lines where they are two
broken_by_count : (values : List (List ℕ)) → are_broken (map new_element values) ≡ nat_le 2 (length values)
broken_by_count values = λ i. none_noted values i || nat_le 2 (length-map values new_element i)
  where
    none_noted : (values : List (List ℕ)) → list_any is_noted (map new_element values) ≡ false
    none_noted [] = refl
    none_noted (v ∷ values) = none_noted values

some_values : (values : List (List ℕ)) → 0 < length values → is_empty (map new_element values) ≡ false
some_values [] some = absurd (omega (arith, some))
some_values (v ∷ values) some = refl

pub values_put : {E : Type 0} (values : List (List ℕ)) (list : PassedList) (old buffer after : List ℕ) (r : Result Bool E) → 0 < length values → list.start ≡ length old → list.passed.broken ≡ nat_le 2 (length values)
    → buffer ≡ old ++ element_lines (respell String) (map new_element values) → IfOk r (λ ended. IsTrue ended → EndsList list buffer after) → IfOk r (λ put. IsTrue put → PutsValues values list.end.now old after)
values_put values list old buffer after (Ok ended) some start broken put known = λ on. known on old (map new_element values) (sym start) (some_values values some) (broken ∙ sym (broken_by_count values)) put
values_put values list old buffer after (Err e) some start broken put known = known
