-- The edit of the arguments in a place among the parts of a rule is the edit of the rule.
use Rattle.std.proofs.Common.{◌≡◌, ℕ, ◌-◌, ◌≤◌, List, [], ◌∷◌, ◌++◌, Bool, true, false, ◌&&◌, if◌then◌else◌, Option, Some, None, is_some, length, take, drop, refl, ap, sym, ◌∙◌, arith, append_assoc, append-nil, length-take-le, take-append-drop}
use Rattle.std.specs.Prelude.{option_to_list}
use Rattle.std.specs.List.{flat_map, list_any}
use Rattle.bz_tree.specs.Tree.{Segment, Statement, segs_of}
use Rattle.bz_tree.specs.Rows.{RowPart, segs_parts}
use Rattle.bz_attribute.specs.Effects.{edit_first, filtered}
use Rattle.bz_attribute.specs.Reports.{done}
use Rattle.bz_attribute.specs.RowEdits.{IsRowEdit, replaced_at}
use Rattle.bz_attribute.specs.RowPlaces.{alone, IsPlaceOf, IsPlaceOfAll, IsRuleRow}
use Rattle.bz_attribute.specs.Rules.{Rule, first_named, is_named, is_text, name_of}
use Rattle.bz_attribute.specs.declared.edit.Edit.{Edit}
use Rattle.bz_attribute.specs.declared.place.Place.{Place}
use Rattle.std.proofs.Math.Bool.{or-false}
use Rattle.bz_attribute.proofs.Locals.{edit_local, is_first_named}
use Rattle.bz_rule.specs.private.ArgumentEdits.{AreThere, edited, is_changed, IsPlaceEdit}
use Rattle.bz_rule.proofs.EachArgument.{HasEditedSome, all_edited}
use Rattle.bz_rule.proofs.WrittenParts.{regroup}
use Rattle.bz_rule.specs.private.StringEdits.{become_all, changes, IsUpTo, written_to}
use Rattle.std.proofs.lemmas.Bool.{false≢true}
use Rattle.std.proofs.lemmas.List.{drop-append-le, drop-take, take-append-le, take_rest}
use Rattle.bz_token.specs.Common.{map_or}

-- what was written comes to stand in the place of what it changes
abbrev pub edit_of : Option Place → Edit
edit_of None = record { done = done None false; place = record { from = 0; to = 0 } }
edit_of (Some place) = record { done = done None true; place = place }

record IsEdited (f : Segment → List Segment) (t : Segment → Bool) (place : Place) (ps : List RowPart) (args : List Segment) (is : Bool) (now : List RowPart) : Type 0 where
  changed : is ≡ list_any t args
  written : now ≡ take place.from (take place.to ps) ++ segs_parts (segs_of (flat_map f args))

edited_there : (f : Segment → List Segment) (t : Segment → Bool) (place : Place) (ps own : List RowPart) (args : List Segment) (at : ℕ) (is : Bool) (now : List RowPart) → place.from ≤ place.to → place.to ≤ length ps → own ≡ take place.to ps → at ≡ place.to → AreThere place ps args
    → ((args : List Segment) → drop place.from own ≡ segs_parts (segs_of args) → HasEditedSome f t args own place.from at is now) → IsEdited f t place ps args is now
edited_there f t place ps own args at is now order long seen ends h edits =
    let there : drop place.from own ≡ segs_parts (segs_of args) = ap (drop place.from) seen ∙ ap (λ (k : ℕ). drop place.from (take k ps)) (omega (arith, order)) ∙ drop-take place.from (place.to - place.from) ps ∙ h in
    let s = edits args there in
    let all : s.front ≡ args = all_edited f t args own place.from at is now s (ends ∙ sym (ap length seen ∙ length-take-le place.to ps long)) in
    record { changed = s.changed ∙ ap (list_any t) all; written = s.written ∙ (λ i. take place.from (seen i) ++ segs_parts (segs_of (flat_map f (all i)))) }

pub placed : (f : Segment → List Segment) (t : Segment → Bool) (place : Place) (ps out own : List RowPart) (at : ℕ) (written : Option Place) (e : Edit) → place.from ≤ place.to → place.to ≤ length ps → own ≡ take place.to ps → at ≡ place.to → IsUpTo written at → e ≡ edit_of written
    → ((args : List Segment) → drop place.from own ≡ segs_parts (segs_of args) → HasEditedSome f t args own place.from at (is_some written) (written_to written out own at)) → IsPlaceEdit f t place ps out e
placed f t place ps out own at None e order long seen ends h is edits = record {
  within = rw is (omega arith, omega arith);
  parts = λ args there c. absurd (false≢true (sym (ap (λ (x : Edit). x.done.changed) is) ∙ c));
  done = λ args there. ap (λ (x : Edit). x.done) is ∙ ap (done None) (edited_there f t place ps own args at false _ order long seen ends there edits).changed;
}
placed f t place ps out own at (Some q) e order long seen ends h is edits =
    let after : List RowPart = drop place.to ps in
    let size : length own ≡ at = ap length seen ∙ length-take-le place.to ps long ∙ sym ends in
    let whole : own ++ after ≡ ps = ap (λ (qs : List RowPart). qs ++ after) seen ∙ take-append-drop place.to ps in
    let front : (k : ℕ) → k ≤ at → take k ps ≡ take k own = λ k early. ap (take k) (sym whole) ∙ take-append-le k own after (omega (arith, size, early)) in
    let rest : drop q.to ps ≡ take (at - q.to) (drop q.to own) ++ after =
    ap (drop q.to) (sym whole) ∙ drop-append-le q.to own after (omega (arith, size, h.1)) ∙ ap (λ (qs : List RowPart). qs ++ after) (sym (ap (λ (k : ℕ). take (k - q.to) (drop q.to own)) (sym size) ∙ take_rest own q.to)) in
    record {
      within = rw is (h.0, omega (arith, long, ends, h.1));
      parts = λ args there c.
          ap (λ (x : Edit). replaced_at x.place out ps) is
          ∙ (λ i. front q.from (omega (arith, h.0, h.1)) i ++ (out ++ rest i))
          ∙ regroup (take q.from own) out (take (at - q.to) (drop q.to own)) after
          ∙ ap (λ (qs : List RowPart). qs ++ after) (edited_there f t place ps own args at true _ order long seen ends there edits).written
          ∙ append_assoc (take place.from (take place.to ps)) (segs_parts (segs_of (flat_map f args))) after
          ∙ ap (λ (qs : List RowPart). qs ++ (segs_parts (segs_of (flat_map f args)) ++ after)) (ap (take place.from) (sym seen) ∙ sym (front place.from (omega (arith, order, ends))));
      done = λ args there. ap (λ (x : Edit). x.done) is ∙ ap (done None) (edited_there f t place ps own args at true _ order long seen ends there edits).changed;
    }

-- all arguments
pub every_row : (f : Segment → List Segment) (t : Segment → Bool) (place : Place) (ps new : List RowPart) (e : Edit) → IsPlaceEdit f t place ps new e → ((s : Statement) (r : Rule) → IsRuleRow s r ps → IsPlaceOfAll s r ps place.from place.to)
    → IsRowEdit (flat_map f) (λ args. done None (list_any t args)) ps new e
every_row f t place ps new e edit at = record {
  within = edit.within;
  parts = λ s r h changed. edit.parts r.args (at s r h).read changed ∙ (at s r h).put (flat_map f);
  done = λ s r h. edit.done r.args (at s r h).read;
}

edit_alone : (name : List ℕ) (edit : Segment → List Segment) (a : Segment) → is_named name a ≡ true → edit_first (is_named name) edit (a ∷ []) ≡ edit a
edit_alone name edit a is = ap (λ (b : Bool). if b then edit a ++ [] else a ∷ []) is ∙ append-nil (edit a)

has_name : (name : List ℕ) (o : Option (List ℕ)) → is_text name o ≡ true → is_some o ≡ true
has_name name None h = absurd cc
has_name name (Some other) h = refl

edited_alone : (p : Option (List ℕ) → Bool) (literal : Option (List ℕ)) (name : List ℕ) (args : List Segment) (o : Option Segment) → first_named name args ≡ o
    → flat_map (edited p literal) (option_to_list o) ≡ edit_first (is_named name) (filtered (become_all p literal)) (option_to_list o)
edited_alone p literal name args None h = refl
edited_alone p literal name args (Some a) h =
    let f : Segment → List Segment = filtered (become_all p literal) in
    let is : is_named name a ≡ true = is_first_named name args a h in
    append-nil (edited p literal a) ∙ ap (λ (b : Bool). if b then f a else a ∷ []) (has_name name (name_of a.nodes) is) ∙ sym (edit_alone name f a is)

told_alone : (p : Option (List ℕ) → Bool) (name : List ℕ) (args : List Segment) (o : Option Segment) → first_named name args ≡ o → list_any (is_changed p) (option_to_list o) ≡ map_or false (changes p) o
told_alone p name args None h = refl
told_alone p name args (Some a) h = or-false (is_changed p a) ∙ ap (λ (b : Bool). b && changes p a) (has_name name (name_of a.nodes) (is_first_named name args a h))

pub named_row : (p : Option (List ℕ) → Bool) (literal : Option (List ℕ)) (name : List ℕ) (place : Place) (ps new : List RowPart) (e : Edit) → IsPlaceEdit (edited p literal) (is_changed p) place ps new e
    → ((s : Statement) (r : Rule) → IsRuleRow s r ps → IsPlaceOf name s r ps place.from place.to)
    → IsRowEdit (edit_first (is_named name) (filtered (become_all p literal))) (λ args. done None (map_or false (changes p) (first_named name args))) ps new e
named_row p literal name place ps new e edit at =
    let f : Segment → List Segment = filtered (become_all p literal) in
    record {
      within = edit.within;
      parts = λ s r h changed.
          edit.parts (alone name r) (at s r h).read changed
          ∙ ap (λ (ss : List Segment). take place.from ps ++ (segs_parts (segs_of ss) ++ drop place.to ps)) (edited_alone p literal name r.args (first_named name r.args) refl)
          ∙ (at s r h).put (edit_first (is_named name) f) (edit_local name f);
      done = λ s r h. edit.done (alone name r) (at s r h).read ∙ ap (done None) (told_alone p name r.args (first_named name r.args) refl);
    }
