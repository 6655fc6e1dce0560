-- Elements of which some go or become another, and their lines.
use Rattle.std.proofs.Common.{◌≡◌, ◌+◌, ℕ, List, [], ◌∷◌, ◌++◌, length, Bool, true, false, ◌||◌, refl, sym, ap, ◌∙◌, append_assoc, append-nil}
use Rattle.std.proofs.lemmas.List.Folds.{list_any-append}
use Rattle.std.specs.Prelude.{nat_le}
use Rattle.bz_label.specs.Labels.{Package}
use Rattle.bz_label.specs.Values.{quoted}
use Rattle.bz_layout.specs.Pieces.{bytes_of, comments, indent, suffix_piece}
use Rattle.bz_layout.specs.Respell.{respell}
use Rattle.bz_token.specs.declared.token.Kind.TheVariants.{String}
use Rattle.bz_rule.specs.declared.forms.AttributeValues.{AttributeValues}
use Rattle.bz_canonical.specs.declared.edited.ListEdit.{ListEdit}
use Rattle.bz_canonical.specs.declared.edited.Becomes.{Becomes}
use Rattle.bz_canonical.specs.declared.edited.Becomes.TheVariants.{Kept, Gone, Other}
use Rattle.bz_canonical.specs.declared.edited.NewString.{NewString}
use Rattle.bz_canonical.specs.declared.edited.Passed.{Passed}
use Rattle.bz_canonical.specs.declared.lists.ReadElement.{ReadElement}
use Rattle.bz_canonical.specs.declared.arguments.Pending.{Pending}
use Rattle.bz_canonical.specs.private.Edited.{AreEdited, IsHeld, become, becomes_by, edited, edited_one, have_meant, is_meant, keeping, one_more}
use Rattle.bz_canonical.specs.private.Elements.{Element, IsElementRead, are_broken, element_line, element_lines, element_written, is_noted}
use Rattle.bz_canonical.proofs.ElementLists.{broken_more, flat_one, longer, one_at_least, or_yes, passed_more, passed_none}
use Rattle.bz_canonical.proofs.GroupSegments.{or_no}
use Rattle.bz_canonical.proofs.Pendings.{pend_more, pend_same}

-- one more

meant_more : (home : Package) (edit : ListEdit) (es : List Element) (e : Element) (k b : Bool) → k ≡ have_meant home edit es → b ≡ is_meant home edit e.token → (k || b) ≡ have_meant home edit (es ++ e ∷ [])
meant_more home edit es e k b some told =
    (λ i. some i || (told ∙ sym (or_no (is_meant home edit e.token))) i) ∙ sym (list_any-append (λ (x : Element). is_meant home edit x.token) es (e ∷ []))

-- one is left more
left_more : (home : Package) (edit : ListEdit) (es : List Element) (e x : Element) → edited_one home edit e ≡ x ∷ [] → edited home edit (es ++ e ∷ []) ≡ edited home edit es ++ x ∷ []
left_more home edit es e x is = flat_one (edited_one home edit) es e ∙ ap (λ (xs : List Element). edited home edit es ++ xs) is

gone_more : (home : Package) (edit : ListEdit) (es : List Element) (e : Element) → edited_one home edit e ≡ [] → edited home edit (es ++ e ∷ []) ≡ edited home edit es
gone_more home edit es e is = flat_one (edited_one home edit) es e ∙ ap (λ (xs : List Element). edited home edit es ++ xs) is ∙ append-nil (edited home edit es)

lines_more : (front line : List ℕ) (xs ys : List Element) (x : Element) → ys ≡ xs ++ x ∷ [] → line ≡ element_line (respell String) x
    → (front ++ element_lines (respell String) xs) ++ line ≡ front ++ element_lines (respell String) ys
lines_more front line xs ys x more is =
    append_assoc front (element_lines (respell String) xs) line
    ∙ ap (λ (t : List ℕ). front ++ t) (ap (λ (t : List ℕ). element_lines (respell String) xs ++ t) is ∙ sym (flat_one (element_line (respell String)) xs x) ∙ ap (element_lines (respell String)) (sym more))

-- what an element becomes

becomes_one : (home : Package) (edit : ListEdit) (e : Element) (meant : Bool) (is : Becomes) → meant ≡ is_meant home edit e.token → becomes_by edit meant ≡ is → edited_one home edit e ≡ become is e
becomes_one home edit e meant is told by = ap (λ b. become (becomes_by edit b) e) (sym told) ∙ ap (λ (x : Becomes). become x e) by

gone_meant : (edit : ListEdit) (meant : Bool) → becomes_by edit meant ≡ Gone → meant ≡ true
gone_meant edit true by = refl
gone_meant edit false by = absurd cc

-- where they are kept, all stay
pub keep_all : (home : Package) (sought : AttributeValues) (es : List Element) → edited home (keeping sought) es ≡ es
keep_all home sought [] = refl
keep_all home sought (e ∷ es) = λ i. by (is_meant home (keeping sought) e.token) i ++ keep_all home sought es i
  where
    by : (b : Bool) → become (becomes_by (keeping sought) b) e ≡ e ∷ []
    by true = refl
    by false = refl

pub edited_none : (home : Package) (edit : ListEdit) (lines : Bool) (front buffer : List ℕ) (at : Pending) → at.from.now ≡ front ++ at.rest.now
    → AreEdited home edit lines (buffer ++ front) at.rest.now buffer (record { at = at; one = false; meant = false; left = false; broken = false })
edited_none home edit lines front buffer at is = record {
  written = [];
  broken = false;
  passed = passed_none lines at.rest.now;
  held = record { part = front; front = is; all_is = append-nil (buffer ++ front); whole = λ empty. refl };
  meant_is = refl;
  left_is = refl;
  broken_is = refl;
}

-- it goes
pub edited_gone : (home : Package) (edit : ListEdit) (lines : Bool) (front inside old new : List ℕ) (p : Passed) (read : ReadElement) (meant : Bool) → AreEdited home edit lines front inside old p → IsElementRead lines p.one p.at.rest.now read
    → meant ≡ is_meant home edit read.string.token.now → becomes_by edit meant ≡ Gone → ((part : List ℕ) → p.at.from.now ≡ part ++ p.at.rest.now → new ≡ old ++ part)
    → AreEdited home edit lines front inside new (record p { at = record { from = read.rest; rest = read.rest }; one = true; meant = true })
edited_gone home edit lines front inside old new p read meant k e told by put =
    let es : List Element = k.passed.elements in
    let is : meant ≡ is_meant home edit e.element.token = told ∙ ap (is_meant home edit) (sym e.token_is) in
    let same = gone_more home edit es e.element (becomes_one home edit e.element meant Gone is by) in
    record {
      written = k.written ++ element_written read;
      broken = k.broken || (p.one || read.noted);
      passed = passed_more lines p.one k.broken inside p.at.rest.now k.written read k.passed e;
      held = record {
        part = [];
        front = refl;
        all_is = ap (λ (xs : List Element). front ++ element_lines (respell String) xs) same ∙ k.held.all_is ∙ sym (put k.held.part k.held.front) ∙ sym (append-nil new);
        whole = λ empty. refl;
      };
      meant_is = sym (or_yes p.meant true refl) ∙ meant_more home edit es e.element p.meant true k.meant_is (sym (gone_meant edit meant by) ∙ is);
      left_is = k.left_is ∙ ap (λ (xs : List Element). nat_le 1 (length xs)) (sym same);
      broken_is = k.broken_is ∙ ap are_broken (sym same);
    }

-- one is left more, which is written on this line; what is written up to there is held
edited_more : (home : Package) (edit : ListEdit) (lines : Bool) (front inside old new line : List ℕ) (p : Passed) (read : ReadElement) (at : Pending) (meant : Bool) → AreEdited home edit lines front inside old p → (e : IsElementRead lines p.one p.at.rest.now read)
    → (x : Element) → edited_one home edit e.element ≡ x ∷ [] → is_noted x ≡ read.noted → line ≡ element_line (respell String) x → meant ≡ is_meant home edit e.element.token
    → ((all : List ℕ) → IsHeld old all p.at → IsHeld new (all ++ line) (record { from = at.from; rest = read.rest })) → AreEdited home edit lines front inside new (one_more p (record { from = at.from; rest = read.rest }) meant read.noted)
edited_more home edit lines front inside old new line p read at meant k e x one noted line_is told held =
    let es : List Element = k.passed.elements in
    let xs : List Element = edited home edit es in
    let ys : List Element = edited home edit (es ++ e.element ∷ []) in
    let more : ys ≡ xs ++ x ∷ [] = left_more home edit es e.element x one in
    let size : length ys ≡ length xs + 1 = ap length more ∙ longer xs x in
    let all : List ℕ = front ++ element_lines (respell String) xs in
    record {
      written = k.written ++ element_written read;
      broken = k.broken || (p.one || read.noted);
      passed = passed_more lines p.one k.broken inside p.at.rest.now k.written read k.passed e;
      held = pend_same at.from.now new (all ++ line) at.from.now read.rest.now (front ++ element_lines (respell String) ys) (held all k.held) (lines_more front line xs ys x more line_is);
      meant_is = meant_more home edit es e.element p.meant meant k.meant_is told;
      left_is = one_at_least (length xs) ∙ ap (nat_le 1) (sym size);
      broken_is = broken_more xs x p.broken p.left read.noted k.broken_is k.left_is noted ∙ ap are_broken (sym more);
    }

-- it stays as it stands
pub edited_as_is : (home : Package) (edit : ListEdit) (lines : Bool) (front inside old : List ℕ) (p : Passed) (read : ReadElement) (meant : Bool) → AreEdited home edit lines front inside old p → IsElementRead lines p.one p.at.rest.now read
    → meant ≡ is_meant home edit read.string.token.now → becomes_by edit meant ≡ Kept → read.otherwise ≡ false → AreEdited home edit lines front inside old (one_more p (record { from = p.at.from; rest = read.rest }) meant read.noted)
edited_as_is home edit lines front inside old p read meant k e told by plain =
    let is : meant ≡ is_meant home edit e.element.token = told ∙ ap (is_meant home edit) (sym e.token_is) in
    edited_more home edit lines front inside old old (element_written read) p read p.at meant k e e.element (becomes_one home edit e.element meant Kept is by) e.noted_is e.spells is
    (λ all h. pend_more p.at.from.now old all p.at.from.now p.at.rest.now (element_written read) read.rest.now h (e.same plain))

-- a line is written after what was pending
held_put : (old put new line all : List ℕ) (at : Pending) (read : ReadElement) → ((part : List ℕ) → at.from.now ≡ part ++ at.rest.now → put ≡ old ++ part) → new ≡ put ++ line → IsHeld old all at → IsHeld new (all ++ line) (record { from = read.rest; rest = read.rest })
held_put old put new line all at read pending new_is h = record {
  part = [];
  front = refl;
  all_is = ap (λ (t : List ℕ). t ++ line) (h.all_is ∙ sym (pending h.part h.front)) ∙ sym new_is ∙ sym (append-nil new);
  whole = λ empty. refl;
}

-- it stays, otherwise than it stood
pub edited_put : (home : Package) (edit : ListEdit) (lines : Bool) (front inside old put new : List ℕ) (p : Passed) (read : ReadElement) (meant : Bool) → AreEdited home edit lines front inside old p → IsElementRead lines p.one p.at.rest.now read
    → meant ≡ is_meant home edit read.string.token.now → becomes_by edit meant ≡ Kept → ((part : List ℕ) → p.at.from.now ≡ part ++ p.at.rest.now → put ≡ old ++ part) → new ≡ put ++ element_written read
    → AreEdited home edit lines front inside new (one_more p (record { from = read.rest; rest = read.rest }) meant read.noted)
edited_put home edit lines front inside old put new p read meant k e told by pending new_is =
    let is : meant ≡ is_meant home edit e.element.token = told ∙ ap (is_meant home edit) (sym e.token_is) in
    edited_more home edit lines front inside old new (element_written read) p read (record { from = read.rest; rest = read.rest }) meant k e e.element (becomes_one home edit e.element meant Kept is by) e.noted_is e.spells is
    (λ all h. held_put old put new (element_written read) all p.at read pending new_is h)

-- it becomes another
pub edited_as : (home : Package) (edit : ListEdit) (lines : Bool) (front inside old put new literal : List ℕ) (p : Passed) (read : ReadElement) (meant : Bool) (other : NewString) → AreEdited home edit lines front inside old p
    → IsElementRead lines p.one p.at.rest.now read → meant ≡ is_meant home edit read.string.token.now → becomes_by edit meant ≡ Other other → literal ≡ quoted other.value.now → ((part : List ℕ) → p.at.from.now ≡ part ++ p.at.rest.now → put ≡ old ++ part)
    → new ≡ put ++ (read.front.now ++ (literal ++ read.back.now)) → AreEdited home edit lines front inside new (one_more p (record { from = read.rest; rest = read.rest }) meant read.noted)
edited_as home edit lines front inside old put new literal p read meant other k e told by quoted_is pending new_is =
    let is : meant ≡ is_meant home edit e.element.token = told ∙ ap (is_meant home edit) (sym e.token_is) in
    let x : Element = record e.element { token = quoted other.value.now } in
    let C : List ℕ = bytes_of (comments 2 e.element.before) in
    let S : List ℕ = bytes_of (suffix_piece e.element.suffix) in
    let line : List ℕ = read.front.now ++ (literal ++ read.back.now) in
    let line_is : line ≡ element_line (respell String) x = (λ i. e.front_is i ++ (quoted_is i ++ e.back_is i)) ∙ append_assoc C (10 ∷ indent 2) (quoted other.value.now ++ (44 ∷ S)) in
    edited_more home edit lines front inside old new line p read (record { from = read.rest; rest = read.rest }) meant k e x (becomes_one home edit e.element meant (Other other) is by) e.noted_is line_is is
    (λ all h. held_put old put new line all p.at read pending new_is h)
