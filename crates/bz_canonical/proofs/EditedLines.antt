-- The lines of an argument whose value is one list of strings, of which some go or become another.
use Rattle.std.proofs.Common.{◌≡◌, ◌≤◌, ℕ, suc, ◌+◌, ◌-◌, length, take, drop, List, [], ◌∷◌, ◌++◌, Bool, true, false, ◌||◌, ◌&&◌, not, refl, sym, ap, ◌∙◌, arith, append_assoc, append-nil}
use Rattle.std.proofs.Math.Seq.{take-append_seam, drop-append_seam}
use Rattle.std.proofs.lemmas.Bool.{false≢true}
use Rattle.std.proofs.lemmas.Bool.Decides.{nat_tests}
use Rattle.std.proofs.lemmas.List.{length-append}
use Rattle.std.proofs.lemmas.List.Edits.{take-paste}
use Rattle.std.specs.Prelude.{codes, is_some, nat_le, Option, None, Some}
use Rattle.std.specs.List.{copy_within, list_any}
use Rattle.bz_token.specs.Common.{is_empty, is_filled}
use Rattle.bz_token.specs.declared.token.Kind.TheVariants.{String}
use Rattle.bz_tree.specs.Tree.{leaf, Segment}
use Rattle.bz_layout.specs.Pieces.{bytes_of, comments, indent, suffix_piece}
use Rattle.bz_layout.specs.Respell.{respell}
use Rattle.bz_layout.specs.Walked.{item_pieces}
use Rattle.bz_layout.specs.declared.broken.Style.TheVariants.{Broken}
use Rattle.bz_layout.specs.declared.spacing.Gap.TheVariants.{Closed}
use Rattle.bz_label.specs.Labels.{Package}
use Rattle.bz_canonical.specs.Canonical.{argument_lines}
use Rattle.bz_canonical.specs.declared.edited.ListEdit.{ListEdit}
use Rattle.bz_canonical.specs.declared.edited.PassedList.{PassedList}
use Rattle.bz_canonical.specs.private.Added.{IsListAlone, have_word, is_word, list_arg}
use Rattle.bz_canonical.specs.private.Edited.{AreEdited, EndsList, IsListEdited, IsWritten, Stays, edited, have_meant, is_new, left_args}
use Rattle.bz_canonical.specs.private.Pendings.{IsPending}
use Rattle.bz_canonical.specs.private.Elements.{Element, are_broken, element_line, element_lines, element_list, is_noted}
use Rattle.bz_canonical.proofs.ElementLists.{alone_written, closed, elements_read, or_yes, written_broken}
use Rattle.bz_canonical.proofs.GroupSegments.{or_no}
use Rattle.bz_canonical.proofs.ListLines.{head_front, list_alone}
use Rattle.bz_canonical.proofs.ReadArguments.{argument_bytes, laid}

abbrev pub segment_of : Element → Segment
segment_of e = record { before = e.before; nodes = leaf String e.token ∷ []; suffix = e.suffix }

some_left : (es : List Element) → true ≡ nat_le 1 (length es) → is_empty es ≡ false
some_left [] some = absurd (false≢true (sym some))
some_left (e ∷ es) some = refl

none_left : (es : List Element) → false ≡ nat_le 1 (length es) → es ≡ []
none_left [] none = refl
none_left (e ∷ es) none = absurd (false≢true (none ∙ sym (one_first (length es))))
  where
    one_first : (n : ℕ) → true ≡ nat_le 1 (suc n)
    one_first n = grind (arith, nat_tests)

-- the argument of some elements
pub args_some : (notes : List (List ℕ)) (word : List ℕ) (es : List Element) (suffix : Option (List ℕ)) → is_empty es ≡ false → left_args notes word es suffix ≡ list_arg notes word es suffix ∷ []
args_some notes word [] suffix some = absurd (false≢true (sym some))
args_some notes word (e ∷ es) suffix some = refl

abbrev pub front_of : List (List ℕ) → List ℕ → List ℕ
front_of notes word = bytes_of (comments 1 notes) ++ (10 ∷ (indent 1 ++ (word ++ codes " = [")))

pub list_bytes : (notes : List (List ℕ)) (word : List ℕ) (es : List Element) (suffix : Option (List ℕ)) (all : List ℕ) → bytes_of (item_pieces Broken 1 Closed (element_list es)) ≡ 91 ∷ all
    → argument_lines (list_arg notes word es suffix ∷ []) ≡ (front_of notes word ++ all) ++ (44 ∷ bytes_of (suffix_piece suffix))
list_bytes notes word es suffix all is =
    let C : List ℕ = bytes_of (comments 1 notes) in
    let S : List ℕ = bytes_of (suffix_piece suffix) in
    argument_bytes (comments 1 notes) (laid es) (suffix_piece suffix) word
    ∙ ap (λ (t : List ℕ). C ++ (10 ∷ (indent 1 ++ (word ++ (codes " = " ++ (t ++ (44 ∷ S))))))) is ∙ whole C all S
  where
    whole : (C A S : List ℕ) → C ++ (10 ∷ (indent 1 ++ (word ++ (codes " = " ++ ((91 ∷ A) ++ (44 ∷ S)))))) ≡ ((C ++ (10 ∷ (indent 1 ++ (word ++ codes " = [")))) ++ A) ++ (44 ∷ S)
    whole C A S = simp append_assoc

-- where elements become no other string, those that equal one of the words are meant
pub have_is : (home : Package) (edit : ListEdit) (es : List Element) → ((token : List ℕ) → is_new edit.becomes token ≡ false) → have_meant home edit es ≡ have_word home edit.words.now es
have_is home edit [] plain = refl
have_is home edit (e ∷ es) plain = λ i. by (is_word home edit.words.now e.token) (is_new edit.becomes e.token) (plain e.token) i || have_is home edit es plain i
  where
    by : (b new : Bool) → new ≡ false → (b && not new) ≡ b
    by true new off = ap not off
    by false new off = refl

-- the argument of these lines

abbrev pub edited_of : (depth : ℕ) (home : Package) (edit : ListEdit) (text old buffer : List ℕ) (list : PassedList) → (l : IsListEdited depth home edit text old buffer list)
    → AreEdited home edit l.all.lines (old ++ front_of l.head.notes l.head.word) l.inside buffer list.passed
edited_of depth home edit text old buffer list l = l.all.edited (front_of l.head.notes l.head.word) (head_front edit.attr.now text l.inside l.head)

abbrev pub list_read : (depth : ℕ) (home : Package) (edit : ListEdit) (text old buffer : List ℕ) (list : PassedList) → IsListEdited depth home edit text old buffer list → IsListAlone depth edit.attr.now text
list_read depth home edit text old buffer list l =
    let all = edited_of depth home edit text old buffer list l in
    let read = elements_read l.all.lines list.passed.one all.broken l.inside list.passed.at.rest.now list.end.now all.written all.passed l.all.ends in
    list_alone depth edit.attr.now text l.inside list.end.now all.written list.passed.one all.broken l.deep l.head read l.last

pub list_stays : (depth : ℕ) (home : Package) (edit : ListEdit) (text old buffer : List ℕ) (list : PassedList) → IsListEdited depth home edit text old buffer list → list.passed.meant ≡ false → Stays depth home edit text
list_stays depth home edit text old buffer list l none = record {
  list = list_read depth home edit text old buffer list l;
  none = sym (edited_of depth home edit text old buffer list l).meant_is ∙ none;
}

-- where its elements begin
pub begins_at : (old from rest : List ℕ) (start : ℕ) → ((text all : List ℕ) → IsPending text old all from rest → start ≡ length all) → (front : List ℕ) → from ≡ front ++ rest → start ≡ length (old ++ front)
begins_at old from rest start told front is = told from (old ++ front) (record { part = front; front = is; all_is = refl; whole = λ none. refl })

-- what was pending is written
pub put_held : (depth : ℕ) (home : Package) (edit : ListEdit) (text old buffer put : List ℕ) (list : PassedList) → (l : IsListEdited depth home edit text old buffer list) → ((part : List ℕ) → list.passed.at.from.now ≡ part ++ list.passed.at.rest.now → put ≡ buffer ++ part)
    → put ≡ (old ++ front_of l.head.notes l.head.word) ++ element_lines (respell String) (edited home edit (edited_of depth home edit text old buffer list l).passed.elements)
put_held depth home edit text old buffer put list l pending =
    let all = edited_of depth home edit text old buffer list l in
    pending all.held.part all.held.front ∙ sym all.held.all_is

pub list_written : (depth : ℕ) (home : Package) (edit : ListEdit) (text old buffer put new : List ℕ) (list : PassedList) → (l : IsListEdited depth home edit text old buffer list) → list.passed.meant ≡ true → list.passed.left ≡ true
    → ((part : List ℕ) → list.passed.at.from.now ≡ part ++ list.passed.at.rest.now → put ≡ buffer ++ part) → EndsList list put new → IsWritten depth home edit text old new
list_written depth home edit text old buffer put new list l meant some pending ends =
    let a = list_read depth home edit text old buffer list l in
    let all = edited_of depth home edit text old buffer list l in
    let left : List Element = edited home edit a.elements in
    let filled : is_empty left ≡ false = some_left left (sym some ∙ all.left_is) in
    let F : List ℕ = front_of a.notes a.name in
    let e = ends (old ++ F) left (sym (l.all.starts F (head_front edit.attr.now text l.inside l.head))) filled all.broken_is (put_held depth home edit text old buffer put list l pending) in
    record {
      list = a;
      some = sym all.meant_is ∙ meant;
      written = F ++ (e.0 ++ list.end.now);
      put = e.2 ∙ append_assoc old F (e.0 ++ list.end.now);
      lines_are = ap (λ (t : List ℕ). F ++ (e.0 ++ t)) l.last.front ∙ sym (append_assoc F e.0 (44 ∷ bytes_of (suffix_piece a.suffix))) ∙ sym (list_bytes a.notes a.name left a.suffix e.0 e.1)
          ∙ ap argument_lines (sym (args_some a.notes a.name left a.suffix filled));
    }

-- none is left, and the argument goes
pub list_gone : (depth : ℕ) (home : Package) (edit : ListEdit) (text old buffer put new : List ℕ) (list : PassedList) → (l : IsListEdited depth home edit text old buffer list) → list.passed.meant ≡ true → list.passed.left ≡ false
    → ((part : List ℕ) → list.passed.at.from.now ≡ part ++ list.passed.at.rest.now → put ≡ buffer ++ part) → new ≡ take (length old) put → IsWritten depth home edit text old new
list_gone depth home edit text old buffer put new list l meant none pending new_is =
    let a = list_read depth home edit text old buffer list l in
    let all = edited_of depth home edit text old buffer list l in
    let left : List Element = edited home edit a.elements in
    let F : List ℕ = front_of a.notes a.name in
    let L : List ℕ = element_lines (respell String) left in
    record {
      list = a;
      some = sym all.meant_is ∙ meant;
      written = [];
      put = new_is ∙ ap (take (length old)) (put_held depth home edit text old buffer put list l pending ∙ append_assoc old F L) ∙ take-append_seam old (F ++ L) ∙ sym (append-nil old);
      lines_are = ap (λ (xs : List Element). argument_lines (left_args a.notes a.name xs a.suffix)) (sym (none_left left (sym none ∙ all.left_is)));
    }

-- one element alone is put in place

pub in_place : (w front token pasted put new : List ℕ) (start len : ℕ) → length front ≡ start → len ≡ length w → w ≡ front ++ (10 ∷ (indent 2 ++ (token ++ 44 ∷ []))) → pasted ≡ copy_within w (start + 9) (len - 1) start → put ≡ take (len - 10) pasted → new ≡ put ++ 93 ∷ []
    → new ≡ front ++ (token ++ 93 ∷ [])
in_place w front token pasted put new start len start_is len_is is pasted_is put_is new_is =
    let S : List ℕ = 10 ∷ indent 2 in
    let n : ℕ = len - 1 - (start + 9) in
    let nine : length S ≡ 9 = refl in
    let spread : w ≡ (front ++ S) ++ (token ++ 44 ∷ []) = is ∙ sym (append_assoc front S (token ++ 44 ∷ [])) in
    let size : len ≡ start + (10 + length token) = omega (arith, len_is, ap length spread, length-append (front ++ S) (token ++ 44 ∷ []), length-append front S, nine, length-append token (44 ∷ []), start_is) in
    let n_is : n ≡ length token = omega (arith, size) in
    let front_is : take start w ≡ front = (λ i. take (sym start_is i) (is i)) ∙ take-append_seam front (S ++ (token ++ 44 ∷ [])) in
    let start9 : start + 9 ≡ length (front ++ S) = omega (arith, start_is, length-append front S, nine) in
    let back : drop (start + 9) w ≡ token ++ 44 ∷ [] = (λ i. drop (start9 i) (spread i)) ∙ drop-append_seam (front ++ S) (token ++ 44 ∷ []) in
    let token_is : take n (drop (start + 9) w) ≡ token = (λ i. take (n_is i) (back i)) ∙ take-append_seam token (44 ∷ []) in
    let within : start ≤ length w = omega (arith, size, len_is) in
    let enough : n ≤ length (drop (start + 9) w) = omega (arith, n_is, ap length back, length-append token (44 ∷ [])) in
    let cut : len - 10 ≡ start + n = omega (arith, size, n_is) in
    new_is ∙ ap (λ (t : List ℕ). t ++ 93 ∷ []) (put_is ∙ (λ i. take (cut i) (pasted_is i)) ∙ take-paste w start (drop (start + 9) w) n within enough ∙ (λ i. front_is i ++ token_is i)) ∙ append_assoc front token (93 ∷ [])

-- what follows the elements

pub ends_broken : (list : PassedList) (old closes new : List ℕ) → list.passed.broken ≡ true → closes ≡ old ++ closed → new ≡ closes ++ list.end.now → EndsList list old new
ends_broken list old closes new broken closes_is new_is = λ front es start_is some broken_is old_is. (
  element_lines (respell String) es ++ closed,
  written_broken es (sym broken_is ∙ broken),
  new_is ∙ ap (λ (t : List ℕ). t ++ list.end.now) (closes_is ∙ ap (λ (t : List ℕ). t ++ closed) old_is) ∙ joined front (element_lines (respell String) es) closed list.end.now,
)
  where
    joined : (F L C E : List ℕ) → ((F ++ L) ++ C) ++ E ≡ F ++ ((L ++ C) ++ E)
    joined F L C E = simp append_assoc

-- one that is not on lines is alone, and has no comment
pub ends_in_place : (list : PassedList) (old closes new : List ℕ) → list.passed.broken ≡ false
    → ((front token : List ℕ) → length front ≡ list.start → old ≡ front ++ (10 ∷ (indent 2 ++ (token ++ 44 ∷ []))) → closes ≡ front ++ (token ++ 93 ∷ [])) → new ≡ closes ++ list.end.now → EndsList list old new
ends_in_place list old closes new broken closes_is new_is = λ front es start_is some broken_is old_is. by front es start_is some (sym broken_is ∙ broken) old_is
  where
    by : (front : List ℕ) (es : List Element) → length front ≡ list.start → is_empty es ≡ false → are_broken es ≡ false → old ≡ front ++ element_lines (respell String) es
        → (all : List ℕ) × (bytes_of (item_pieces Broken 1 Closed (element_list es)) ≡ 91 ∷ all) × (new ≡ front ++ (all ++ list.end.now))
    by front [] start_is some alone old_is = absurd (false≢true (sym some))
    by front (e ∷ x ∷ es) start_is some alone old_is = absurd (false≢true (sym alone ∙ or_yes (list_any is_noted (e ∷ x ∷ es)) (nat_le 2 (length (e ∷ x ∷ es))) (two_first (length es))))
      where
        two_first : (n : ℕ) → nat_le 2 (suc (suc n)) ≡ true
        two_first n = grind (arith, nat_tests)
    by front (e ∷ []) start_is some alone old_is =
        let bare : is_noted e ≡ false = sym (or_no (is_noted e)) ∙ sym (or_no (is_noted e || false)) ∙ alone in
        let T : List ℕ = respell String e.token in (
          T ++ 93 ∷ [],
          sym (alone_written e.before e.token e.suffix bare),
          new_is ∙ ap (λ (t : List ℕ). t ++ list.end.now) (closes_is front T start_is (old_is ∙ ap (λ (t : List ℕ). front ++ t) (append-nil (element_line (respell String) e) ∙ bare_line e bare))) ∙ append_assoc front (T ++ 93 ∷ []) list.end.now,
        )
      where
        bare_line : (e : Element) → is_noted e ≡ false → element_line (respell String) e ≡ 10 ∷ (indent 2 ++ (respell String e.token ++ 44 ∷ []))
        bare_line e bare = by_parts e.before e.suffix bare
          where
            by_parts : (before : List (List ℕ)) (suffix : Option (List ℕ)) → (is_filled before || is_some suffix) ≡ false
                → bytes_of (comments 2 before) ++ (10 ∷ (indent 2 ++ (respell String e.token ++ (44 ∷ bytes_of (suffix_piece suffix))))) ≡ 10 ∷ (indent 2 ++ (respell String e.token ++ 44 ∷ []))
            by_parts [] None bare = refl
            by_parts [] (Some s) bare = absurd (false≢true (sym bare))
            by_parts (x ∷ xs) suffix bare = absurd (false≢true (sym bare))
