-- Lists of strings of which some elements go or become another (this project's own rule), for private clauses.
use Rattle.std.specs.Prelude.{◌≡◌, ◌<◌, ℕ, List, [], ◌∷◌, ◌++◌, Bool, true, false, ◌&&◌, ◌||◌, not, if◌then◌else◌, Option, flat_map, length, nat_le}
use Rattle.std.specs.List.{list_any}
use Rattle.bz_token.specs.Common.{is_empty}
use Rattle.bz_token.specs.declared.token.Kind.TheVariants.{String}
use Rattle.bz_label.specs.Labels.{Package}
use Rattle.bz_label.specs.Values.{quoted, value_of}
use Rattle.bz_layout.specs.Respell.{respell}
use Rattle.bz_attribute.specs.Rules.{is_text}
use Rattle.bz_tree.specs.Tree.{Segment}
use Rattle.bz_layout.specs.Pieces.{bytes_of}
use Rattle.bz_layout.specs.Walked.{item_pieces}
use Rattle.bz_layout.specs.declared.broken.Style.TheVariants.{Broken}
use Rattle.bz_layout.specs.declared.spacing.Gap.TheVariants.{Closed}
use Rattle.bz_canonical.specs.Canonical.{argument_lines}
use Rattle.bz_canonical.specs.declared.edited.EditedList.{EditedList}
use Rattle.bz_canonical.specs.declared.edited.EditedList.TheVariants.{Unchanged, Written}
use Rattle.bz_canonical.specs.declared.edited.ListEdit.{ListEdit}
use Rattle.bz_canonical.specs.declared.edited.Becomes.{Becomes}
use Rattle.bz_canonical.specs.declared.edited.Becomes.TheVariants.{Kept, Gone, Other}
use Rattle.bz_canonical.specs.declared.edited.Passed.{Passed}
use Rattle.bz_canonical.specs.declared.edited.PassedList.{PassedList}
use Rattle.bz_canonical.specs.declared.lists.ReadElement.{ReadElement}
use Rattle.bz_canonical.specs.declared.arguments.Pending.{Pending}
use Rattle.bz_rule.specs.declared.forms.AttributeValues.{AttributeValues}
use Rattle.bz_canonical.specs.private.Added.{IsListAlone, is_word, list_arg}
use Rattle.bz_canonical.specs.private.Elements.{ArePassed, Element, IsElementRead, IsLast, closing, are_broken, element_lines, element_list}
use Rattle.bz_canonical.specs.private.Arguments.{IsHeadRead}
use Rattle.bz_canonical.specs.private.Pendings.{IsPending}

-- the string is exactly the new value
abbrev pub is_new : Becomes → List ℕ → Bool
is_new (Other new) token = is_text new.value.now (value_of token)
is_new _ token = false

-- it equals one of the words, and is not exactly what it would become
abbrev pub is_meant : Package → ListEdit → List ℕ → Bool
is_meant home edit token = is_word home edit.words.now token && not (is_new edit.becomes token)

abbrev pub have_meant : Package → ListEdit → List Element → Bool
have_meant home edit es = list_any (λ e. is_meant home edit e.token) es

-- what an element that is meant becomes, or another
abbrev pub becomes_by : ListEdit → Bool → Becomes
becomes_by edit meant = if meant then edit.becomes else Kept

-- another string keeps the comments
abbrev pub become : Becomes → Element → List Element
become Kept e = e ∷ []
become Gone e = []
become (Other new) e = record e { token = quoted new.value.now } ∷ []

abbrev pub edited_one : Package → ListEdit → Element → List Element
edited_one home edit e = become (becomes_by edit (is_meant home edit e.token)) e

abbrev pub edited : Package → ListEdit → List Element → List Element
edited home edit es = flat_map (edited_one home edit) es

-- edits by which the elements that equal one of the values stay, or go
abbrev pub keeping : AttributeValues → ListEdit
keeping sought = record { attr = sought.attr; words = sought.values; becomes = Kept }

abbrev pub removing : AttributeValues → ListEdit
removing sought = record { attr = sought.attr; words = sought.values; becomes = Gone }

abbrev pub none_passed : Pending → Passed
none_passed at = record { at = at; one = false; meant = false; left = false; broken = false }

-- one was passed more, and one is left more, which has a comment or none
abbrev pub one_more : Passed → Pending → Bool → Bool → Passed
one_more p at meant noted = record { at = at; one = true; meant = p.meant || meant; left = true; broken = p.broken || (p.left || noted) }

-- all is written: what is in the buffer, and a part that stands as it is written
abbrev pub IsHeld : List ℕ → List ℕ → Pending → Type 0
IsHeld buffer all at = IsPending at.from.now buffer all at.from.now at.rest.now

-- some elements; what they are then is written after what stands before all
pub record AreEdited (home : Package) (edit : ListEdit) (lines : Bool) (front inside buffer : List ℕ) (p : Passed) : Type 0 where
  pub written : List ℕ
  pub broken : Bool
  pub passed : ArePassed lines inside p.at.rest.now written p.one broken
  pub held : IsHeld buffer (front ++ element_lines (respell String) (edited home edit passed.elements)) p.at
  pub meant_is : p.meant ≡ have_meant home edit passed.elements
  pub left_is : p.left ≡ nat_le 1 (length (edited home edit passed.elements))
  pub broken_is : p.broken ≡ are_broken (edited home edit passed.elements)

-- one more is passed, which is meant or not
abbrev pub PassesElement : Passed → ReadElement → Bool → ListEdit → List ℕ → List ℕ → Passed → Type 0
PassesElement p read meant edit old new more =
    (home : Package) (lines : Bool) (front inside : List ℕ) → AreEdited home edit lines front inside old p → IsElementRead lines p.one p.at.rest.now read → meant ≡ is_meant home edit read.string.token.now
    → AreEdited home edit lines front inside new more

-- all elements of a list, which stand in the text after its first bracket; what is written stands after what was in the buffer
pub record AreElementsEdited (home : Package) (edit : ListEdit) (text inside old buffer : List ℕ) (list : PassedList) : Type 0 where
  pub lines : Bool
  pub edited : (front : List ℕ) → text ≡ front ++ inside → AreEdited home edit lines (old ++ front) inside buffer list.passed
  pub ends : list.passed.at.rest.now ≡ closing lines ++ list.end.now
  pub starts : (front : List ℕ) → text ≡ front ++ inside → list.start ≡ length (old ++ front)

-- an argument of the name, whose lines are the text
pub record IsListEdited (depth : ℕ) (home : Package) (edit : ListEdit) (text old buffer : List ℕ) (list : PassedList) : Type 0 where
  pub inside : List ℕ
  pub deep : 1 < depth
  pub head : IsHeadRead edit.attr.now text (91 ∷ inside) true
  pub all : AreElementsEdited home edit text inside old buffer list
  pub last : IsLast list.end.now

-- what follows elements is written, which stand on lines after what was in the buffer: the list is then as it is laid out
abbrev pub EndsList : PassedList → List ℕ → List ℕ → Type 0
EndsList list old new =
    (front : List ℕ) (es : List Element) → length front ≡ list.start → is_empty es ≡ false → list.passed.broken ≡ are_broken es → old ≡ front ++ element_lines (respell String) es
    → (all : List ℕ) × (bytes_of (item_pieces Broken 1 Closed (element_list es)) ≡ 91 ∷ all) × (new ≡ front ++ (all ++ list.end.now))

-- the argument of elements that are left, or none
abbrev pub left_args : List (List ℕ) → List ℕ → List Element → Option (List ℕ) → List Segment
left_args notes word [] suffix = []
left_args notes word (e ∷ es) suffix = list_arg notes word (e ∷ es) suffix ∷ []

-- its elements are edited, and the lines that it has then are written after what was in the buffer
pub record IsWritten (depth : ℕ) (home : Package) (edit : ListEdit) (lines old new : List ℕ) : Type 0 where
  pub list : IsListAlone depth edit.attr.now lines
  pub some : have_meant home edit list.elements ≡ true
  pub written : List ℕ
  pub put : new ≡ old ++ written
  pub lines_are : written ≡ argument_lines (left_args list.notes list.name (edited home edit list.elements) list.suffix)

-- its elements stay as they are
pub record Stays (depth : ℕ) (home : Package) (edit : ListEdit) (lines : List ℕ) : Type 0 where
  pub list : IsListAlone depth edit.attr.now lines
  pub none : have_meant home edit list.elements ≡ false

abbrev pub EditsElements : ℕ → Package → ListEdit → List ℕ → List ℕ → List ℕ → EditedList → Type 0
EditsElements depth home edit lines old new Unchanged = Stays depth home edit lines
EditsElements depth home edit lines old new Written = IsWritten depth home edit lines old new
