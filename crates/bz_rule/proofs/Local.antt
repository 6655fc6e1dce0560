-- Edits that look at the first argument of a name alone.
use Rattle.std.proofs.Common.{◌≡◌, ℕ, List, [], ◌∷◌, ◌++◌, Bool, true, false, if◌then◌else◌, Option, Some, None, is_some, refl, ap, sym, ◌∙◌, subst, append-nil}
use Rattle.bz_tree.specs.Tree.{Segment}
use Rattle.bz_label.specs.Labels.{Package}
use Rattle.bz_attribute.specs.Rules.{first_named, is_named}
use Rattle.bz_attribute.specs.Effects.{argument, edit_first, list_item, no_list_note, with_comment}
use Rattle.bz_rule.specs.Add.{add}
use Rattle.bz_rule.specs.AddByValue.{add_by_value, new_elements, with_added}
use Rattle.bz_rule.proofs.Adds.{by_value_is}
use Rattle.bz_rule.specs.Comment.{comment_attribute, comment_element, comment_line, comment_note, comment_value, no_value_note}
use Rattle.bz_attribute.specs.RowPlaces.{IsLocal, LooksAt}
use Rattle.bz_rule.specs.Set.{new_of, new_value, set, set_in}
use Rattle.bz_attribute.specs.declared.done.Note.{Note}
use Rattle.bz_attribute.specs.declared.done.Note.TheVariants.{NoAttribute}
use Rattle.bz_attribute.proofs.EditedAt.{none_first}
use Rattle.bz_attribute.proofs.First.{edit_first_none}
use Rattle.bz_attribute.proofs.Locals.{edit_same, edits_one, first_alone, is_there, kept_first, has_first}
use Rattle.std.specs.Option.{option_or}

pub looks_at_one : {A : Type 0} (name : List ℕ) (f : List Segment → A) (g : Option Segment → A) → ((args : List Segment) → f args ≡ g (first_named name args)) → LooksAt name f
looks_at_one name f g by = record {
  absent = λ args h. by args ∙ ap g (none_first name args h) ∙ sym (by []);
  there = λ args a h. by args ∙ ap g h ∙ sym (by (a ∷ []) ∙ ap g (first_alone name args a h));
}

-- each command on one attribute
pub add_local : (home : Package) (attr : List ℕ) (values : List (List ℕ)) → IsLocal attr (add home attr values)
add_local home attr values =
    subst (IsLocal attr) (by_value_is home attr values)
    (edits_one attr (add_by_value home attr values) (argument attr (list_item (new_elements home [] values) ∷ []) ∷ []) (λ a. with_added home values a ∷ [])
    (λ args h. rw h refl)
    (λ args a h. ap (λ (b : Bool). if b then edit_first (is_named attr) (λ x. with_added home values x ∷ []) args else args ++ argument attr (list_item (new_elements home [] values) ∷ []) ∷ []) (is_there attr args a h)
    ∙ edit_same attr (λ x. with_added home values x ∷ []) (with_added home values a ∷ []) args a h refl))

pub set_local : (attr : List ℕ) (words : List (List ℕ)) → IsLocal attr (set attr words)
set_local attr words =
    let made : Option Segment → List Segment → List Segment = λ was args. edit_first (is_named attr) (λ a. set_in (new_of attr words was) a ∷ []) args in
    let more : Option Segment → List Segment → List Segment = λ was args. args ++ argument attr (new_value (new_of attr words was)) ∷ [] in
    edits_one attr (set attr words) (argument attr (new_value (new_of attr words None)) ∷ []) (λ a. set_in (new_of attr words (Some a)) a ∷ [])
    (λ args h. ap (λ (b : Bool). if b then made (first_named attr args) args else more (first_named attr args) args) h ∙ ap (λ (o : Option Segment). more o args) (none_first attr args h))
    (λ args a h. ap (λ (b : Bool). if b then made (first_named attr args) args else more (first_named attr args) args) (is_there attr args a h)
    ∙ ap (λ (o : Option Segment). made o args) h
    ∙ edit_same attr (λ x. set_in (new_of attr words (Some a)) x ∷ []) (set_in (new_of attr words (Some a)) a ∷ []) args a h refl)

pub comment_local : (attr text : List ℕ) → IsLocal attr (comment_attribute attr text)
comment_local attr text =
    let edit : Segment → List Segment = λ a. with_comment (comment_line text) a ∷ [] in
    edits_one attr (comment_attribute attr text) [] edit
    (λ args h. edit_first_none (is_named attr) edit args h ∙ sym (append-nil args))
    (λ args a h. edit_same attr edit (edit a) args a h refl)

-- the note of `comment ATTR VALUE`, by the argument
abbrev pub note_of : Package → List ℕ → List ℕ → Option Segment → Option Note
note_of home attr v o = option_or (if is_some o then None else Some (NoAttribute attr)) (option_or (no_list_note attr o) (no_value_note home attr v o))

pub note_by_first : (home : Package) (attr v : List ℕ) (args : List Segment) → comment_note home attr v args ≡ note_of home attr v (first_named attr args)
note_by_first home attr v args = ap (λ (b : Bool). option_or (if b then None else Some (NoAttribute attr)) (option_or (no_list_note attr (first_named attr args)) (no_value_note home attr v (first_named attr args)))) (has_first attr args)

pub comment_value_local : (home : Package) (attr v text : List ℕ) → IsLocal attr (comment_value home attr v text)
comment_value_local home attr v text =
    let edit : Segment → List Segment = λ a. comment_element home v text a ∷ [] in
    let made : Bool → List Segment → List Segment = λ b args. if b then args else edit_first (is_named attr) edit args in
    edits_one attr (comment_value home attr v text) [] (λ a. if is_some (note_of home attr v (Some a)) then a ∷ [] else edit a)
    (λ args h. ap (λ (n : Option Note). made (is_some n) args) (note_by_first home attr v args ∙ ap (note_of home attr v) (none_first attr args h)) ∙ sym (append-nil args))
    (λ args a h. ap (λ (n : Option Note). made (is_some n) args) (note_by_first home attr v args ∙ ap (note_of home attr v) h)
    ∙ elim (is_some (note_of home attr v (Some a))) as (λ b. made b args ≡ edit_first (is_named attr) (λ x. if b then a ∷ [] else edit a) args)
    [ true ↦ kept_first attr args a h | false ↦ edit_same attr edit (edit a) args a h refl ])
