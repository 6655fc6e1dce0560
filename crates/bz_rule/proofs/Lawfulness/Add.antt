-- What is owed of `add`: it changes something exactly where it says so.
use Rattle.std.proofs.Common.{◌≡◌, ℕ, List, [], ◌∷◌, ◌++◌, true, false, not, if◌then◌else◌, Some, None, is_some, refl, ap, sym, ◌∙◌, append-nil, rules, Ok}
use Rattle.std.proofs.lemmas.List.{append_cancel_left}
use Rattle.bz_tree.specs.Tree.{Segment}
use Rattle.bz_label.specs.Labels.{Package}
use Rattle.bz_attribute.specs.Rules.{is_named, first_named, value}
use Rattle.bz_attribute.specs.Lists.{is_attribute, parts, with_value}
use Rattle.bz_label.specs.Same.{same}
use Rattle.bz_attribute.specs.ListWalk.{edit_first_part}
use Rattle.bz_attribute.specs.Effects.{argument, edit_first, has, list_item, no_list_note}
use Rattle.bz_attribute.specs.Reports.{done}
use Rattle.bz_rule.specs.Add.{add}
use Rattle.bz_rule.specs.AddByValue.{add_by_value, new_elements, with_added}
use Rattle.bz_rule.specs.Reports.{adds}
use Rattle.bz_rule.proofs.Adds.{add_is, kept_by_value}
use Rattle.bz_attribute.specs.declared.done.Note.TheVariants.{NotAList}
use Rattle.bz_rule.proofs.PartLaws.{edit_head, first_part_stays, parts_first_edited}
use Rattle.bz_rule.proofs.Arguments.{attribute_named, first_same, value_back, value_put}
use Rattle.bz_rule.specs.declared.command.Action.TheVariants.{Add}
use Rattle.bz_rule.proofs.Local.{add_local, looks_at_one}
use Rattle.bz_rule.proofs.Lawful.{Lawful, note_unchanged, on_arguments}
use Rattle.std.specs.List.{list_all}
use Rattle.std.specs.Str.{is_utf8}
use Rattle.bz_rule.specs.Commands.{Command, IsRead, add_of}
use Rattle.bz_token.specs.Common.{is_empty}
use Rattle.bz_attribute.proofs.Locals.{has_first, is_first_named}

pub parts_with : (home : Package) (values : List (List ℕ)) (a : Segment) → is_attribute a ≡ true → is_empty (parts (value a)) ≡ false
    → parts (value (with_added home values a)) ≡ edit_head (λ ss. ss ++ new_elements home (parts (value a)) values) (parts (value a))
parts_with home values a h some =
    rw some (ap parts (value_put (edit_first_part (λ ss. ss ++ new_elements home (parts (value a)) values) (value a)) a h) ∙ parts_first_edited (λ ss. ss ++ new_elements home (parts (value a)) values) (value a))

abbrev pub new_argument : Package → List ℕ → List (List ℕ) → Segment
new_argument home attr values = argument attr (list_item (new_elements home [] values) ∷ [])

head_stays : (lists : List (List Segment)) → edit_head (λ ss. ss ++ []) lists ≡ lists
head_stays [] = refl
head_stays (ss ∷ lists) = ap (λ (zs : List Segment). zs ∷ lists) (append-nil ss)

pub added_nothing : (home : Package) (values : List (List ℕ)) (a : Segment) → new_elements home (parts (value a)) values ≡ [] → with_added home values a ≡ a
added_nothing home values a h =
    elim (is_empty (parts (value a))) as (λ b. (if b then a else with_value (edit_first_part (λ ss. ss ++ new_elements home (parts (value a)) values) (value a)) a) ≡ a) [
      | true ↦ refl
      | false ↦
          let kept : edit_first_part (λ ss. ss ++ []) (value a) ≡ value a = first_part_stays (λ ss. ss ++ []) (value a) (head_stays (parts (value a))) in
          rw (h, kept) (value_back a)
    ]

pub add_kept : (home : Package) (attr : List ℕ) (values : List (List ℕ)) (args : List Segment) (a : Segment) → first_named attr args ≡ Some a → with_added home values a ≡ a → add home attr values args ≡ args
add_kept home attr values args a e h = add_is home attr values args ∙ kept_by_value home attr values args a e h

nothing_new : (ss : List Segment) → not (is_empty ss) ≡ false → ss ≡ []
nothing_new [] h = refl
nothing_new (s ∷ ss) h = absurd cc

add_stays : (home : Package) (attr : List ℕ) (values : List (List ℕ)) (args : List Segment) → (done (no_list_note attr (first_named attr args)) (adds home values (first_named attr args))).changed ≡ false → add home attr values args ≡ args
add_stays home attr values args h =
    elim (first_named attr args) as (λ o. first_named attr args ≡ o → (done (no_list_note attr o) (adds home values o)).changed ≡ false → add home attr values args ≡ args) [
      | None ↦ λ e k. absurd cc
      | Some a ↦ λ e k. add_kept home attr values args a e
          (elim (is_empty (parts (value a))) as (λ b. is_empty (parts (value a)) ≡ b → (done (if b then Some (NotAList attr) else None) (adds home values (Some a))).changed ≡ false → with_added home values a ≡ a)
          [ true ↦ λ n m. rw n refl | false ↦ λ n m. added_nothing home values a (nothing_new (new_elements home (parts (value a)) values) m) ] refl k)
    ] refl h

same_head : (new : List Segment) (lists : List (List Segment)) → is_empty lists ≡ false → edit_head (λ ss. ss ++ new) lists ≡ lists → new ≡ []
same_head new [] some h = absurd cc
same_head new (ss ∷ lists) some h =
    let front : ss ++ new ≡ ss = cc in
    append_cancel_left ss new [] (front ∙ sym (append-nil ss))

added_differs : (home : Package) (values : List (List ℕ)) (a : Segment) → is_attribute a ≡ true → is_empty (parts (value a)) ≡ false → adds home values (Some a) ≡ true → with_added home values a ≡ a → ⊥
added_differs home values a h some told same =
    let new : List Segment = new_elements home (parts (value a)) values in
    let lists : edit_head (λ ss. ss ++ new) (parts (value a)) ≡ parts (value a) = sym (parts_with home values a h some) ∙ ap (λ (z : Segment). parts (value z)) same in
    let nothing : new ≡ [] = same_head new (parts (value a)) some lists in
    let clash : false ≡ true = ap (λ (z : List Segment). not (is_empty z)) (sym nothing) ∙ told in
    cc

add_differs : (home : Package) (attr : List ℕ) (values : List (List ℕ)) (args : List Segment) → (done (no_list_note attr (first_named attr args)) (adds home values (first_named attr args))).changed ≡ true → add home attr values args ≡ args → ⊥
add_differs home attr values args h same =
    let made : add_by_value home attr values args ≡ args = sym (add_is home attr values args) ∙ same in
    elim (first_named attr args) as (λ o. first_named attr args ≡ o → (done (no_list_note attr o) (adds home values o)).changed ≡ true → ⊥) [
      | None ↦ λ e k.
          let absent : has attr args ≡ false = has_first attr args ∙ ap is_some e in
          let longer : args ++ new_argument home attr values ∷ [] ≡ args = rw absent at made in
          let nothing : new_argument home attr values ∷ [] ≡ [] = append_cancel_left args (new_argument home attr values ∷ []) [] (longer ∙ sym (append-nil args)) in
          cc
      | Some a ↦ λ e k.
          let there : has attr args ≡ true = has_first attr args ∙ ap is_some e in
          let kept : edit_first (is_named attr) (λ z. with_added home values z ∷ []) args ≡ args = rw there at made in
          let stays : with_added home values a ∷ [] ≡ a ∷ [] = first_same attr (λ z. with_added home values z ∷ []) args a e kept in
          let is : with_added home values a ≡ a = cc in
          let attribute : is_attribute a ≡ true = attribute_named attr a (is_first_named attr args a e) in
          elim (is_empty (parts (value a))) as (λ b. is_empty (parts (value a)) ≡ b → (done (if b then Some (NotAList attr) else None) (adds home values (Some a))).changed ≡ true → ⊥)
          [ true ↦ λ n m. cc | false ↦ λ n m. added_differs home values a attribute n m is ] refl k
    ] refl h

pub add_lawful : (home : Package) (attr : List ℕ) (values : List (List ℕ)) → Lawful (Add attr values) home
add_lawful home attr values = on_arguments (Add attr values) home (λ slot. refl) (λ slot. refl) (record {
  stays = λ args h. add_stays home attr values args h;
  differs = λ read args h same. add_differs home attr values args h same;
  noted = λ args h. note_unchanged (no_list_note attr (first_named attr args)) (adds home values (first_named attr args)) h;
  local = record { args = add_local home attr values; told = looks_at_one attr _ (λ o. done (no_list_note attr o) (adds home values o)) (λ args. refl); slot = λ s. refl; done = λ s. refl };
})

-- What is read of words that are UTF-8 can be read, and its words are UTF-8.
pub add_read : (words : List (List ℕ)) (c : Command) → Ok c ≡ add_of words → list_all is_utf8 words ≡ true → IsRead c
add_read [] c h u = absurd (cc)
add_read (attr ∷ values) c h u = search rules
