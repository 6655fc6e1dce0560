-- What is owed of `move`: it changes something exactly where an element is chosen, which afterwards does not stand in the arguments of the old name.
use Rattle.std.proofs.Common.{◌≡◌, ℕ, List, [], ◌∷◌, ◌++◌, Bool, true, false, cond, filter, Option, Some, None, if◌then◌else◌, refl, ap, sym, ◌∙◌, inl, inr, bytes_eq, rules, Ok}
use Rattle.std.proofs.lemmas.Bool.{and_parts, cases_Bool, not-true}
use Rattle.std.proofs.lemmas.List.{append-nil, append_cancel_right}
use Rattle.bz_tree.specs.Tree.{Item, Segment}
use Rattle.bz_label.specs.Labels.{Package}
use Rattle.bz_label.specs.Arguments.{is_moved}
use Rattle.bz_rule.specs.Commands.{is_command, Command, IsRead, move_of}
use Rattle.bz_label.specs.declared.arguments.Chosen.{Chosen}
use Rattle.bz_rule.specs.declared.command.Action.TheVariants.{Move}
use Rattle.bz_attribute.specs.Rules.{first_named, is_named, is_text as is_word, name_of, value}
use Rattle.bz_attribute.specs.Lists.{edit_parts, with_value}
use Rattle.bz_attribute.specs.ListWalk.{edit_first_part}
use Rattle.bz_attribute.specs.Effects.{argument, edit_first, filtered, has, list_item, loses_all, unchosen, is_chosen}
use Rattle.bz_attribute.specs.Reports.{chooses}
use Rattle.bz_rule.specs.Move.{arrivals, elements_of, move, move_note, put_in}
use Rattle.bz_rule.specs.Reports.{moves}
use Rattle.bz_rule.specs.private.Steps.{moved, moved_where}
use Rattle.bz_rule.proofs.Moves.{move_is}
use Rattle.bz_rule.proofs.Arguments.{attribute_named, name_put}
use Rattle.bz_token.proofs.Classes.{same_bytes}
use Rattle.std.proofs.lemmas.List.Elements.{filter-append}
use Rattle.bz_rule.proofs.Lawfulness.Remove.{filtered_same}
use Rattle.bz_label.specs.Names.{is_identifier}
use Rattle.std.specs.Prelude.{not, ◌&&◌}
use Rattle.bz_rule.proofs.Lawful.{Lawful, done_changed, guarded_same, note_unchanged, on_arguments}
use Rattle.std.specs.List.{list_all}
use Rattle.std.specs.Str.{is_utf8}
use Rattle.bz_token.specs.Common.{map_or}
use Rattle.bz_attribute.proofs.Locals.{is_first_named}

-- an argument has one name
text_of_one : (old new : List ℕ) (name : Option (List ℕ)) → bytes_eq old new ≡ false → is_word old name ≡ true → is_word new name ≡ false
text_of_one old new None other h = absurd cc
text_of_one old new (Some text) other h = elim (cases_Bool (bytes_eq new text)) [
  | inl is ↦
      let clash : true ≡ false = sym h ∙ ap (bytes_eq old) (sym (same_bytes new text is)) ∙ other in
      absurd cc
  | inr differs ↦ differs
]

-- an argument of the new name has not the old one
not_old : (old new : List ℕ) (name : Option (List ℕ)) → bytes_eq old new ≡ false → is_word new name ≡ true → is_word old name ≡ false
not_old old new name other is = elim (cases_Bool (is_word old name)) [
  | inl both ↦ let clash : true ≡ false = sym is ∙ text_of_one old new name other both in absurd cc
  | inr differs ↦ differs
]

others_kept : (old new : List ℕ) (g : Segment → List Item) (args : List Segment) → bytes_eq old new ≡ false
    → filter (is_named old) (edit_first (is_named new) (λ a. with_value (g a) a ∷ []) args) ≡ filter (is_named old) args
others_kept old new g [] other = refl
others_kept old new g (a ∷ args) other = elim (cases_Bool (is_named new a)) [
  | inl is ↦
      let before : is_named old a ≡ false = not_old old new (name_of a.nodes) other is in
      let now : is_named old (with_value (g a) a) ≡ false = ap (is_word old) (name_put (g a) a (attribute_named new a is)) ∙ before in
      rw (is, before, now) refl
  | inr differs ↦ rw differs (ap (λ (zs : List Segment). cond (is_named old a) (a ∷ zs) zs) (others_kept old new g args other))
]

named_put : (old new : List ℕ) (ss args : List Segment) → bytes_eq old new ≡ false → filter (is_named old) (put_in new ss args) ≡ filter (is_named old) args
named_put old new ss args other =
    let arg : Segment = argument new (list_item ss ∷ []) in
    let lone : filter (is_named old) (arg ∷ []) ≡ [] = ap (λ (b : Bool). cond b (arg ∷ []) []) other in
    elim (has new args) as (λ b. filter (is_named old) (if b then edit_first (is_named new) (λ a. with_value (edit_first_part (λ there. there ++ ss) (value a)) a ∷ []) args else args ++ arg ∷ []) ≡ filter (is_named old) args) [
      | true ↦ others_kept old new (λ a. edit_first_part (λ there. there ++ ss) (value a)) args other
      | false ↦ filter-append (is_named old) args (arg ∷ []) ∙ ap (λ (zs : List Segment). filter (is_named old) args ++ zs) lone ∙ append-nil (filter (is_named old) args)
    ]

filtered_named : (old : List ℕ) (f : List Segment → List Segment) (a : Segment) → is_named old a ≡ true → filter (is_named old) (filtered f a) ≡ filtered f a
filtered_named old f a is =
    let now : is_named old (with_value (edit_parts f (value a)) a) ≡ true = ap (is_word old) (name_put (edit_parts f (value a)) a (attribute_named old a is)) ∙ is in
    elim (loses_all f (value a)) as (λ b. filter (is_named old) (if b then [] else with_value (edit_parts f (value a)) a ∷ []) ≡ (if b then [] else with_value (edit_parts f (value a)) a ∷ []))
    [ true ↦ refl | false ↦ rw now refl ]

-- where all arguments of the name stay, the first does
first_left : (old : List ℕ) (f : List Segment → List Segment) (args : List Segment) (a : Segment) → first_named old args ≡ Some a
    → filter (is_named old) (edit_first (is_named old) (filtered f) args) ≡ filter (is_named old) args → filtered f a ≡ a ∷ []
first_left old f [] a h same = absurd cc
first_left old f (b ∷ args) a h same = elim (cases_Bool (is_named old b)) [
  | inl is ↦
      let found : Some b ≡ Some a = rw is at h in
      let here : b ≡ a = cc in
      let stays : filter (is_named old) (filtered f b ++ args) ≡ b ∷ filter (is_named old) args = rw is at same in
      let front : filtered f b ++ filter (is_named old) args ≡ (b ∷ []) ++ filter (is_named old) args =
      ap (λ (zs : List Segment). zs ++ filter (is_named old) args) (sym (filtered_named old f b is)) ∙ sym (filter-append (is_named old) (filtered f b) args) ∙ stays in
      ap (filtered f) (sym here) ∙ append_cancel_right (filtered f b) (b ∷ []) (filter (is_named old) args) front ∙ ap (λ (z : Segment). z ∷ []) here
  | inr differs ↦
      let found : first_named old args ≡ Some a = rw differs at h in
      let rest : List Segment = edit_first (is_named old) (filtered f) args in
      let left : edit_first (is_named old) (filtered f) (b ∷ args) ≡ b ∷ rest = rw differs refl in
      let front : filter (is_named old) (b ∷ rest) ≡ filter (is_named old) rest = rw differs refl in
      let back : filter (is_named old) (b ∷ args) ≡ filter (is_named old) args = rw differs refl in
      let stays : filter (is_named old) rest ≡ filter (is_named old) args = sym front ∙ ap (filter (is_named old)) (sym left) ∙ same ∙ back in
      first_left old f args a found stays
]

first_chosen : (home : Package) (old new : List ℕ) (chosen : Chosen) (args : List Segment) (first : Option Segment) → first_named old args ≡ first → bytes_eq old new ≡ false
    → moved home old new chosen args ≡ args → map_or false (chooses home chosen) first ≡ false
first_chosen home old new chosen args None e other same = refl
first_chosen home old new chosen args (Some a) e other same =
    let left : List Segment = edit_first (is_named old) (filtered (unchosen home chosen)) args in
    let named : filter (is_named old) left ≡ filter (is_named old) args =
    sym (named_put old new (arrivals home (elements_of (first_named new args)) (filter (is_chosen home chosen) (elements_of (first_named old args)))) left other) ∙ ap (filter (is_named old)) same in
    filtered_same home chosen a (attribute_named old a (is_first_named old args a e)) (first_left old (unchosen home chosen) args a e named)

move_differs : (home : Package) (old new : List ℕ) (chosen : Chosen) (args : List Segment) → bytes_eq old new ≡ false → move_note old new args ≡ None
    → moves home old chosen args ≡ true → move home old new chosen args ≡ args → ⊥
move_differs home old new chosen args other noted some same =
    let made : moved home old new chosen args ≡ args = rw (noted, some) at (sym (move_is home old new chosen args) ∙ same) in
    let clash : true ≡ false = sym some ∙ first_chosen home old new chosen args (first_named old args) refl other made in
    absurd cc

others : (old new : List ℕ) (chosen : Chosen) → is_command (Move old new chosen) ≡ true → bytes_eq old new ≡ false
others old new chosen h =
    let parts = and_parts ((is_identifier old && is_identifier new) && not (bytes_eq old new)) (is_moved chosen) h in
    not-true (bytes_eq old new) (and_parts (is_identifier old && is_identifier new) (not (bytes_eq old new)) parts.0).1

pub move_lawful : (home : Package) (old new : List ℕ) (chosen : Chosen) → Lawful (Move old new chosen) home
move_lawful home old new chosen = on_arguments (Move old new chosen) home (λ slot. refl) (λ slot. refl) (record {
  stays = λ args h. move_is home old new chosen args ∙ guarded_same (move_note old new args) (moves home old chosen args) (moved_where home old new chosen args) args (λ k. rw k refl) h;
  differs = λ read args h same.
      let told = done_changed (move_note old new args) (moves home old chosen args) h in
      move_differs home old new chosen args (others old new chosen read) told.0 told.1 same;
  noted = λ args h. note_unchanged (move_note old new args) (moves home old chosen args) h;
  local = tt;
})

-- What is read of words that are UTF-8 can be read, and its words are UTF-8.
pub move_read : (words : List (List ℕ)) (c : Command) → Ok c ≡ move_of words → list_all is_utf8 words ≡ true → IsRead c
move_read [] c h u = absurd (cc)
move_read (old ∷ []) c h u = absurd (cc)
move_read (old ∷ new ∷ []) c h u = absurd (cc)
move_read (old ∷ new ∷ value ∷ values) c h u = search rules
