-- What is owed of `remove`: it changes something exactly where it says so.
use Rattle.std.proofs.Common.{IfSome, ◌≡◌, ℕ, List, [], ◌∷◌, Bool, true, false, ◌&&◌, not, if◌then◌else◌, None, map, filter, refl, ap, sym, ◌∙◌, rules, Ok, flat_map}
use Rattle.std.specs.List.{list_any, list_all}
use Rattle.std.proofs.lemmas.Bool.{or_parts, and_right, false≢true}
use Rattle.std.proofs.lemmas.List.Folds.{list_any-append}
use Rattle.bz_tree.specs.declared.tree.GroupKind.TheVariants.{List as ListKind}
use Rattle.bz_tree.specs.Tree.{Item, leaf, group, Segment, segments}
use Rattle.bz_label.specs.Labels.{Package}
use Rattle.bz_label.specs.declared.arguments.Attributes.{Attributes}
use Rattle.bz_label.specs.declared.arguments.Attributes.TheVariants.{Every, Named}
use Rattle.bz_label.specs.declared.arguments.Chosen.{Chosen}
use Rattle.bz_label.specs.declared.arguments.Chosen.TheVariants.{Values}
use Rattle.bz_rule.specs.declared.command.Action.TheVariants.{Remove}
use Rattle.bz_attribute.specs.Rules.{is_named, value}
use Rattle.bz_attribute.specs.Lists.{edit_parts, is_attribute, parts, with_value}
use Rattle.bz_attribute.specs.Effects.{filtered, has, is_chosen, loses_all, unchosen}
use Rattle.bz_attribute.specs.Reports.{chooses, done}
use Rattle.bz_rule.specs.Remove.{goes_with_all, remove}
use Rattle.bz_rule.specs.Reports.{removes}
use Rattle.bz_rule.proofs.Kept.{all_stay, all_stay_in, none_left_in, none_passes, none_passes_in}
use Rattle.bz_rule.proofs.PartLaws.{parts_edited, parts_stay}
use Rattle.bz_rule.proofs.Arguments.{attribute_named, first_differs, first_stays, value_back, value_put}
use Rattle.bz_rule.specs.OneAttribute.{one_attribute}
use Rattle.bz_attribute.proofs.Locals.{edit_local}
use Rattle.bz_rule.proofs.Local.{looks_at_one}
use Rattle.bz_rule.proofs.Lawful.{Local, Lawful, on_arguments}
use Rattle.std.specs.Str.{is_utf8}
use Rattle.bz_rule.specs.Commands.{Command, IsRead, remove_of}
use Rattle.bz_token.specs.Common.{is_empty, map_or}

empty_or_not : (ss : List Segment) → not (is_empty ss) && is_empty ss ≡ false
empty_or_not [] = refl
empty_or_not (s ∷ ss) = refl

none_lost : (p : Segment → Bool) (nodes : List Item) → list_any (list_any p) (parts nodes) ≡ false → loses_all (λ ss. filter (λ s. not (p s)) ss) nodes ≡ false
none_lost p [] h = refl
none_lost p (leaf kind text ∷ xs) h = refl
none_lost p (group ListKind segs one_comma end ∷ []) h = rw (all_stay p (segments segs) (or_parts (list_any p (segments segs)) false h).0) (empty_or_not (segments segs))
none_lost p (group ListKind segs one_comma end ∷ x ∷ xs) h = refl
none_lost p (group _ segs one_comma end ∷ xs) h = refl

pub filtered_stays : (home : Package) (chosen : Chosen) (a : Segment) → chooses home chosen a ≡ false → filtered (unchosen home chosen) a ≡ a ∷ []
filtered_stays home chosen a h =
    let edited : edit_parts (unchosen home chosen) (value a) ≡ value a = parts_stay (unchosen home chosen) (value a) (all_stay_in (is_chosen home chosen) (parts (value a)) h) in
    let kept : loses_all (unchosen home chosen) (value a) ≡ false = none_lost (is_chosen home chosen) (value a) h in
    rw (kept, edited) (ap (λ (z : Segment). z ∷ []) (value_back a))

pub parts_put : (home : Package) (chosen : Chosen) (a : Segment) → is_attribute a ≡ true → parts (value (with_value (edit_parts (unchosen home chosen) (value a)) a)) ≡ map (unchosen home chosen) (parts (value a))
parts_put home chosen a h = ap parts (value_put (edit_parts (unchosen home chosen) (value a)) a h) ∙ parts_edited (unchosen home chosen) (value a)

pub filtered_same : (home : Package) (chosen : Chosen) (a : Segment) → is_attribute a ≡ true → filtered (unchosen home chosen) a ≡ a ∷ [] → chooses home chosen a ≡ false
filtered_same home chosen a h same =
    elim (loses_all (unchosen home chosen) (value a)) as (λ b. (if b then [] else with_value (edit_parts (unchosen home chosen) (value a)) a ∷ []) ≡ a ∷ [] → chooses home chosen a ≡ false) [
      | true ↦ λ k. absurd cc
      | false ↦ λ k.
          let is : with_value (edit_parts (unchosen home chosen) (value a)) a ≡ a = cc in
          none_passes_in (is_chosen home chosen) (parts (value a)) (sym (parts_put home chosen a h) ∙ ap (λ (z : Segment). parts (value z)) is)
    ] same

-- what is left of an argument has no chosen element
pub filtered_left : (home : Package) (chosen : Chosen) (a : Segment) → is_attribute a ≡ true → list_any (chooses home chosen) (filtered (unchosen home chosen) a) ≡ false
filtered_left home chosen a h =
    elim (loses_all (unchosen home chosen) (value a)) as (λ b. list_any (chooses home chosen) (if b then [] else with_value (edit_parts (unchosen home chosen) (value a)) a ∷ []) ≡ false) [
      | true ↦ refl
      | false ↦ rw (parts_put home chosen a h, none_left_in (is_chosen home chosen) (parts (value a))) refl
    ]

-- a test that passes less
less : (p q : Segment → Bool) (ss : List Segment) → list_any q ss ≡ false → list_any (λ s. p s && q s) ss ≡ false
less p q [] h = refl
less p q (s ∷ ss) h =
    let both = or_parts (q s) (list_any q ss) h in
    rw (and_right (p s) (q s) both.0) (less p q ss both.1)

pub everywhere_left : (home : Package) (chosen : Chosen) (args : List Segment) → list_any (λ a. is_attribute a && chooses home chosen a) (flat_map (λ a. if is_attribute a then filtered (unchosen home chosen) a else a ∷ []) args) ≡ false
everywhere_left home chosen [] = refl
everywhere_left home chosen (a ∷ args) =
    let p : Segment → Bool = λ z. is_attribute z && chooses home chosen z in
    let rest : list_any p (flat_map (λ a. if is_attribute a then filtered (unchosen home chosen) a else a ∷ []) args) ≡ false = everywhere_left home chosen args in
    let here : list_any p (if is_attribute a then filtered (unchosen home chosen) a else a ∷ []) ≡ false =
    elim (is_attribute a) as (λ b. is_attribute a ≡ b → list_any p (if b then filtered (unchosen home chosen) a else a ∷ []) ≡ false)
    [ true ↦ λ e. less is_attribute (chooses home chosen) (filtered (unchosen home chosen) a) (filtered_left home chosen a e) | false ↦ λ e. rw e refl ] refl in
    list_any-append p (if is_attribute a then filtered (unchosen home chosen) a else a ∷ []) (flat_map (λ a. if is_attribute a then filtered (unchosen home chosen) a else a ∷ []) args) ∙ rw (here, rest) refl

pub everywhere_stays : (home : Package) (chosen : Chosen) (args : List Segment) → list_any (λ a. is_attribute a && chooses home chosen a) args ≡ false → flat_map (λ a. if is_attribute a then filtered (unchosen home chosen) a else a ∷ []) args ≡ args
everywhere_stays home chosen [] h = refl
everywhere_stays home chosen (a ∷ args) h =
    let both = or_parts (is_attribute a && chooses home chosen a) (list_any (λ a. is_attribute a && chooses home chosen a) args) h in
    let here : (if is_attribute a then filtered (unchosen home chosen) a else a ∷ []) ≡ a ∷ [] =
    elim (is_attribute a) as (λ b. b && chooses home chosen a ≡ false → (if b then filtered (unchosen home chosen) a else a ∷ []) ≡ a ∷ [])
    [ true ↦ λ k. filtered_stays home chosen a k | false ↦ λ k. refl ] both.0 in
    rw here (ap (λ (zs : List Segment). a ∷ zs) (everywhere_stays home chosen args both.1))

remove_stays : (home : Package) (attrs : Attributes) (values : List (List ℕ)) (args : List Segment) → removes home attrs values args ≡ false → remove home attrs values args ≡ args
remove_stays home Every [] args h = all_stay goes_with_all args h
remove_stays home Every (v ∷ values) args h = everywhere_stays home (Values (v ∷ values)) args h
remove_stays home (Named attr) [] args h = all_stay (is_named attr) args h
remove_stays home (Named attr) (v ∷ values) args h = first_stays attr (chooses home (Values (v ∷ values))) (filtered (unchosen home (Values (v ∷ values)))) (filtered_stays home (Values (v ∷ values))) args h

remove_differs : (home : Package) (attrs : Attributes) (values : List (List ℕ)) (args : List Segment) → removes home attrs values args ≡ true → remove home attrs values args ≡ args → ⊥
remove_differs home Every [] args h same = let none : list_any goes_with_all args ≡ false = none_passes goes_with_all args same in cc
remove_differs home Every (v ∷ values) args h same =
    let none : list_any (λ a. is_attribute a && chooses home (Values (v ∷ values)) a) args ≡ false = ap (λ x0. list_any (λ a. is_attribute a && chooses home (Values (v ∷ values)) a) x0) (sym same) ∙ everywhere_left home (Values (v ∷ values)) args in cc
remove_differs home (Named attr) [] args h same = let none : has attr args ≡ false = none_passes (is_named attr) args same in cc
remove_differs home (Named attr) (v ∷ values) args h same =
    first_differs attr (chooses home (Values (v ∷ values))) (filtered (unchosen home (Values (v ∷ values)))) (λ a named chosen kept.
    false≢true (sym (filtered_same home (Values (v ∷ values)) a (attribute_named attr a named) kept) ∙ chosen)) args h same

-- with values, of one attribute
remove_local : (home : Package) (attrs : Attributes) (values : List (List ℕ)) → IfSome (one_attribute (Remove attrs values)) (Local (Remove attrs values) home)
remove_local home Every values = tt
remove_local home (Named attr) [] = tt
remove_local home (Named attr) (v ∷ values) = record {
  args = edit_local attr (filtered (unchosen home (Values (v ∷ values))));
  told = looks_at_one attr _ (λ o. done None (map_or false (chooses home (Values (v ∷ values))) o)) (λ args. refl);
  slot = λ s. refl;
  done = λ s. refl;
}

pub remove_lawful : (home : Package) (attrs : Attributes) (values : List (List ℕ)) → Lawful (Remove attrs values) home
remove_lawful home attrs values = on_arguments (Remove attrs values) home (λ slot. refl) (λ slot. refl) (record {
  stays = λ args h. remove_stays home attrs values args h;
  differs = λ read args h same. remove_differs home attrs values args h same;
  noted = λ args h. absurd cc;
  local = remove_local home attrs values;
})

-- What is read of words that are UTF-8 can be read, and its words are UTF-8.
pub remove_read : (words : List (List ℕ)) (c : Command) → Ok c ≡ remove_of words → list_all is_utf8 words ≡ true → IsRead c
remove_read [] c h u = absurd (cc)
remove_read (attr ∷ values) c h u = search rules
