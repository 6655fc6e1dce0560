-- `add`: what it adds is found, and a second time it adds nothing.
use Rattle.std.proofs.Common.{◌≡◌, ℕ, List, [], ◌∷◌, ◌++◌, Bool, true, false, ◌||◌, not, if◌then◌else◌, Option, Some, None, option_map, is_some, map, refl, ap, sym, ◌∙◌, append_assoc}
use Rattle.std.specs.List.{list_any, list_all}
use Rattle.std.proofs.Math.Bool.{or_assoc, or-false}
use Rattle.std.proofs.lemmas.Bool.{or_left, or_right, and_parts}
use Rattle.std.proofs.lemmas.List.Folds.{list_any-append}
use Rattle.bz_tree.specs.Tree.{Segment}
use Rattle.bz_label.specs.Labels.{Package}
use Rattle.bz_label.specs.Same.{completed, same}
use Rattle.bz_label.specs.declared.arguments.Chosen.TheVariants.{Values}
use Rattle.bz_attribute.specs.Rules.{is_named, is_text, first_named, value}
use Rattle.bz_attribute.specs.Lists.{is_attribute, parts, with_value}
use Rattle.bz_attribute.specs.ListWalk.{edit_first_part}
use Rattle.bz_attribute.specs.Effects.{has, is_chosen, no_list_note, string}
use Rattle.bz_attribute.specs.Reports.{chooses}
use Rattle.bz_rule.specs.Add.{add}
use Rattle.bz_rule.specs.AddByValue.{add_by_value, fresh, is_fresh, new_elements, with_added}
use Rattle.bz_rule.proofs.Adds.{add_is}
use Rattle.bz_attribute.specs.declared.done.Note.TheVariants.{NotAList}
use Rattle.bz_attribute.proofs.Views.{segments_of}
use Rattle.bz_rule.proofs.PartLaws.{edit_head}
use Rattle.bz_rule.proofs.Arguments.{attribute_named, name_put, same_bytes}
use Rattle.bz_laws.proofs.FirstNamed.{first_after}
use Rattle.bz_laws.proofs.Likeness.{all_follow, chosen_alike, in_full, same_self, strings_chosen}
use Rattle.bz_rule.proofs.Lawfulness.Add.{add_kept, added_nothing, new_argument, parts_with}
use Rattle.bz_token.specs.Common.{is_empty, map_or}
use Rattle.bz_attribute.proofs.Locals.{has_first, is_first_named}

-- an element of some lists equals the word
abbrev stands_in : Package → List (List Segment) → List ℕ → Bool
stands_in home lists v = list_any (list_any (is_chosen home (Values (v ∷ [])))) lists

alike : (home : Package) (lists : List (List Segment)) (earlier : List (List ℕ)) (v w : List ℕ) → same home w v ≡ true
    → (stands_in home lists v || list_any (same home v) earlier) ≡ (stands_in home lists w || list_any (same home w) earlier)
alike home lists earlier v w h =
    let full : completed home w ≡ completed home v = in_full home w v h in
    let chosen : is_chosen home (Values (v ∷ [])) ≡ is_chosen home (Values (w ∷ [])) = λ i. λ s. sym (chosen_alike home w v s full) i in
    let here : stands_in home lists v ≡ stands_in home lists w = ap (λ (p : Segment → Bool). list_any (list_any p) lists) chosen in
    let sames : same home v ≡ same home w = λ i. λ s. same_in_full home v w s (sym full) i in
    let before : list_any (same home v) earlier ≡ list_any (same home w) earlier = ap (λ (p : List ℕ → Bool). list_any p earlier) sames in
    rw (here, before) refl
  where
    same_in_full : (home : Package) (v w s : List ℕ) → completed home v ≡ completed home w → same home v s ≡ same home w s
    same_in_full home v w s e = rw e refl

weaken : (x y z t : Bool) → (t ≡ true → x || y ≡ true) → x || (y || (t || false) || z) ≡ true → x || (y || z) ≡ true
weaken true y z t known h = refl
weaken false true z t known h = refl
weaken false false z true known h = absurd (let no : false ≡ true = known refl in cc)
weaken false false z false known h = h

pub not_false : (b : Bool) → not b ≡ false → b ≡ true
not_false true h = refl
not_false false h = absurd cc

-- each value is there already, is the same as an earlier one, or is added
fresh_covers : (home : Package) (lists : List (List Segment)) (earlier values : List (List ℕ))
    → list_all (λ v. stands_in home lists v || list_any (same home v) (earlier ++ fresh home lists earlier values)) values ≡ true
fresh_covers home lists earlier [] = refl
fresh_covers home lists earlier (v ∷ values) =
    let later : List (List ℕ) = fresh home lists (earlier ++ v ∷ []) values in
    let rest : list_all (λ w. stands_in home lists w || list_any (same home w) ((earlier ++ v ∷ []) ++ later)) values ≡ true = fresh_covers home lists (earlier ++ v ∷ []) values in
    elim (is_fresh home lists earlier v) as (λ b. is_fresh home lists earlier v ≡ b
    → list_all (λ w. stands_in home lists w || list_any (same home w) (earlier ++ ((if b then v ∷ [] else []) ++ later))) (v ∷ values) ≡ true) [
      | true ↦ λ e.
          let here : list_any (same home v) (earlier ++ v ∷ later) ≡ true =
          list_any-append (same home v) earlier (v ∷ later) ∙ or_right (list_any (same home v) earlier) _ (or_left (same home v v) (list_any (same home v) later) (same_self home v)) in
          let all : list_all (λ w. stands_in home lists w || list_any (same home w) (earlier ++ v ∷ later)) values ≡ true =
          ap (λ (ws : List (List ℕ)). list_all (λ w. stands_in home lists w || list_any (same home w) ws) values) (sym (append_assoc earlier (v ∷ []) later)) ∙ rest in
          rw (or_right (stands_in home lists v) _ here) all
      | false ↦ λ e.
          let known : stands_in home lists v || list_any (same home v) earlier ≡ true = not_false _ e in
          let here : stands_in home lists v || list_any (same home v) (earlier ++ later) ≡ true =
          rw (list_any-append (same home v) earlier later) (sym (or_assoc (stands_in home lists v) (list_any (same home v) earlier) (list_any (same home v) later)) ∙ or_left _ (list_any (same home v) later) known) in
          rw here (all_follow (λ w. stands_in home lists w || list_any (same home w) ((earlier ++ v ∷ []) ++ later)) (λ w. stands_in home lists w || list_any (same home w) (earlier ++ later)) (λ w k.
          rw (list_any-append (same home w) earlier later)
          (weaken (stands_in home lists w) (list_any (same home w) earlier) (list_any (same home w) later) (same home w v)
          (λ t. sym (alike home lists earlier v w t) ∙ known)
          (rw (list_any-append (same home w) (earlier ++ v ∷ []) later, list_any-append (same home w) earlier (v ∷ [])) at k))) values rest)
    ] refl

grouped : (x y z : Bool) → x || z || y ≡ (x || y || z)
grouped true y z = refl
grouped false true true = refl
grouped false true false = refl
grouped false false true = refl
grouped false false false = refl

any_head : (p : Segment → Bool) (new : List Segment) (lists : List (List Segment)) → is_empty lists ≡ false → list_any (list_any p) (edit_head (λ ss. ss ++ new) lists) ≡ (list_any (list_any p) lists || list_any p new)
any_head p new [] h = absurd cc
any_head p new (ss ∷ lists) h = rw (list_any-append p ss new) (grouped (list_any p ss) (list_any (list_any p) lists) (list_any p new))

-- the values are found in the argument to which they were added
found_in_added : (home : Package) (values : List (List ℕ)) (a : Segment) → is_attribute a ≡ true → is_empty (parts (value a)) ≡ false
    → list_all (λ v. chooses home (Values (v ∷ [])) (with_added home values a)) values ≡ true
found_in_added home values a h some =
    let lists : List (List Segment) = parts (value a) in
    let new : List (List ℕ) = fresh home lists [] values in
    all_follow (λ v. stands_in home lists v || list_any (same home v) new) (λ v. chooses home (Values (v ∷ [])) (with_added home values a)) (λ v k.
    ap (λ (ls : List (List Segment)). stands_in home ls v) (parts_with home values a h some)
    ∙ any_head (is_chosen home (Values (v ∷ []))) (map string new) lists some
    ∙ ap (λ (b : Bool). stands_in home lists v || b) (strings_chosen home v new) ∙ k) values (fresh_covers home lists [] values)

pub parts_new : (home : Package) (attr : List ℕ) (values : List (List ℕ)) → parts (value (new_argument home attr values)) ≡ new_elements home [] values ∷ []
parts_new home attr values = ap (λ (ss : List Segment). ss ∷ []) (segments_of (new_elements home [] values))

found_in_new : (home : Package) (attr : List ℕ) (values : List (List ℕ)) → list_all (λ v. chooses home (Values (v ∷ [])) (new_argument home attr values)) values ≡ true
found_in_new home attr values =
    let new : List (List ℕ) = fresh home [] [] values in
    all_follow (λ v. stands_in home [] v || list_any (same home v) new) (λ v. chooses home (Values (v ∷ [])) (new_argument home attr values)) (λ v k.
    ap (λ (ls : List (List Segment)). stands_in home ls v) (parts_new home attr values)
    ∙ or-false (list_any (is_chosen home (Values (v ∷ []))) (map string new))
    ∙ strings_chosen home v new ∙ k) values (fresh_covers home [] [] values)

new_named : (home : Package) (attr : List ℕ) (values : List (List ℕ)) → is_named attr (new_argument home attr values) ≡ true
new_named home attr values = same_bytes attr

pub first_at_end : (attr : List ℕ) (args : List Segment) (x : Segment) → first_named attr args ≡ None → is_named attr x ≡ true → first_named attr (args ++ x ∷ []) ≡ Some x
first_at_end attr [] x h named = rw named refl
first_at_end attr (a ∷ args) x h named =
    elim (is_named attr a) as (λ b. (if b then Some a else first_named attr args) ≡ None → (if b then Some a else first_named attr (args ++ x ∷ [])) ≡ Some x)
    [ true ↦ λ k. absurd cc | false ↦ λ k. first_at_end attr args x k named ] h

added_named : (home : Package) (attr : List ℕ) (values : List (List ℕ)) (a : Segment) → is_named attr a ≡ true → is_named attr (with_added home values a) ≡ true
added_named home attr values a h =
    elim (is_empty (parts (value a))) as (λ b. is_named attr (if b then a else with_value (edit_first_part (λ ss. ss ++ new_elements home (parts (value a)) values) (value a)) a) ≡ true) [
      | true ↦ h
      | false ↦ ap (is_text attr) (name_put (edit_first_part (λ ss. ss ++ new_elements home (parts (value a)) values) (value a)) a (attribute_named attr a h)) ∙ h
    ]

-- the first argument of the name after `add`
abbrev pub first_added : Package → List ℕ → List (List ℕ) → Option Segment → Segment
first_added home attr values None = new_argument home attr values
first_added home attr values (Some a) = with_added home values a

pub first_after_add : (home : Package) (attr : List ℕ) (values : List (List ℕ)) (args : List Segment) → first_named attr (add home attr values args) ≡ Some (first_added home attr values (first_named attr args))
first_after_add home attr values args =
    ap (first_named attr) (add_is home attr values args)
    ∙ elim (first_named attr args) as (λ o. first_named attr args ≡ o → first_named attr (add_by_value home attr values args) ≡ Some (first_added home attr values o)) [
      | None ↦ λ e.
          let absent : has attr args ≡ false = has_first attr args ∙ ap is_some e in
          rw absent (first_at_end attr args (new_argument home attr values) e (new_named home attr values))
      | Some a ↦ λ e.
          let there : has attr args ≡ true = has_first attr args ∙ ap is_some e in
          rw there (first_after attr (with_added home values) args (added_named home attr values) ∙ ap (option_map (with_added home values)) e)
    ] refl

-- each value is found where it was to be added
pub add_found : (home : Package) (attr : List ℕ) (values : List (List ℕ)) (args : List Segment) → no_list_note attr (first_named attr args) ≡ None
    → list_all (λ v. map_or false (chooses home (Values (v ∷ []))) (first_named attr (add home attr values args))) values ≡ true
add_found home attr values args h =
    let after : first_named attr (add home attr values args) ≡ Some (first_added home attr values (first_named attr args)) = first_after_add home attr values args in
    rw after (elim (first_named attr args) as (λ o. first_named attr args ≡ o → no_list_note attr o ≡ None → list_all (λ v. chooses home (Values (v ∷ [])) (first_added home attr values o)) values ≡ true) [
      | None ↦ λ e k. found_in_new home attr values
      | Some a ↦ λ e k. found_in_added home values a (attribute_named attr a (is_first_named attr args a e)) (lists_there attr (is_empty (parts (value a))) k)
    ] refl h)
  where
    lists_there : (attr : List ℕ) (b : Bool) → (if b then Some (NotAList attr) else None) ≡ None → b ≡ false
    lists_there attr true h = absurd cc
    lists_there attr false h = refl

none_fresh : (home : Package) (lists : List (List Segment)) (earlier values : List (List ℕ)) → list_all (stands_in home lists) values ≡ true → fresh home lists earlier values ≡ []
none_fresh home lists earlier [] h = refl
none_fresh home lists earlier (v ∷ values) h =
    let both = and_parts (stands_in home lists v) (list_all (stands_in home lists) values) h in
    rw both.0 (none_fresh home lists (earlier ++ v ∷ []) values both.1)

added_found : (home : Package) (values : List (List ℕ)) (a : Segment) → list_all (λ v. chooses home (Values (v ∷ [])) a) values ≡ true → with_added home values a ≡ a
added_found home values a h = added_nothing home values a (ap (map string) (none_fresh home (parts (value a)) [] values h))

added_twice : (home : Package) (values : List (List ℕ)) (a : Segment) → is_attribute a ≡ true → with_added home values (with_added home values a) ≡ with_added home values a
added_twice home values a h =
    elim (is_empty (parts (value a))) as (λ b. is_empty (parts (value a)) ≡ b → with_added home values (with_added home values a) ≡ with_added home values a) [
      | true ↦ λ e. let stays : with_added home values a ≡ a = rw e refl in ap (with_added home values) stays
      | false ↦ λ e. added_found home values (with_added home values a) (found_in_added home values a h e)
    ] refl

-- a second time `add` adds nothing
pub add_twice : (home : Package) (attr : List ℕ) (values : List (List ℕ)) (args : List Segment) → add home attr values (add home attr values args) ≡ add home attr values args
add_twice home attr values args =
    add_kept home attr values (add home attr values args) (first_added home attr values (first_named attr args)) (first_after_add home attr values args)
    (elim (first_named attr args) as (λ o. first_named attr args ≡ o → with_added home values (first_added home attr values o) ≡ first_added home attr values o) [
      | None ↦ λ e. added_found home values (new_argument home attr values) (found_in_new home attr values)
      | Some a ↦ λ e. added_twice home values a (attribute_named attr a (is_first_named attr args a e))
    ] refl)

-- the new elements stand at the end of the first list, and all others stay
pub added_elements : (home : Package) (values : List (List ℕ)) (a : Segment) (ss : List Segment) (lists : List (List Segment)) → is_attribute a ≡ true → parts (value a) ≡ ss ∷ lists
    → parts (value (with_added home values a)) ≡ (ss ++ new_elements home (ss ∷ lists) values) ∷ lists
added_elements home values a ss lists h is =
    parts_with home values a h (ap is_empty is) ∙ ap (λ (ls : List (List Segment)). edit_head (λ zs. zs ++ new_elements home ls values) ls) is
