-- What is owed of `replace`: it changes something where an element equals `old` and is not exactly `new`, and afterwards there is none.
use Rattle.std.proofs.Common.{◌≡◌, ℕ, List, [], ◌∷◌, Bool, true, false, not, ◌&&◌, ◌||◌, None, map, if◌then◌else◌, refl, ap, sym, ◌∙◌, rules, Ok}
use Rattle.std.specs.List.{list_any, list_all}
use Rattle.std.proofs.lemmas.Bool.{and_right, false≢true, or_parts}
use Rattle.bz_tree.specs.Tree.{Item, Segment}
use Rattle.bz_label.specs.Labels.{Package}
use Rattle.bz_label.specs.declared.arguments.Attributes.{Attributes}
use Rattle.bz_label.specs.declared.arguments.Attributes.TheVariants.{Every, Named}
use Rattle.bz_rule.specs.declared.command.Action.TheVariants.{Replace}
use Rattle.bz_attribute.specs.Rules.{is_text, string_value, value}
use Rattle.bz_attribute.specs.Lists.{edit_parts, equals, is_attribute, parts, with_value}
use Rattle.bz_label.specs.Same.{same}
use Rattle.bz_attribute.specs.Effects.{string_item}
use Rattle.bz_attribute.specs.Reports.{done}
use Rattle.bz_rule.specs.Replace.{is_replaced, replaced, replaced_in, replace}
use Rattle.bz_rule.specs.Reports.{replaces, replaces_in}
use Rattle.bz_label.proofs.ReadBack.{quoted_value}
use Rattle.bz_rule.proofs.Arguments.{attribute_named, first_differs, first_stays, same_bytes, value_back, value_put}
use Rattle.bz_attribute.proofs.Locals.{edit_local}
use Rattle.bz_rule.proofs.Local.{looks_at_one}
use Rattle.bz_rule.proofs.FirstEdits.{EditsFirst, edits_first}
use Rattle.bz_rule.proofs.Lawful.{Lawful, on_arguments}
use Rattle.bz_rule.proofs.PartLaws.{parts_edited, parts_stay}
use Rattle.std.specs.Str.{is_utf8}
use Rattle.bz_rule.specs.Commands.{Command, IsRead, replace_of}
use Rattle.bz_token.specs.Common.{map_or}

-- an element that was replaced is exactly `new`
pub settled : (home : Package) (old new : List ℕ) (s : Segment) → is_replaced home old new (replaced home old new s) ≡ false
settled home old new s =
    elim (is_replaced home old new s) as (λ b. is_replaced home old new s ≡ b → is_replaced home old new (if b then record s { nodes = string_item new ∷ [] } else s) ≡ false) [
      | true ↦ λ e.
          let b : Bool = equals home old (record s { nodes = string_item new ∷ [] }) in
          let exact : is_text new (string_value (string_item new ∷ [])) ≡ true = ap (is_text new) (quoted_value new) ∙ same_bytes new in
          ap (λ (t : Bool). b && not t) exact ∙ and_right b false refl
      | false ↦ λ e. e
    ] refl

pub all_settled : (home : Package) (old new : List ℕ) (ss : List Segment) → list_any (is_replaced home old new) (map (replaced home old new) ss) ≡ false
all_settled home old new [] = refl
all_settled home old new (s ∷ ss) = ap (λ (t : Bool). t || list_any (is_replaced home old new) (map (replaced home old new) ss)) (settled home old new s) ∙ all_settled home old new ss

pub lists_settled : (home : Package) (old new : List ℕ) (lists : List (List Segment)) → list_any (list_any (is_replaced home old new)) (map (map (replaced home old new)) lists) ≡ false
lists_settled home old new [] = refl
lists_settled home old new (ss ∷ lists) = rw (all_settled home old new ss) (lists_settled home old new lists)

-- no element is left to replace
argument_settled : (home : Package) (old new : List ℕ) (a : Segment) → is_attribute a ≡ true → replaces_in home old new (replaced_in home old new a) ≡ false
argument_settled home old new a h =
    let f : List Segment → List Segment = map (replaced home old new) in
    let left : parts (value (replaced_in home old new a)) ≡ map f (parts (value a)) = ap parts (value_put (edit_parts f (value a)) a h) ∙ parts_edited f (value a) in
    ap (list_any (list_any (is_replaced home old new))) left ∙ lists_settled home old new (parts (value a))

one_settled : (home : Package) (old new : List ℕ) (a : Segment) → (is_attribute (if is_attribute a then replaced_in home old new a else a) && replaces_in home old new (if is_attribute a then replaced_in home old new a else a)) ≡ false
one_settled home old new a =
    elim (is_attribute a) as (λ b. is_attribute a ≡ b → (is_attribute (if b then replaced_in home old new a else a) && replaces_in home old new (if b then replaced_in home old new a else a)) ≡ false) [
      | true ↦ λ e. and_right (is_attribute (replaced_in home old new a)) (replaces_in home old new (replaced_in home old new a)) (argument_settled home old new a e)
      | false ↦ λ e. ap (λ (t : Bool). t && replaces_in home old new a) e
    ] refl

every_settled : (home : Package) (old new : List ℕ) (args : List Segment) → list_any (λ a. is_attribute a && replaces_in home old new a) (map (λ a. if is_attribute a then replaced_in home old new a else a) args) ≡ false
every_settled home old new [] = refl
every_settled home old new (a ∷ args) =
    ap (λ (t : Bool). t || list_any (λ a. is_attribute a && replaces_in home old new a) (map (λ a. if is_attribute a then replaced_in home old new a else a) args)) (one_settled home old new a) ∙ every_settled home old new args

replace_differs : (home : Package) (attrs : Attributes) (old new : List ℕ) (args : List Segment) → replaces home attrs old new args ≡ true → replace home attrs old new args ≡ args → ⊥
replace_differs home (Named attr) old new args some same =
    first_differs attr (replaces_in home old new) (λ a. replaced_in home old new a ∷ []) (λ a named there stays.
    let kept : replaced_in home old new a ≡ a = cc in
    false≢true (sym (argument_settled home old new a (attribute_named attr a named)) ∙ ap (replaces_in home old new) kept ∙ there)) args some same
replace_differs home Every old new args some same = false≢true (sym (every_settled home old new args) ∙ ap (replaces home Every old new) same ∙ some)

-- where there is none, all stays
elements_stay : (home : Package) (old new : List ℕ) (ss : List Segment) → list_any (is_replaced home old new) ss ≡ false → map (replaced home old new) ss ≡ ss
elements_stay home old new [] h = refl
elements_stay home old new (s ∷ ss) h =
    let both = or_parts (is_replaced home old new s) (list_any (is_replaced home old new) ss) h in
    let here : replaced home old new s ≡ s = rw both.0 refl in
    rw here (ap (λ (zs : List Segment). s ∷ zs) (elements_stay home old new ss both.1))

lists_stay : (home : Package) (old new : List ℕ) (lists : List (List Segment)) → list_any (list_any (is_replaced home old new)) lists ≡ false → map (map (replaced home old new)) lists ≡ lists
lists_stay home old new [] h = refl
lists_stay home old new (ss ∷ lists) h =
    let both = or_parts (list_any (is_replaced home old new) ss) (list_any (list_any (is_replaced home old new)) lists) h in
    rw (elements_stay home old new ss both.0) (ap (λ (ls : List (List Segment)). ss ∷ ls) (lists_stay home old new lists both.1))

pub argument_stays : (home : Package) (old new : List ℕ) (a : Segment) → replaces_in home old new a ≡ false → replaced_in home old new a ≡ a
argument_stays home old new a h =
    ap (λ (v : List Item). with_value v a) (parts_stay (map (replaced home old new)) (value a) (lists_stay home old new (parts (value a)) h)) ∙ value_back a

every_stays : (home : Package) (old new : List ℕ) (args : List Segment) → list_any (λ a. is_attribute a && replaces_in home old new a) args ≡ false → map (λ a. if is_attribute a then replaced_in home old new a else a) args ≡ args
every_stays home old new [] h = refl
every_stays home old new (a ∷ args) h =
    let both = or_parts (is_attribute a && replaces_in home old new a) (list_any (λ z. is_attribute z && replaces_in home old new z) args) h in
    let here : (if is_attribute a then replaced_in home old new a else a) ≡ a =
    elim (is_attribute a) as (λ b. b && replaces_in home old new a ≡ false → (if b then replaced_in home old new a else a) ≡ a)
    [ true ↦ λ k. argument_stays home old new a k | false ↦ λ k. refl ] both.0 in
    rw here (ap (λ (zs : List Segment). a ∷ zs) (every_stays home old new args both.1))

pub replace_edits : (home : Package) (attr old new : List ℕ) → EditsFirst (Replace (Named attr) old new) home attr (λ there first. None) (map_or false (replaces_in home old new)) (replaced_in home old new)
replace_edits home attr old new = record {
  after = λ args. refl;
  told = λ args. refl;
  local = record {
    args = edit_local attr (λ a. replaced_in home old new a ∷ []);
    told = looks_at_one attr _ (λ o. done None (map_or false (replaces_in home old new) o)) (λ args. refl);
    slot = λ s. refl;
    done = λ s. refl;
  };
  stays = λ args h. first_stays attr (replaces_in home old new) (λ a. replaced_in home old new a ∷ []) (λ a k. ap (λ (z : Segment). z ∷ []) (argument_stays home old new a k)) args h;
  differs = λ read args quiet changed same. replace_differs home (Named attr) old new args changed same;
}

pub replace_lawful : (home : Package) (attrs : Attributes) (old new : List ℕ) → Lawful (Replace attrs old new) home
replace_lawful home (Named attr) old new = on_arguments (Replace (Named attr) old new) home (λ slot. refl) (λ slot. refl) (edits_first _ home attr _ _ _ (replace_edits home attr old new))
replace_lawful home Every old new = on_arguments (Replace Every old new) home (λ slot. refl) (λ slot. refl) (record {
  stays = λ args h. every_stays home old new args h;
  differs = λ read args h same. replace_differs home Every old new args h same;
  noted = λ args h. absurd cc;
  local = tt;
})

-- What is read of words that are UTF-8 can be read, and its words are UTF-8.
pub replace_read : (words : List (List ℕ)) (c : Command) → Ok c ≡ replace_of words → list_all is_utf8 words ≡ true → IsRead c
replace_read [] c h u = absurd (cc)
replace_read (attr ∷ []) c h u = absurd (cc)
replace_read (attr ∷ old ∷ []) c h u = absurd (cc)
replace_read (attr ∷ old ∷ new ∷ []) c h u = search rules
replace_read (attr ∷ old ∷ new ∷ word ∷ words) c h u = absurd (cc)
