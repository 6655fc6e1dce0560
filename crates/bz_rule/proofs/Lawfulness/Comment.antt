-- What is owed of `comment`: it changes what it stands before, a list of comment lines that gets longer.
use Rattle.std.proofs.Common.{◌≡◌, ℕ, ◌+◌, List, [], ◌∷◌, ◌++◌, Bool, true, false, Option, None, Some, length, option_map, is_some, if◌then◌else◌, refl, ap, sym, ◌∙◌, arith, inl, inr, ◌&&◌, rules, Ok}
use Rattle.std.specs.List.{list_any, list_all}
use Rattle.std.proofs.lemmas.Bool.{cases_Bool}
use Rattle.std.proofs.lemmas.List.{length_push}
use Rattle.bz_tree.specs.Tree.{Item, leaf, group, Segment, Statement}
use Rattle.bz_label.specs.Labels.{Package}
use Rattle.bz_attribute.specs.Rules.{rule_of, is_named, first_named, value}
use Rattle.bz_attribute.specs.ListWalk.{elements, edit_list, is_part, parts_from, edit_element, edit_element_from, is_plus}
use Rattle.bz_attribute.specs.Lists.{equals, may_be_in_sum, parts}
use Rattle.bz_attribute.proofs.ListPieces.{edit_element_is, parts_are}
use Rattle.bz_attribute.specs.declared.done.Note.{Note}
use Rattle.bz_attribute.specs.declared.done.Note.TheVariants.{NoAttribute, NoValue}
use Rattle.bz_attribute.specs.Effects.{edit_first, has, holds_rule, absent_note, no_list_note, with_comment}
use Rattle.bz_attribute.specs.Reports.{done}
use Rattle.bz_rule.specs.Comment.{comment_element, comment_line, comment_note, comment_rule, comment_value, no_value_note}
use Rattle.bz_attribute.proofs.Views.{segments_of}
use Rattle.bz_label.specs.declared.arguments.Commented.{Commented}
use Rattle.bz_label.specs.declared.arguments.Commented.TheVariants.{Rule as OfRule, Attribute, Value}
use Rattle.bz_rule.specs.declared.command.Action.TheVariants.{Comment}
use Rattle.bz_rule.proofs.Arguments.{attribute_named, first_same, value_put}
use Rattle.bz_rule.proofs.Local.{comment_local, comment_value_local, looks_at_one, note_by_first, note_of}
use Rattle.bz_rule.specs.OwnComments.{Comments}
use Rattle.bz_rule.proofs.CommentEdits.{ChangesComments, EditsComments, EditsRuleComments, above_rule, always, comments_edits, own_after, rule_comments, with_above}
use Rattle.bz_rule.proofs.FirstEdits.{EditsFirst, edits_first}
use Rattle.bz_rule.proofs.Lawful.{Lawful, on_arguments}
use Rattle.bz_rule.specs.Commands.{Command, IsRead, comment_of}
use Rattle.std.specs.Str.{is_utf8}
use Rattle.bz_token.specs.Common.{map_or}
use Rattle.std.specs.Option.{option_or}
use Rattle.bz_attribute.proofs.Locals.{has_first, is_first_named}

push_longer : (xs : List (List ℕ)) (y : List ℕ) → xs ++ y ∷ [] ≡ xs → ⊥
push_longer xs y h = let long : length xs + 1 ≡ length xs = sym (length_push xs y) ∙ ap length h in absurd (omega arith)

commented : (line : List ℕ) (s : Segment) → with_comment line s ≡ s → ⊥
commented line s h = push_longer s.before line (ap (λ (z : Segment). z.before) h)

-- the first that passes differs
first_differs : (p : Segment → Bool) (f : Segment → Segment) (ss : List Segment) → ((s : Segment) → f s ≡ s → ⊥) → list_any p ss ≡ true → edit_first p (λ s. f s ∷ []) ss ≡ ss → ⊥
first_differs p f [] differs any h = absurd cc
first_differs p f (s ∷ ss) differs any h = elim (cases_Bool (p s)) [
  | inl is ↦ let e : f s ∷ ss ≡ s ∷ ss = rw is at h in differs s cc
  | inr other ↦
      let e : s ∷ edit_first p (λ s. f s ∷ []) ss ≡ s ∷ ss = rw other at h in
      let rest : list_any p ss ≡ true = rw other at any in
      first_differs p f ss differs rest cc
]

-- `comment <attr> <text>`
present : (attr : List ℕ) (args : List Segment) → absent_note attr args ≡ None → has attr args ≡ true
present attr args h = elim (cases_Bool (has attr args)) [
  | inl is ↦ is
  | inr other ↦ let note : Some (NoAttribute attr) ≡ None = rw other at h in absurd cc
]

-- `comment <attr> <v> <text>`
elements_edited : (p : Segment → Bool) (f : Segment → Segment) (x : Item) → elements (edit_list (edit_first p (λ s. f s ∷ [])) x) ≡ edit_first p (λ s. f s ∷ []) (elements x)
elements_edited p f (leaf kind text) = refl
elements_edited p f (group kind segs one_comma end) = segments_of _

element_from : (p : Segment → Bool) (f : Segment → Segment) (start : Bool) (xs : List Item) → ((s : Segment) → f s ≡ s → ⊥) → list_any (list_any p) (parts_from start xs) ≡ true → edit_element_from p f start xs ≡ xs → ⊥
element_from p f start [] differs any h = absurd cc
element_from p f start (x ∷ xs) differs any h = elim (cases_Bool (is_part start x xs)) [
  | inl part ↦ elim (cases_Bool (list_any p (elements x))) [
    | inl is ↦
        let e : edit_list (edit_first p (λ s. f s ∷ [])) x ∷ xs ≡ x ∷ xs = rw (part, is) at h in
        let same : edit_list (edit_first p (λ s. f s ∷ [])) x ≡ x = cc in
        first_differs p f (elements x) differs is (sym (elements_edited p f x) ∙ ap elements same)
    | inr other ↦
        let e : x ∷ edit_element_from p f (is_plus x) xs ≡ x ∷ xs = rw (part, other) at h in
        let rest : list_any (list_any p) (parts_from (is_plus x) xs) ≡ true = rw (part, other) at any in
        element_from p f (is_plus x) xs differs rest cc
  ]
  | inr piece ↦
      let e : x ∷ edit_element_from p f (is_plus x) xs ≡ x ∷ xs = rw piece at h in
      let rest : list_any (list_any p) (parts_from (is_plus x) xs) ≡ true = rw piece at any in
      element_from p f (is_plus x) xs differs rest cc
]

element_differs : (p : Segment → Bool) (f : Segment → Segment) (nodes : List Item) → ((s : Segment) → f s ≡ s → ⊥) → list_any (list_any p) (parts nodes) ≡ true → edit_element p f nodes ≡ nodes → ⊥
element_differs p f nodes differs any h =
    let walked : list_any (list_any p) (if list_all may_be_in_sum nodes then parts_from true nodes else []) ≡ true = ap (list_any (list_any p)) (sym (parts_are nodes)) ∙ any in
    let edited : (if list_all may_be_in_sum nodes then edit_element_from p f true nodes else nodes) ≡ nodes = sym (edit_element_is p f nodes) ∙ h in
    elim (cases_Bool (list_all may_be_in_sum nodes)) [
      | inl is ↦
          let some : list_any (list_any p) (parts_from true nodes) ≡ true = rw is at walked in
          let same : edit_element_from p f true nodes ≡ nodes = rw is at edited in
          element_from p f true nodes differs some same
      | inr other ↦ let none : false ≡ true = rw other at walked in absurd cc
    ]

both_none : (a b : Option Note) → option_or a b ≡ None → (a ≡ None) × (b ≡ None)
both_none None b h = (refl, h)
both_none (Some note) b h = absurd cc

value_differs : (home : Package) (attr v text : List ℕ) (args : List Segment) (o : Option Segment) → first_named attr args ≡ o → is_some o ≡ true → no_value_note home attr v o ≡ None
    → edit_first (is_named attr) (λ a. comment_element home v text a ∷ []) args ≡ args → ⊥
value_differs home attr v text args None e there found same = absurd cc
value_differs home attr v text args (Some a) e there found same =
    let some : list_any (list_any (equals home v)) (parts (value a)) ≡ true = elim (cases_Bool (list_any (list_any (equals home v)) (parts (value a)))) [
      | inl is ↦ is
      | inr other ↦ let note : Some (NoValue attr v) ≡ None = rw other at found in absurd cc
    ] in
    let one : comment_element home v text a ∷ [] ≡ a ∷ [] = first_same attr (λ z. comment_element home v text z ∷ []) args a e same in
    let kept : comment_element home v text a ≡ a = cc in
    let edited : List Item = edit_element (equals home v) (with_comment (comment_line text)) (value a) in
    let put : edited ≡ value a = sym (value_put edited a (attribute_named attr a (is_first_named attr args a e))) ∙ ap value kept in
    element_differs (equals home v) (with_comment (comment_line text)) (value a) (commented (comment_line text)) some put

comment_value_differs : (home : Package) (attr v text : List ℕ) (args : List Segment) → comment_note home attr v args ≡ None → comment_value home attr v text args ≡ args → ⊥
comment_value_differs home attr v text args h same =
    let edited : edit_first (is_named attr) (λ a. comment_element home v text a ∷ []) args ≡ args = rw h at same in
    let outer = both_none _ _ h in
    let inner = both_none (no_list_note attr (first_named attr args)) (no_value_note home attr v (first_named attr args)) outer.1 in
    value_differs home attr v text args (first_named attr args) refl (sym (has_first attr args) ∙ present attr args outer.0) inner.1 edited

-- it always adds its line
abbrev pub one_more : List ℕ → Comments → Comments
one_more text own = record own { before = own.before ++ comment_line text ∷ [] }

comment_changes : (text : List ℕ) → ChangesComments (λ own. true) (one_more text)
comment_changes text = record {
  stays = λ own h. absurd cc;
  differs = λ own h same. push_longer own.before (comment_line text) (ap (λ (z : Comments). z.before) same);
}

pub attribute_edits : (home : Package) (attr text : List ℕ) → EditsComments (Comment (Attribute attr) text) home attr (λ own. true) (one_more text)
attribute_edits home attr text = record {
  after = λ args. refl;
  told = λ args. always attr args;
  local = record { args = comment_local attr text; told = looks_at_one attr _ (λ o. done (if is_some o then None else Some (NoAttribute attr)) true) (λ args. ap (λ (b : Bool). done (if b then None else Some (NoAttribute attr)) true) (has_first attr args)); slot = λ s. refl; done = λ s. refl };
  changed = comment_changes text;
}

rule_commented : (text : List ℕ) (slot : Option Statement) → option_map (comment_rule text) slot ≡ option_map (with_above (one_more text)) slot
rule_commented text None = refl
rule_commented text (Some s) =
    elim (rule_of s.nodes) as (λ o. Some (record s { before = map_or s.before (λ r. s.before ++ comment_line text ∷ []) o })
    ≡ Some (record s { before = (own_after (one_more text) (above_rule s) o).before; suffix = (own_after (one_more text) (above_rule s) o).suffix })) [ None ↦ refl | Some r ↦ refl ]

rule_told : (slot : Option Statement) → done None (holds_rule slot) ≡ done None (map_or false (λ s. is_some (rule_of s.nodes) && true) slot)
rule_told None = refl
rule_told (Some s) = elim (rule_of s.nodes) as (λ o. done None (is_some o) ≡ done None (is_some o && true)) [ None ↦ refl | Some r ↦ refl ]

pub rule_edits : (home : Package) (text : List ℕ) → EditsRuleComments (Comment OfRule text) home (λ own. true) (one_more text)
rule_edits home text = record { after = rule_commented text; told = rule_told; local = refl; changed = comment_changes text }

pub comment_value_edits : (home : Package) (attr v text : List ℕ)
    → EditsFirst (Comment (Value attr v) text) home attr (λ there first. option_or (if there attr then None else Some (NoAttribute attr)) (option_or (no_list_note attr first) (no_value_note home attr v first))) (λ first. true) (comment_element home v text)
comment_value_edits home attr v text = record {
  after = λ args. refl;
  told = λ args. refl;
  local = record { args = comment_value_local home attr v text; told = looks_at_one attr _ (λ o. done (note_of home attr v o) true) (λ args. ap (λ (n : Option Note). done n true) (note_by_first home attr v args)); slot = λ s. refl; done = λ s. refl };
  stays = λ args h. absurd cc;
  differs = λ read args quiet changed same. comment_value_differs home attr v text args quiet same;
}

pub comment_lawful : (home : Package) (place : Commented) (text : List ℕ) → Lawful (Comment place text) home
comment_lawful home OfRule text = rule_comments _ home _ _ (rule_edits home text)
comment_lawful home (Attribute attr) text = on_arguments (Comment (Attribute attr) text) home (λ slot. refl) (λ slot. refl) (edits_first _ home attr _ _ _ (comments_edits _ home attr _ _ (attribute_edits home attr text)))
comment_lawful home (Value attr v) text = on_arguments (Comment (Value attr v) text) home (λ slot. refl) (λ slot. refl) (edits_first _ home attr _ _ _ (comment_value_edits home attr v text))

-- What is read of words that are UTF-8 can be read, and its words are UTF-8.
pub comment_read : (words : List (List ℕ)) (c : Command) → Ok c ≡ comment_of words → list_all is_utf8 words ≡ true → IsRead c
comment_read [] c h u = absurd (cc)
comment_read (text ∷ []) c h u = search rules
comment_read (attr ∷ text ∷ []) c h u = search rules
comment_read (attr ∷ value ∷ text ∷ []) c h u = search rules
comment_read (attr ∷ value ∷ text ∷ word ∷ words) c h u = absurd (cc)
