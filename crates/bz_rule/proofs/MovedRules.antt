-- What `move` makes of a rule: elements go, and then come to another list.
use Rattle.std.proofs.Common.{◌≡◌, ℕ, List, [], ◌∷◌, ◌++◌, Bool, true, false, if◌then◌else◌, Option, Some, None, is_some, filter, length, take, refl, ap, sym, ◌∙◌, arith, append-nil, take-append-drop}
use Rattle.std.specs.List.{list_all, flat_map}
use Rattle.std.proofs.lemmas.Bool.{false≢true}
use Rattle.std.proofs.lemmas.List.{drop_all}
use Rattle.bz_tree.specs.Rows.{RowPart, parts_of, segs_parts}
use Rattle.bz_tree.specs.Tree.{Item, Segment, Statement, segs_of}
use Rattle.bz_label.specs.Labels.{Package}
use Rattle.bz_label.specs.declared.arguments.Chosen.{Chosen}
use Rattle.bz_attribute.specs.Effects.{edit_first, filtered, is_chosen, no_list_note, with_args}
use Rattle.bz_attribute.specs.Reports.{done}
use Rattle.bz_attribute.specs.Elements.{AreLists, elements_left}
use Rattle.bz_attribute.specs.Lists.{may_be_in_sum, parts, with_value}
use Rattle.bz_attribute.specs.ListWalk.{is_plus, edit_first_part, edit_list, edit_one_from, is_part, parts_from, elements}
use Rattle.bz_attribute.proofs.ListPieces.{edit_first_part_is, parts_are}
use Rattle.bz_rule.specs.Move.{arrivals, elements_of, move, move_note, put_in}
use Rattle.bz_rule.specs.Reports.{moves}
use Rattle.bz_rule.specs.private.Steps.{moved}
use Rattle.bz_rule.proofs.Moves.{move_is}
use Rattle.bz_attribute.specs.RowEdits.{IsRowEdit, replaced_at}
use Rattle.bz_attribute.specs.RowPlaces.{IsRuleRow}
use Rattle.bz_attribute.specs.Rules.{Rule, first_named, is_named, value}
use Rattle.bz_attribute.specs.declared.done.Done.{Done}
use Rattle.bz_attribute.specs.declared.done.Note.{Note}
use Rattle.bz_attribute.specs.declared.done.Note.TheVariants.{NoAttribute, NotAList}
use Rattle.bz_attribute.specs.declared.edit.Edit.{Edit}
use Rattle.bz_attribute.specs.declared.place.Place.{Place}
use Rattle.bz_attribute.proofs.EditedAt.{none_first, with_args_at}
use Rattle.bz_attribute.proofs.EditedRules.{row_after, rule_with, with_args_twice}
use Rattle.bz_attribute.proofs.RowEdits.{changed}
use Rattle.bz_rule.specs.declared.commands.arrivals.Lists.{Lists}
use Rattle.bz_rule.specs.private.ListPlaces.{HasNoListPart, HaveArrivals, IsListAt, IsTarget, parts_at}
use Rattle.bz_rule.specs.private.StringEdits.{changes, become_all, is_meant}
use Rattle.bz_rule.proofs.Meanings.{left_unchosen, told_first}
use Rattle.bz_attribute.proofs.Locals.{is_there}
use Rattle.bz_token.specs.Common.{map_or, is_empty}
use Rattle.std.specs.Option.{option_or}

-- no list part: nothing is edited
one_stays : (f : List Segment → List Segment) (start : Bool) (xs : List Item) → parts_from start xs ≡ [] → edit_one_from f start xs ≡ xs
one_stays f start [] h = refl
one_stays f start (x ∷ xs) h =
    elim (is_part start x xs) as (λ b. (if b then elements x ∷ [] else []) ++ parts_from (is_plus x) xs ≡ [] → (if b then edit_list f x ∷ xs else x ∷ edit_one_from f (is_plus x) xs) ≡ x ∷ xs)
    [ true ↦ λ k. absurd cc | false ↦ λ k. ap (λ (ys : List Item). x ∷ ys) (one_stays f (is_plus x) xs k) ] h

no_part_stays : (f : List Segment → List Segment) (xs : List Item) → parts xs ≡ [] → edit_first_part f xs ≡ xs
no_part_stays f xs h =
    edit_first_part_is f xs
    ∙ elim (list_all may_be_in_sum xs) as (λ b. (if b then parts_from true xs else []) ≡ [] → (if b then edit_one_from f true xs else xs) ≡ xs)
    [ true ↦ λ k. one_stays f true xs k | false ↦ λ k. refl ] (sym (parts_are xs) ∙ h)

pub put_nowhere : (name : List ℕ) (ss : List Segment) (s : Statement) (r : Rule) (ps : List RowPart) → IsRuleRow s r ps → HasNoListPart name s r ps → ps ≡ parts_of (with_args (put_in name ss) s)
put_nowhere name ss s r ps h lack =
    let v = lack.there in
    let edit : Segment → List Segment = λ a. with_value (edit_first_part (λ there. there ++ ss) (value a)) a ∷ [] in
    let same : edit v.arg ≡ with_value (value v.arg) v.arg ∷ [] = ap (λ (ns : List Item). with_value ns v.arg ∷ []) (no_part_stays (λ there. there ++ ss) (value v.arg) lack.none) in
    sym (take-append-drop lack.place ps) ∙ ap (λ (qs : List RowPart). take lack.place ps ++ qs) v.read ∙ v.put edit (value v.arg) same
    ∙ ap parts_of (sym (with_args_at (put_in name ss) (edit_first (is_named name) edit) s r h.rule (rw (is_there name r.args v.arg v.first) refl)))

-- the elements of the lists
elements_there : (name : List ℕ) (s : Statement) (r : Rule) (ps : List RowPart) (from : ℕ) → (l : IsListAt name s r ps from) → elements_left l.list.list ≡ elements_of (first_named name r.args)
elements_there name s r ps from l = sym (ap elements_of l.there.first ∙ ap (flat_map (λ ss. ss)) l.list.lists)

record AreOfTarget (name : List ℕ) (r : Rule) (ps : List RowPart) (to : Option ℕ) : Type 0 where
  lists : List (List Segment)
  are : AreLists ps to lists
  same : flat_map (λ ss. ss) lists ≡ elements_of (first_named name r.args)

of_target : (name : List ℕ) (s : Statement) (r : Rule) (ps : List RowPart) (to : Option ℕ) → IsTarget name s r ps to → AreOfTarget name r ps to
of_target name s r ps None none = record { lists = []; are = refl; same = sym (ap elements_of (none_first name r.args none)) }
of_target name s r ps (Some from) l = record {
  lists = parts (value l.there.arg);
  are = record { rest = l.list.list; after = l.there.after; read = l.list.read; are = l.list.lists };
  same = sym (ap elements_of l.there.first);
}

-- the elements that arrive
abbrev arriving : Package → List ℕ → List ℕ → Chosen → Rule → List Segment
arriving home old new chosen r = arrivals home (elements_of (first_named new r.args)) (filter (is_chosen home chosen) (elements_of (first_named old r.args)))

arrived : (home : Package) (old new : List ℕ) (chosen : Chosen) (p : Option (List ℕ) → Bool) (at : Lists) (s : Statement) (r : Rule) (ps : List RowPart) (places : List Place) → is_meant p ≡ is_chosen home chosen
    → IsListAt old s r ps at.from → IsTarget new s r ps at.to → HaveArrivals home p at ps places → parts_at ps places ≡ segs_parts (segs_of (arriving home old new chosen r))
arrived home old new chosen p at s r ps places same from to have =
    let there = of_target new s r ps at.to to in
    have from.list.list from.there.after there.lists from.list.read there.are
    ∙ (λ i. segs_parts (segs_of (arrivals home (there.same i) (filter (same i) (elements_there old s r ps at.from from i)))))

whole : (ps out : List RowPart) → replaced_at (record { from = 0; to = length ps }) out ps ≡ out
whole ps out = ap (λ (qs : List RowPart). out ++ qs) (drop_all (length ps) ps (omega arith)) ∙ append-nil out

-- what goes, and whether
abbrev pub gone_from : List ℕ → (Option (List ℕ) → Bool) → List Segment → List Segment
gone_from old p = edit_first (is_named old) (filtered (become_all p None))

abbrev pub told_gone : List ℕ → (Option (List ℕ) → Bool) → List Segment → Done
told_gone old p args = done None (map_or false (changes p) (first_named old args))

tells : (home : Package) (old : List ℕ) (chosen : Chosen) (p : Option (List ℕ) → Bool) (s : Statement) (r : Rule) (ps one : List RowPart) (gone : Edit) (b : Bool) → is_meant p ≡ is_chosen home chosen → IsRowEdit (gone_from old p) (told_gone old p) ps one gone
    → gone.done.changed ≡ b → IsRuleRow s r ps → moves home old chosen r.args ≡ b
tells home old chosen p s r ps one gone b same edit is h = sym (told_first home chosen p (first_named old r.args) same) ∙ sym (ap (λ (d : Done). d.changed) (edit.done s r h)) ∙ is

pub not_moved : (home : Package) (old new : List ℕ) (chosen : Chosen) (p : Option (List ℕ) → Bool) (ps one : List RowPart) (gone : Edit) → is_meant p ≡ is_chosen home chosen → IsRowEdit (gone_from old p) (told_gone old p) ps one gone → gone.done.changed ≡ false
    → IsRowEdit (λ x0. if moves home old chosen x0 then moved home old new chosen x0 else x0) (λ args. done None (moves home old chosen args)) ps one gone
not_moved home old new chosen p ps one gone same edit quiet = record {
  within = edit.within;
  parts = λ s r h changed. absurd (false≢true (sym quiet ∙ changed));
  done = λ s r h. edit.done s r h ∙ ap (done None) (told_first home chosen p (first_named old r.args) same);
}

pub has_moved : (home : Package) (old new : List ℕ) (chosen : Chosen) (p : Option (List ℕ) → Bool) (at : Lists) (ps one left out : List RowPart) (places : List Place) (gone e : Edit) → is_meant p ≡ is_chosen home chosen
    → IsRowEdit (gone_from old p) (told_gone old p) ps one gone → gone.done.changed ≡ true → left ≡ replaced_at gone.place one ps
    → ((s : Statement) (r : Rule) → IsRuleRow s r ps → IsListAt old s r ps at.from) → ((s : Statement) (r : Rule) → IsRuleRow s r ps → IsTarget new s r ps at.to) → HaveArrivals home p at ps places
    → ((ss : List Segment) (s : Statement) (r : Rule) → parts_at ps places ≡ segs_parts (segs_of ss) → IsRuleRow s r left → out ≡ parts_of (with_args (put_in new ss) s))
    → e ≡ record { done = done None true; place = record { from = 0; to = length ps } } → IsRowEdit (λ x0. if moves home old chosen x0 then moved home old new chosen x0 else x0) (λ args. done None (moves home old chosen args)) ps out e
has_moved home old new chosen p at ps one left out places gone e same edit some left_is from to have put is =
    changed _ _ ps out (record { from = 0; to = length ps }) e is (omega arith, omega arith)
    (λ s r h.
    let ss : List Segment = arriving home old new chosen r in
    let go : List Segment → List Segment = gone_from old p in
    let edits : put_in new ss (go r.args) ≡ (if moves home old chosen r.args then moved home old new chosen r.args else r.args) =
    (λ i. put_in new ss (edit_first (is_named old) (filtered (left_unchosen home chosen p same i)) r.args))
    ∙ sym (ap (λ (b : Bool). if b then moved home old new chosen r.args else r.args) (tells home old chosen p s r ps one gone true same edit some h)) in
    whole ps out
    ∙ put ss (with_args go s) (rule_with go r) (arrived home old new chosen p at s r ps places same (from s r h) (to s r h) have) (row_after go s r ps left h (left_is ∙ edit.parts s r h some))
    ∙ ap parts_of (with_args_twice (put_in new ss) go s ∙ with_args_at (λ args. put_in new ss (go args)) (λ x0. if moves home old chosen x0 then moved home old new chosen x0 else x0) s r h.rule edits))
    (λ s r h. ap (done None) (sym (tells home old chosen p s r ps one gone true same edit some h)))

has_argument : (old new : List ℕ) (args : List Segment) (a : Segment) → first_named old args ≡ Some a → move_note old new args ≡ option_or (no_list_note old (Some a)) (no_list_note new (first_named new args))
has_argument old new args a first =
    ap (λ (c : Bool). option_or (if c then None else Some (NoAttribute old)) (option_or (no_list_note old (first_named old args)) (no_list_note new (first_named new args)))) (is_there old args a first)
    ∙ ap (λ (o : Option Segment). option_or (no_list_note old o) (no_list_note new (first_named new args))) first

pub no_list_to_leave : (old new : List ℕ) (s : Statement) (r : Rule) (ps : List RowPart) (b : Bool) → HasNoListPart old s r ps → done (Some (NotAList old)) false ≡ done (move_note old new r.args) b
no_list_to_leave old new s r ps b lack =
    sym (ap (λ (n : Option Note). done n b) (has_argument old new r.args lack.there.arg lack.there.first
    ∙ ap (λ (c : Bool). option_or (if c then Some (NotAList old) else None) (no_list_note new (first_named new r.args))) (ap is_empty lack.none)))

has_list : (old new : List ℕ) (s : Statement) (r : Rule) (ps : List RowPart) (from : ℕ) → IsListAt old s r ps from → move_note old new r.args ≡ no_list_note new (first_named new r.args)
has_list old new s r ps from l =
    has_argument old new r.args l.there.arg l.there.first ∙ ap (λ (c : Bool). option_or (if c then Some (NotAList old) else None) (no_list_note new (first_named new r.args))) (ap is_empty l.list.lists)

pub no_list_to_come : (old new : List ℕ) (s : Statement) (r : Rule) (ps : List RowPart) (from : ℕ) (b : Bool) → IsListAt old s r ps from → HasNoListPart new s r ps → done (Some (NotAList new)) false ≡ done (move_note old new r.args) b
no_list_to_come old new s r ps from b l lack =
    sym (ap (λ (n : Option Note). done n b) (has_list old new s r ps from l ∙ ap (no_list_note new) lack.there.first ∙ ap (λ (c : Bool). if c then Some (NotAList new) else None) (ap is_empty lack.none)))

pub no_note : (old new : List ℕ) (s : Statement) (r : Rule) (ps : List RowPart) (from : ℕ) (to : Option ℕ) → IsListAt old s r ps from → IsTarget new s r ps to → move_note old new r.args ≡ None
no_note old new s r ps from None l none = has_list old new s r ps from l ∙ ap (no_list_note new) (none_first new r.args none)
no_note old new s r ps from (Some to) l there = has_list old new s r ps from l ∙ ap (no_list_note new) there.there.first ∙ ap (λ (c : Bool). if c then Some (NotAList new) else None) (ap is_empty there.list.lists)

pub with_no_note : (home : Package) (old new : List ℕ) (chosen : Chosen) (ps out : List RowPart) (e : Edit) → ((s : Statement) (r : Rule) → IsRuleRow s r ps → move_note old new r.args ≡ None)
    → IsRowEdit (λ x0. if moves home old chosen x0 then moved home old new chosen x0 else x0) (λ args. done None (moves home old chosen args)) ps out e → IsRowEdit (move home old new chosen) (λ args. done (move_note old new args) (moves home old chosen args)) ps out e
with_no_note home old new chosen ps out e none h = record {
  within = h.within;
  parts = λ s r row c.
      h.parts s r row c
      ∙ ap parts_of (with_args_at (λ x0. if moves home old chosen x0 then moved home old new chosen x0 else x0) (move home old new chosen) s r row.rule (sym (move_is home old new chosen r.args ∙ ap (λ (n : Option Note). if is_some n then r.args else if moves home old chosen r.args then moved home old new chosen r.args else r.args) (none s r row))));
  done = λ s r row. h.done s r row ∙ sym (ap (λ (n : Option Note). done n (moves home old chosen r.args)) (none s r row));
}
