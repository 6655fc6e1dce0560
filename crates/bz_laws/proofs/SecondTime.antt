-- A steady command finds nothing to do a second time.
use Rattle.std.proofs.Common.{◌≡◌, ◌≤◌, ◌==◌, ℕ, List, [], ◌∷◌, ◌++◌, Bool, true, false, ◌&&◌, not, if◌then◌else◌, Option, Some, None, option_map, is_some, filter, length, map, refl, ap, sym, ◌∙◌, subst, bytes_eq}
use Rattle.std.specs.List.{list_all, list_any}
use Rattle.std.proofs.lemmas.Bool.{and_parts, and_right, false≢true, or_left, or_right}
use Rattle.std.proofs.lemmas.List.Folds.{list_any-append}
use Rattle.bz_tree.specs.Tree.{Segment, Statement}
use Rattle.bz_label.specs.Labels.{Package}
use Rattle.bz_label.specs.declared.arguments.Attributes.{Attributes}
use Rattle.bz_label.specs.declared.arguments.Attributes.TheVariants.{Every, Named}
use Rattle.bz_rule.specs.declared.commands.field.Field.{Field}
use Rattle.bz_label.specs.declared.arguments.Chosen.TheVariants.{Values}
use Rattle.bz_label.specs.declared.arguments.Setting.TheVariants.{ToKind, ToValues}
use Rattle.bz_attribute.specs.Rules.{Rule, first_named, is_named, is_text, rule_of, value, kind_text}
use Rattle.bz_attribute.specs.Lists.{is_attribute, parts}
use Rattle.bz_attribute.specs.Effects.{argument, has, is_chosen, no_list_note, string}
use Rattle.bz_attribute.specs.Reports.{chooses, done, slot_done}
use Rattle.bz_rule.specs.Add.{add}
use Rattle.bz_rule.specs.Reports.{adds, removes, replaces, replaces_in, sets, sets_kind_of, prints, printed}
use Rattle.bz_rule.specs.AddByValue.{fresh, new_elements}
use Rattle.bz_engine.specs.Failing.{fails}
use Rattle.bz_rule.specs.Remove.{goes_with_all, remove}
use Rattle.bz_rule.specs.Replace.{is_replaced, replace, replaced, replaced_in}
use Rattle.bz_rule.specs.Set.{new_of, new_value, set_if_absent}
use Rattle.bz_attribute.specs.declared.done.Done.{Done}
use Rattle.bz_attribute.specs.declared.done.Note.TheVariants.{NotAList}
use Rattle.bz_label.specs.Names.{is_identifier}
use Rattle.bz_rule.specs.Print.{missing, field_text, fields_of}
use Rattle.bz_rule.specs.declared.command.Action.TheVariants.{Add, Remove, Set, SetIfAbsent, Replace, Print}
use Rattle.bz_rule.specs.Commands.{Command, after, args_after, args_done, done_of, is_command}
use Rattle.bz_laws.specs.Again.{IsOnce, IsQuiet, IsSettled, is_steady, subject}
use Rattle.bz_laws.specs.Unmentioned.{arguments_in, arguments_of}
use Rattle.bz_laws.proofs.RuleArguments.{there, there_after}
use Rattle.bz_token.specs.Common.{is_empty, map_or}
use Rattle.bz_attribute.proofs.Locals.{is_first_named}
use Rattle.bz_rule.proofs.Arguments.{attribute_named, name_put, same_bytes}
use Rattle.bz_laws.proofs.FirstNamed.{first_after}
use Rattle.bz_laws.proofs.Segments.{either_way}
use Rattle.bz_rule.proofs.Lawfulness.Replace.{lists_settled}

-- what the laws of bz_rule say of the effects of commands
pub record Known : Type 0 where
  pub added : (home : Package) (attr : List ℕ) (values : List (List ℕ)) (args : List Segment) → no_list_note attr (first_named attr args) ≡ None
      → list_all (λ v. map_or false (chooses home (Values (v ∷ []))) (first_named attr (add home attr values args))) values ≡ true
  pub set : (home : Package) (attr : List ℕ) (values : List (List ℕ)) (slot : Option Statement) → (done_of (Set (ToValues attr values)) home (after (Set (ToValues attr values)) home slot)).changed ≡ false
  pub kind : (home : Package) (kind : List ℕ) (slot : Option Statement) → (done_of (Set (ToKind kind)) home (after (Set (ToKind kind)) home slot)).changed ≡ false
  pub attribute : (home : Package) (attr : List ℕ) (args : List Segment) → has attr (remove home (Named attr) [] args) ≡ false
  pub all : (home : Package) (args : List Segment) → list_any goes_with_all (remove home Every [] args) ≡ false
  pub values : (home : Package) (attr : List ℕ) (values : List (List ℕ)) (args : List Segment) → length (filter (is_named attr) args) ≤ 1
      → map_or false (chooses home (Values values)) (first_named attr (remove home (Named attr) values args)) ≡ false
  pub everywhere : (home : Package) (values : List (List ℕ)) (args : List Segment) → list_any (λ a. is_attribute a && chooses home (Values values) a) (remove home Every values args) ≡ false
  pub replaced : (home : Package) (old new : List ℕ) (a : Segment) → is_attribute a ≡ true → parts (value (replaced_in home old new a)) ≡ map (map (replaced home old new)) (parts (value a))

quiet : (b : Bool) → b ≡ false → IsQuiet (done None b)
quiet b h = record { unchanged = h; none_fails = refl }

-- `add`

none_fresh : (home : Package) (lists : List (List Segment)) (earlier values : List (List ℕ)) → list_all (λ v. list_any (list_any (is_chosen home (Values (v ∷ [])))) lists) values ≡ true → fresh home lists earlier values ≡ []
none_fresh home lists earlier [] h = refl
none_fresh home lists earlier (v ∷ values) h =
    let both = and_parts (list_any (list_any (is_chosen home (Values (v ∷ [])))) lists) (list_all (λ w. list_any (list_any (is_chosen home (Values (w ∷ [])))) lists) values) h in
    rw both.0 (none_fresh home lists (earlier ++ v ∷ []) values both.1)

some_parts : (p : Segment → Bool) (lists : List (List Segment)) → list_any (list_any p) lists ≡ true → is_empty lists ≡ false
some_parts p [] h = absurd (false≢true h)
some_parts p (ss ∷ lists) h = refl

added_quiet : (home : Package) (attr v : List ℕ) (values : List (List ℕ)) (o : Option Segment) → list_all (λ w. map_or false (chooses home (Values (w ∷ []))) o) (v ∷ values) ≡ true → IsQuiet (done (no_list_note attr o) (adds home (v ∷ values) o))
added_quiet home attr v values None h = absurd (false≢true h)
added_quiet home attr v values (Some a) h =
    let lists = parts (value a) in
    let both = and_parts (chooses home (Values (v ∷ [])) a) (list_all (λ w. chooses home (Values (w ∷ [])) a) values) h in
    let nothing : new_elements home lists (v ∷ values) ≡ [] = ap (map string) (none_fresh home lists [] (v ∷ values) h) in
    rw (some_parts (is_chosen home (Values (v ∷ []))) lists both.0, nothing) (record { unchanged = refl; none_fails = refl })

add_again : Known → (home : Package) (attr : List ℕ) (values : List (List ℕ)) (args : List Segment) → not (length values == 0) ≡ true → fails (args_done (Add attr values) home args).note ≡ false
    → IsQuiet (args_done (Add attr values) home (args_after (Add attr values) home args))
add_again known home attr [] args some none_fails = absurd (false≢true some)
add_again known home attr (v ∷ values) args some none_fails = added_quiet home attr v values (first_named attr (add home attr (v ∷ values) args)) (known.added home attr (v ∷ values) args (no_note (first_named attr args) none_fails))
  where
    no_note : (o : Option Segment) → fails (done (no_list_note attr o) (adds home (v ∷ values) o)).note ≡ false → no_list_note attr o ≡ None
    no_note None h = refl
    no_note (Some a) h = elim (is_empty (parts (value a))) as (λ b. fails (done (if b then Some (NotAList attr) else None) (adds home (v ∷ values) (Some a))).note ≡ false → (if b then Some (NotAList attr) else None) ≡ None) [ true ↦ λ k. absurd (false≢true (sym k)) | false ↦ λ k. refl ] h

-- `remove`

remove_again : Known → (home : Package) (attrs : Attributes) (values : List (List ℕ)) (args : List Segment) → IsOnce (Some attrs) args → removes home attrs values (remove home attrs values args) ≡ false
remove_again known home Every [] args once = known.all home args
remove_again known home Every (v ∷ values) args once = known.everywhere home (v ∷ values) args
remove_again known home (Named attr) [] args once = known.attribute home attr args
remove_again known home (Named attr) (v ∷ values) args once = known.values home attr (v ∷ values) args once

-- `set_if_absent`

set_if_absent_again : (attr : List ℕ) (words : List (List ℕ)) (args : List Segment) → has attr (set_if_absent attr words args) ≡ true
set_if_absent_again attr words args =
    let x = argument attr (new_value (new_of attr words None)) in
    elim (has attr args) as (λ b. has attr args ≡ b → has attr (if b then args else args ++ x ∷ []) ≡ true)
    [ true ↦ λ e. e | false ↦ λ e. list_any-append (is_named attr) args (x ∷ []) ∙ or_right (has attr args) _ (or_left (is_named attr x) false (same_bytes attr)) ] refl

replaced_in_once : Known → (home : Package) (old new : List ℕ) (a : Segment) → is_attribute a ≡ true → replaces_in home old new (replaced_in home old new a) ≡ false
replaced_in_once known home old new a h = ap (list_any (list_any (is_replaced home old new))) (known.replaced home old new a h) ∙ lists_settled home old new (parts (value a))

replace_again : Known → (home : Package) (attrs : Attributes) (old new : List ℕ) (args : List Segment) → replaces home attrs old new (replace home attrs old new args) ≡ false
replace_again known home (Named attr) old new args =
    ap (map_or false (replaces_in home old new)) (first_after attr (replaced_in home old new) args (λ a h. ap (is_text attr) (name_put _ a (attribute_named attr a h)) ∙ h))
    ∙ elim (first_named attr args) as (λ o. first_named attr args ≡ o → map_or false (replaces_in home old new) (option_map (replaced_in home old new) o) ≡ false)
    [ None ↦ λ e. refl | Some a ↦ λ e. replaced_in_once known home old new a (attribute_named attr a (is_first_named attr args a e)) ] refl
replace_again known home Every old new [] = refl
replace_again known home Every old new (a ∷ args) =
    let rest = replace_again known home Every old new args in
    let here : (let z : Segment = if is_attribute a then replaced_in home old new a else a in is_attribute z && replaces_in home old new z) ≡ false =
    elim (is_attribute a) as (λ b. is_attribute a ≡ b → (let z : Segment = if b then replaced_in home old new a else a in is_attribute z && replaces_in home old new z) ≡ false) [
      | true ↦ λ e. and_right (is_attribute (replaced_in home old new a)) _ (replaced_in_once known home old new a e)
      | false ↦ λ e. rw e refl
    ] refl in
    rw here rest

-- `print`

missing_calm : (home : Package) (s : Statement) (r : Rule) (fields : List Field) → fails (missing home s r fields) ≡ false
missing_calm home s r [] = refl
missing_calm home s r (field ∷ fields) = either_way (λ n. fails n ≡ false) (is_some (field_text home s r field)) (missing_calm home s r fields) refl

pub print_quiet : (home : Package) (fields : List Field) (s : Statement) → IsQuiet (prints home fields (Some s))
print_quiet home fields s =
    elim (rule_of s.nodes) as (λ o. IsQuiet (map_or (done None false) (λ r. printed home s r (fields_of fields)) o)) [ None ↦ quiet false refl | Some r ↦ record { unchanged = refl; none_fails = missing_calm home s r (fields_of fields) } ]

-- on a statement

-- what is told of arguments that may be there
abbrev pub told : (List Segment → Done) → Option (List Segment) → Done
told f None = done None false
told f (Some args) = f args

pub told_there : (f : List Segment → Done) (o : Option Rule) → map_or (done None false) (λ r. f r.args) o ≡ told f (there o)
told_there f None = refl
told_there f (Some r) = refl

abbrev OnceThere : Option Attributes → Option (List Segment) → Type 0
OnceThere x None = Unit {0}
OnceThere x (Some args) = IsOnce x args

once_there : (x : Option Attributes) (o : Option Rule) → IsOnce x (arguments_in o) → OnceThere x (there o)
once_there x None h = tt
once_there x (Some r) h = h

-- where it does to a statement what it does to its arguments
on_args : (c : Command) (home : Package) (s t : Statement) → ((slot : Option Statement) → done_of c home slot ≡ slot_done (args_done c home) slot)
    → ((args : List Segment) → IsOnce (subject c) args → fails (args_done c home args).note ≡ false → IsQuiet (args_done c home (args_after c home args)))
    → IsOnce (subject c) (arguments_of s) → fails (done_of c home (Some s)).note ≡ false → after c home (Some s) ≡ Some t → IsSettled c home (Some t)
on_args c home s t tells again once none_fails h =
    let f = args_done c home in
    let told_of : (z : Statement) → done_of c home (Some z) ≡ told f (there (rule_of z.nodes)) = λ z. tells (Some z) ∙ told_there f (rule_of z.nodes) in
    let now : done_of c home (Some t) ≡ told f (option_map (args_after c home) (there (rule_of s.nodes))) = told_of t ∙ ap (told f) (there_after c home s t h) in
    subst IsQuiet (sym now) (by (there (rule_of s.nodes)) (once_there (subject c) (rule_of s.nodes) once) (ap (λ (d : Done). fails d.note) (sym (told_of s)) ∙ none_fails))
  where
    by : (o : Option (List Segment)) → OnceThere (subject c) o → fails (told (args_done c home) o).note ≡ false → IsQuiet (told (args_done c home) (option_map (args_after c home) o))
    by None once none_fails = quiet false refl
    by (Some args) once none_fails = again args once none_fails

-- no note at all
no_note : (p : List Segment → Bool) (slot : Option Statement) → fails (slot_done (λ args. done None (p args)) slot).note ≡ false
no_note p None = refl
no_note p (Some s) = elim (rule_of s.nodes) as (λ o. fails (map_or (done None false) (λ r. done None (p r.args)) o).note ≡ false) [ None ↦ refl | Some r ↦ refl ]

kind_calm : (kind : List ℕ) (slot : Option Statement) → fails (sets_kind_of kind slot).note ≡ false
kind_calm kind None = refl
kind_calm kind (Some s) = elim (rule_of s.nodes) as (λ o. fails (map_or (done None false) (λ r. done None (not (bytes_eq (kind_text r.kind) kind))) o).note ≡ false) [ None ↦ refl | Some r ↦ refl ]

pub second_time : Known → (c : Command) (home : Package) (s t : Statement) → is_command c ≡ true → is_steady c ≡ true → IsOnce (subject c) (arguments_of s) → fails (done_of c home (Some s)).note ≡ false
    → after c home (Some s) ≡ Some t → IsSettled c home (Some t)
second_time known (Add attr values) home s t read steady once none_fails h =
    on_args (Add attr values) home s t (λ slot. refl) (λ args o k. add_again known home attr values args (and_parts (is_identifier attr) (not (length values == 0)) read).1 k) once none_fails h
second_time known (Remove attrs values) home s t read steady once none_fails h =
    on_args (Remove attrs values) home s t (λ slot. refl) (λ args o k. quiet _ (remove_again known home attrs values args o)) once none_fails h
second_time known (Set (ToKind kind)) home s t read steady once none_fails h =
    record { unchanged = ap (λ slot. (sets_kind_of kind slot).changed) (sym h) ∙ known.kind home kind (Some s); none_fails = kind_calm kind (Some t) }
second_time known (Set (ToValues attr values)) home s t read steady once none_fails h =
    let c = Set (ToValues attr values) in
    record { unchanged = ap (λ slot. (done_of c home slot).changed) (sym h) ∙ known.set home attr values (Some s); none_fails = no_note (λ args. sets attr values (first_named attr args)) (Some t) }
second_time known (SetIfAbsent attr values) home s t read steady once none_fails h =
    on_args (SetIfAbsent attr values) home s t (λ slot. refl) (λ args o k. quiet _ (ap not (set_if_absent_again attr values args))) once none_fails h
second_time known (Replace attrs old new) home s t read steady once none_fails h =
    on_args (Replace attrs old new) home s t (λ slot. refl) (λ args o k. quiet _ (replace_again known home attrs old new args)) once none_fails h
second_time known (Print fields) home s t read steady once none_fails h = print_quiet home fields t
second_time known _ home s t read steady once none_fails h = absurd (false≢true steady)
