-- A steady command leaves what another one, on something else, has done.
use Rattle.std.proofs.Common.{◌≡◌, ◌≤◌, ℕ, List, [], ◌∷◌, Bool, true, false, ◌&&◌, not, Option, Some, None, is_some, option_map, filter, length, refl, ap, sym, ◌∙◌, subst, arith}
use Rattle.std.specs.Prelude.{bytes_eq}
use Rattle.std.proofs.lemmas.Bool.{and_parts, false≢true}
use Rattle.std.proofs.lemmas.Slice.Eq.{bytes_eq-Decides}
use Rattle.bz_tree.specs.Tree.{Segment, Statement}
use Rattle.bz_label.specs.Labels.{Package}
use Rattle.bz_label.specs.declared.arguments.Attributes.{Attributes}
use Rattle.bz_label.specs.declared.arguments.Attributes.TheVariants.{Every, Named}
use Rattle.bz_label.specs.declared.arguments.Chosen.TheVariants.{Values}
use Rattle.bz_label.specs.declared.arguments.Setting.TheVariants.{ToKind, ToValues}
use Rattle.bz_attribute.specs.Rules.{Rule, first_named, is_named, is_text, kind_text, name_of, rule_of}
use Rattle.bz_attribute.specs.Effects.{has, no_list_note}
use Rattle.bz_attribute.specs.Reports.{done, slot_done, chooses}
use Rattle.bz_rule.specs.Reports.{adds, sets, sets_kind_of, replaces_in}
use Rattle.bz_attribute.specs.declared.done.Done.{Done}
use Rattle.bz_rule.specs.declared.command.Action.TheVariants.{Add, Remove, Set, SetIfAbsent, Delete, Replace, Comment, Print}
use Rattle.bz_rule.specs.Commands.{Command, after, args_after, args_done, done_of}
use Rattle.bz_laws.specs.Again.{HasOnce, IsOnce, IsQuiet, IsSettled, are_apart, are_others, is_steady, sets_a_kind, subject}
use Rattle.bz_laws.specs.Unmentioned.{arguments_in, arguments_of, is_unmentioned, may_change, may_change_named}
use Rattle.bz_laws.proofs.FirstNamed.{first_of_named}
use Rattle.bz_laws.proofs.Commands.{keeping}
use Rattle.bz_laws.proofs.KeptArguments.{narrower}
use Rattle.bz_laws.proofs.RuleArguments.{kind_kept, kind_there, there, there_after}
use Rattle.bz_laws.proofs.SecondTime.{print_quiet, told, told_there}
use Rattle.bz_token.specs.Common.{map_or}
use Rattle.bz_attribute.proofs.Locals.{has_first}

-- Of two lists of arguments, those that some attributes are of: all, or those of a name.
abbrev Alike : Option Attributes → List Segment → List Segment → Type 0
Alike None xs ys = Unit {0}
Alike (Some (Named attr)) xs ys = filter (is_named attr) xs ≡ filter (is_named attr) ys
Alike (Some Every) xs ys = xs ≡ ys

named_stays : (d : Command) (attr : List ℕ) → may_change d attr ≡ false → (a : Segment) → is_named attr a ≡ true → is_unmentioned d a ≡ true
named_stays d attr other a h =
    elim (name_of a.nodes) as (λ n. is_text attr n ≡ true → not (may_change_named d n) ≡ true) [
      | None ↦ λ k. absurd cc
      | Some name ↦ λ k. ap (λ (n : List ℕ). not (may_change d n)) (sym ((bytes_eq-Decides attr name).0 k)) ∙ ap not other
    ] h

-- the arguments of an attribute that a command does not mention
pub named_left : (d : Command) (home : Package) (attr : List ℕ) → may_change d attr ≡ false → (args : List Segment) → filter (is_named attr) (args_after d home args) ≡ filter (is_named attr) args
named_left d home attr other args =
    let wider = named_stays d attr other in
    sym (narrower (is_unmentioned d) (is_named attr) wider (args_after d home args)) ∙ ap (filter (is_named attr)) ((keeping d home).left args) ∙ narrower (is_unmentioned d) (is_named attr) wider args

pub not_true : (b : Bool) → not b ≡ true → b ≡ false
not_true true h = absurd (false≢true h)
not_true false h = refl

-- a command on one attribute
one_other : (d : Command) (home : Package) (b : List ℕ) → subject d ≡ Some (Named b) → ((name : List ℕ) → may_change d name ≡ bytes_eq b name) → (x : Option Attributes) → are_others x (subject d) ≡ true
    → (args : List Segment) → Alike x (args_after d home args) args
one_other d home b is mentions None h args = tt
one_other d home b is mentions (Some Every) h args = absurd (false≢true (ap (are_others (Some Every)) (sym is) ∙ h))
one_other d home b is mentions (Some (Named a)) h args =
    named_left d home a (mentions a ∙ not_true (bytes_eq b a) (ap (are_others (Some (Named a))) (sym is) ∙ h)) args

-- a command that changes no argument
no_change : (x : Option Attributes) (args : List Segment) → Alike x args args
no_change None args = tt
no_change (Some Every) args = refl
no_change (Some (Named a)) args = refl

-- a command on all attributes
no_others : (x : Option Attributes) → are_others x (Some Every) ≡ true → (args new : List Segment) → Alike x new args
no_others None h args new = tt
no_others (Some Every) h args new = absurd (false≢true h)
no_others (Some (Named a)) h args new = absurd (false≢true h)

others_left : (x : Option Attributes) (d : Command) (home : Package) → is_steady d ≡ true → are_others x (subject d) ≡ true → (args : List Segment) → Alike x (args_after d home args) args
others_left x (Add b values) home steady h args = one_other (Add b values) home b refl (λ name. refl) x h args
others_left x (Remove Every values) home steady h args = no_others x h args (args_after (Remove Every values) home args)
others_left x (Remove (Named b) values) home steady h args = one_other (Remove (Named b) values) home b refl (λ name. refl) x h args
others_left x (Set (ToKind kind)) home steady h args = no_change x args
others_left x (Set (ToValues b values)) home steady h args = one_other (Set (ToValues b values)) home b refl (λ name. refl) x h args
others_left x (SetIfAbsent b values) home steady h args = one_other (SetIfAbsent b values) home b refl (λ name. refl) x h args
others_left x (Replace Every old new) home steady h args = no_others x h args (args_after (Replace Every old new) home args)
others_left x (Replace (Named b) old new) home steady h args = one_other (Replace (Named b) old new) home b refl (λ name. refl) x h args
others_left x (Print fields) home steady h args = no_change x args
others_left x _ home steady h args = absurd (false≢true steady)

pub same_first : (attr : List ℕ) (xs ys : List Segment) → filter (is_named attr) xs ≡ filter (is_named attr) ys → first_named attr xs ≡ first_named attr ys
same_first attr xs ys h = sym (first_of_named attr xs) ∙ ap (first_named attr) h ∙ first_of_named attr ys

same_has : (attr : List ℕ) (xs ys : List Segment) → filter (is_named attr) xs ≡ filter (is_named attr) ys → has attr xs ≡ has attr ys
same_has attr xs ys h = has_first attr xs ∙ ap is_some (same_first attr xs ys h) ∙ sym (has_first attr ys)

-- what a steady command tells of arguments rests on those of its attribute
looks : (c : Command) (home : Package) (xs ys : List Segment) → is_steady c ≡ true → Alike (subject c) xs ys → args_done c home xs ≡ args_done c home ys
looks (Add attr values) home xs ys steady h = ap (λ o. done (no_list_note attr o) (adds home values o)) (same_first attr xs ys h)
looks (Remove Every values) home xs ys steady h = ap (args_done (Remove Every values) home) h
looks (Remove (Named attr) []) home xs ys steady h = ap (done None) (same_has attr xs ys h)
looks (Remove (Named attr) (v ∷ values)) home xs ys steady h = ap (λ o. done None (map_or false (chooses home (Values (v ∷ values))) o)) (same_first attr xs ys h)
looks (Set (ToKind kind)) home xs ys steady h = refl
looks (Set (ToValues attr values)) home xs ys steady h = ap (λ o. done None (sets attr values o)) (same_first attr xs ys h)
looks (SetIfAbsent attr values) home xs ys steady h = ap (λ b. done None (not b)) (same_has attr xs ys h)
looks (Replace Every old new) home xs ys steady h = ap (args_done (Replace Every old new) home) h
looks (Replace (Named attr) old new) home xs ys steady h = ap (λ o. done None (map_or false (replaces_in home old new) o)) (same_first attr xs ys h)
looks (Print fields) home xs ys steady h = refl
looks _ home xs ys steady h = absurd (false≢true steady)

-- on a statement

on_args : (c d : Command) (home : Package) (s t : Statement) → ((slot : Option Statement) → done_of c home slot ≡ slot_done (args_done c home) slot) → is_steady c ≡ true → is_steady d ≡ true → are_others (subject c) (subject d) ≡ true
    → after d home (Some s) ≡ Some t → done_of c home (Some t) ≡ done_of c home (Some s)
on_args c d home s t tells steady steady_other other h =
    let f = args_done c home in
    let told_of : (z : Statement) → done_of c home (Some z) ≡ told f (there (rule_of z.nodes)) = λ z. tells (Some z) ∙ told_there f (rule_of z.nodes) in
    told_of t ∙ ap (told f) (there_after d home s t h) ∙ by (there (rule_of s.nodes)) ∙ sym (told_of s)
  where
    by : (o : Option (List Segment)) → told (args_done c home) (option_map (args_after d home) o) ≡ told (args_done c home) o
    by None = refl
    by (Some args) = looks c home (args_after d home args) args steady (others_left (subject c) d home steady_other other args)

-- a kind that no other command sets
abbrev pub kind_told : List ℕ → Option (List ℕ) → Done
kind_told kind None = done None false
kind_told kind (Some text) = done None (not (bytes_eq text kind))

kind_seen : (kind : List ℕ) (o : Option Rule) → (map_or (done None false) (λ r. done None (not (bytes_eq (kind_text r.kind) kind))) o) ≡ kind_told kind (option_map (λ (r : Rule). kind_text r.kind) o)
kind_seen kind None = refl
kind_seen kind (Some r) = refl

pub kind_told_of : (kind : List ℕ) (s : Statement) → sets_kind_of kind (Some s) ≡ kind_told kind (kind_there (rule_of s.nodes))
kind_told_of kind s = kind_seen kind (rule_of s.nodes)

kind_stays : (kind : List ℕ) (d : Command) (home : Package) (s t : Statement) → is_steady d ≡ true → sets_a_kind d ≡ false → after d home (Some s) ≡ Some t → sets_kind_of kind (Some t) ≡ sets_kind_of kind (Some s)
kind_stays kind d home s t steady other h =
    kind_seen kind (rule_of t.nodes) ∙ ap (kind_told kind) (kind_kept d home s t steady other h) ∙ sym (kind_seen kind (rule_of s.nodes))

pub settled_stays : (c d : Command) (home : Package) (s t : Statement) → is_steady c ≡ true → is_steady d ≡ true → are_apart c d ≡ true → after d home (Some s) ≡ Some t → IsSettled c home (Some s) → IsSettled c home (Some t)
settled_stays c d home s t steady steady_other apart h settled = by c steady (and_parts (are_others (subject c) (subject d)) (not (sets_a_kind c && sets_a_kind d)) apart) settled
  where
    by : (e : Command) → is_steady e ≡ true → (are_others (subject e) (subject d) ≡ true) × (not (sets_a_kind e && sets_a_kind d) ≡ true) → IsSettled e home (Some s) → IsSettled e home (Some t)
    by (Set (ToKind kind)) k both q = subst IsQuiet (sym (kind_stays kind d home s t steady_other (not_true (sets_a_kind d) both.1) h)) q
    by Delete k both q = absurd (false≢true k)
    by (Comment place text) k both q = absurd (false≢true k)
    by (Print fields) k both q = print_quiet home fields t
    by e k both q = subst IsQuiet (sym (on_args e d home s t (λ slot. refl) k steady_other both.0 h)) q

-- and the arguments of its attribute
once_alike : (x : Option Attributes) (xs ys : List Segment) → Alike x xs ys → IsOnce x ys → IsOnce x xs
once_alike None xs ys h once = tt
once_alike (Some Every) xs ys h once = tt
once_alike (Some (Named attr)) xs ys h once = subst (λ (zs : List Segment). length zs ≤ 1) (sym h) once

abbrev OnceThere : Option Attributes → Option (List Segment) → Type 0
OnceThere x None = Unit {0}
OnceThere x (Some args) = IsOnce x args

once_in : (x : Option Attributes) (o : Option Rule) → OnceThere x (there o) → IsOnce x (arguments_in o)
once_in None o h = tt
once_in (Some Every) o h = tt
once_in (Some (Named attr)) None h = none_once attr
  where
    none_once : (attr : List ℕ) → HasOnce [] attr
    none_once attr = omega arith
once_in (Some (Named attr)) (Some r) h = h

once_there : (x : Option Attributes) (o : Option Rule) → IsOnce x (arguments_in o) → OnceThere x (there o)
once_there x None h = tt
once_there x (Some r) h = h

pub once_stays : (c d : Command) (home : Package) (s t : Statement) → is_steady d ≡ true → are_apart c d ≡ true → after d home (Some s) ≡ Some t → IsOnce (subject c) (arguments_of s) → IsOnce (subject c) (arguments_of t)
once_stays c d home s t steady apart h once =
    let other = (and_parts (are_others (subject c) (subject d)) (not (sets_a_kind c && sets_a_kind d)) apart).0 in
    once_in (subject c) (rule_of t.nodes) (subst (OnceThere (subject c)) (sym (there_after d home s t h)) (by other (there (rule_of s.nodes)) (once_there (subject c) (rule_of s.nodes) once)))
  where
    by : are_others (subject c) (subject d) ≡ true → (o : Option (List Segment)) → OnceThere (subject c) o → OnceThere (subject c) (option_map (args_after d home) o)
    by other None k = tt
    by other (Some args) k = once_alike (subject c) (args_after d home args) args (others_left (subject c) d home steady other args) k
