-- A target marks the same after a steady command that changes nothing it looks at.
use Rattle.std.proofs.Common.{◌≡◌, ℕ, List, Bool, true, false, Option, Some, None, option_map, is_some, codes, refl, ap, sym, ◌∙◌, option_and_then}
use Rattle.std.specs.Prelude.{bytes_eq}
use Rattle.std.proofs.lemmas.Bool.{false≢true}
use Rattle.bz_tree.specs.Tree.{Segment, Statement}
use Rattle.bz_label.specs.Labels.{Package, Target, Name, Pkg, All, Kind as OfKind, Line}
use Rattle.bz_attribute.specs.Marks.{marks, marks_rule}
use Rattle.bz_attribute.specs.Rules.{Rule, is_text, name_in, rule_of, string_value, value}
use Rattle.bz_rule.specs.Commands.{Command, after, args_after}
use Rattle.bz_laws.specs.Again.{is_steady, looks_past, sets_a_kind}
use Rattle.bz_laws.specs.Unmentioned.{may_change}
use Rattle.bz_laws.proofs.OthersLeave.{named_left, not_true, same_first}
use Rattle.bz_laws.proofs.RuleArguments.{kind_kept, kind_there, there, there_after}
use Rattle.bz_token.specs.Common.{map_or}

-- what a target looks at: a name among arguments, a kind, or that there is a rule
abbrev pub by_name : List ℕ → Option (List Segment) → Bool
by_name name None = false
by_name name (Some args) = is_text name (name_in args)

abbrev pub by_kind : List ℕ → Option (List ℕ) → Bool
by_kind kind None = false
by_kind kind (Some text) = bytes_eq text kind

pub name_seen : (name : List ℕ) (start : ℕ) (o : Option Rule) → map_or false (marks_rule (Name name) start) o ≡ by_name name (there o)
name_seen name start None = refl
name_seen name start (Some r) = refl

pub package_seen : (start : ℕ) (o : Option Rule) → map_or false (marks_rule Pkg start) o ≡ by_kind (codes "package") (kind_there o)
package_seen start None = refl
package_seen start (Some r) = refl

pub kind_seen : (kind : List ℕ) (start : ℕ) (o : Option Rule) → map_or false (marks_rule (OfKind kind) start) o ≡ by_kind kind (kind_there o)
kind_seen kind start None = refl
kind_seen kind start (Some r) = refl

pub rule_seen : (start : ℕ) (o : Option Rule) → map_or false (marks_rule All start) o ≡ is_some (there o)
rule_seen start None = refl
rule_seen start (Some r) = refl

name_stays : (name : List ℕ) (c : Command) (home : Package) → may_change c (codes "name") ≡ false → (o : Option (List Segment)) → by_name name (option_map (args_after c home) o) ≡ by_name name o
name_stays name c home other None = refl
name_stays name c home other (Some args) =
    ap (λ o. is_text name (option_and_then (λ a. string_value (value a)) o)) (same_first (codes "name") (args_after c home args) args (named_left c home (codes "name") other args))

pub rule_stays : (f : List Segment → List Segment) (o : Option (List Segment)) → is_some (option_map f o) ≡ is_some o
rule_stays f None = refl
rule_stays f (Some args) = refl

-- whatever the command is, if it changes no name
pub name_marks_stay : (name : List ℕ) (c : Command) (home : Package) (s t : Statement) → may_change c (codes "name") ≡ false → after c home (Some s) ≡ Some t → marks (Name name) t ≡ marks (Name name) s
name_marks_stay name c home s t other h =
    name_seen name t.start (rule_of t.nodes) ∙ ap (by_name name) (there_after c home s t h)
    ∙ name_stays name c home other (there (rule_of s.nodes)) ∙ sym (name_seen name s.start (rule_of s.nodes))

pub marks_stay : (target : Target) (c : Command) (home : Package) (s t : Statement) → is_steady c ≡ true → looks_past target c ≡ true → after c home (Some s) ≡ Some t → marks target t ≡ marks target s
marks_stay (Name name) c home s t steady past h = name_marks_stay name c home s t (not_true (may_change c (codes "name")) past) h
marks_stay Pkg c home s t steady past h =
    package_seen t.start (rule_of t.nodes) ∙ ap (by_kind (codes "package")) (kind_kept c home s t steady (not_true (sets_a_kind c) past) h) ∙ sym (package_seen s.start (rule_of s.nodes))
marks_stay All c home s t steady past h =
    rule_seen t.start (rule_of t.nodes) ∙ ap is_some (there_after c home s t h) ∙ rule_stays (args_after c home) (there (rule_of s.nodes)) ∙ sym (rule_seen s.start (rule_of s.nodes))
marks_stay (OfKind kind) c home s t steady past h =
    kind_seen kind t.start (rule_of t.nodes) ∙ ap (by_kind kind) (kind_kept c home s t steady (not_true (sets_a_kind c) past) h) ∙ sym (kind_seen kind s.start (rule_of s.nodes))
marks_stay (Line line) c home s t steady past h = absurd (false≢true past)
