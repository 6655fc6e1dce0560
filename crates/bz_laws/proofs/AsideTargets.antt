-- Targets and the texts of rules look at names alone: they stay where other arguments are changed.
use Rattle.std.proofs.Common.{◌≡◌, ℕ, List, ◌++◌, Option, Some, None, map, option_map, refl, ap, ◌∙◌, [], false}
use Rattle.std.specs.Prelude.{unwrap_or, ◌∷◌}
use Rattle.bz_tree.specs.Tree.{Segment, Statement}
use Rattle.bz_label.specs.Labels.{Package, Target, Name, Pkg, All, Kind as OfKind, Line}
use Rattle.bz_attribute.specs.Rules.{Rule, is_text, rule_of, name_in, kind_text}
use Rattle.bz_attribute.specs.Effects.{with_args}
use Rattle.bz_attribute.specs.Marks.{marks, marks_rule}
use Rattle.bz_attribute.specs.Texts.{home_text, shown_text}
use Rattle.bz_laws.specs.Aside.{KeepsNames}
use Rattle.bz_laws.proofs.NamesKept.{name_kept}
use Rattle.bz_token.specs.Common.{map_or}
use Rattle.bz_attribute.proofs.EditedRules.{rule_after, rule_with}

marks_rule_kept : (target : Target) (start : ℕ) (r : Rule) (g : Segment → Segment) → KeepsNames g → marks_rule target start (rule_with (map g) r) ≡ marks_rule target start r
marks_rule_kept (Name text) start r g keeps = ap (is_text text) (name_kept g keeps.names keeps.name r.args)
marks_rule_kept Pkg start r g keeps = refl
marks_rule_kept All start r g keeps = refl
marks_rule_kept (OfKind kind) start r g keeps = refl
marks_rule_kept (Line line) start r g keeps = refl

pub marks_kept : (target : Target) (s : Statement) (g : Segment → Segment) → KeepsNames g → marks target (with_args (map g) s) ≡ marks target s
marks_kept target s g keeps =
    ap (map_or false (marks_rule target s.start)) (rule_after (map g) s)
    ∙ elim (rule_of s.nodes) as (λ o. map_or false (marks_rule target s.start) (option_map (rule_with (map g)) o) ≡ map_or false (marks_rule target s.start) o) [ None ↦ refl | Some r ↦ marks_rule_kept target s.start r g keeps ]

pub shown_kept : (home : Package) (s : Statement) (g : Segment → Segment) → KeepsNames g → shown_text home (with_args (map g) s) ≡ shown_text home s
shown_kept home s g keeps =
    ap (λ x0. map_or [] (λ r. home_text home ++ unwrap_or (name_in r.args) (37 ∷ kind_text r.kind)) x0) (rule_after (map g) s)
    ∙ elim (rule_of s.nodes) as (λ o. map_or [] (λ r. home_text home ++ unwrap_or (name_in r.args) (37 ∷ kind_text r.kind)) (option_map (rule_with (map g)) o) ≡ map_or [] (λ r. home_text home ++ unwrap_or (name_in r.args) (37 ∷ kind_text r.kind)) o) [
      | None ↦ refl
      | Some r ↦ ap (λ (name : Option (List ℕ)). home_text home ++ unwrap_or name (37 ∷ kind_text r.kind)) (name_kept g keeps.names keeps.name r.args)
    ]
