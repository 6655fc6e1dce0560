-- No command changes the lines of a statement.
use Rattle.std.proofs.Common.{◌≡◌, ◌==◌, ◌&&◌, ℕ, List, Bool, true, false, Option, Some, None, if◌then◌else◌, is_some, refl, ap, sym, ◌∙◌}
use Rattle.bz_token.specs.Common.{map_or}
use Rattle.bz_tree.specs.Tree.{Segment, Statement}
use Rattle.bz_label.specs.Labels.{Package, Line}
use Rattle.bz_label.specs.declared.arguments.Commented.TheVariants.{Rule as OfRule}
use Rattle.bz_label.specs.declared.arguments.Setting.TheVariants.{ToKind}
use Rattle.bz_attribute.specs.Effects.{with_args}
use Rattle.bz_attribute.specs.Marks.{marks, marks_rule}
use Rattle.bz_attribute.specs.Rules.{Rule, rule_of}
use Rattle.bz_rule.specs.Comment.{comment_rule}
use Rattle.bz_rule.specs.Set.{with_kind}
use Rattle.bz_rule.specs.declared.command.Action.TheVariants.{Set, Delete, Comment, Print}
use Rattle.bz_rule.specs.Commands.{Command, after, args_after}
use Rattle.bz_laws.proofs.MarksStay.{rule_stays}
use Rattle.bz_laws.proofs.RuleArguments.{there, there_after}

-- the two are on the same lines
pub record AreOnSameLines (s t : Statement) : Type 0 where
  pub start : t.start ≡ s.start
  pub end : t.end ≡ s.end

same_lines : (s t u : Statement) → AreOnSameLines s u → u ≡ t → AreOnSameLines s t
same_lines s t u on is = record { start = ap (λ (z : Statement). z.start) (sym is) ∙ on.start; end = ap (λ (z : Statement). z.end) (sym is) ∙ on.end }

edited : (f : List Segment → List Segment) (s t : Statement) → Some (with_args f s) ≡ Some t → AreOnSameLines s t
edited f s t h = let is : with_args f s ≡ t = cc in same_lines s t (with_args f s) (record { start = refl; end = refl }) is

left_alone : (s t : Statement) (b : Bool) → (if b then None else Some s) ≡ Some t → AreOnSameLines s t
left_alone s t true h = absurd cc
left_alone s t false h = let is : s ≡ t = cc in same_lines s t s (record { start = refl; end = refl }) is

pub lines_after : (c : Command) (home : Package) (s t : Statement) → after c home (Some s) ≡ Some t → AreOnSameLines s t
lines_after (Set (ToKind kind)) home s t h = let is : with_kind kind s ≡ t = cc in same_lines s t (with_kind kind s) (record { start = refl; end = refl }) is
lines_after Delete home s t h = left_alone s t (is_some (rule_of s.nodes)) h
lines_after (Comment OfRule text) home s t h = let is : comment_rule text s ≡ t = cc in same_lines s t (comment_rule text s) (record { start = refl; end = refl }) is
lines_after (Print fields) home s t h = left_alone s t false h
lines_after c home s t h = edited (args_after c home) s t h

-- a line marks a rule that begins there
line_seen : (line start : ℕ) (o : Option Rule) → map_or false (marks_rule (Line line) start) o ≡ (is_some (there o) && start == line)
line_seen line start None = refl
line_seen line start (Some r) = refl

pub line_marks : (c : Command) (home : Package) (s t : Statement) (line : ℕ) → after c home (Some s) ≡ Some t → marks (Line line) t ≡ marks (Line line) s
line_marks c home s t line h =
    line_seen line t.start (rule_of t.nodes)
    ∙ ap (λ b. b && t.start == line) (ap is_some (there_after c home s t h) ∙ rule_stays (args_after c home) (there (rule_of s.nodes)))
    ∙ ap (λ start. is_some (there (rule_of s.nodes)) && start == line) (lines_after c home s t h).start
    ∙ sym (line_seen line s.start (rule_of s.nodes))
