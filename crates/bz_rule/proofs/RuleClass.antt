-- The class of a rule with other arguments, and what stands before the brackets of one of another kind.
use Rattle.std.proofs.Common.{◌≡◌, ℕ, ◌<◌, ◌==◌, List, [], ◌∷◌, true, length, Some, refl, ap, ◌∙◌, arith}
use Rattle.std.specs.List.{slice_split}
use Rattle.bz_label.proofs.Cuts.{some_part}
use Rattle.bz_attribute.proofs.RuleParts.{rule_dotted}
use Rattle.bz_tree.specs.declared.tree.Class.TheVariants.{Rule as RuleClass}
use Rattle.bz_tree.specs.Tree.{Segment, Statement, segs_of}
use Rattle.bz_tree.specs.Statement.{class_of}
use Rattle.bz_attribute.specs.Rules.{Rule, rule_of}
use Rattle.bz_attribute.specs.private.RuleSteps.{dotted}
use Rattle.bz_rule.specs.Set.{kind_items}
use Rattle.bz_rule.specs.private.Steps.{joined_by_dots}
use Rattle.bz_attribute.specs.Effects.{with_args}
use Rattle.bz_attribute.specs.private.RuleNodes.{nodes_after}
use Rattle.bz_attribute.proofs.Headed.{class_at}

pub class_after : (f : List Segment → List Segment) (s : Statement) (r : Rule) → rule_of s.nodes ≡ Some r → class_of (with_args f s).nodes ≡ RuleClass
class_after f s r is = ap class_of (ap (nodes_after f s.nodes) is) ∙ class_at r.kind (segs_of (f r.args)) r.one_comma r.end (rule_dotted s.nodes r is)

joined_dotted : (names : List (List ℕ)) → 0 < length names → dotted true (joined_by_dots names) ≡ true
joined_dotted [] h = absurd (omega arith)
joined_dotted (name ∷ []) h = refl
joined_dotted (name ∷ other ∷ names) h = joined_dotted (other ∷ names) (omega arith)

pub kind_dotted : (kind : List ℕ) → dotted true (kind_items kind) ≡ true
kind_dotted kind = joined_dotted (slice_split (λ b. b == 46) kind) (some_part (λ b. b == 46) kind)
