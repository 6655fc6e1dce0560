use Rattle.std.proofs.Common.{◌≡◌, length, true}
use Rattle.bz_tree.specs.View.{nodes_view}
use Rattle.bz_attribute.specs.private.RuleSteps.{dotted}
use Rattle.bz_attribute.proofs.rule.are_dotted.Given as goal

abbrev pub invariant-loop-left : goal.invariant-loop-left
invariant-loop-left l = dotted true (nodes_view l.left) ≡ dotted true (nodes_view l.kind)

abbrev pub decreases-loop-left : goal.decreases-loop-left
decreases-loop-left l = length l.left
