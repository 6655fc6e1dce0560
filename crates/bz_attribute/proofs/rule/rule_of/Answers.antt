use Rattle.std.proofs.Common.{◌≡◌, false, sym, ◌∙◌, arith, rules}
use Rattle.std.proofs.lemmas.Grind.{common_steps}
use Rattle.bz_tree.specs.declared.tree.Node.{the_lemmas}
use Rattle.bz_tree.specs.View.{node_view}
use Rattle.bz_attribute.proofs.Calls.{rule_last, a_rule, group_call, is_rule_call, rule_without_call, rule_without_dots}
use Rattle.bz_attribute.proofs.Views.{view_of_group}
use Rattle.bz_attribute.proofs.rule.rule_of.Goals as goal
use Rattle.bz_attribute.proofs.rule.rule_of.Goals.{in_default-last-via-in-Group+then-eq+else-are_dotted, in_default-last-via-in-Group+else-eq, in_default-last-via-in_default-last}

pub returns-in-Group : goal.returns-in-Group
returns-in-Group c =
    sym (rule_last c.args.nodes.now _ (omega arith) c.last-item.is ∙ a_rule _ _ _ (group_call _ c.in-Group.call c.in-Group.is (search rules)) (sym c.are_dotted.ensures ∙ c.if-are_dotted.true))

pub returns-in_default-last : goal.returns-in_default-last
returns-in_default-last c =
    elim c.in_default-last.branch [
      | in_default-last-via-in-Group+then-eq+else-are_dotted w ↦ sym (rule_without_dots c.args.nodes.now _ (omega arith) c.last-item.is (sym w.are_dotted.ensures ∙ w.if-are_dotted.false))
      | in_default-last-via-in-Group+else-eq w ↦
          let other : is_rule_call (node_view c.last-item.result) ≡ false = grind (arith, common_steps, view_of_group w.in-Group.call) in
          sym (rule_without_call c.args.nodes.now _ (omega arith) c.last-item.is other)
      | in_default-last-via-in_default-last w ↦
          let other : is_rule_call (node_view c.last-item.result) ≡ false = search (rules, the_lemmas) in
          sym (rule_without_call c.args.nodes.now _ (omega arith) c.last-item.is other)
    ]
