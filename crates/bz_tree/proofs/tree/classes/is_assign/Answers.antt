use Rattle.std.proofs.Common.{ap, sym, ◌∙◌}
use Rattle.bz_tree.specs.View.{text_of, node_view}
use Rattle.bz_tree.specs.private.Machine.{kind_role}
use Rattle.bz_tree.specs.private.Productions.{is_assignment}
use Rattle.bz_tree.specs.Statement.{is_assign}
use Rattle.bz_tree.proofs.Rows.RowClass.{leaf_assigns}
use Rattle.bz_tree.proofs.Trees.Walking.{view-Token}
use Rattle.bz_tree.proofs.tree.classes.is_assign.Goals as goal

pub returns-in-Token : goal.returns-in-Token
returns-in-Token c =
    c.is_assignment.ensures ∙ ap is_assignment (c.token_role.ensures ∙ ap (kind_role c.in-Token.leaf.kind) c.as_str.ensures.value) ∙ leaf_assigns c.in-Token.leaf.kind (text_of c.in-Token.leaf.text)
    ∙ ap is_assign (sym (view-Token c.in-Token.leaf)) ∙ ap (λ n. is_assign (node_view n)) (sym c.in-Token.is)
