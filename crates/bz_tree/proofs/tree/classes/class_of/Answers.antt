use Rattle.std.proofs.Common.{arith, ◌≡◌, List, [], ◌∷◌, false, Some, cond, ap, ◌∙◌}
use Rattle.std.proofs.lemmas.Grind.{common_steps}
use Rattle.std.specs.List.{list_any, slice_get}
use Rattle.bz_tree.specs.declared.tree.Class.{Class}
use Rattle.bz_tree.specs.declared.tree.Class.TheVariants.{Load, Assign, Rule, Other, Block}
use Rattle.bz_tree.specs.declared.tree.Group.{Group as GroupValue}
use Rattle.bz_tree.specs.declared.tree.Node.{Node, Group}
use Rattle.bz_tree.specs.Tree.{Item, is_rule}
use Rattle.bz_tree.specs.View.{node_view, nodes_view}
use Rattle.bz_tree.specs.Statement.{class_of, is_assign, is_kept}
use Rattle.bz_tree.specs.Kinds.{is_load_word}
use Rattle.bz_tree.proofs.Trees.Views.{view-Group, view-group}
use Rattle.bz_tree.proofs.Trees.Walking.{view-Token}
use Rattle.bz_tree.proofs.tree.classes.class_of.Goals as goal

abbrev class_at : Item → List Item → Class
class_at x xs = cond (is_kept x) Block (cond (is_load_word x) Load (cond (list_any is_assign xs) Assign (cond (is_rule xs) Rule Other)))

first_class : (ns : List Node) (n : Node) → Some n ≡ slice_get ns 0 → class_of (nodes_view ns) ≡ class_at (node_view n) (nodes_view ns)
first_class [] n e = absurd (cc)
first_class (x ∷ xs) n e = ap (λ y. class_at (node_view y) (nodes_view (x ∷ xs))) (cc)

not_kept : (g : GroupValue) → is_kept (node_view (Group g)) ≡ false
not_kept g = ap is_kept (view-Group g ∙ view-group g)

not_load : (g : GroupValue) → is_load_word (node_view (Group g)) ≡ false
not_load g = ap is_load_word (view-Group g ∙ view-group g)

pub returns-in-Some-Token : goal.returns-in-Some-Token
returns-in-Some-Token c =
    let first = first_class c.args.nodes.now c.in-Some-Token.field-0.now c.in-Some-Token.ensures.value in
    grind (arith, common_steps, view-Token, not_kept, not_load)

pub returns-in-Some-Token-2 : goal.returns-in-Some-Token-2
returns-in-Some-Token-2 c =
    let first = first_class c.args.nodes.now c.in-Some-Token.field-0.now c.in-Some-Token.ensures.value in
    grind (arith, common_steps, view-Token, not_kept, not_load)

pub returns-in-Some : goal.returns-in-Some
returns-in-Some c =
    let first = first_class c.args.nodes.now c.in-Some.field-0.now c.in-Some.ensures.value in
    grind (arith, common_steps, view-Token, not_kept, not_load)

pub returns-in-Some-2 : goal.returns-in-Some-2
returns-in-Some-2 c =
    let first = first_class c.args.nodes.now c.in-Some.field-0.now c.in-Some.ensures.value in
    grind (arith, common_steps, view-Token, not_kept, not_load)

pub returns-in-Some-3 : goal.returns-in-Some-3
returns-in-Some-3 c =
    let first = first_class c.args.nodes.now c.in-Some.field-0.now c.in-Some.ensures.value in
    grind (arith, common_steps, view-Token, not_kept, not_load)
