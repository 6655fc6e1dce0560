use Rattle.std.proofs.Common.{◌≡◌, ℕ, List, [], ◌∷◌, length, refl, ap, sym, ◌∙◌, arith}
use Rattle.std.specs.Bool.{◌==◌}
use Rattle.std.specs.Prelude.{bytes_eq}
use Rattle.std.proofs.lemmas.Bool.Decides.{nat_tests}
use Rattle.std.proofs.lemmas.List.{drop_all}
use Rattle.bz_tree.specs.declared.tree.Node.{Node}
use Rattle.bz_tree.specs.View.{nodes_view}
use Rattle.bz_attribute.specs.Rules.{kind_text}
use Rattle.bz_attribute.proofs.marks.is_kind.Goals as goal

none_left : (left : List ℕ) → (length left == 0) ≡ bytes_eq [] left
none_left [] = refl
none_left (b ∷ left) = grind (arith, nat_tests)

pub loop-node-init : goal.loop-node-init
loop-node-init c = ap (bytes_eq (kind_text (nodes_view c.args.kind.now))) c.as_bytes-left.ensures.value

pub returns : goal.returns
returns c =
    let left = c.loop-node.left.now in
    c.is_empty.ensures
    ∙ none_left left
    ∙ sym (ap (λ (ns : List Node). bytes_eq (kind_text (nodes_view ns)) left) (drop_all c.loop-node.node-index c.args.kind.now c.loop-node-test.false))
    ∙ c.loop-node.invariant
