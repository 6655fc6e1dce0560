use Rattle.std.proofs.Common.{◌≡◌, ℕ, ◌<◌, ◌≤◌, List, drop, ap, sym, ◌∙◌, arith}
use Rattle.std.proofs.lemmas.List.{drop-map, drop_all, take_rest}
use Rattle.bz_tree.specs.declared.tree.Node.{Node}
use Rattle.bz_tree.specs.declared.tree.Seg.{Seg}
use Rattle.bz_tree.specs.View.{node_view, nodes_view, seg_view}
use Rattle.bz_tree.proofs.Trees.Views.{view-seg}
use Rattle.bz_attribute.specs.Rules.{value}
use Rattle.bz_attribute.proofs.marks.value_nodes.Goals as goal

value_seen : (s : Seg) (v : List Node) → v ≡ s.nodes.items → nodes_view (drop 2 v) ≡ value (seg_view s)
value_seen s v is = ap (λ (ns : List Node). nodes_view (drop 2 ns)) is ∙ sym (drop-map node_view 2 s.nodes.items) ∙ sym (ap value (view-seg s))

short : (n : ℕ) → n < 2 → n ≤ 2
short n h = omega arith

pub returns-in_default : goal.returns-in_default
returns-in_default c = ap nodes_view (sym (drop_all 2 c.as_slice.result.now (short _ c.in_default.len_below))) ∙ value_seen c.args.arg.now c.as_slice.result.now c.as_slice.ensures.value

pub returns-in-len2-up : goal.returns-in-len2-up
returns-in-len2-up c = ap nodes_view (take_rest c.as_slice.result.now 2) ∙ value_seen c.args.arg.now c.as_slice.result.now c.as_slice.ensures.value
