use Rattle.std.proofs.Common.{◌≡◌, drop}
use Rattle.std.specs.Prelude.{bytes_eq}
use Rattle.bz_tree.specs.View.{nodes_view}
use Rattle.bz_attribute.specs.Rules.{kind_text}
use Rattle.bz_attribute.proofs.marks.is_kind.Given as goal

abbrev pub invariant-loop-node : goal.invariant-loop-node
invariant-loop-node l = bytes_eq (kind_text (nodes_view (drop l.node-index l.kind))) l.left ≡ bytes_eq (kind_text (nodes_view l.kind)) l.text
