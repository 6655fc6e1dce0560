use Rattle.std.proofs.Common.{List, map}
use Rattle.bz_tree.specs.Rows.{part_view}
use Rattle.bz_tree.specs.Tree.{Segment}
use Rattle.bz_attribute.specs.Elements.{AreLists}
use Rattle.bz_rule.proofs.Adding.{IsAdding}
use Rattle.bz_rule.proofs.commands.add.write_few_missing.Given as goal

abbrev pub invariant-loop-index : goal.invariant-loop-index
invariant-loop-index l = (lists : List (List Segment)) → AreLists (map part_view l.fn.parts) l.fn.list lists
    → IsAdding l.fn.env.home.now lists l.fn.values l.index (map part_view l.initial.written.items) (map part_view l.written.items)
