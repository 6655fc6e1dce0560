use Rattle.std.proofs.Common.{List, map}
use Rattle.bz_tree.specs.Rows.{part_view}
use Rattle.bz_tree.specs.Tree.{Segment}
use Rattle.bz_attribute.specs.Elements.{AreLists}
use Rattle.bz_rule.proofs.Adding.{IsAdding}
use Rattle.bz_rule.proofs.Known.{Knows}
use Rattle.bz_rule.proofs.commands.add.write_missing.Given as goal

abbrev pub invariant-loop-word : goal.invariant-loop-word
invariant-loop-word l = (lists : List (List Segment)) → AreLists (map part_view l.fn.parts) l.fn.list lists
    → IsAdding l.fn.env.home.now lists l.fn.values l.word-index (map part_view l.initial.written.items) (map part_view l.written.items) × Knows l.fn.env.home.now lists l.fn.values l.word-index l.labels
