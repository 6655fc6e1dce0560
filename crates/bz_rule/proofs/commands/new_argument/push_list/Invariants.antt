use Rattle.std.proofs.Common.{◌≡◌, ◌++◌, drop, map}
use Rattle.bz_tree.specs.Tree.{segs_of}
use Rattle.bz_tree.specs.Rows.{part_view, segs_parts}
use Rattle.bz_attribute.specs.Effects.{string}
use Rattle.bz_rule.proofs.commands.new_argument.push_list.Given as goal

abbrev pub invariant-loop-word : goal.invariant-loop-word
invariant-loop-word l = map part_view l.new.items ++ segs_parts (segs_of (map string (drop l.word-index l.words))) ≡ map part_view l.initial.new.items ++ segs_parts (segs_of (map string l.words))
