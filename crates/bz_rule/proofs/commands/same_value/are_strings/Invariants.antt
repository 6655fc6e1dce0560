use Rattle.std.proofs.Common.{◌≤◌, length, map}
use Rattle.bz_tree.specs.Rows.{part_view}
use Rattle.bz_rule.proofs.SameValues.{HasMatched}
use Rattle.bz_rule.proofs.commands.same_value.are_strings.Given as goal

abbrev pub invariant-loop-word : goal.invariant-loop-word
invariant-loop-word l = record {
  within : l.at ≤ length l.parts;
  matched : HasMatched l.words l.word-index (map part_view l.parts) l.from l.at;
}
