use Rattle.std.proofs.Common.{◌≤◌, ◌-◌, length, map, string_bytes}
use Rattle.std.specs.Str.{IsUtf8}
use Rattle.bz_tree.specs.Rows.{part_view}
use Rattle.bz_rule.proofs.PrintedValues.{HasBegun, HasPushed}
use Rattle.bz_rule.proofs.commands.print.push_words.Given as goal

abbrev pub invariant-loop-element : goal.invariant-loop-element
invariant-loop-element l = record {
  utf8 : IsUtf8 l.space;
  within : l.at ≤ length l.parts;
  begun : HasBegun (string_bytes l.fn.text) (string_bytes l.text);
  pushed : HasPushed (map part_view l.parts) l.from l.at l.space (string_bytes l.fn.text) (string_bytes l.text);
}

abbrev pub decreases-loop-element : goal.decreases-loop-element
decreases-loop-element l = length l.parts - l.at
