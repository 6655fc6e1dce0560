use Rattle.std.proofs.Common.{◌≡◌, take}
use Rattle.std.specs.List.{list_any}
use Rattle.bz_rule.specs.private.PrintSteps.{is_special}
use Rattle.bz_rule.proofs.commands.print.is_special_in.Given as goal

abbrev pub invariant-loop-b : goal.invariant-loop-b
invariant-loop-b l = l.special ≡ list_any (is_special l.other) (take l.b-index l.bytes)
