use Rattle.std.proofs.Common.{◌≡◌, ◌≤◌, ◌-◌, ◌||◌, ◌++◌, take, drop, length}
use Rattle.bz_passes.specs.Exchange.{slot_after, kept_alone, kept_and, Fits, some_alone}
use Rattle.bz_passes.proofs.script.run_script.Given as goal

abbrev pub invariant-loop-i : goal.invariant-loop-i
invariant-loop-i g l = record {
  within : l.at ≤ length l.passes;
  size : length l.kept ≡ length l.passes;
  fits : Fits (drop l.at l.kept) (drop l.at l.passes);
  slot : slot_after (g.L.Language.meaning l.language) (drop l.at l.passes) (g.L.Language.seen l.slot) ≡ slot_after (g.L.Language.meaning l.language) l.passes (g.L.Language.seen l.initial.slot);
  kept : take l.at l.kept ++ kept_and (drop l.at l.kept) (kept_alone (g.L.Language.meaning l.language) (drop l.at l.passes) (g.L.Language.seen l.slot))
      ≡ kept_and l.initial.kept (kept_alone (g.L.Language.meaning l.language) l.passes (g.L.Language.seen l.initial.slot));
  changed : (l.facts.changed || some_alone (g.L.Language.meaning l.language) (g.L.Language.changes l.language) (drop l.at l.passes) (g.L.Language.seen l.slot))
      ≡ (l.initial.facts.changed || some_alone (g.L.Language.meaning l.language) (g.L.Language.changes l.language) l.passes (g.L.Language.seen l.initial.slot));
  failed : (l.facts.failed || some_alone (g.L.Language.meaning l.language) (g.L.Language.fails l.language) (drop l.at l.passes) (g.L.Language.seen l.slot))
      ≡ (l.initial.facts.failed || some_alone (g.L.Language.meaning l.language) (g.L.Language.fails l.language) l.passes (g.L.Language.seen l.initial.slot));
}

abbrev pub decreases-loop-i : goal.decreases-loop-i
decreases-loop-i g l = length l.passes - l.at
