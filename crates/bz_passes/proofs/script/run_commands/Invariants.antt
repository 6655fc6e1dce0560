use Rattle.std.proofs.Common.{◌≡◌, ◌||◌, ◌++◌, true, take, drop}
use Rattle.bz_passes.specs.Exchange.{slot_after_commands, logs_alone, logs_and, some_of_commands_alone, with_mark}
use Rattle.bz_passes.proofs.script.run_commands.Given as goal

abbrev pub invariant-loop-i : goal.invariant-loop-i
invariant-loop-i g l = record {
  slot : slot_after_commands (g.L.Language.meaning l.language) (drop l.i l.commands) (with_mark true (g.L.Language.seen l.slot))
      ≡ slot_after_commands (g.L.Language.meaning l.language) l.commands (with_mark true (g.L.Language.seen l.initial.slot));
  logs : take l.i l.logs ++ logs_and (drop l.i l.logs) (logs_alone (g.L.Language.meaning l.language) (drop l.i l.commands) (with_mark true (g.L.Language.seen l.slot)))
      ≡ logs_and l.initial.logs (logs_alone (g.L.Language.meaning l.language) l.commands (with_mark true (g.L.Language.seen l.initial.slot)));
  changed : (l.facts.changed || some_of_commands_alone (g.L.Language.meaning l.language) (g.L.Language.changes l.language) (drop l.i l.commands) (with_mark true (g.L.Language.seen l.slot)))
      ≡ (l.initial.facts.changed || some_of_commands_alone (g.L.Language.meaning l.language) (g.L.Language.changes l.language) l.commands (with_mark true (g.L.Language.seen l.initial.slot)));
  failed : (l.facts.failed || some_of_commands_alone (g.L.Language.meaning l.language) (g.L.Language.fails l.language) (drop l.i l.commands) (with_mark true (g.L.Language.seen l.slot)))
      ≡ (l.initial.facts.failed || some_of_commands_alone (g.L.Language.meaning l.language) (g.L.Language.fails l.language) l.commands (with_mark true (g.L.Language.seen l.initial.slot)));
}
