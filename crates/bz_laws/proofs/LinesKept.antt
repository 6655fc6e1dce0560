-- A script leaves each statement on the lines on which it was read.
use Rattle.std.proofs.Common.{◌≡◌, List, [], ◌∷◌, ◌++◌, Bool, true, false, refl, ◌∙◌}
use Rattle.std.specs.Prelude.{Option, None, Some, if◌then◌else◌}
use Rattle.bz_tree.specs.Tree.{Statement}
use Rattle.bz_label.specs.Labels.{Package}
use Rattle.bz_passes.specs.Passes.{Slot, Marked, marked, executed}
use Rattle.bz_passes.specs.Exchange.{slot_after_commands, slot_after_pass, slot_after}
use Rattle.bz_rule.specs.Commands.{Command, after}
use Rattle.bz_laws.proofs.KeptArguments.{nothing_left}
use Rattle.bz_laws.proofs.LinesStay.{line_marks, lines_after}
use Rattle.bz_engine.specs.Language.{meaning}
use Rattle.bz_engine.specs.Outcome.{Script, left_in}
use Rattle.bz_laws.specs.Lines.{KeepsLines}
use Rattle.bz_laws.specs.Written.{left_by}
use Rattle.bz_laws.proofs.UnmentionedKept.{one_left}

command_keeps : (home : Package) (c : Command) (s : Statement) (slot : Slot Statement) → KeepsLines s slot → KeepsLines s (after c home slot)
command_keeps home c s None kept = rw (nothing_left c home) kept
command_keeps home c s (Some t) kept =
    elim (after c home (Some t)) as (λ o. after c home (Some t) ≡ o → KeepsLines s o) [
      | None ↦ λ e. tt
      | Some u ↦ λ e.
          let now = lines_after c home t u e in
          record { start = now.start ∙ kept.start; end = now.end ∙ kept.end; marked = λ line. line_marks c home t u line e ∙ kept.marked line }
    ] refl

commands_keep : (home : Package) (cs : List Command) (s : Statement) (x : Marked Statement) → KeepsLines s x.slot → KeepsLines s (slot_after_commands (meaning home) cs x).slot
commands_keep home [] s x kept = kept
commands_keep home (c ∷ cs) s x kept = commands_keep home cs s (executed (meaning home) c x) (by x.mark)
  where
    by : (b : Bool) → KeepsLines s (if b then after c home x.slot else x.slot)
    by true = command_keeps home c s x.slot kept
    by false = kept

passes_keep : (home : Package) (ps : Script) (s : Statement) (slot : Slot Statement) → KeepsLines s slot → KeepsLines s (slot_after (meaning home) ps slot)
passes_keep home [] s slot kept = kept
passes_keep home (p ∷ ps) s slot kept =
    passes_keep home ps s (slot_after_pass (meaning home) p slot) (commands_keep home p.commands s (marked (meaning home) p.target slot) kept)

pub lines_kept : (home : Package) (passes : Script) (front back : List Statement) (s : Statement)
    → (left : Option Statement) × KeepsLines s left × (left_by home passes (front ++ s ∷ back) ≡ left_by home passes front ++ (left_in (left ∷ []) ++ left_by home passes back))
lines_kept home passes front back s =
    let same : KeepsLines s (Some s) = record { start = refl; end = refl; marked = λ line. refl } in
    (slot_after (meaning home) passes (Some s), passes_keep home passes s (Some s) same, one_left home passes front back s)
