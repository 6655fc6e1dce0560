-- What commands tell of changes is whether some execution left something else than it found.
use Rattle.std.proofs.Common.{◌≡◌, Bool, true, false, List, refl}
use Rattle.std.specs.Prelude.{◌↔◌, IsTrue}
use Rattle.std.specs.List.{list_all}
use Rattle.bz_tree.specs.Tree.{Statement}
use Rattle.bz_label.specs.Labels.{Package, Target}
use Rattle.bz_rule.specs.Commands.{Command, is_command}
use Rattle.bz_rule.proofs.Lawfulness.{changed_tells}
use Rattle.bz_passes.specs.Passes.{Slot, Pass, Changes}
use Rattle.bz_passes.specs.Exchange.{some_execution}
use Rattle.bz_passes.proofs.Executions.{change_met}
use Rattle.bz_engine.specs.Scripts.{AreCommands}
use Rattle.bz_engine.specs.Language.{meaning}
use Rattle.bz_engine.specs.Failing.{changes}

is_so : (b : Bool) → IsTrue b → b ≡ true
is_so true h = refl
is_so false h = absurd cc

pub changes_tell : (home : Package) (ps : List (Pass Target Command)) (slots : List (Slot Statement)) → AreCommands ps
    → (some_execution (meaning home) (changes home) ps slots ≡ true) ↔ Changes (meaning home) ps slots
changes_tell home ps slots commands =
    change_met (meaning home) (changes home) is_command (λ c slot is. changed_tells c home slot is) ps slots (is_so (list_all (λ p. list_all is_command p.commands) ps) commands)
