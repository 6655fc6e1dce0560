-- What `edit_packages` answers over new devices is what `edit_all` answers.
use Rattle.std.proofs.Common.{◌≡◌, ℕ, true, List, [], Result, Ok, Err, IfOk, ap}
use Rattle.bz_folder.specs.Files.{Event}
use Rattle.bz_folder.specs.Sequence.{SafeRun}
use Rattle.bz_script.specs.Groups.{Step}
use Rattle.bz_script.specs.declared.flags.Flags.{Flags}
use Rattle.bz_program.specs.Disk.{unused, AreEdited}
use Rattle.bz_program.specs.Files.{MayHoldNothing}
use Rattle.bz_program.specs.Handled.{IsStatusOfAll}
use Rattle.bz_program.specs.Program.{MayHold, are_shown}
use Rattle.bz_program.specs.declared.package.Devices.{Devices}

module _ {D F S O E X : Type 0} (did : D → List Event → D → Type 0) (leads : List ℕ → List ℕ → F → Type 0) (absent : D → List ℕ → Type 0)
    (gave : F → List (List ℕ) → F → Type 0) (failures : F → ℕ) (input_gave : S → List (List ℕ) → S → Type 0) (input_failures : S → ℕ)
    (out_took : O → List ℕ → O → Type 0) (err_took : E → List ℕ → E → Type 0)
    (flags : Flags) (script : List Step) (folder : D) (input : S) (out : O) (err : E) where
  pub edited : (devices devices_after : Devices D S O E) (result : Result ℕ X)
      → (devices.draft.folder ≡ folder) → (devices.input ≡ input) → (devices.console.out ≡ unused out) → (devices.console.err ≡ unused err)
      → SafeRun did (MayHold leads gave flags.k script) devices.draft.folder devices_after.draft.folder
      → IfOk result (IsStatusOfAll did leads absent gave failures input_gave input_failures out_took err_took flags script devices devices_after)
      → (result ≡ Ok 3 → SafeRun did MayHoldNothing devices.draft.folder devices_after.draft.folder)
      → (are_shown flags.stdout script ≡ true → did devices.draft.folder [] devices_after.draft.folder)
      → IfOk result (AreEdited did leads absent gave failures input_gave input_failures out_took err_took flags script folder input out err)
  edited devices devices_after (Ok whole) folder_is input_is out_is err_is safe status idle shown = record {
    devices = devices;
    are_new = record { folder_is = folder_is; input_is = input_is; out_is = out_is; err_is = err_is };
    devices_after = devices_after;
    safe = safe;
    status = status;
    idle = λ three. idle (ap Ok three);
    shown = shown;
  }
  edited devices devices_after (Err why) folder_is input_is out_is err_is safe status idle shown = tt
