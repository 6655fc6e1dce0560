-- The packages of a script are edited by devices that a call makes and lets go: of a folder, an input and two outputs.
use Rattle.std.specs.Prelude.{◌≡◌, ℕ, true, false, List, []}
use Rattle.bz_devices.specs.Buffer.{Buffer}
use Rattle.bz_folder.specs.Files.{Event}
use Rattle.bz_folder.specs.Sequence.{SafeRun}
use Rattle.bz_script.specs.Groups.{Step}
use Rattle.bz_script.specs.declared.flags.Flags.{Flags}
use Rattle.bz_program.specs.Files.{MayHoldNothing}
use Rattle.bz_program.specs.Handled.{IsStatusOfAll}
use Rattle.bz_program.specs.Program.{MayHold, are_shown}
use Rattle.bz_program.specs.declared.console.Console.{Console}
use Rattle.bz_program.specs.declared.package.Devices.{Devices}

-- an output with nothing kept back
abbrev pub unused : {W : Type 0} → W → Buffer W
unused sink = record { sink = sink; waiting = []; failed = false; failures = 0 }

-- these devices are of a folder, an input and two outputs, and nothing was done by them yet
pub record AreNew {D S O E : Type 0} (folder : D) (input : S) (out : O) (err : E) (devices : Devices D S O E) : Type 0 where
  pub folder_is : devices.draft.folder ≡ folder
  pub input_is : devices.input ≡ input
  pub out_is : devices.console.out ≡ unused out
  pub err_is : devices.console.err ≡ unused err

-- By such devices the packages were edited, and this is the exit status. What the four hold in the end is what `safe`, `status`, `idle` and
-- `shown` of `edit_packages` say.
pub record AreEdited {D F S O E : Type 0} (did : D → List Event → D → Type 0) (leads : List ℕ → List ℕ → F → Type 0) (absent : D → List ℕ → Type 0)
    (gave : F → List (List ℕ) → F → Type 0) (failures : F → ℕ) (input_gave : S → List (List ℕ) → S → Type 0) (input_failures : S → ℕ)
    (out_took : O → List ℕ → O → Type 0) (err_took : E → List ℕ → E → Type 0)
    (flags : Flags) (script : List Step) (folder : D) (input : S) (out : O) (err : E) (whole : ℕ) : Type 0 where
  pub devices : Devices D S O E
  pub are_new : AreNew folder input out err devices
  pub devices_after : Devices D S O E
  pub safe : SafeRun did (MayHold leads gave flags.k script) devices.draft.folder devices_after.draft.folder
  pub status : IsStatusOfAll did leads absent gave failures input_gave input_failures out_took err_took flags script devices devices_after whole
  pub idle : whole ≡ 3 → SafeRun did MayHoldNothing devices.draft.folder devices_after.draft.folder
  pub shown : are_shown flags.stdout script ≡ true → did devices.draft.folder [] devices_after.draft.folder
