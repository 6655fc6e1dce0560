-- Standard input can be read once: for the commands, or as a BUILD file (this project's own rule).
use Rattle.std.specs.Prelude.{ℕ, Bool, false, ◌&&◌, List, Option, None, Some, bytes_eq, codes}
use Rattle.std.specs.List.{list_any}
use Rattle.std.specs.Option.{is_none}
use Rattle.bz_label.specs.Labels.{Package}

-- whether the command file is `-`, standard input
abbrev pub reads_commands : Option (List ℕ) → Bool
reads_commands None = false
reads_commands (Some file) = bytes_eq file (codes "-")

-- whether a step's package is standard input
abbrev pub edits_standard : {T : Type 0} → List (Package × T) → Bool
edits_standard script = list_any (λ step. is_none step.0) script

-- whether standard input would be read for both
abbrev pub takes_two : {T : Type 0} → Option (List ℕ) → List (Package × T) → Bool
takes_two file script = reads_commands file && edits_standard script
