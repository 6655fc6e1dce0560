use Rattle.std.proofs.Common.{◌≡◌, length}
use Rattle.std.specs.List.{slice_split}
use Rattle.bz_script.specs.CommandFiles.{lines_steps}
use Rattle.bz_token.specs.Common.{is_newline}
use Rattle.bz_script.proofs.FileLines.{steps_at}
use Rattle.bz_script.proofs.command_file.read_lines.Given as goal

abbrev pub invariant-loop-index : goal.invariant-loop-index
invariant-loop-index l =
    steps_at (slice_split is_newline l.text) l.script.items (length l.yielded) ≡ lines_steps 1 (slice_split is_newline l.text)
