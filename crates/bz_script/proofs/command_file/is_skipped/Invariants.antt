use Rattle.std.proofs.Common.{◌≡◌, drop}
use Rattle.std.specs.Prelude.{not}
use Rattle.std.specs.List.{find}
use Rattle.bz_script.specs.CommandFiles.{is_blank}
use Rattle.bz_script.proofs.command_file.is_skipped.Given as goal

abbrev pub invariant-loop-byte : goal.invariant-loop-byte
invariant-loop-byte l = find (λ b. not (is_blank b)) (drop l.byte-index l.line) ≡ find (λ b. not (is_blank b)) l.line
