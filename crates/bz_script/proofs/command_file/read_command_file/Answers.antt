use Rattle.std.proofs.Common.{ℕ, List, inl, inr, refl, ap, ◌∙◌}
use Rattle.std.specs.List.{slice_split}
use Rattle.std.specs.Str.{is_utf8}
use Rattle.std.proofs.lemmas.Bool.{cases_Bool}
use Rattle.std.proofs.lemmas.Str.{IsUtf8-from_is_utf8, is_utf8-from_IsUtf8}
use Rattle.bz_script.specs.CommandFiles.{lines_steps}
use Rattle.bz_token.specs.Common.{is_newline}
use Rattle.bz_script.proofs.command_file.read_command_file.Goals as goal

pub returns-in-Ok : goal.returns-in-Ok
returns-in-Ok c enough =
    rw (is_utf8-from_IsUtf8 c.args.bytes.now c.in-Ok.ensures.1)
    (c.read_lines.ensures enough ∙ ap (λ (text : List ℕ). lines_steps 1 (slice_split is_newline text)) c.in-Ok.ensures.0)

pub returns-in-Err : goal.returns-in-Err
returns-in-Err c enough = elim (cases_Bool (is_utf8 c.args.bytes.now)) [
  | inl is ↦ absurd (c.in-Err.ensures.0 (IsUtf8-from_is_utf8 c.args.bytes.now is))
  | inr other ↦ rw other refl
]
