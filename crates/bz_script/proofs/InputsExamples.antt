-- Command files and scripts that would read standard input twice, and some that would not. The passes are numbers here.
use Rattle.std.proofs.Common.{◌≡◌, ℕ, [], ◌∷◌, None, Some, true, false, codes, refl}
use Rattle.bz_script.specs.Inputs.{takes_two}

commands_and_text : takes_two {T = ℕ} (Some (codes "-")) ((Some (codes "p"), 1) ∷ (None, 2) ∷ []) ≡ true
commands_and_text = refl

commands_alone : takes_two {T = ℕ} (Some (codes "-")) ((Some (codes "p"), 1) ∷ []) ≡ false
commands_alone = refl

text_alone : takes_two {T = ℕ} (Some (codes "edits")) ((None, 1) ∷ []) ≡ false
text_alone = refl

no_command_file : takes_two {T = ℕ} None ((None, 1) ∷ []) ≡ false
no_command_file = refl

no_script : takes_two {T = ℕ} (Some (codes "-")) [] ≡ false
no_script = refl
