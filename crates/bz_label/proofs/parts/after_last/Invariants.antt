use Rattle.std.proofs.Common.{◌≡◌, ◌==◌, length}
use denote.Text.{Utf8}
use denote.Shadow.{shadow}
use Rattle.std.specs.List.{slice_split}
use Rattle.bz_label.specs.Labels.{last_part}
use Rattle.bz_label.proofs.parts.after_last.Given as goal

abbrev pub invariant-loop-rest : goal.invariant-loop-rest
invariant-loop-rest l = shadow (Utf8 l.end) × (last_part (slice_split (λ b. b == l.fn.at) l.fn.text) ≡ last_part (slice_split (λ b. b == l.fn.at) l.end))

abbrev pub decreases-loop-rest : goal.decreases-loop-rest
decreases-loop-rest l = length l.end
