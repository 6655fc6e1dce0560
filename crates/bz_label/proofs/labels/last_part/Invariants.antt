use Rattle.std.proofs.Common.{◌≡◌, length}
use Rattle.std.specs.Str.{IsUtf8}
use Rattle.bz_label.specs.Labels.{last_part, parts_of}
use Rattle.bz_label.proofs.labels.last_part.Given as goal

abbrev pub invariant-loop-rest : goal.invariant-loop-rest
invariant-loop-rest l = record { utf8 : IsUtf8 l.path; same : last_part (parts_of l.path) ≡ last_part (parts_of l.initial.path) }

abbrev pub decreases-loop-rest : goal.decreases-loop-rest
decreases-loop-rest l = length l.path
