use Rattle.std.proofs.Common.{length}
use Rattle.bz_script.specs.Notes.{AreTrue}
use Rattle.bz_script.proofs.notes.Notes.add_flags.Given as goal

abbrev pub invariant-loop-word : goal.invariant-loop-word
invariant-loop-word l = AreTrue l.initial.self → AreTrue l.self

abbrev pub decreases-loop-word : goal.decreases-loop-word
decreases-loop-word l = length l.rest
