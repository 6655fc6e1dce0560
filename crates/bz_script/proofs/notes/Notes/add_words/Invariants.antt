use Rattle.bz_script.specs.Notes.{AreTrue}
use Rattle.bz_script.proofs.notes.Notes.add_words.Given as goal

abbrev pub invariant-loop-index : goal.invariant-loop-index
invariant-loop-index l = AreTrue l.initial.self → AreTrue l.self
