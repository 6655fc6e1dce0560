use Rattle.std.proofs.Common.{◌≡◌, ◌≤◌, List, ◌∷◌, drop, map}
use Rattle.bz_token.specs.Places.{placed}
use Rattle.bz_tree.specs.Places.{Spelled}
use Rattle.bz_tree.specs.private.Steps.{run, state}
use Rattle.bz_tree.specs.private.BorrowedSteps.{state_owned}
use Rattle.bz_tree.specs.private.PlacedSteps.{AreFlat, AreSpelledFrom, state_spelling}
use Rattle.bz_tree.proofs.tree.build.State.read.Given as goal

abbrev pub invariant-loop-token : goal.invariant-loop-token
invariant-loop-token l = record {
  same : run (state l.self).0 (state l.self).1 (map placed (drop l.token-index l.tokens)) ≡ run (state l.initial.self).0 (state l.initial.self).1 (map placed l.tokens);
  borrowed : state_owned l.self ≤ state_owned l.initial.self;
  places : (now : List Spelled) → AreSpelledFrom (state_spelling l.self) (map placed (drop l.token-index l.tokens)) now → AreSpelledFrom (state_spelling l.initial.self) (map placed l.tokens) now;
  flat : AreFlat ((state l.initial.self).0 ∷ (state l.initial.self).1) → AreFlat ((state l.self).0 ∷ (state l.self).1);
}
