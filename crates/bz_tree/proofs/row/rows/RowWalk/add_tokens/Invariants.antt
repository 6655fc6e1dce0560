use Rattle.std.proofs.Common.{◌≡◌, ◌≤◌, ◌++◌, IsTrue, List, length, map}
use Rattle.bz_token.specs.Places.{Placed, placed}
use Rattle.bz_tree.specs.private.RowSteps.{row_state, row_run}
use Rattle.bz_tree.proofs.Rows.RowElements.{IsAtElement}
use Rattle.bz_tree.proofs.row.rows.RowWalk.add_tokens.Given as goal

abbrev pub invariant-loop-rest : goal.invariant-loop-rest
invariant-loop-rest l = (others : List Placed) → row_run (row_state l.self) (map placed l.rest ++ others) ≡ row_run (row_state l.initial.self) (map placed l.tokens ++ others)

abbrev pub decreases-loop-rest : goal.decreases-loop-rest
decreases-loop-rest l = length l.rest

abbrev pub invariant-loop-in_list : goal.invariant-loop-in_list
invariant-loop-in_list l = record {
  run : (others : List Placed) → row_run (row_state l.self) (map placed l.rest ++ others) ≡ row_run (row_state l.initial.self) (map placed l.initial.rest ++ others);
  at : IsTrue l.in_list → IsAtElement (row_state l.self);
  shorter : length l.rest ≤ length l.initial.rest;
}

abbrev pub decreases-loop-in_list : goal.decreases-loop-in_list
decreases-loop-in_list l = length l.rest
