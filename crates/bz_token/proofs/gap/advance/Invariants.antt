use Rattle.std.proofs.Common.{◌≡◌, ◌+◌, ◌≤◌, ◌==◌, take, drop}
use Rattle.std.specs.Prelude.{count_by}
use Rattle.bz_token.specs.Places.{column_from}
use Rattle.bz_token.proofs.gap.advance.Given as goal

abbrev pub invariant-loop-b : goal.invariant-loop-b
invariant-loop-b l = record {
  line : l.line ≡ l.fn.place.line + count_by (λ b. b == 10) (take l.b-index l.bytes);
  col : column_from l.col (drop l.b-index l.bytes) ≡ column_from l.fn.place.col l.bytes;
  bound : l.col ≤ l.fn.place.col + l.b-index;
}
