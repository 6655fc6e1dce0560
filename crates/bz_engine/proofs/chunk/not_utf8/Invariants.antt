use Rattle.std.proofs.Common.{◌≡◌, ◌+◌, ◌≤◌, drop}
use Rattle.bz_token.specs.Places.{column_from}
use Rattle.bz_engine.proofs.chunk.not_utf8.Given as goal

-- the column after what was passed
abbrev pub invariant-loop-byte : goal.invariant-loop-byte
invariant-loop-byte l = record {
  col : column_from l.col (drop l.byte-index l.valid) ≡ column_from 1 l.valid;
  short : l.col ≤ 1 + l.byte-index;
}
