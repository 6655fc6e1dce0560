use Rattle.std.proofs.Common.{◌≡◌, ◌+◌, ◌≤◌, [], length, take, drop, map}
use Rattle.bz_token.specs.Places.{placed}
use Rattle.bz_token.specs.Brackets.{open_tokens}
use Rattle.bz_token.proofs.brackets.innermost.Given as goal

abbrev pub invariant-loop-i : goal.invariant-loop-i
invariant-loop-i l = record {
  fits : l.i ≤ length l.tokens;
  counted : l.closed + l.i ≤ length l.tokens;
  opened : open_tokens [] (map placed l.tokens) ≡ drop l.closed (open_tokens [] (map placed (take l.i l.tokens)));
}

abbrev pub decreases-loop-i : goal.decreases-loop-i
decreases-loop-i l = l.i
