use Rattle.std.proofs.Common.{◌≡◌, ◌≤◌, ◌<◌, true, length, drop}
use Rattle.std.specs.List.{list_all}
use Rattle.bz_token.specs.Pieces.{is_blank}
use Rattle.bz_token.proofs.scan.trimmed_len.Given as goal

abbrev pub invariant-loop-len : goal.invariant-loop-len
invariant-loop-len l = record {
  some : 0 < l.len;
  fits : l.len ≤ length l.line;
  blank : list_all is_blank (drop l.len l.line) ≡ true;
}

abbrev pub decreases-loop-len : goal.decreases-loop-len
decreases-loop-len l = l.len
