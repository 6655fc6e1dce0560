use Rattle.std.proofs.Common.{◌≡◌, ◌+◌, None, map, string_bytes, length}
use Rattle.bz_script.specs.Flags as spec
use Rattle.bz_script.proofs.flags.read_leading.Given as goal

abbrev pub invariant-loop-word : goal.invariant-loop-word
invariant-loop-word l = record {
  counted : l.number + length l.rest ≡ length l.words;
  same : spec.leading (l.number + 1) l.flags None (map string_bytes l.rest)
      ≡ spec.leading 1 spec.no_flags None (map string_bytes l.words);
}

abbrev pub decreases-loop-word : goal.decreases-loop-word
decreases-loop-word l = length l.rest
