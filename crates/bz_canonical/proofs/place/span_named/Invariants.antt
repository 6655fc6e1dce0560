use Rattle.std.proofs.Common.{◌≡◌, drop}
use Rattle.bz_canonical.specs.private.Places.{no_lines, span_named}
use Rattle.bz_canonical.proofs.place.span_named.Given as goal

abbrev pub invariant-loop-span : goal.invariant-loop-span
invariant-loop-span l = span_named l.name l.after (drop l.span-index l.spans) ≡ span_named l.name (no_lines 0 0) l.spans
