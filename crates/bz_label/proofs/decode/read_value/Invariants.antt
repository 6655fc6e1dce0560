use Rattle.std.proofs.Common.{◌<◌, length, get_or, string_bytes}
use Rattle.bz_label.specs.Values.{value_of}
use Rattle.bz_label.specs.private.ByteSteps.{inner_of}
use Rattle.bz_label.proofs.Decoding.{Decoded}
use Rattle.bz_label.proofs.decode.read_value.Given as goal

abbrev pub invariant-loop-byte : goal.invariant-loop-byte
invariant-loop-byte l = record {
  walk : Decoded (value_of l.text) (string_bytes l.value) l.run l.left.rest.now (inner_of l.left);
  some : 0 < length l.left.quotes.now;
  ascii : get_or l.left.quotes.now 0 0 < 128;
}

abbrev pub decreases-loop-byte : goal.decreases-loop-byte
decreases-loop-byte l = length l.left.rest.now
