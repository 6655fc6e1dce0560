use Rattle.std.proofs.Common.{◌≡◌, string_bytes, ◌++◌}
use Rattle.std.specs.List.{flat_map}
use Rattle.std.specs.Str.Iter.{chars_rest}
use Rattle.bz_label.specs.Values.{written}
use Rattle.bz_label.proofs.value.push_value.Given as goal

abbrev pub invariant-loop-c : goal.invariant-loop-c
invariant-loop-c l = string_bytes l.text ++ flat_map written (chars_rest l.c-iterator) ≡ string_bytes l.initial.text ++ flat_map written l.value
