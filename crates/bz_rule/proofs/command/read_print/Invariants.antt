use Rattle.std.proofs.Common.{◌≡◌, map, true}
use Rattle.std.specs.List.{list_all}
use Rattle.bz_rule.specs.Print.{is_field, field_of}
use Rattle.bz_rule.proofs.command.read_print.Given as goal

abbrev pub invariant-loop-word : goal.invariant-loop-word
invariant-loop-word l = record {
  fields : l.fields.items ≡ map field_of l.yielded;
  are : list_all is_field l.yielded ≡ true;
}
