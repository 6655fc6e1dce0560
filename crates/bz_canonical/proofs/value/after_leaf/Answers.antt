use Rattle.std.proofs.lemmas.Option.{IfSome_then}
use Rattle.bz_canonical.proofs.Operands.{name_value, number_value, string_value}
use Rattle.bz_canonical.proofs.OtherwiseValues.{name_written, number_written, string_written}
use Rattle.bz_canonical.proofs.value.after_leaf.Goals as goal

pub returns-in-34 : goal.returns-in-34
returns-in-34 c = record {
  front = IfSome_then c.after_string.result c.after_string.ensures (λ rest. string_value c.args.text.now rest.now);
  written = IfSome_then c.after_string.result c.after_string.ensures (λ rest f. (f.token, f.front, string_written c.args.text.now rest.now f));
}

pub returns-in-48-to-57 : goal.returns-in-48-to-57
returns-in-48-to-57 c = record {
  front = IfSome_then c.after_number.result c.after_number.ensures (λ rest. number_value c.args.text.now rest.now);
  written = IfSome_then c.after_number.result c.after_number.ensures (λ rest f. (f.token, f.front, number_written c.args.text.now rest.now f));
}

pub returns-in_default : goal.returns-in_default
returns-in_default c = record {
  front = IfSome_then c.after_identifier.result c.after_identifier.ensures (λ rest. name_value c.args.text.now rest.now);
  written = IfSome_then c.after_identifier.result c.after_identifier.ensures (λ rest f. (f.token, f.front, name_written c.args.text.now rest.now f));
}
