use Rattle.std.proofs.lemmas.Option.{IfSome_then}
use Rattle.bz_canonical.proofs.Chained.{name_primary, string_primary}
use Rattle.bz_canonical.proofs.OtherwiseValues.{name_primary_written, string_primary_written}
use Rattle.bz_canonical.proofs.value.after_word_or_string.Goals as goal

pub returns-in-34 : goal.returns-in-34
returns-in-34 c = record {
  front = IfSome_then c.after_string.result c.after_string.ensures (λ rest. string_primary c.args.text.now rest.now);
  written = IfSome_then c.after_string.result c.after_string.ensures (λ rest f. (f.token, f.front, string_primary_written c.args.text.now rest.now f));
}

pub returns-in_default : goal.returns-in_default
returns-in_default c = record {
  front = IfSome_then c.after_identifier.result c.after_identifier.ensures (λ rest. name_primary c.args.text.now rest.now);
  written = IfSome_then c.after_identifier.result c.after_identifier.ensures (λ rest f. (f.token, f.front, name_primary_written c.args.text.now rest.now f));
}
