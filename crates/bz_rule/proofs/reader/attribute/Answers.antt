use Rattle.std.proofs.Common.{rules}
use Rattle.bz_label.specs.Names.{is_identifier}
use Rattle.bz_rule.proofs.reader.attribute.Goals as goal

pub returns-in_err-ensure : goal.returns-in_err-ensure
unfolding is_identifier
returns-in_err-ensure c = search rules

pub returns : goal.returns
unfolding is_identifier
returns c = search rules
