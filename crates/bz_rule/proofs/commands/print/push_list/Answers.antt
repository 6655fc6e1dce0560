use Rattle.std.proofs.Common.{rules, string_bytes, ◌∙◌}
use Rattle.bz_rule.proofs.PrintedValues.{front_back, splits_there}
use Rattle.bz_rule.proofs.commands.print.push_list.Goals as goal

pub truncate-requires : goal.truncate-requires
truncate-requires c = λ within. splits_there (string_bytes c.args.text.now) (string_bytes c.push_words.new.text) _ (search rules) c.in_ok-push_words.ensures.begun

pub returns-clause-none : goal.returns-clause-none
returns-clause-none c = λ no. c.truncate.ensures.bytes ∙ front_back (string_bytes c.args.text.now) (string_bytes c.push_words.new.text) _ (search rules) c.in_ok-push_words.ensures.begun
