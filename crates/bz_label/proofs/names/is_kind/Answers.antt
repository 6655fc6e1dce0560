use Rattle.std.proofs.Common.{rules, tests, lit<}
use Rattle.std.proofs.lemmas.Iterator.Search.{all_from_yields_List}
use Rattle.std.proofs.lemmas.Iterator.Splits.{YieldsList-from_str_split}
use Rattle.bz_label.specs.Names.{is_identifier}
use Rattle.bz_label.proofs.names.is_kind.Goals as goal

pub returns : goal.returns
unfolding is_identifier
returns c = all_from_yields_List is_identifier _ _ _ c.all.ensures.ran (YieldsList-from_str_split 46 c.args.text.now (lit< tt) c.split.ensures.text c.split.ensures.has_more c.split.ensures.pattern) (λ x b q k. search (rules, tests))
