use Rattle.std.proofs.Common.{rules, tests, ◌≡◌}
use Rattle.std.specs.List.{list_all}
use Rattle.std.proofs.lemmas.Iterator.{YieldsList-from_slice}
use Rattle.std.proofs.lemmas.Iterator.Search.{all_from_yields_List}
use Rattle.bz_rule.proofs.commands.set.is_number.Goals as goal
use Rattle.std.specs.Char.{is_ascii_digit}

pub returns-then-first-ne48 : goal.returns-then-first-ne48
returns-then-first-ne48 c =
    let digits : c.all.result ≡ list_all is_ascii_digit c.args.word.now = all_from_yields_List is_ascii_digit _ _ c.all.result c.all.ensures.ran (YieldsList-from_slice c.args.word.now cc) (λ x b q k. search (rules, tests)) in
    search (rules, digits)
