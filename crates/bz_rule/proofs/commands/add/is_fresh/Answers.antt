use Rattle.std.proofs.Common.{true, false, sym, ◌∙◌, refl}
use Rattle.std.specs.List.{list_any}
use Rattle.bz_label.specs.Same.{same}
use Rattle.bz_rule.proofs.FreshValues.{fresh_told}
use Rattle.bz_rule.proofs.commands.add.is_fresh.Goals as goal

pub returns-then-is_there : goal.returns-then-is_there
returns-then-is_there c = λ lists are.
    let home = c.args.home.now in
    let word = c.args.word.now in
    let earlier = c.args.earlier.now in
    fresh_told home lists earlier word true (list_any (same home word) earlier) (sym c.if-is_there.true ∙ c.is_there.ensures lists are) refl

pub returns : goal.returns
returns c = λ lists are.
    let home = c.args.home.now in
    let word = c.args.word.now in
    let earlier = c.args.earlier.now in
    fresh_told home lists earlier word false c.is_one_of.result (sym c.if-is_there.false ∙ c.is_there.ensures lists are)
    (c.is_one_of.ensures ∙ (λ j. list_any (same home (c.as_bytes.ensures.value j)) earlier))
