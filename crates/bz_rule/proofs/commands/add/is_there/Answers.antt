use Rattle.std.proofs.Common.{ℕ, Option, ap, map, subst, sym}
use Rattle.std.specs.List.{list_any}
use Rattle.bz_tree.specs.Rows.{part_view}
use Rattle.bz_attribute.specs.Elements.{AreLists}
use Rattle.bz_attribute.specs.Lists.{equals}
use Rattle.bz_attribute.proofs.ElementSearch.{sought_told}
use Rattle.bz_rule.proofs.FreshValues.{lists_sought}
use Rattle.bz_rule.proofs.commands.add.is_there.Goals as goal

pub returns-in-Some : goal.returns-in-Some
returns-in-Some c = λ lists are.
    let home = c.args.home.now in
    let word = c.args.word.now in
    lists_sought home word (map part_view c.args.parts.now) c.in-Some.from c.is_some.result
    (sought_told home word (map part_view c.args.parts.now) c.in-Some.from c.first_equal.result c.is_some.result c.is_some.ensures c.first_equal.ensures.some c.first_equal.ensures.none) lists
    (subst (λ (o : Option ℕ). AreLists (map part_view c.args.parts.now) o lists) c.in-Some.is are)

pub returns-in-None : goal.returns-in-None
returns-in-None c = λ lists are.
    ap (list_any (list_any (equals c.args.home.now c.args.word.now))) (sym (subst (λ (o : Option ℕ). AreLists (map part_view c.args.parts.now) o lists) c.in-None.is are))
