use Rattle.std.proofs.Common.{◌≡◌, ◌∙◌, sym, arith, rules}
use Rattle.std.specs.List.{flat_map}
use Rattle.std.proofs.lemmas.Grind.{common_steps}
use Rattle.bz_label.specs.Values.{written}
use Rattle.bz_label.proofs.Quoting.{plain_bytes}
use Rattle.bz_label.proofs.value.push_value.Goals as goal

pub loop-c-preserved : goal.loop-c-preserved
loop-c-preserved c = grind (arith, common_steps)

pub returns-then-stands_as_it_is : goal.returns-then-stands_as_it_is
returns-then-stands_as_it_is c =
    let plain : flat_map written c.args.value.now ≡ c.args.value.now =
    plain_bytes c.args.value.now (sym c.stands_as_it_is.ensures ∙ c.if-stands_as_it_is.true) in
    rw plain (search rules)
