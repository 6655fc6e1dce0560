use Rattle.std.proofs.Common.{◌-◌, arith}
use Rattle.bz_canonical.proofs.StringLists.{empty_list, single_list}
use Rattle.bz_canonical.proofs.value.after_short_list.Goals as goal

pub returns-in-Some : goal.returns-in-Some
returns-in-Some c = λ level.
    empty_list level (c.args.depth - 1) c.args.depth c.args.text.now c.in_ok-inside.inside.now c.in-Some.rest.now
    (omega (arith, c.if-depth-eq0.false)) c.in_ok-inside.ensures c.in-Some.ensures

pub returns-in_ok-rest-in-None : goal.returns-in_ok-rest-in-None
returns-in_ok-rest-in-None c = λ level.
    single_list level (c.args.depth - 1) c.args.depth c.args.text.now c.in_ok-inside.inside.now c.in_ok-string-in-None.ensures.0 c.in_ok-string-in-None.string.now c.in_ok-rest-in-None.rest.now
    (omega (arith, c.if-depth-eq0.false)) c.in_ok-inside.ensures c.in_ok-string-in-None.ensures.1 c.in_ok-rest-in-None.ensures
