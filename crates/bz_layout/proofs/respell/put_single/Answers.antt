use Rattle.std.proofs.Common.{arith}
use Rattle.std.proofs.lemmas.Grind.{common_steps}
use Rattle.bz_layout.proofs.Quotes.{respell_some}
use Rattle.bz_layout.proofs.respell.put_single.Goals as goal

pub returns-in_ok-put-in-Some-2 : goal.returns-in_ok-put-in-Some-2
returns-in_ok-put-in-Some-2 g c =
    let some = c.in-Some.ensures.some in
    let e = respell_some c.args.text.now c.in-Some.inner.now some.0 some.1 in
    record { put = grind (arith, common_steps, e); begun = grind (arith, common_steps) }

pub returns-in_err-put-in-Some : goal.returns-in_err-put-in-Some
returns-in_err-put-in-Some g c = grind (arith, common_steps)

pub returns-in_err-put-in-Some-2 : goal.returns-in_err-put-in-Some-2
returns-in_err-put-in-Some-2 g c = grind (arith, common_steps)
