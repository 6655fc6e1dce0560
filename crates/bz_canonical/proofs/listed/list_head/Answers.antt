use Rattle.std.proofs.Common.{◌∙◌, arith, sym}
use Rattle.bz_canonical.proofs.ListedArguments.{head_cut}
use Rattle.bz_canonical.proofs.listed.list_head.Goals as goal

pub returns : goal.returns
returns c =
    let word = c.in_ok-equals.ensures in
    head_cut c.args.lines.now c.in_ok-inner.inner.now c.in_ok-equals.equals.now c.in_ok-value.value.now c.in_ok-list.list.now word.token c.in_ok-name.name.now c.in_ok-inside.inside.now c.in_ok-end.end c.in_ok-from.from
    (sym c.as_bytes.ensures.value ∙ c.in_ok-inner.ensures) word.front c.in_ok-value.ensures c.in_ok-list.ensures word.is (omega (arith, c.in_ok-end.ensures)) c.in_ok-name.ensures (omega (arith, c.in_ok-from.ensures)) c.in_ok-inside.ensures.back
