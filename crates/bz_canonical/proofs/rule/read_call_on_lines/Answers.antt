use Rattle.std.proofs.Common.{arith}
use Rattle.bz_canonical.proofs.RuleCalls.{lines_named_front}
use Rattle.bz_canonical.proofs.rule.read_call_on_lines.Goals as goal

pub returns : goal.returns
returns c =
    let others = c.in_ok-others.others in
    let read = c.in_ok-others.ensures in
    lines_named_front c.args.depth c.args.text.now c.in_ok-inside.inside.now c.after_comments-above.result.rest.now c.in_ok-first.first.now c.in_ok-value.value.now c.in_ok-name.name.rest.now c.in_ok-comma.comma.now
    c.in_ok-side.side.rest.now read.0 others.rest.now c.in_ok-end.end.now c.in_ok-rest.rest.now c.in_ok-name.name.inner.now others.count others.holds others.noted c.after_comments-above.result.some c.in_ok-side.side.some others.ended
    c.requires.0 c.in_ok-inside.ensures c.after_comments-above.ensures c.in_ok-first.ensures c.in_ok-value.ensures c.in_ok-name.ensures c.in_ok-comma.ensures c.in_ok-side.ensures read.1 read.2
    (omega (arith, c.if-others-eq0.false)) c.in_ok-end.ensures c.in_ok-rest.ensures
