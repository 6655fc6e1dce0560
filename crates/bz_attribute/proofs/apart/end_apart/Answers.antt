use Rattle.std.proofs.Common.{sym, ◌∙◌, arith, rules}
use Rattle.bz_attribute.proofs.EndsApart.{apart_before, apart_here}
use Rattle.bz_attribute.proofs.apart.end_apart.Goals as goal

pub returns-then-byte-other : goal.returns-then-byte-other
returns-then-byte-other c is = c.loop-inner.invariant
    (apart_here c.args.quote c.loop-inner.inner.now c.loop-inner.word.now _ (search rules) (search rules) (omega (arith, c.in-len1-up.len_at_least)) c.if-before-eq92.false c.if-other-eq47.false (sym c.stays_last.ensures ∙ c.if-not-stays_last.false) c.if-byte-other.true)

pub loop-inner-preserved : goal.loop-inner-preserved
loop-inner-preserved c h = c.loop-inner.invariant
    (apart_before c.args.quote c.loop-inner.inner.now c.loop-inner.word.now _ (search rules) (search rules) (sym c.stays_last.ensures ∙ c.if-not-stays_last.false) c.if-byte-other.false h)
