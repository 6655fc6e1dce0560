use Rattle.std.proofs.Common.{refl, arith}
use Rattle.bz_token.proofs.Innermost.{met_closing, met_opening, met_neither, met_last}
use Rattle.bz_token.proofs.brackets.innermost.Goals as goal

pub loop-i-preserved-in-Closing : goal.loop-i-preserved-in-Closing
loop-i-preserved-in-Closing c =
    let i = c.loop-i.invariant in
    let bracket = rw c.as_bytes.ensures.value at (c.in-Closing.ensures.closing refl) in
    record { fits = omega arith; counted = omega arith; opened = met_closing c.args.tokens.now c.loop-i.i c.loop-i.closed _ c.loop-i-test.true i.fits bracket.0 bracket.1 i.opened }

pub loop-i-preserved-then-closed-gt0 : goal.loop-i-preserved-then-closed-gt0
loop-i-preserved-then-closed-gt0 c =
    let i = c.loop-i.invariant in
    let bracket = rw c.as_bytes.ensures.value at (c.in-Opening.ensures.opening refl) in
    record { fits = omega arith; counted = omega arith; opened = met_opening c.args.tokens.now c.loop-i.i c.loop-i.closed _ c.loop-i-test.true i.fits c.if-closed-gt0.true bracket i.opened }

pub returns-in-Opening-2-clause-found : goal.returns-in-Opening-2-clause-found
returns-in-Opening-2-clause-found c =
    let i = c.loop-i.invariant in
    let bracket = rw c.as_bytes.ensures.value at (c.in-Opening-2.ensures.opening refl) in
    (_, _, met_last c.args.tokens.now c.loop-i.i c.loop-i.closed _ c.loop-i-test.true i.fits c.if-closed-gt0.false bracket i.opened, refl, refl)

pub loop-i-preserved : goal.loop-i-preserved
loop-i-preserved c =
    let i = c.loop-i.invariant in
    let bracket = rw c.as_bytes.ensures.value at (c.in-Neither.ensures.neither refl) in
    record { fits = omega arith; counted = omega arith; opened = met_neither c.args.tokens.now c.loop-i.i c.loop-i.closed _ c.loop-i-test.true i.fits bracket.0 bracket.1 i.opened }
