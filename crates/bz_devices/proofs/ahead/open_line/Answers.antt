use Rattle.std.proofs.Common.{◌≡◌, ◌<◌, ◌+◌, ◌-◌, ◌∷◌, [], length, take, drop, ap, sym, subst, arith, length-take}
use Rattle.std.proofs.lemmas.Grind.{common_steps}
use Rattle.bz_token.specs.Chunks.{chunks}
use Rattle.bz_token.specs.Cuts.{IsPart, ends_in_newline}
use Rattle.bz_token.specs.CutterState.{IsAfter}
use Rattle.bz_devices.specs.private.AheadSteps.{IsLineAt}
use Rattle.bz_devices.proofs.ChunkLines.{front_line}
use Rattle.bz_devices.proofs.LineAhead.{line_found, passed_none}
use Rattle.bz_devices.proofs.ChunkAhead.{goes_first, line_physical, some_after, goes_with_line, more_goes}
use Rattle.bz_devices.proofs.ahead.open_line.Goals as goal

pub loop-n-init : goal.loop-n-init
loop-n-init c = record {
  goes_on = goes_first c.new-cutter.result c.args.ahead.now c.new-cutter.ensures.part c.new-cutter.ensures.after;
  within = omega arith;
}

pub line-requires-clause-one_line : goal.line-requires-clause-one_line
line-requires-clause-one_line c =
    let ahead = c.args.ahead.now in
    let e = c.loop-n.end in
    let n = e + c.in-Some.n in
    let here = c.in-Some.ensures in
    let at : IsLineAt ahead e n = line_found ahead c.bytes.result.now e e c.in-Some.n c.bytes.ensures (omega arith) (omega (arith, c.loop-n.invariant.within, ap length c.bytes.ensures))
    (passed_none ahead.bytes e) here.within.1 here.line in
    let line = take (n - e) (drop e c.bytes-in-Some.result.now) in
    let same : line ≡ take (n - e) (drop e ahead.bytes) = ap (λ l. take (n - e) (drop e l)) c.bytes-in-Some.ensures in
    line_physical ahead e n line same at

pub line-requires-clause-after : goal.line-requires-clause-after
line-requires-clause-after c =
    let ahead = c.args.ahead.now in
    let e = c.loop-n.end in
    let n = e + c.in-Some.n in
    let here = c.in-Some.ensures in
    let at : IsLineAt ahead e n = line_found ahead c.bytes.result.now e e c.in-Some.n c.bytes.ensures (omega arith) (omega (arith, c.loop-n.invariant.within, ap length c.bytes.ensures))
    (passed_none ahead.bytes e) here.within.1 here.line in
    let line = take (n - e) (drop e c.bytes-in-Some.result.now) in
    let same : line ≡ take (n - e) (drop e ahead.bytes) = ap (λ l. take (n - e) (drop e l)) c.bytes-in-Some.ensures in
    let some : e < n = omega (arith, here.within.0) in (
      take e ahead.bytes,
      c.loop-n.invariant.goes_on.after (some_after ahead e n some at),
      omega (arith, at.within, length-take e ahead.bytes, length-take (n - e) (drop e c.bytes-in-Some.result.now)),
      goes_with_line ahead e n line same some at c.loop-n.invariant.goes_on.begun,
    )

pub loop-n-preserved : goal.loop-n-preserved
loop-n-preserved c =
    let ahead = c.args.ahead.now in
    let e = c.loop-n.end in
    let n = e + c.in-Some.n in
    let here = c.in-Some.ensures in
    let at : IsLineAt ahead e n = line_found ahead c.bytes.result.now e e c.in-Some.n c.bytes.ensures (omega arith) (omega (arith, c.loop-n.invariant.within, ap length c.bytes.ensures))
    (passed_none ahead.bytes e) here.within.1 here.line in
    let line = take (n - e) (drop e c.bytes-in-Some.result.now) in
    let same : line ≡ take (n - e) (drop e ahead.bytes) = ap (λ l. take (n - e) (drop e l)) c.bytes-in-Some.ensures in
    let some : e < n = omega (arith, here.within.0) in
    let after = c.loop-n.invariant.goes_on.after (some_after ahead e n some at) in
    let front = front_line ahead.bytes line e n same at.after in
    let more = c.in-More.ensures in
    record {
      goes_on = more_goes c.line.new.self ahead e n (ends_in_newline line) (sym (ap ends_in_newline same)) some at
          (λ t. subst (λ l. IsPart l) front (more.cut t (take e ahead.bytes) after))
          (λ t. subst (λ l. IsAfter c.line.new.self l) front (more.after t (take e ahead.bytes) after))
          (λ f. subst (λ l. 0 < length l → chunks l ≡ l ∷ []) front (more.last f (take e ahead.bytes) after).1);
      within = at.within;
    }

pub returns-clause-open : goal.returns-clause-open
returns-clause-open c = grind (arith, common_steps)
