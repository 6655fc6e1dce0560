use Rattle.std.proofs.Common.{◌≡◌, length, ◌-◌, take, drop, append-nil, ◌∙◌, arith}
use Rattle.std.proofs.Math.Seq.{take-add}
use Rattle.std.proofs.lemmas.Grind.{common_steps}
use Rattle.bz_devices.proofs.output.write_all.Goals as goal

pub loop-written-preserved : goal.loop-written-preserved
loop-written-preserved g c =
    let more = g.met.W.Sink.took_more _ _ _ _ _ c.loop-written.invariant.took c.in-Ok.ensures.ok in
    let whole : take (length c.args.bytes.now - c.loop-written.written) (drop c.loop-written.written c.args.bytes.now) ≡ drop c.loop-written.written c.args.bytes.now = grind (arith, common_steps) in
    record {
      within = grind (arith, common_steps);
      took = rw (take-add c.loop-written.written c.in-Ok.n c.args.bytes.now) (rw whole at more);
      steady = c.in-Ok.ensures.steady ∙ c.loop-written.invariant.steady;
    }

pub returns-in-Err-clause-front : goal.returns-in-Err-clause-front
returns-in-Err-clause-front g c =
    let more = g.met.W.Sink.took_more _ _ _ _ _ c.loop-written.invariant.took c.in-Err.ensures.err in
    (c.loop-written.written, omega arith, rw append-nil at more)
