use Rattle.std.proofs.Common.{codes, subst}
use Rattle.bz_devices.specs.Buffer.{Took, took_more_lem}
use Rattle.bz_program.proofs.console.put_line.Goals as goal

pub returns : goal.returns
returns g c =
    let first = subst (λ bytes. Took g.W.Sink.took c.args.sink.now bytes c.put.new.self) c.as_bytes.ensures.value c.put.ensures.took in
    took_more_lem g.W.Sink.took g.met.W.Sink.took_more c.args.sink.now c.put.new.self c.put-2.new.self c.args.line.now (codes "\n") first c.put-2.ensures.took
