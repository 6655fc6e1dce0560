use Rattle.std.proofs.Common.{codes}
use Rattle.bz_devices.specs.Buffer.{took_nothing_lem, took_more_lem}
use Rattle.bz_program.specs.Texts.{line_of}
use Rattle.bz_program.proofs.console.Console.put_fixed.Goals as goal

pub returns : goal.returns
returns g c = record {
  out = took_nothing_lem g.O.Sink.took g.met.O.Sink.took_nothing c.args.self.now.out;
  err = took_more_lem g.E.Sink.took g.met.E.Sink.took_more c.args.self.now.err c.put.new.self c.put_line.new.sink (codes "fixed ") (line_of c.args.file.now)
      c.put.ensures.took c.put_line.ensures;
}
