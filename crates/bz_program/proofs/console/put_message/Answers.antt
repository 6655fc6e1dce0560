use Rattle.std.proofs.Common.{◌++◌, codes, subst}
use Rattle.bz_devices.specs.Buffer.{Took, took_more_lem}
use Rattle.bz_program.specs.Texts.{line_of}
use Rattle.bz_program.proofs.console.put_message.Goals as goal

pub returns : goal.returns
returns g c =
    let first = subst (λ bytes. Took g.W.Sink.took c.args.sink.now bytes c.put.new.self) c.as_bytes.ensures.value c.put.ensures.took in
    let more = took_more_lem g.W.Sink.took g.met.W.Sink.took_more in
    more c.args.sink.now c.put.new.self c.put_line.new.sink c.args.file.now (codes ": " ++ line_of c.args.message.now) first
    (more c.put.new.self c.put-2.new.self c.put_line.new.sink (codes ": ") (line_of c.args.message.now) c.put-2.ensures.took c.put_line.ensures)
