use Rattle.std.proofs.Common.{rules, ◌≡◌, [], ◌++◌, ap}
use Rattle.bz_devices.specs.Buffer.{took_nothing_lem, took_more_lem}
use Rattle.bz_program.specs.Texts.{line_of, lines_text}
use Rattle.bz_program.proofs.Written.{written_next}
use Rattle.bz_program.proofs.console.put_lines.Goals as goal

pub loop-line-init : goal.loop-line-init
loop-line-init g c =
    let begun : c.into_iter-line-iterator.result ≡ c.args.lines.now = search rules in
    record {
      done = [];
      took = took_nothing_lem g.W.Sink.took g.met.W.Sink.took_nothing c.args.sink.now;
      all = ap lines_text begun;
    }

pub loop-line-preserved : goal.loop-line-preserved
loop-line-preserved g c =
    let inv = c.loop-line.invariant in
    let line = c.in-Some.line.now in
    record {
      done = inv.done ++ line_of line;
      took = took_more_lem g.W.Sink.took g.met.W.Sink.took_more c.args.sink.now c.loop-line.sink c.put_line.new.sink inv.done (line_of line) inv.took c.put_line.ensures;
      all = written_next line_of inv.done (lines_text c.args.lines.now) c.loop-line.line-iterator c.next.new.self line c.in-Some.ensures.steps inv.all;
    }
