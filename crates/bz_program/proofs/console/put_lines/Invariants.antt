use Rattle.std.proofs.Common.{◌≡◌, ℕ, List, ◌++◌}
use Rattle.bz_devices.specs.Buffer.{Took}
use Rattle.bz_program.specs.Texts.{lines_text}
use Rattle.bz_program.proofs.console.put_lines.Given as goal

abbrev pub invariant-loop-line : goal.invariant-loop-line
invariant-loop-line g l = record {
  done : List ℕ;
  took : Took g.W.Sink.took l.initial.sink done l.sink;
  all : done ++ lines_text l.line-iterator ≡ lines_text l.lines;
}
