use Rattle.std.proofs.Common.{◌≡◌, ℕ, ◌+◌, ◌-◌, ◌*◌, List, length}
use Rattle.bz_engine.specs.declared.session.SessionState.TheVariants.{Going}
use Rattle.bz_engine.specs.SessionValue.{HasDone}
use Rattle.bz_engine.specs.Stops.{AllFit}
use Rattle.bz_engine.proofs.runner.run.Given as goal

-- the session goes on with the run it was made for, and what it has done was read and written
abbrev pub invariant-loop-session : goal.invariant-loop-session
invariant-loop-session g l = record {
  home : l.session.home ≡ l.fn.home;
  passes : l.session.passes ≡ l.fn.passes.items;
  options : l.session.options ≡ l.fn.options;
  goes : l.session.state ≡ Going;
  pieces : List (List ℕ);
  cs : List (List ℕ);
  text : List ℕ;
  gave : g.S.Source.gave l.initial.source pieces l.source;
  took : g.W.Sink.took l.initial.sink text l.sink;
  done : HasDone l.session pieces cs text;
  fit : AllFit l.fn.options.max_statement cs;
  read_steady : g.S.Source.failures l.source ≡ g.S.Source.failures l.initial.source;
  write_steady : g.W.Sink.failures l.sink ≡ g.W.Sink.failures l.initial.sink;
}

abbrev pub decreases-loop-session : goal.decreases-loop-session
decreases-loop-session g l = 8193 * (l.session.options.max_reads - l.session.ahead.reads) + length l.session.ahead.bytes
