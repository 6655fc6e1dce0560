use Rattle.std.proofs.Common.{◌≡◌, ℕ, ◌≤◌, ◌-◌, List}
use Rattle.bz_engine.specs.declared.session.SessionState.TheVariants.{Going}
use Rattle.bz_engine.specs.SessionValue.{HasDone, IsSameRun}
use Rattle.bz_laws.specs.Steps.{HasManyMore}
use Rattle.bz_laws.proofs.steps.take_steps.Given as goal

-- so many chunks are done as steps were taken
abbrev pub invariant-loop-taken : goal.invariant-loop-taken
invariant-loop-taken g l = record {
  within : l.taken ≤ l.count;
  same : IsSameRun l.initial.session l.session;
  goes : l.initial.session.state ≡ Going → l.session.state ≡ Going;
  read_steady : g.S.Source.failures l.source ≡ g.S.Source.failures l.initial.source;
  write_steady : g.W.Sink.failures l.sink ≡ g.W.Sink.failures l.initial.sink;
  done : (pieces cs : List (List ℕ)) (text : List ℕ) → HasDone l.initial.session pieces cs text
      → HasManyMore l.taken (λ read. g.S.Source.gave l.initial.source read l.source) (λ shown. g.W.Sink.took l.initial.sink shown l.sink) l.session pieces cs text;
}

abbrev pub decreases-loop-taken : goal.decreases-loop-taken
decreases-loop-taken g l = l.count - l.taken
