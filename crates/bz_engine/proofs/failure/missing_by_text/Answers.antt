use Rattle.std.proofs.Common.{ℕ, List, Bor, subst, sym}
use Rattle.std.specs.Prelude.{Option, IfSome, option_map}
use Rattle.bz_canonical.specs.Canonical.{IsNameless}
use Rattle.bz_engine.proofs.TextFailures.{missing_told}
use Rattle.bz_engine.proofs.failure.missing_by_text.Goals as goal

pub returns : goal.returns
returns c = record {
  goes_on = λ fails. cc;
  tells = λ depth s is.
      missing_told c.args.command.now c.args.script.home.now s c.in-Ok.kind.now c.in_ok-text.text (c.prints_name.ensures c.if-not-prints_name.false)
      (subst (λ k. IsNameless k s.nodes) (sym c.in-Ok.ensures.0) (subst (λ (o : Option (Bor (List ℕ))). IfSome (option_map (λ kind. kind.now) o) (λ k. IsNameless k s.nodes)) c.in-Some.is is.nameless)) c.in_ok-text.ensures;
}
