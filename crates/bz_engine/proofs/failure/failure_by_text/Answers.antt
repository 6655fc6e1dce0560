use Rattle.std.proofs.Common.{ℕ, List, Bor, subst}
use Rattle.std.specs.Prelude.{Option, option_map}
use Rattle.bz_canonical.specs.Canonical.{HasName}
use Rattle.bz_engine.proofs.TextFailures.{needed_fails}
use Rattle.bz_engine.proofs.failure.failure_by_text.Goals as goal

pub returns : goal.returns
returns c = record {
  goes_on = λ fails. cc;
  tells = λ depth s is.
      needed_fails c.args.command.now c.in-Some.attr.now c.in-Some-name.name.now c.args.script.home.now s c.in_ok-told.told c.in-Some.ensures
      (subst (λ (o : Option (Bor (List ℕ))). HasName (option_map (λ name. name.now) o) s) c.in-Some-name.is is.named)
      (c.is_without.ensures c.if-not-is_without.false depth s is) c.in_ok-told.ensures;
}
