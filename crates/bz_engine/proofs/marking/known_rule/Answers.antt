use Rattle.std.proofs.Common.{ℕ, ◌+◌, List, Bor, refl, ap}
use Rattle.std.specs.Prelude.{option_map}
use Rattle.bz_engine.proofs.MarkedRules.{rule_known}
use Rattle.bz_engine.proofs.marking.known_rule.Goals as goal

pub returns : goal.returns
returns c depth passes its s on =
    let named = ap (option_map (λ (name : Bor (List ℕ)). name.now)) c.in_ok-found.was in
    rule_known _ depth c.args.line passes c.args.found.now s c.if-not-found.false its named c.in_ok-kind_of.ensures refl (ap (λ n. c.args.line + n) c.requires.lines) on
