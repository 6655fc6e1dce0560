use Rattle.std.proofs.Common.{ℕ, List, subst}
use Rattle.bz_canonical.specs.Canonical.{HasArgumentName}
use Rattle.bz_canonical.proofs.RuleCalls.{unnamed_front}
use Rattle.bz_canonical.proofs.rule.after_unnamed_call.Goals as goal

pub returns : goal.returns
returns c = unnamed_front c.args.depth c.args.text.now c.in_ok-call.call.now c.in_ok-read.read.rest.now c.in_ok-read.read.holds c.in_ok-read.ensures c.in_ok-call.ensures (subst (λ (n : List ℕ). HasArgumentName n c.in_ok-call.call.now → ⊥) c.as_slice.ensures (c.has_argument_name.ensures c.if-has_argument_name.false))
