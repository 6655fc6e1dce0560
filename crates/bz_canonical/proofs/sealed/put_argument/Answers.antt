use Rattle.std.proofs.Common.{◌∙◌, sym}
use Rattle.bz_canonical.specs.Spans.{is_asked}
use Rattle.bz_canonical.proofs.SealedArguments.{sealed_one}
use Rattle.bz_canonical.proofs.sealed.put_argument.Goals as goal

pub returns-clause-part : goal.returns-clause-part
returns-clause-part c = λ names from run a stands after others is at seen.
    sealed_one (is_asked c.args.span) run a others _ _ _ (sym c.is_asked.ensures ∙ c.if-is_asked.false) seen (c.in_ok-put_span.ensures c.if-not-branch.false names from run a stands after is at)
