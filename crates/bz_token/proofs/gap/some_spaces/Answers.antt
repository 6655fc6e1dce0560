use Rattle.bz_token.proofs.Gaps.{spaces_before}
use Rattle.bz_token.proofs.gap.some_spaces.Goals as goal

pub returns-clause-within : goal.returns-clause-within
returns-clause-within c = (spaces_before c.args.bytes.now c.if-bytes-lt16.false c.if-others-eq0.false).0

pub returns-clause-blank : goal.returns-clause-blank
returns-clause-blank c = (spaces_before c.args.bytes.now c.if-bytes-lt16.false c.if-others-eq0.false).1
