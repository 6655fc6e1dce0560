use Rattle.std.proofs.Common.{length, rules}
use Rattle.std.proofs.lemmas.Result.{IfOk-from_err}
use Rattle.bz_passes.specs.private.Indexes.{bucket_of}
use Rattle.bz_passes.proofs.Buckets.{one_more_empty}
use Rattle.bz_passes.proofs.index.Index.new.Goals as goal

pub returns-in_err-push-clause-names : goal.returns-in_err-push-clause-names
returns-in_err-push-clause-names c = IfOk-from_err c.from_residual.result _ c.from_residual.ensures.0

pub returns-in_err-push-clause-others : goal.returns-in_err-push-clause-others
returns-in_err-push-clause-others c = IfOk-from_err c.from_residual.result _ c.from_residual.ensures.0

pub loop-bucket-preserved : goal.loop-bucket-preserved
loop-bucket-preserved c = λ place name. rw c.in_ok-push.ensures.items (one_more_empty c.loop-bucket.buckets.items c.new.result place name c.loop-bucket.invariant (λ q. search rules))

pub returns-clause-names : goal.returns-clause-names
returns-clause-names c = λ name. c.loop-bucket.invariant (bucket_of name (length c.loop-bucket.buckets.items)) name
