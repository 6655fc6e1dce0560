use Rattle.std.proofs.Common.{refl, arith}
use Rattle.bz_passes.specs.private.Indexes.{bucket_of}
use Rattle.bz_passes.proofs.index.bucket_of.Goals as goal

pub returns-then-buckets-eq1-clause-place : goal.returns-then-buckets-eq1-clause-place
unfolding bucket_of
returns-then-buckets-eq1-clause-place c = rw c.if-buckets-eq1.true (omega arith)

pub returns-clause-place : goal.returns-clause-place
unfolding bucket_of
returns-clause-place c = rw (c.finish.ensures, c.write.ensures, c.default-hasher.ensures, c.as_bytes.ensures.value) refl
