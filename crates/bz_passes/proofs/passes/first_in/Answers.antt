use Rattle.std.proofs.Common.{ltb, ltb-true, ltb-false, arith, rules}
use Rattle.std.proofs.lemmas.List.{get_or_default}
use Rattle.std.proofs.lemmas.List.Sorted.{IsPartitionPoint-from_clause, IsPartitionedBy-ltb}
use Rattle.bz_passes.proofs.passes.first_in.Goals as goal

pub returns-then-place-positions : goal.returns-then-place-positions
returns-then-place-positions c =
    let parted = IsPartitionedBy-ltb (λ p. p) _ c.args.from c.requires in
    let point = IsPartitionPoint-from_clause (λ p. ltb p c.args.from) _ _ c.partition_point-place.ensures.partitioned parted (λ a r q k. search rules) in
    let within = c.if-place-positions.true in
    record {
      place = c.partition_point-place.result;
      within = omega arith;
      is = λ d. get_or_default c.args.positions.now c.partition_point-place.result d 0 (omega arith);
      not_before = ltb-false _ _ (point.1 c.partition_point-place.result 0 (omega arith) (omega arith));
      front = λ i d h. ltb-true _ _ (point.0 i d (omega arith) h);
    }

pub returns : goal.returns
returns c =
    let parted = IsPartitionedBy-ltb (λ p. p) _ c.args.from c.requires in
    let point = IsPartitionPoint-from_clause (λ p. ltb p c.args.from) _ _ c.partition_point-place.ensures.partitioned parted (λ a r q k. search rules) in
    λ i d h. ltb-true _ _ (point.0 i d (omega arith) (omega arith))
