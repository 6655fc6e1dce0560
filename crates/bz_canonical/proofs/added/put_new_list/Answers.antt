use Rattle.std.proofs.Common.{◌≡◌, length, arith, ap, refl, subst}
use Rattle.std.specs.Prelude.{IfSome, None}
use Rattle.bz_canonical.specs.declared.added.NewValues.{NewValues}
use Rattle.bz_canonical.specs.declared.edited.Passed.{Passed}
use Rattle.bz_canonical.specs.declared.edited.PassedList.{PassedList}
use Rattle.bz_canonical.specs.private.NewValues.{ArePut}
use Rattle.bz_canonical.proofs.AddedLines.{front_put, new_list}
use Rattle.bz_canonical.proofs.added.put_new_list.Goals as goal

pub returns : goal.returns
returns c = λ put.
    let old = c.args.written.now.items in
    let attr = c.args.new.attr.now in
    let front = c.extend_from_slice-3.new.list.items in
    let after = c.put_missing.new.written.items in
    let new : NewValues = record { env = c.args.env; added = c.args.new; among = None } in
    let list : PassedList = record { passed = c.none.result; end = c.as_slice-end.result; start = c.len-start.result } in
    let p = subst (λ o. IfSome o (ArePut new new.added.values.now list.passed front after)) c.in-Some.is c.in_ok-passed.ensures in
    let front_is = front_put old c.extend_from_slice.new.list.items c.extend_from_slice-2.new.list.items front attr c.as_bytes.result.now c.in_ok-extend_from_slice.ensures.items c.in_ok-extend_from_slice-2.ensures.items c.as_bytes.ensures.value
    c.in_ok-extend_from_slice-3.ensures.items in
    let start : c.len-start.result ≡ length front = omega (arith, c.len-start.ensures) in
    new_list new list old front after c.end_list.new.written.items c.in-Some.passed front_is start c.as_slice-end.ensures (ap (λ (x : Passed). x.left) c.none.ensures) (ap (λ (x : Passed). x.broken) c.none.ensures) p refl c.if-not-passed.false
    (c.in_ok-ended.ensures put)
