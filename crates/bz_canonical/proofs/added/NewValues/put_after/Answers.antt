use Rattle.std.specs.Prelude.{IfSome}
use Rattle.std.proofs.Common.{subst}
use Rattle.bz_canonical.specs.private.NewValues.{ArePut}
use Rattle.bz_canonical.proofs.AddedLines.{values_new, values_present}
use Rattle.bz_canonical.proofs.added.NewValues.put_after.Goals as goal

pub returns-then-not-passed : goal.returns-then-not-passed
returns-then-not-passed c =
    let new = c.args.self in
    let list = c.args.list in
    let put = c.put_pending.new.written.items in
    let after = c.put_missing.new.written.items in
    let p = subst (λ o. IfSome o (ArePut new new.added.values.now list.passed put after)) c.in-Some.is c.in_ok-passed.ensures in
    values_present new list c.args.written.now.items put after after c.in-Some.passed p c.if-not-passed.true

pub returns : goal.returns
returns c =
    let new = c.args.self in
    let list = c.args.list in
    let put = c.put_pending.new.written.items in
    let after = c.put_missing.new.written.items in
    let p = subst (λ o. IfSome o (ArePut new new.added.values.now list.passed put after)) c.in-Some.is c.in_ok-passed.ensures in
    values_new new list c.args.written.now.items put after c.end_list.new.written.items c.in-Some.passed (c.in_ok-put_pending.ensures c.if-not-branch.false) p c.if-not-passed.false (c.in_ok-end_list.ensures c.if-not-branch-2.false)
