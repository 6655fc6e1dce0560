use Rattle.std.proofs.Common.{◌<◌, arith}
use Rattle.bz_canonical.proofs.ListedArguments.{argument_put, pushed, three_more, two_more}
use Rattle.bz_canonical.proofs.listed.put_list_argument.Goals as goal

pub returns : goal.returns
returns c = λ put args reads.
    let deep : 1 < c.args.max_depth = omega (arith, c.if-max_depth-lt-BRACKETS.false) in
    let front = three_more _ _ _ _ _ _ _ (pushed _ _ _ c.in_ok-push.ensures.items) (pushed _ _ _ c.in_ok-push-2.ensures.items) (pushed _ _ _ c.in_ok-push-3.ensures.items) in
    let back = two_more _ _ _ _ _ (pushed _ _ _ c.in_ok-push-4.ensures.items) (pushed _ _ _ c.in_ok-push-5.ensures.items) in
    argument_put c.args.max_depth c.args.lines.now c.in-Some.head.name.now c.in-Some.head.inside.now _ _ _ args deep c.in-Some.ensures _ front (c.in_ok-put_elements.ensures c.if-not-branch.false) back reads
