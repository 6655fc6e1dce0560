use Rattle.std.proofs.lemmas.Result.{IfOk-weaker}
use Rattle.bz_canonical.proofs.ListedArguments.{noted_parts, pushed, two_more}
use Rattle.bz_canonical.proofs.listed.put_noted.Goals as goal

pub returns : goal.returns
returns c = IfOk-weaker c.put_beside.result _ _ (λ put h done e at.
    let notes = c.in_ok-put_notes.ensures c.if-not-branch.false e.before at.are (at.above_is c.requires) in
    let two = two_more _ _ _ _ _ (pushed _ _ _ c.in_ok-push.ensures.items) (pushed _ _ _ c.in_ok-push-2.ensures.items) in
    noted_parts e c.args.place.token.now _ _ _ _ at.token_is notes two (h done 44 e.suffix (at.side_is c.requires))) c.put_beside.ensures
