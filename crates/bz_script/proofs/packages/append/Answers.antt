use Rattle.std.proofs.Common.{sym}
use Rattle.bz_script.proofs.OneMore.{append-old, append-inserted}
use Rattle.bz_script.proofs.packages.append.Goals as goal

pub returns-in_ok-push-in-Some : goal.returns-in_ok-push-in-Some
returns-in_ok-push-in-Some g c pairs are =
    append-old (λ v. v.items) g.K.PartialEq.eq g.met.K.Eq.laws pairs c.args.lists.now.entries are c.args.key c.args.value c.in-Some.index
    c.index_mut.result.now c.push.new.list (sym c.in-Some.ensures.index) c.index_mut.ensures.value c.in_ok-push-in-Some.ensures.items

pub returns-in_ok-insert_last-in-None : goal.returns-in_ok-insert_last-in-None
returns-in_ok-insert_last-in-None g c pairs are =
    append-inserted (λ v. v.items) g.K.PartialEq.eq g.met.K.Eq.laws pairs c.args.lists.now c.insert_last.new.map are c.args.key c.args.value
    c.new-values.result c.push-in-None.new.list (sym c.in-None.ensures.found) c.new-values.ensures.items c.in_ok-push-in-None.ensures.items
    c.in_ok-insert_last-in-None.ensures
