use Rattle.std.proofs.Common.{◌++◌, ◌∙◌, ℕ, List, ap}
use Rattle.bz_canonical.proofs.EditedLines.{ends_broken, ends_in_place}
use Rattle.bz_canonical.proofs.edited.end_list.Goals as goal

pub returns-then-list : goal.returns-then-list
returns-then-list c = λ ended. ends_broken c.args.list c.args.written.now.items c.extend_from_slice.new.list.items c.extend_from_slice-then-list.new.list.items c.if-list.true
    (c.in_ok-extend_from_slice.ensures.items ∙ ap (λ (t : List ℕ). c.args.written.now.items ++ t) c.as_slice.ensures) c.in_ok-extend_from_slice-2.ensures.items

pub returns : goal.returns
returns c = λ ended. ends_in_place c.args.list c.args.written.now.items c.put_in_place.new.written.items c.extend_from_slice-2.new.list.items c.if-list.false
    (c.in_ok-put_in_place.ensures c.if-not-branch.false) c.in_ok-extend_from_slice-3.ensures.items
