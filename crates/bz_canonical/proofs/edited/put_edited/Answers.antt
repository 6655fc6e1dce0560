use Rattle.std.proofs.Common.{◌≡◌, ◌∙◌, arith, length, take, ap, subst}
use Rattle.std.specs.Prelude.{IfSome}
use Rattle.bz_canonical.specs.private.Edited.{IsListEdited}
use Rattle.bz_canonical.proofs.EditedLines.{list_gone, list_stays, list_written}
use Rattle.bz_canonical.proofs.edited.put_edited.Goals as goal

pub returns-then-not-list : goal.returns-then-not-list
returns-then-not-list c =
    let depth = c.args.max_depth in
    let home = c.args.home.now in
    let edit = c.args.edit in
    let lines = c.args.lines.now in
    let old = c.args.written.now.items in
    let buffer = c.put_list_edited.new.written.items in
    let l = subst (λ o. IfSome o (IsListEdited depth home edit lines old buffer)) c.in-Some.is c.in_ok-list.ensures in
    list_stays depth home edit lines old buffer c.in-Some.list l c.if-not-list.true

pub returns-then-not-list-2 : goal.returns-then-not-list-2
returns-then-not-list-2 c =
    let depth = c.args.max_depth in
    let home = c.args.home.now in
    let edit = c.args.edit in
    let lines = c.args.lines.now in
    let old = c.args.written.now.items in
    let buffer = c.put_list_edited.new.written.items in
    let put = c.put_pending.new.written.items in
    let l = subst (λ o. IfSome o (IsListEdited depth home edit lines old buffer)) c.in-Some.is c.in_ok-list.ensures in
    let begun : c.len-begun.result ≡ length old = omega (arith, c.len-begun.ensures) in
    list_gone depth home edit lines old buffer put c.truncate.new.self.items c.in-Some.list l c.if-not-list.false c.if-not-list-2.true (c.in_ok-put_pending.ensures c.if-not-branch.false)
    (c.truncate.ensures.items ∙ ap (λ n. take n put) begun)

pub returns : goal.returns
returns c =
    let depth = c.args.max_depth in
    let home = c.args.home.now in
    let edit = c.args.edit in
    let lines = c.args.lines.now in
    let old = c.args.written.now.items in
    let buffer = c.put_list_edited.new.written.items in
    let put = c.put_pending.new.written.items in
    let l = subst (λ o. IfSome o (IsListEdited depth home edit lines old buffer)) c.in-Some.is c.in_ok-list.ensures in
    list_written depth home edit lines old buffer put c.end_list.new.written.items c.in-Some.list l c.if-not-list.false c.if-not-list-2.false (c.in_ok-put_pending.ensures c.if-not-branch.false)
    (c.in_ok-end_list.ensures c.if-not-branch-2.false)
