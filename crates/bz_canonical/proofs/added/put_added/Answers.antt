use Rattle.std.proofs.Common.{◌≡◌, length, arith, refl, subst}
use Rattle.std.specs.Prelude.{IfSome, None, Some}
use Rattle.bz_canonical.specs.declared.added.ListLines.{ListLines}
use Rattle.bz_canonical.specs.declared.added.NewValues.{NewValues}
use Rattle.bz_canonical.specs.private.Edited.{IsListEdited, keeping}
use Rattle.bz_canonical.proofs.AddedLines.{adds_after, one_present, told_none, told_some}
use Rattle.bz_canonical.proofs.added.put_added.Goals as goal

pub returns-then-not-list : goal.returns-then-not-list
returns-then-not-list c =
    let depth = c.args.max_depth in
    let home = c.args.env.home.now in
    let lines = c.args.lines.now in
    let old = c.args.written.now.items in
    let buffer = c.put_list_edited.new.written.items in
    let new : NewValues = record { env = c.args.env; added = c.args.new; among = None } in
    let l = subst (λ o. IfSome o (IsListEdited depth home (keeping c.args.new) lines old buffer)) c.in-Some.is c.in_ok-list.ensures in
    adds_after new depth lines old buffer c.put_after.new.written.items c.in-Some.list c.put_after.result l (told_none new depth lines old buffer c.in-Some.list l c.if-not-list.true refl) c.put_after.ensures

pub returns-in-len1 : goal.returns-in-len1
returns-in-len1 c =
    let depth = c.args.max_depth in
    let home = c.args.env.home.now in
    let lines = c.args.lines.now in
    let old = c.args.written.now.items in
    let buffer = c.put_list_edited.new.written.items in
    let l = subst (λ o. IfSome o (IsListEdited depth home (keeping c.args.new) lines old buffer)) c.in-Some.is c.in_ok-list.ensures in
    let one : length c.args.new.values.now ≡ 1 = omega (arith, c.in-len1.len_at_least, c.in-len1.len_below) in
    one_present depth home c.args.new lines old buffer buffer c.in-Some.list l one c.if-not-list.false

pub returns : goal.returns
returns c =
    let depth = c.args.max_depth in
    let home = c.args.env.home.now in
    let lines = c.args.lines.now in
    let old = c.args.written.now.items in
    let buffer = c.put_list_edited.new.written.items in
    let among : ListLines = record { lines = c.args.lines; max_depth = depth } in
    let new : NewValues = record { env = c.args.env; added = c.args.new; among = Some among } in
    let l = subst (λ o. IfSome o (IsListEdited depth home (keeping c.args.new) lines old buffer)) c.in-Some.is c.in_ok-list.ensures in
    adds_after new depth lines old buffer c.put_after-2.new.written.items c.in-Some.list c.put_after-2.result l (told_some new depth lines among refl refl refl) c.put_after-2.ensures
