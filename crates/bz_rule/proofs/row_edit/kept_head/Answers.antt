use Rattle.std.proofs.Common.{◌≡◌, false, rules}
use Rattle.std.specs.Prelude.{bytes_eq, codes}
use Rattle.bz_label.specs.declared.arguments.Attributes.TheVariants.{Named}
use Rattle.bz_rule.specs.declared.command.Action.TheVariants.{Move, Remove, Rename}
use Rattle.bz_rule.proofs.HeadKept.{head_stays, moved_stays, removed_stays, renamed_stays}
use Rattle.bz_rule.proofs.row_edit.kept_head.Goals as goal

pub returns-in-Rename : goal.returns-in-Rename
returns-in-Rename c home s r rule =
    let old = c.in-Rename.old in
    let new = c.in-Rename.new in
    let first : bytes_eq old (codes "name") ≡ false = search rules in
    let second : bytes_eq new (codes "name") ≡ false = search rules in
    let is : c.args.command.now ≡ Rename old new = search rules in
    rw is (renamed_stays home old new s r first second rule)

pub returns-in-Move : goal.returns-in-Move
returns-in-Move c home s r rule =
    let old = c.in-Move.old in
    let new = c.in-Move.new in
    let chosen = c.in-Move.field-2 in
    let first : bytes_eq old (codes "name") ≡ false = search rules in
    let second : bytes_eq new (codes "name") ≡ false = search rules in
    let is : c.args.command.now ≡ Move old new chosen = search rules in
    rw is (moved_stays home old new chosen s r first second rule)

pub returns-in-Remove-Named-default : goal.returns-in-Remove-Named-default
returns-in-Remove-Named-default c home s r rule =
    let attr = c.in-Remove-Named-default.attr in
    let values = c.in-Remove-Named-default.field-1 in
    let other : bytes_eq attr (codes "name") ≡ false = search rules in
    let is : c.args.command.now ≡ Remove (Named attr) values = search rules in
    rw is (removed_stays home attr values s r other rule)

pub returns-in-Some : goal.returns-in-Some
returns-in-Some c home s r rule = head_stays c.args.command.now home c.in-Some.attr.now s r c.in-Some.ensures (search rules) rule
