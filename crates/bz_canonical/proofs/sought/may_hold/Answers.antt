use Rattle.std.proofs.Common.{rules, ◌≡◌, false}
use Rattle.std.specs.List.{list_any}
use Rattle.bz_label.specs.Endings.{is_odd}
use Rattle.bz_token.specs.Common.{is_empty}
use Rattle.bz_canonical.proofs.SoughtSpans.{held_by}
use Rattle.bz_canonical.proofs.sought.may_hold.Goals as goal

pub returns-else-has_odd : goal.returns-else-has_odd
returns-else-has_odd c =
    let none : list_any is_odd c.args.text.now ≡ false = search rules in
    let some : is_empty c.args.endings.now ≡ false = search rules in
    held_by c.args.endings.now c.args.text.now c.holds_one.result some none c.holds_one.ensures
