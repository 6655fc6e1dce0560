use Rattle.std.proofs.Common.{◌≡◌, ◌<◌, length, nat_lt, arith, tests}
use Rattle.std.proofs.lemmas.Bool.Decides.{nat_tests}
use Rattle.std.specs.Prelude.{nat_le}
use Rattle.bz_canonical.specs.declared.edited.PassedList.{PassedList}
use Rattle.bz_canonical.proofs.SetLines.{values_put}
use Rattle.bz_canonical.proofs.set_list.put_values.Goals as goal

pub returns : goal.returns
returns c =
    let values = c.args.values.now in
    let old = c.args.written.now.items in
    let list : PassedList = record { passed = record c.none.result { broken = nat_lt 1 (length values) }; end = c.args.end; start = c.len-start.result } in
    let some : 0 < length values = grind (arith, tests, c.if-is_empty.false, c.is_empty.ensures) in
    let start : c.len-start.result ≡ length old = omega (arith, c.len-start.ensures) in
    let broken : nat_lt 1 (length values) ≡ nat_le 2 (length values) = grind (arith, nat_tests) in
    values_put values list old c.put_lines.new.written.items c.end_list.new.written.items c.end_list.result some start broken c.in_ok-put_lines.ensures c.end_list.ensures
