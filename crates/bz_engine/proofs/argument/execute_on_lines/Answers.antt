use Rattle.std.proofs.Common.{◌≡◌, length, arith, subst, sym, tests}
use Rattle.bz_canonical.specs.Canonical.{between}
use Rattle.bz_engine.specs.private.ArgumentEdits.{AddsArgument}
use Rattle.bz_engine.proofs.ArgumentAnswers.{adds_to_none}
use Rattle.bz_engine.proofs.argument.execute_on_lines.Goals as goal

pub returns-then-branch : goal.returns-then-branch
returns-then-branch c =
    let none : length c.args.place.lines.now ≡ 0 = grind (arith, tests, c.if-is_empty.true, c.is_empty-2.ensures) in
    adds_to_none c.args.script.max_depth c.args.command.now c.args.script.home.now (between c.args.place) c.as_slice-then-branch.result.now none
    (subst (AddsArgument c.args.command.now c.args.script.home.now) (sym c.as_slice-then-branch.ensures.value) (c.in_ok-put_new.ensures c.if-branch.true))
