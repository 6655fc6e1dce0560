use Rattle.std.proofs.Common.{refl}
use Rattle.bz_canonical.specs.Canonical.{read_alone}
use Rattle.bz_rule.specs.declared.command.Action.TheVariants.{Add}
use Rattle.bz_engine.proofs.ArgumentAnswers.{adds_to_list}
use Rattle.bz_engine.proofs.argument.execute_add.Goals as goal

pub returns : goal.returns
returns c =
    let new = c.args.new in
    let alone = read_alone c.args.script.max_depth c.args.script.home.now c.args.lines.now in
    adds_to_list (Add new.attr.now new.values.now) alone new c.args.written.now.items c.put_added.new.written.items refl c.put_added.result c.put_added.ensures
