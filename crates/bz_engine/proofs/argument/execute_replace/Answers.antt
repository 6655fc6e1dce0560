use Rattle.std.proofs.Common.{refl}
use Rattle.bz_canonical.specs.Canonical.{read_alone}
use Rattle.bz_engine.proofs.ArgumentAnswers.{lacking_is_not_replaced, replaces_in_list}
use Rattle.bz_engine.proofs.argument.execute_replace.Goals as goal

pub returns-then-lacks_in_few_lines : goal.returns-then-lacks_in_few_lines
returns-then-lacks_in_few_lines c =
    let alone = read_alone c.args.script.max_depth c.args.script.home.now c.args.lines.now in
    lacking_is_not_replaced alone c.args.replaced (record { attr = c.args.replaced.attr; values = c.from_ref.result }) c.args.written.now.items c.args.written.now.items refl c.from_ref.ensures.value (c.lacks_in_few_lines.ensures c.if-lacks_in_few_lines.true)

pub returns : goal.returns
returns c =
    let alone = read_alone c.args.script.max_depth c.args.script.home.now c.args.lines.now in
    replaces_in_list alone c.args.replaced c.args.written.now.items c.put_replaced.new.written.items c.put_replaced.result c.put_replaced.ensures
