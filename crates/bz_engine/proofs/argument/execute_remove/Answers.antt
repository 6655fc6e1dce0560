use Rattle.bz_canonical.specs.Canonical.{read_alone}
use Rattle.bz_engine.proofs.ArgumentAnswers.{lacking_stays, removes_from_list}
use Rattle.bz_engine.proofs.argument.execute_remove.Goals as goal

pub returns-then-lacks_in_few_lines : goal.returns-then-lacks_in_few_lines
returns-then-lacks_in_few_lines c =
    let alone = read_alone c.args.script.max_depth c.args.script.home.now c.args.lines.now in
    lacking_stays alone c.args.old c.args.written.now.items c.args.written.now.items c.requires (c.lacks_in_few_lines.ensures c.if-lacks_in_few_lines.true)

pub returns : goal.returns
returns c =
    let alone = read_alone c.args.script.max_depth c.args.script.home.now c.args.lines.now in
    removes_from_list alone c.args.old c.args.written.now.items c.put_removed.new.written.items c.put_removed.result c.put_removed.ensures
