use Rattle.bz_canonical.specs.Canonical.{read_alone}
use Rattle.bz_engine.proofs.ArgumentAnswers.{sets_list}
use Rattle.bz_engine.proofs.argument.execute_set.Goals as goal

pub returns : goal.returns
returns c =
    let alone = read_alone c.args.script.max_depth c.args.script.home.now c.args.lines.now in
    sets_list alone c.args.new c.args.written.now.items c.put_set_list.new.written.items c.put_set_list.result c.put_set_list.ensures
