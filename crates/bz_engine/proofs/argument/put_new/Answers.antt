use Rattle.bz_engine.specs.private.ArgumentEdits.{AddsArgument}
use Rattle.bz_engine.proofs.ArgumentAnswers.{at_home, puts_list}
use Rattle.bz_engine.proofs.argument.put_new.Goals as goal

pub returns-in_default : goal.returns-in_default
returns-in_default c = at_home (λ home. AddsArgument c.args.command.now home c.put_set.new.lines.items) c.args.script.home.now c.put_set.result c.put_set.ensures

pub returns : goal.returns
returns c =
    let new = c.in-Some.new in
    puts_list c.args.command.now c.args.script.home.now new.attr.now new.values.now c.clear.new.self.items c.put_new_list.new.written.items c.put_new_list.result c.in-Some.ensures c.clear.ensures.items c.put_new_list.ensures
