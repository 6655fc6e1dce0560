use Rattle.std.proofs.Common.{[], codes, subst}
use Rattle.bz_program.specs.Console.{Shows}
use Rattle.bz_program.specs.Hints.{unopened_hint}
use Rattle.bz_program.specs.Texts.{message_of, hint_told}
use Rattle.bz_program.proofs.Shown.{shows_told}
use Rattle.bz_program.proofs.package.put_unopened.Goals as goal

pub returns-clause-told : goal.returns-clause-told
returns-clause-told g c =
    shows_told g.O.Sink.took g.E.Sink.took g.met.O.Sink.took_more g.met.E.Sink.took_more c.args.console.now c.put_message.new.self c.put_hint.new.console [] (message_of c.args.name.now (codes "cannot open"))
    (hint_told c.args.name.now (unopened_hint c.args.home.now c.args.name.now c.args.why)) c.put_message.ensures
    (subst (λ hint. Shows g.O.Sink.took g.E.Sink.took c.put_message.new.self [] (hint_told c.args.name.now hint) c.put_hint.new.console) c.of_unopened.ensures c.put_hint.ensures)
