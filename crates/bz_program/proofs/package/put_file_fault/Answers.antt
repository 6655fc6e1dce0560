use Rattle.std.proofs.Common.{[], codes, refl, sym, subst}
use Rattle.bz_program.specs.Console.{Shows}
use Rattle.bz_program.specs.Hints.{unwritten_hint}
use Rattle.bz_program.specs.Texts.{message_of, hint_told, unwritten_text, IsFileFaultTold}
use Rattle.bz_program.proofs.Shown.{shows_told}
use Rattle.bz_program.proofs.package.put_file_fault.Goals as goal

pub returns-in-Run-clause-told : goal.returns-in-Run-clause-told
returns-in-Run-clause-told g c =
    let told = c.put_fault.ensures.told in
    (message_of c.args.name.now told.0, subst (λ fault. IsFileFaultTold c.args.name.now fault (message_of c.args.name.now told.0)) (sym c.in-Run.is) (told.0, told.1, refl), told.2)

pub returns-in-CannotWrite-clause-told : goal.returns-in-CannotWrite-clause-told
returns-in-CannotWrite-clause-told g c = (
  unwritten_text c.args.name.now c.args.why,
  subst (λ fault. IsFileFaultTold c.args.name.now fault (unwritten_text c.args.name.now c.args.why)) (sym c.in-CannotWrite.is) (c.args.why, refl),
  shows_told g.O.Sink.took g.E.Sink.took g.met.O.Sink.took_more g.met.E.Sink.took_more c.args.console.now c.put_message.new.self c.put_hint.new.console [] (message_of c.args.name.now (codes "cannot write"))
      (hint_told c.args.name.now (unwritten_hint c.args.why)) c.put_message.ensures
      (subst (λ hint. Shows g.O.Sink.took g.E.Sink.took c.put_message.new.self [] (hint_told c.args.name.now hint) c.put_hint.new.console) c.of_unwritten.ensures c.put_hint.ensures),
)
