use Rattle.std.proofs.Common.{◌∙◌, ap, sym}
use Rattle.std.proofs.lemmas.Option.{IfSome_then}
use Rattle.std.specs.List.{position}
use Rattle.std.specs.Prelude.{bytes_eq}
use Rattle.bz_engine.specs.private.Sealed.{asked_names}
use Rattle.bz_engine.proofs.answer.place_of.Goals as goal

pub returns : goal.returns
returns c =
    let names = asked_names c.args.script.passes.now in
    let attr = c.args.attr.now in
    let at = ap (position (λ name. bytes_eq name attr)) (sym c.names.ensures) ∙ sym c.in_ok-at.ensures in
    IfSome_then c.argument_place.result c.argument_place.ensures (λ place told. (c.if-not-found.false, λ first depth s has. told first depth names attr s has at))
