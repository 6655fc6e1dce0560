use Rattle.std.proofs.Common.{◌∙◌, ap, sym}
use Rattle.std.specs.List.{position}
use Rattle.std.specs.Prelude.{bytes_eq}
use Rattle.bz_engine.specs.private.Sealed.{asked_names}
use Rattle.bz_engine.proofs.answer.has_once_by_spans.Goals as goal

pub returns-in-Some : goal.returns-in-Some
returns-in-Some c = λ once line s on.
    let names = asked_names c.args.script.passes.now in
    let attr = c.args.attr.now in
    let found = c.args.found.now in
    let at = ap (position (λ name. bytes_eq name attr)) (sym c.names.ensures) ∙ sym c.position_of.ensures ∙ c.in-Some.is in
    c.has_once.ensures once line c.args.script.max_depth names attr s found.chunk.chunk.now found.chunk.written.now (c.requires.spans c.if-not-found.false line s on.read) at
