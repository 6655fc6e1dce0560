use Rattle.std.proofs.Common.{◌≡◌, ◌++◌, ◌∙◌, ap}
use Rattle.bz_passes.specs.Exchange.{told}
use Rattle.bz_passes.proofs.ExchangeLaw.{told_left}
use Rattle.bz_passes.proofs.kept.tell.Goals as goal

pub returns-clause-told : goal.returns-clause-told
returns-clause-told g c =
    c.in_ok-tell_passes.ensures ∙ ap (λ log. log ++ told (g.L.Language.meaning c.args.language.now) c.args.passes.now c.args.kept.now) c.new-log.ensures

pub returns-clause-whole : goal.returns-clause-whole
returns-clause-whole g c slots left =
    let meaning = g.L.Language.meaning c.args.language.now in
    let kept = c.args.kept.now in
    let log : c.tell_passes.new.log ≡ told meaning c.args.passes.now kept =
    c.in_ok-tell_passes.ensures ∙ ap (λ log. log ++ told meaning c.args.passes.now kept) c.new-log.ensures in
    log ∙ told_left meaning c.args.passes.now slots kept left
