use Rattle.std.proofs.Common.{rules, ◌≡◌, ◌∙◌, true, false, Err, sym, ap, refl}
use Rattle.std.specs.Prelude.{is_ok}
use Rattle.bz_label.proofs.Numbers.{too_large}
use Rattle.bz_label.specs.Labels.{is_number}
use Rattle.bz_label.specs.declared.labels.LabelFault.TheVariants.{BadTarget}
use Rattle.bz_label.proofs.labels.read_percent.Goals as goal

pub returns-in_err-map_err : goal.returns-in_err-map_err
returns-in_err-map_err c = λ _.
    let number : is_number c.args.text.now ≡ true = search rules in
    let fails : is_ok c.parse.result ≡ false = sym c.map_err.ensures.variant ∙ ap is_ok c.in_err-map_err.was in
    let fault : c.from_residual.result ≡ Err BadTarget = search rules in
    rw (fault, number, too_large c.args.text.now _ c.parse.ensures.value.0 fails number) refl
