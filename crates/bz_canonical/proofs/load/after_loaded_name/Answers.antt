use Rattle.std.proofs.Common.{◌++◌, refl}
use Rattle.std.specs.Prelude.{codes}
use Rattle.std.proofs.lemmas.Option.{IfSome_then}
use Rattle.bz_canonical.proofs.BareStatements.{loaded_string, renamed_string}
use Rattle.bz_canonical.proofs.load.after_loaded_name.Goals as goal

pub returns-in-Some : goal.returns-in-Some
returns-in-Some c =
    let value = c.in-Some.value.now in
    IfSome_then c.after_string.result c.after_string.ensures (λ rest. renamed_string c.args.text.now (codes " = " ++ value) rest.now value c.in-Some.ensures refl)

pub returns-in-None : goal.returns-in-None
returns-in-None c = IfSome_then c.after_string-in-None.result c.after_string-in-None.ensures (λ rest. loaded_string c.args.text.now rest.now)
