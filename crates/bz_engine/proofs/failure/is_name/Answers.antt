use Rattle.std.proofs.Common.{◌≡◌, ◌∷◌, ◌∙◌, [], ap, rules}
use Rattle.std.specs.Prelude.{codes}
use Rattle.bz_rule.specs.declared.commands.field.Field.{Field}
use Rattle.bz_rule.specs.declared.commands.field.Field.TheVariants.{ValueOf}
use Rattle.bz_engine.proofs.TextFailures.{one_field}
use Rattle.bz_engine.proofs.failure.is_name.Goals as goal

pub returns-in-ValueOf : goal.returns-in-ValueOf
returns-in-ValueOf c = λ is.
    let field : c.field-item.result ≡ ValueOf (codes "name") = search rules in
    one_field c.args.fields.now c.field-item.result c.in-len1.len_at_least c.in-len1.len_below c.field-item.is ∙ ap (λ (f : Field). f ∷ []) field
