use Rattle.std.proofs.Common.{refl}
use Rattle.bz_rule.specs.declared.forms.AttributeValues.{AttributeValues}
use Rattle.bz_canonical.proofs.NewValues.{there_in, there_in_none}
use Rattle.bz_canonical.proofs.added.NewValues.is_there.Goals as goal

pub returns-in_default : goal.returns-in_default
returns-in_default c = λ lists searched. there_in_none c.args.self.env.home.now c.args.self.added.attr.now c.args.value.now c.args.self.among c.in_default.is lists searched

pub returns : goal.returns
returns c = λ lists searched.
    let sought : AttributeValues = record { attr = c.args.self.added.attr; values = c.from_ref.result } in
    there_in c.args.self.env.home.now c.args.self.added.attr.now c.args.value.now c.in-Some.among c.args.self.among sought c.in_ok-there.there c.in-Some.is refl c.from_ref.ensures.value c.in_ok-there.ensures lists searched
