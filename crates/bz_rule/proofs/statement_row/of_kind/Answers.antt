use Rattle.std.proofs.Common.{◌∙◌, Option, ap, subst, sym}
use Rattle.bz_attribute.specs.Heads.{HasHead}
use Rattle.bz_attribute.specs.Rules.{name_in}
use Rattle.bz_attribute.specs.declared.head.Head.{Head}
use Rattle.bz_rule.proofs.HeadKept.{of_kind}
use Rattle.bz_rule.proofs.statement_row.of_kind.Goals as goal

pub returns-in-Some : goal.returns-in-Some
returns-in-Some c s has =
    let own = subst (λ (h : Option Head). HasHead h s) c.in-Some.is has in
    let other = of_kind c.args.kind.now s own.rule own.is in
    record {
      rule = other.rule;
      is = other.is;
      kind_is = other.kind_is;
      name_is = own.name_is ∙ ap name_in (sym other.args);
      start_is = own.start_is;
      end_is = own.end_is;
    }
