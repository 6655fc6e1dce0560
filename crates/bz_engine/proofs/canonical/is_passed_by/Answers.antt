use Rattle.std.proofs.Common.{◌∙◌, sym}
use Rattle.bz_engine.proofs.OnlyPass.{no_rule_passed}
use Rattle.bz_engine.proofs.canonical.is_passed_by.Goals as goal

pub returns-in_default : goal.returns-in_default
returns-in_default c = λ passed s is. no_rule_passed c.args.script.home.now c.args.script.passes.now s is.class (λ rule. c.in_default.not-Rule (sym is.class_is ∙ rule))
