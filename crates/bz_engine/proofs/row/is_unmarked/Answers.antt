use Rattle.std.proofs.Common.{sym, ap, ◌∙◌}
use Rattle.bz_label.specs.Labels.{Target}
use Rattle.bz_attribute.specs.Marks.{marks}
use Rattle.bz_passes.specs.Passes.{Pass}
use Rattle.bz_rule.specs.Commands.{Command}
use Rattle.bz_engine.proofs.Unmarked.{unmarked_next}
use Rattle.bz_engine.proofs.row.is_unmarked.Goals as goal

pub loop-pass-preserved : goal.loop-pass-preserved
loop-pass-preserved c s head =
    unmarked_next c.args.passes.now s c.loop-pass.pass-index c.pass-item.result c.loop-pass-test.true c.pass-item.is
    (sym (ap (λ (p : Pass Target Command). marks p.target s) c.pass.view_is) ∙ sym (c.is_marked_by.ensures s head) ∙ c.if-is_marked_by.false) ∙ c.loop-pass.invariant s head
