use Rattle.std.proofs.Common.{sym, ◌∙◌}
use Rattle.bz_label.specs.private.ByteSteps.{left}
use Rattle.bz_label.proofs.LastParts.{has_colon}
use Rattle.bz_label.proofs.completed.has_colon.Goals as goal

pub returns-in-Inner : goal.returns-in-Inner
returns-in-Inner c = c.is_some.ensures ∙ sym (has_colon c.after.result (left c.args.text) c.after.ensures.rest)
