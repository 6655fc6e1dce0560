use Rattle.std.proofs.Common.{rules, ◌==◌, sym, ap, ◌∙◌}
use Rattle.std.specs.List.{slice_split}
use Rattle.bz_label.specs.Labels.{last_part}
use Rattle.bz_label.proofs.Cuts.{last_cons, some_part}
use Rattle.bz_label.proofs.parts.after_last.Goals as goal

pub loop-rest-preserved : goal.loop-rest-preserved
loop-rest-preserved c = (
  search rules,
  c.loop-rest.invariant.1 ∙ ap last_part c.in-Some.ensures.parts
      ∙ last_cons c.in-Some.field-0-0.now (slice_split (λ b. b == c.args.at) c.in-Some.rest.now) (some_part (λ b. b == c.args.at) c.in-Some.rest.now),
)

pub returns : goal.returns
returns c = sym (c.loop-rest.invariant.1 ∙ ap last_part c.in_default.ensures.parts)
