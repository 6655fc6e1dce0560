use Rattle.std.proofs.Common.{sym, ap, ◌∙◌, rules}
use Rattle.bz_label.specs.Labels.{last_part, parts_of, is_slash}
use Rattle.bz_label.proofs.Cuts.{last_cons, some_part}
use Rattle.bz_label.proofs.labels.last_part.Goals as goal

pub loop-rest-preserved : goal.loop-rest-preserved
loop-rest-preserved c = record {
  utf8 = search rules;
  same = sym (last_cons _ (parts_of c.in-Some.rest.now) (some_part is_slash c.in-Some.rest.now)) ∙ ap last_part (sym c.in-Some.ensures.parts) ∙ c.loop-rest.invariant.same;
}
