use Rattle.std.proofs.Common.{◌≡◌, None, ap, sym, ◌∙◌}
use Rattle.std.specs.Prelude.{option_map}
use Rattle.bz_label.specs.Labels.{last_part}
use Rattle.bz_label.specs.private.ByteSteps.{left}
use Rattle.bz_label.specs.private.LabelSteps.{rest_after}
use Rattle.bz_label.proofs.LastParts.{shorter, one_part, more_parts}
use Rattle.bz_label.proofs.completed.last_part.Goals as goal

pub loop-rest-smaller : goal.loop-rest-smaller
loop-rest-smaller c = shorter 47 (left c.loop-rest.path) (left c.in-Some.rest) c.in-Some.ensures.rest

pub loop-rest-preserved : goal.loop-rest-preserved
loop-rest-preserved c = record {
  good = c.in-Some.ensures.good;
  same = sym (more_parts (left c.loop-rest.path) (left c.in-Some.rest) c.in-Some.ensures.rest).1 ∙ c.loop-rest.invariant.same;
}

pub returns-clause-last : goal.returns-clause-last
returns-clause-last c =
    let none : None ≡ rest_after 47 (left c.loop-rest.path) = ap (option_map left) (sym c.in_default-after.is) ∙ c.after.ensures.rest in
    sym (ap last_part (one_part (left c.loop-rest.path) none)) ∙ c.loop-rest.invariant.same
