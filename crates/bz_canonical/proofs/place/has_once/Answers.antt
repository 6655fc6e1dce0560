use Rattle.std.proofs.Common.{◌≤◌, ◌==◌, false, arith, count_by}
use Rattle.std.proofs.lemmas.Bool.Decides.{nat_tests}
use Rattle.bz_token.specs.Common.{map_or}
use Rattle.bz_canonical.specs.declared.spans.ArgumentSpan.{ArgumentSpan}
use Rattle.bz_canonical.proofs.Places as places
use Rattle.bz_canonical.proofs.place.has_once.Goals as goal

pub returns : goal.returns
returns c = λ few first depth names attr s chunk written has at.
    let i = c.args.name in
    let count : count_by (λ (span : ArgumentSpan). map_or false (λ index. index == i) span.named) c.args.spans.now ≤ 1 = grind (arith, nat_tests, few, c.count_named.ensures) in
    places.has_once first depth names attr i s chunk written c.args.spans.now at count has
