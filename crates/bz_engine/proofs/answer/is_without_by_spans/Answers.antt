use Rattle.std.proofs.Common.{◌≡◌, ℕ, List, length, arith, tests}
use Rattle.bz_canonical.specs.Canonical.{HasPlace, between}
use Rattle.bz_engine.specs.private.Found.{IsPlaceIn}
use Rattle.bz_engine.proofs.TextAnswers.{no_argument}
use Rattle.bz_engine.proofs.answer.is_without_by_spans.Goals as goal

pub returns-in-Some : goal.returns-in-Some
returns-in-Some c = λ empty line s on.
    let depth = c.args.script.max_depth in
    let attr : List ℕ = c.args.attr.now in
    let place = c.in-Some.place in
    let is : IsPlaceIn c.args.script.passes.now c.args.found.now attr place = c.in-Some.ensures in
    let has : HasPlace depth attr s (between place) = is.1 line depth s (c.requires.spans is.0 line s on.read) in
    let none : length place.lines.now ≡ 0 = grind (arith, tests, empty, c.is_empty.ensures) in
    no_argument depth attr s (between place) has none
