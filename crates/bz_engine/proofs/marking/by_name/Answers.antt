use Rattle.std.proofs.Common.{ℕ, ◌<◌, length, sym, subst}
use Rattle.bz_passes.specs.Asked.{asked_by}
use Rattle.bz_passes.specs.OnePass.{IsOnlyFor}
use Rattle.bz_engine.specs.Language.{meaning}
use Rattle.bz_engine.specs.Outcome.{Script}
use Rattle.bz_engine.proofs.OnlyPass.{for_key}
use Rattle.bz_engine.proofs.marking.by_name.Goals as goal

pub one_at-requires : goal.one_at-requires
one_at-requires c = subst (λ (passes : Script). c.in-Some.at < length passes) c.indexed.ensures c.in-Some.ensures.within

pub returns-in-Some-one_at : goal.returns-in-Some-one_at
returns-in-Some-one_at c line =
    let home = c.args.script.home.now in
    let passes : Script = c.args.script.passes.now in
    let key = c.name_key.result in
    let only = c.in-Some-one_at.only in
    let same = sym c.in-Some-one_at.ensures.at in
    let law = subst (λ (ps : Script). IsOnlyFor (meaning home) asked_by ps key c.in-Some.at) c.indexed.ensures c.in-Some.ensures.law in
    let within = subst (λ (ps : Script). c.in-Some.at < length ps) c.indexed.ensures c.in-Some.ensures.within in
    for_key home passes only _ key (subst (IsOnlyFor (meaning home) asked_by passes key) same law) (subst (λ (at : ℕ). at < length passes) same within)
    c.in-Some-one_at.ensures.pass c.in-Some-one_at.ensures.last (λ s on. c.name_key.ensures s on.is.named) (λ s on. c.marks_found.ensures c.if-marks_found.true c.args.script.max_depth s on.is)
