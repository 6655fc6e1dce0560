use Rattle.std.proofs.Common.{ℕ, List, subst, sym, ◌∙◌}
use Rattle.std.proofs.lemmas.Bool.{not-false}
use Rattle.std.specs.Prelude.{Option, IfSome, option_map}
use Rattle.bz_canonical.specs.Canonical.{HasPlace, between}
use Rattle.bz_canonical.specs.declared.place.ArgumentPlace.{ArgumentPlace}
use Rattle.bz_engine.proofs.CanonicalChunks.{same_bytes}
use Rattle.bz_engine.proofs.Renamed.{name_taken}
use Rattle.bz_engine.proofs.marked_rule.name_place.Goals as goal

pub returns : goal.returns
returns c = λ depth s found.
    let attr : List ℕ = c.args.attr.now in
    let place = c.in-Some.place in
    let same = same_bytes attr c.args.found.now.attr.now (not-false _ (sym c.ne.ensures ∙ c.if-ne.false)) in
    let has : HasPlace depth attr s (between place) = subst (λ (a : List ℕ). HasPlace depth a s (between place)) (sym same)
    (subst (λ (o : Option ArgumentPlace). IfSome (option_map between o) (HasPlace depth c.args.found.now.attr.now s)) c.in-Some.is found.has) in
    name_taken depth attr s (between place) c.in_ok-at.at.above.now c.in_ok-at.at.below.now c.in_ok-named.named.now c.in_ok-after.after.now has
    (c.in_ok-at.ensures depth attr s found.written has) c.in_ok-named.ensures.back c.in_ok-after.ensures.back
