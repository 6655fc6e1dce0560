use Rattle.std.proofs.Common.{◌≡◌, ℕ, List, length, true, refl, arith, tests, sym, subst, ◌∙◌}
use Rattle.std.proofs.lemmas.Bool.{not-false}
use Rattle.std.specs.Prelude.{Option, IfSome, option_map}
use Rattle.bz_canonical.specs.Canonical.{HasPlace, between}
use Rattle.bz_canonical.specs.declared.place.ArgumentPlace.{ArgumentPlace}
use Rattle.bz_engine.proofs.CanonicalChunks.{same_bytes}
use Rattle.bz_engine.proofs.Gone.{gone_from}
use Rattle.bz_engine.proofs.marked_rule.gone_place.Goals as goal

pub returns : goal.returns
returns c = λ depth s found once.
    let attr : List ℕ = c.args.attr.now in
    let place = c.in-Some.place in
    let same = same_bytes attr c.args.found.now.attr.now (not-false _ (sym c.ne.ensures ∙ c.if-ne.false)) in
    let has : HasPlace depth attr s (between place) = subst (λ (a : List ℕ). HasPlace depth a s (between place)) (sym same)
    (subst (λ (o : Option ArgumentPlace). IfSome (option_map between o) (HasPlace depth c.args.found.now.attr.now s)) c.in-Some.is found.has) in
    let goes : place.may_go ≡ true = c.may_stand.ensures c.if-not-may_stand.false refl in
    let some : length place.lines.now ≡ 0 → ⊥ = λ none. grind (arith, tests, none, c.is_empty.ensures, c.if-is_empty.false) in
    gone_from depth attr s (between place) has goes some once
