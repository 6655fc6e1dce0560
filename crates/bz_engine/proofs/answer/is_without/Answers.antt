use Rattle.std.proofs.Common.{◌≡◌, ℕ, List, length, arith, subst, sym, tests}
use Rattle.std.specs.Prelude.{Option, IfSome, option_map}
use Rattle.bz_canonical.specs.Canonical.{HasPlace, between}
use Rattle.bz_canonical.specs.declared.place.ArgumentPlace.{ArgumentPlace}
use Rattle.bz_engine.specs.private.Found.{IsWithout}
use Rattle.bz_engine.proofs.CanonicalChunks.{same_bytes}
use Rattle.bz_engine.proofs.TextAnswers.{no_argument}
use Rattle.bz_engine.proofs.answer.is_without.Goals as goal

pub returns-then-eq : goal.returns-then-eq
returns-then-eq c = λ empty depth s is.
    let attr : List ℕ = c.args.found.now.attr.now in
    let has : HasPlace depth attr s (between c.in-Some.place) = subst (λ (o : Option ArgumentPlace). IfSome (option_map between o) (HasPlace depth attr s)) c.in-Some.is is.has in
    let none : length c.in-Some.place.lines.now ≡ 0 = grind (arith, tests, empty, c.is_empty.ensures) in
    subst (λ (a : List ℕ). IsWithout a s) (same_bytes attr c.args.attr.now (sym c.if-eq.ensures)) (no_argument depth attr s (between c.in-Some.place) has none)
