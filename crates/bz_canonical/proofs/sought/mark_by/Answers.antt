use Rattle.std.proofs.Common.{rules, ◌≡◌, ◌++◌, ◌∷◌, [], Bool, ℕ, List, None, true, false, get_or, map, take, take_all, ap, sym, ◌∙◌, if◌then◌else◌}
use Rattle.std.proofs.lemmas.List.{map_more}
use Rattle.bz_canonical.specs.Sought.{mark, may_have}
use Rattle.bz_canonical.specs.declared.spans.ArgumentSpan.{ArgumentSpan}
use Rattle.bz_canonical.proofs.sought.mark_by.Goals as goal

pub loop-span-preserved : goal.loop-span-preserved
loop-span-preserved c =
    let one = mark c.args.unsure c.args.parts.now c.args.chunk.now in
    let none : ArgumentSpan = record { from = 0; to = 0; start = 0; comma = 0; end = 0; named = None; sought = false } in
    let span : ArgumentSpan = get_or c.args.spans.now c.loop-span.span-index none in
    c.in_ok-push.ensures.items ∙ ap (λ (xs : List ArgumentSpan). xs ++ c.in-Some.marked ∷ []) c.loop-span.invariant
    ∙ ap (λ (x : ArgumentSpan). map one (take c.loop-span.span-index c.args.spans.now) ++ x ∷ []) (c.in-Some.ensures
    ∙ ap (λ (parts : List (List ℕ)). mark c.args.unsure parts c.args.chunk.now span) (c.deref.ensures.value ∙ c.in_ok-finders.ensures))
    ∙ sym (map_more one c.args.spans.now c.loop-span.span-index none c.loop-span-test.true)

pub returns : goal.returns
returns c =
    let one = mark c.args.unsure c.args.parts.now c.args.chunk.now in
    let may : may_have c.args.unsure c.args.parts.now c.args.chunk.now ≡ true = search rules in
    c.into_bump_slice.ensures ∙ c.loop-span.invariant ∙ ap (map one) (take_all c.loop-span.span-index c.args.spans.now c.loop-span-test.false)
    ∙ sym (ap (λ (b : Bool). if b then map one c.args.spans.now else c.args.spans.now) may)
