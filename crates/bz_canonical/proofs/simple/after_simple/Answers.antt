use Rattle.std.proofs.Common.{◌≡◌, ◌+◌, ◌∙◌, List, ℕ, ap, drop, arith, subst, sym}
use Rattle.std.specs.List.{prefix_len}
use Rattle.std.proofs.lemmas.List.{take_rest, drop-drop}
use Rattle.bz_canonical.specs.private.Fronts.{IsCounted, is_simple}
use Rattle.bz_canonical.proofs.simple.after_simple.Goals as goal

pub loop-rest-preserved : goal.loop-rest-preserved
loop-rest-preserved c =
    let rest : List ℕ = c.loop-rest.rest.now in
    let counted : prefix_len is_simple rest ≡ 16 + prefix_len is_simple (drop 16 rest) = subst (IsCounted rest) c.in-None.is c.simple_in_block.ensures in
    rw take_rest (c.loop-rest.invariant ∙ ap (λ (n : ℕ). drop n rest) (counted ∙ omega arith) ∙ sym (drop-drop (prefix_len is_simple (drop 16 rest)) 16 rest))

pub returns-in-Some : goal.returns-in-Some
returns-in-Some c =
    let rest : List ℕ = c.loop-rest.rest.now in
    let counted = subst (IsCounted rest) c.in-Some.is c.simple_in_block.ensures in
    rw take_rest (sym (c.loop-rest.invariant ∙ ap (λ (n : ℕ). drop n rest) counted.0))

pub returns : goal.returns
returns c = rw take_rest (sym (c.loop-rest.invariant ∙ ap (λ (n : ℕ). drop n c.loop-rest.rest.now) (sym c.few_simple.ensures.len)))
