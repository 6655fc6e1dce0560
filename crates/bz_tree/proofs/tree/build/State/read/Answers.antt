use Rattle.std.proofs.Common.{arith, false, [], get_or, ◌++◌, map, refl, sym, ap, subst, ◌∙◌}
use Rattle.std.proofs.lemmas.Grind.{common_steps}
use Rattle.std.proofs.lemmas.List.{at_drop_all, at_drop_more}
use Rattle.std.specs.Bool.{then_some}
use Rattle.bz_token.specs.Places.{placed}
use Rattle.bz_token.specs.declared.token.Kind.TheVariants.{Identifier}
use Rattle.bz_token.specs.declared.token.Token.{Token}
use Rattle.bz_tree.specs.private.Steps.{has_one, state}
use Rattle.bz_tree.specs.private.PlacedSteps.{AreSpelledFrom, frame_spelling, opened, state_spelling, walk_spelling}
use Rattle.bz_tree.specs.Places.{joined}
use Rattle.bz_tree.proofs.Trees.Placed.{from_here, from_next, next_flat}
use Rattle.bz_tree.proofs.Trees.Walking.{none_in}
use Rattle.bz_tree.proofs.tree.build.State.read.Goals as goal

pub loop-token-init : goal.loop-token-init
loop-token-init c = record { same = refl; borrowed = omega arith; places = λ now h. h; flat = λ h. h }

-- what a read beyond the tokens would give
abbrev no_token : Token
no_token = record { text = record { ref_ptr = (0, 0); now = [] }; line = 0; col = 0; kind = Identifier; fresh = false }

pub loop-token-preserved : goal.loop-token-preserved
loop-token-preserved c =
    let old = c.loop-token.self in
    let tokens = c.args.tokens.now in
    let value = ap (λ b. then_some b (state c.step.new.self)) (sym c.if-not-branch.false) ∙ c.in_ok-step.ensures.value in
    record {
      same = grind (arith, common_steps);
      borrowed = grind (arith, common_steps);
      places = λ now h. c.loop-token.invariant.places now
          (subst (λ ts. AreSpelledFrom (state_spelling old) ts now) (sym (at_drop_more (map placed) tokens c.loop-token.token-index no_token c.loop-token-test.true))
          (from_next (state_spelling old) (state_spelling c.step.new.self) now (has_one old.top.kind) (placed (get_or tokens c.loop-token.token-index no_token)) _ (c.in_ok-step.ensures.places c.if-not-branch.false) h));
      flat = λ h. next_flat _ _ _ _ _ _ value (c.loop-token.invariant.flat h);
    }

pub returns-then-is_none-clause-places : goal.returns-then-is_none-clause-places
returns-then-is_none-clause-places c = λ some.
    let self = c.loop-token.self in
    let outer = none_in self.outer.items _ c.is_empty.result (omega (arith, self.outer.ok.0)) c.is_empty.ensures some in
    let now = walk_spelling self.top.walk in
    c.loop-token.invariant.places now (subst (λ ts. AreSpelledFrom (state_spelling self) ts now) (sym (at_drop_all (map placed) c.args.tokens.now c.loop-token.token-index (omega (arith, c.loop-token-test.false))))
    (from_here (state_spelling self) now (sym (ap (λ fs. joined (map opened fs) ++ frame_spelling self.top) outer))))
