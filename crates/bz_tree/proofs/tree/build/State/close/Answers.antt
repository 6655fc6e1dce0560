use Rattle.std.proofs.Common.{arith, ◌≡◌, ◌==◌, List, [], ◌∷◌, ◌++◌, length, map, Bool, true, false, ◌&&◌, cond, Option, Some, None, option_map, refl, ap, sym, ◌∙◌}
use Rattle.std.proofs.lemmas.Grind.{common_steps}
use Rattle.std.proofs.lemmas.Result.{IfOk-from_err}
use Rattle.bz_token.specs.Places.{Placed, placed}
use Rattle.bz_tree.specs.declared.tree.GroupKind.{GroupKind}
use Rattle.bz_tree.specs.declared.tree.owners.Inside.{Inside}
use Rattle.bz_tree.specs.declared.tree.kinds.Mark.TheVariants.{Close}
use Rattle.bz_tree.specs.declared.tree.kinds.Shape.{Shape}
use Rattle.bz_tree.specs.Tree.{Item, group, segs_of}
use Rattle.bz_tree.specs.View.{segs_view, texts}
use Rattle.bz_tree.specs.private.KindSteps.{same_shape}
use Rattle.bz_tree.specs.Owners.{node}
use Rattle.bz_tree.specs.Brackets.{is_paren, group_with}
use Rattle.bz_tree.specs.private.Steps.{Level, Levels, Walked, closed, done, inside_view, level, levels, next_at, shape_of, so_far, with_own}
use Rattle.bz_tree.proofs.Trees.Walking.{last_first, made-group, none_left}
use Rattle.bz_tree.specs.Borrowed.{total}
use Rattle.bz_tree.specs.private.BorrowedSteps.{frame_owned}
use Rattle.bz_tree.proofs.Trees.Borrowed.{made_group, owned_pop}
use Rattle.bz_tree.specs.Places.{closes as closing_end, joined, opens}
use Rattle.bz_tree.specs.private.PlacedSteps.{frame_spelling, opened}
use Rattle.bz_tree.proofs.Trees.Placed.{added, close_spelled, joined_pop}
use Rattle.bz_tree.proofs.Trees.Placed as placed_group
use Rattle.bz_tree.proofs.tree.build.State.close.Goals as goal

module _ (shape : Shape) (t : Placed) (top : Level) where
  other_shape : (outer : List Level) → same_shape (option_map shape_of top.kind) shape ≡ false → next_at (Close shape) t top outer ≡ None
  other_shape [] e = refl
  other_shape (below ∷ outer) e = rw e

  no_group : (outer : List Level) → closed top.kind top.walked ≡ None → next_at (Close shape) t top outer ≡ None
  no_group [] e = refl
  no_group (below ∷ outer) e = either (same_shape (option_map shape_of top.kind) shape)
    where
      either : (b : Bool) → cond b (option_map {U = Levels} (λ g. (with_own below (node t.line g), outer)) (closed top.kind top.walked)) None ≡ None
      either true = rw e
      either false = refl

  closes : (outer : List Level) (below new : Level) (rest : List Level) (g : Item) → same_shape (option_map shape_of top.kind) shape ≡ true → closed top.kind top.walked ≡ Some g → outer ≡ below ∷ rest → new ≡ with_own below (node t.line g)
      → Some (new, rest) ≡ next_at (Close shape) t top outer
  closes outer below new rest g same is around e = rw (around, same, is, e)

no_inside : (kind : GroupKind) (w : Option Walked) (o : Option Inside) → o ≡ None → option_map inside_view o ≡ option_map done w → closed (Some kind) w ≡ None
no_inside kind None o e h = refl
no_inside kind (Some w) None e h = absurd (cc)
no_inside kind (Some w) (Some i) e h = absurd (cc)

some_inside : (kind : GroupKind) (w : Option Walked) (o : Option Inside) (i : Inside) → o ≡ Some i → option_map inside_view o ≡ option_map done w → closed (Some kind) w ≡ Some (group_with kind (inside_view i))
some_inside kind w o i e h = ap (option_map (group_with kind)) (sym h ∙ ap (option_map inside_view) e)

pub returns-in_default-clause-value : goal.returns-in_default-clause-value
returns-in_default-clause-value c =
    let top = level c.args.self.now.top in
    sym (other_shape c.args.shape (placed c.args.token.now) top (levels c.args.self.now.outer.items) (ap (λ k. same_shape (option_map shape_of k) c.args.shape) c.in_default.is))

pub returns-then-not-same_shape-clause-value : goal.returns-then-not-same_shape-clause-value
returns-then-not-same_shape-clause-value c =
    let top = level c.args.self.now.top in
    let other = ap (λ k. same_shape (option_map shape_of k) c.args.shape) c.in-Some.is ∙ (ap (λ s. same_shape (Some s) c.args.shape) (sym c.shape_of.ensures) ∙ (sym c.same_shape.ensures ∙ c.if-not-same_shape.true)) in
    sym (other_shape c.args.shape (placed c.args.token.now) top (levels c.args.self.now.outer.items) other)

pub returns-in_default-pop-clause-value : goal.returns-in_default-pop-clause-value
returns-in_default-pop-clause-value c =
    let top = level c.args.self.now.top in
    let none = none_left c.args.self.now.outer.items (omega (arith, c.in_default-pop.ensures.cases.0, c.args.self.now.outer.ok.0)) in
    sym (ap (λ fs. next_at (Close c.args.shape) (placed c.args.token.now) top (levels fs)) none)

pub returns-in_err-inside-clause-value : goal.returns-in_err-inside-clause-value
returns-in_err-inside-clause-value c = IfOk-from_err _ _ c.from_residual.ensures.0

pub returns-in_default-2-clause-value : goal.returns-in_default-2-clause-value
returns-in_default-2-clause-value c =
    let top = level c.args.self.now.top in
    let none = no_inside c.in-Some.kind (so_far c.args.self.now.top.walk) c.in_ok-inside.field-0 c.in_default-2.is (c.in_ok-inside.ensures.value ∙ ap (λ f. option_map done (so_far f.walk)) c.replace-walk.ensures.value) in
    sym (no_group c.args.shape (placed c.args.token.now) top (levels c.args.self.now.outer.items) (ap (λ k. closed k top.walked) c.in-Some.is ∙ none))

pub returns-in_err-add_group-clause-value : goal.returns-in_err-add_group-clause-value
returns-in_err-add_group-clause-value c = IfOk-from_err _ _ c.from_residual-in_err-add_group.ensures.0

pub returns-clause-value : goal.returns-clause-value
returns-clause-value c =
    let top = level c.args.self.now.top in
    let kind = c.in-Some.kind in
    let inside = c.in-Some-2.inside in
    let below = c.in-Some-pop.below in
    let same = ap (λ k. same_shape (option_map shape_of k) c.args.shape) c.in-Some.is ∙ (ap (λ s. same_shape (Some s) c.args.shape) (sym c.shape_of.ensures) ∙ (sym c.same_shape.ensures ∙ c.if-not-same_shape.false)) in
    let some = some_inside kind (so_far c.args.self.now.top.walk) c.in_ok-inside.field-0 inside c.in-Some-2.is (c.in_ok-inside.ensures.value ∙ ap (λ f. option_map done (so_far f.walk)) c.replace-walk.ensures.value) in
    let one : c.if-len-eq1.one_comma ≡ (is_paren kind && (length (inside_view inside).segs == 1) && inside.trailing) = grind (arith, common_steps) in
    let grouped = made-group (record { kind = kind; segs = inside.segs; one_comma = c.if-len-eq1.one_comma; end = inside.end }) ∙ ap (λ b. group kind (segs_of (segs_view inside.segs.items)) b (texts inside.end.items)) one in
    let added = c.in_ok-add_group.ensures.value ∙ (ap (λ g. with_own (level c.replace-walk.new.dest) (node c.args.token.now.line g)) grouped ∙ ap (λ f. with_own (level f) (node c.args.token.now.line (group_with kind (inside_view inside)))) c.replace-walk.ensures.after) in
    closes c.args.shape (placed c.args.token.now) top (levels c.args.self.now.outer.items) (level below) (level c.add_group.new.self) (levels c.pop.new.self.items) (group_with kind (inside_view inside)) same
    (ap (λ k. closed k top.walked) c.in-Some.is ∙ some) (last_first level c.args.self.now.outer.items c.pop.new.self.items below c.in-Some-pop.ensures.items) added

pub returns-in_default-2-clause-borrowed : goal.returns-in_default-2-clause-borrowed
returns-in_default-2-clause-borrowed c =
    let outer = ap (λ fs. total (map frame_owned fs)) c.pop.ensures.items ∙ owned_pop frame_owned _ _ _ c.in-Some-pop.is in
    let top = ap frame_owned c.replace-walk.ensures.after in
    omega (arith, outer, top)

pub returns-clause-borrowed : goal.returns-clause-borrowed
returns-clause-borrowed c =
    let outer = ap (λ fs. total (map frame_owned fs)) c.pop.ensures.items ∙ owned_pop frame_owned _ _ _ c.in-Some-pop.is in
    let top = ap frame_owned c.replace-walk.ensures.after in
    let inner = ap frame_owned c.replace-walk.ensures.value in
    let i = c.in-Some-2.inside in
    let fits = rw c.in-Some-2.is at c.in_ok-inside.ensures.borrowed in
    let group = made_group (record { kind = c.in-Some.kind; segs = i.segs; one_comma = c.if-len-eq1.one_comma; end = i.end }) in
    omega (arith, outer, top, inner, fits, group, c.in_ok-add_group.ensures.borrowed)

pub returns-clause-places : goal.returns-clause-places
returns-clause-places c = λ closed.
    let i = c.in-Some-2.inside in
    let below = c.in-Some-pop.below in
    let outer = ap (λ fs. joined (map opened fs)) c.pop.ensures.items ∙ joined_pop opened _ _ _ c.in-Some-pop.is in
    let inner = ap frame_spelling c.replace-walk.ensures.value in
    let fits = rw c.in-Some-2.is at c.in_ok-inside.ensures.places in
    let made = placed_group.made_group (record { kind = c.in-Some.kind; segs = i.segs; one_comma = c.if-len-eq1.one_comma; end = i.end }) in
    let group = made ∙ ap (λ ps. opens ∷ (ps ++ closing_end ∷ [])) (fits ∙ inner) in
    let top = added _ _ _ _ _ c.in_ok-add_group.ensures.places (ap frame_spelling c.replace-walk.ensures.after) group in
    close_spelled (joined (map opened c.pop.new.self.items)) (frame_spelling below) (frame_spelling c.args.self.now.top) _ _ outer top
