-- What `move` does, step by step: nothing where it notes why, and else nothing where no element is chosen.
use Rattle.std.proofs.Common.{◌≡◌, ℕ, List, [], ◌∷◌, Bool, true, false, not, ◌||◌, cond, filter, if◌then◌else◌, Option, Some, None, is_some, refl, ap, sym, ◌∙◌}
use Rattle.std.specs.List.{flat_map, list_any}
use Rattle.bz_token.specs.Common.{is_empty, map_or}
use Rattle.bz_tree.specs.Tree.{Segment}
use Rattle.bz_label.specs.Labels.{Package}
use Rattle.bz_label.specs.declared.arguments.Chosen.{Chosen}
use Rattle.bz_attribute.specs.Rules.{first_named, value}
use Rattle.bz_attribute.specs.Lists.{parts}
use Rattle.bz_attribute.specs.Effects.{is_chosen}
use Rattle.bz_attribute.specs.Reports.{chooses}
use Rattle.bz_attribute.proofs.LabelSets.{any_joined}
use Rattle.bz_rule.specs.Move.{elements_of, move, move_note}
use Rattle.bz_rule.specs.Reports.{moves}
use Rattle.bz_rule.specs.private.Steps.{moved, moved_where}

any_left : (p : Segment → Bool) (ss : List Segment) → list_any p ss ≡ not (is_empty (filter p ss))
any_left p [] = refl
any_left p (s ∷ ss) = elim (p s) as (λ b. (b || list_any p ss) ≡ not (is_empty (cond b (s ∷ filter p ss) (filter p ss)))) [ true ↦ refl | false ↦ any_left p ss ]

some_chosen : (home : Package) (chosen : Chosen) (o : Option Segment) → map_or false (chooses home chosen) o ≡ not (is_empty (filter (is_chosen home chosen) (elements_of o)))
some_chosen home chosen None = refl
some_chosen home chosen (Some a) = sym (any_joined (is_chosen home chosen) (parts (value a))) ∙ any_left (is_chosen home chosen) (flat_map (λ ss. ss) (parts (value a)))

one_by_one : (noted some none : Bool) (args new : List Segment) → some ≡ not none → (if noted || none then args else new) ≡ (if noted then args else (if some then new else args))
one_by_one true some none args new h = refl
one_by_one false some true args new h = sym (ap (λ (b : Bool). if b then new else args) h)
one_by_one false some false args new h = sym (ap (λ (b : Bool). if b then new else args) h)

-- step by step
abbrev pub move_steps : Package → List ℕ → List ℕ → Chosen → List Segment → List Segment
move_steps home old new chosen args = if is_some (move_note old new args) then args else moved_where home old new chosen args

pub move_is : (home : Package) (old new : List ℕ) (chosen : Chosen) (args : List Segment) → move home old new chosen args ≡ move_steps home old new chosen args
move_is home old new chosen args =
    one_by_one (is_some (move_note old new args)) (moves home old chosen args) (is_empty (filter (is_chosen home chosen) (elements_of (first_named old args)))) args (moved home old new chosen args)
    (some_chosen home chosen (first_named old args))

pub steps_are : (home : Package) (old new : List ℕ) (chosen : Chosen) → move_steps home old new chosen ≡ move home old new chosen
steps_are home old new chosen = λ i args. sym (move_is home old new chosen args) i
