use Rattle.std.proofs.Common.{◌≡◌, false, refl, sym, ap, ◌∙◌}
use Rattle.bz_tree.specs.declared.grammar.role.Role.{Role}
use Rattle.bz_tree.specs.declared.grammar.role.Role.TheVariants.{Colon}
use Rattle.bz_tree.specs.declared.grammar.stage.Goal.{Goal}
use Rattle.bz_tree.specs.declared.grammar.stage.Stage.TheVariants.{Begins}
use Rattle.bz_tree.specs.private.Machine.{next_wanted, next}
use Rattle.bz_tree.proofs.grammar.stage.next.Goals as goal

wanted : (p : Goal) (r : Role) → (r ≡ Colon → ⊥) → next_wanted p false r ≡ next (Begins p) r
wanted p Colon h = absurd (h refl)
wanted p _ h = refl

pub returns-in_default-role : goal.returns-in_default-role
returns-in_default-role c = c.next_wanted-in_default-role.ensures ∙ (wanted c.in-Begins-default.goal c.args.role c.in_default-role.not-Colon ∙ ap (λ s. next s c.args.role) (sym c.in-Begins-default.is-0))
