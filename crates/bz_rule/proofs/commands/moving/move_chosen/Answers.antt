use Rattle.std.proofs.Common.{None, ap, map, refl, subst, sym, ◌∙◌, if◌then◌else◌}
use Rattle.bz_tree.specs.Rows.{part_view}
use Rattle.bz_label.specs.declared.arguments.Chosen.{Chosen}
use Rattle.bz_label.specs.declared.arguments.Chosen.TheVariants.{All, Values}
use Rattle.bz_attribute.specs.Reports.{done}
use Rattle.bz_rule.specs.Reports.{moves}
use Rattle.bz_rule.specs.private.Steps.{moved}
use Rattle.bz_attribute.specs.RowEdits.{IsRowEdit}
use Rattle.bz_rule.proofs.Meanings.{meant_chosen}
use Rattle.bz_rule.proofs.WrittenParts.{ok_as}
use Rattle.bz_rule.proofs.commands.moving.move_chosen.Goals as goal

pub returns-in-All : goal.returns-in-All
returns-in-All c = rw c.in-All.is (ok_as (λ e h. h All refl refl) c.move_meant.result c.move_meant.ensures)

pub returns-in_ok-words-in-Values : goal.returns-in_ok-words-in-Values
returns-in_ok-words-in-Values c =
    let home = c.args.env.home.now in
    let words = c.in_ok-words-in-Values.words.words.now in
    ok_as
    (λ e h. subst (λ (chosen : Chosen). IsRowEdit (λ args. if moves home c.args.change.old.now chosen args then moved home c.args.change.old.now c.args.change.new.now chosen args else args) (λ args. done None (moves home c.args.change.old.now chosen args)) (map part_view c.args.parts.now) (map part_view c.move_meant-in-Values.new.written.items) e)
    (sym (c.in-Values.is ∙ ap Values (sym (c.in_ok-words-in-Values.ensures ∙ c.as_slice.ensures)))) (h (Values words) refl (meant_chosen home words)))
    c.move_meant-in-Values.result c.move_meant-in-Values.ensures
