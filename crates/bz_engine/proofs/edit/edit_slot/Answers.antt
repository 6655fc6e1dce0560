use Rattle.std.proofs.Common.{◌≡◌, ◌||◌, refl, sym, ◌∙◌, ap, subst}
use Rattle.std.specs.Prelude.{Option, IfSome, Some}
use Rattle.std.specs.Vec.{with_items}
use Rattle.std.proofs.lemmas.Bool.{false≢true}
use Rattle.std.proofs.lemmas.List.{with_items_is}
use Rattle.bz_engine.specs.private.Edits.{IsLaidOut, run_of}
use Rattle.bz_engine.proofs.Failing.{ends_there}
use Rattle.bz_passes.specs.Exchange.{slot_after, some_alone}
use Rattle.bz_engine.specs.Language.{meaning}
use Rattle.bz_engine.specs.Failing.{changes}
use Rattle.bz_tree.specs.Tree.{Statement}
use Rattle.bz_layout.specs.Layout.{layout_text}
use Rattle.bz_engine.specs.Progress.{Progress}
use Rattle.bz_engine.proofs.SlotEdits.{HasRun, has_run, known_still, laid_out}
use Rattle.bz_engine.proofs.edit.edit_slot.Goals as goal
use Rattle.bz_engine.proofs.edit.edit_slot.Goals.{else-facts-via-then-facts+else-not-script, else-facts-via-else-facts}

pub returns-then-not-script-clause-scripted : goal.returns-then-not-script-clause-scripted
returns-then-not-script-clause-scripted c s is =
    let new = c.run_script.new in
    let ran = has_run c.args.script.home.now c.args.script.passes.now c.indexed-passes.result.now c.args.slot.now s c.args.progress.now _ c.as_mut_slice-kept.result.now
    new.kept (c.progress.inside.changed || new.facts.changed) new.facts.failed c.indexed-passes.ensures is c.progress.view_is c.as_mut_slice-kept.ensures.value
    c.in_ok-run_script.ensures.kept (ap (λ b. c.progress.inside.changed || b) c.in_ok-run_script.ensures.changed) c.in_ok-run_script.ensures.failed in
    ends_there (run_of c.args.script) s c.args.progress.now _
    new.kept (c.progress.inside.changed || new.facts.changed) new.facts.failed c.args.text.now.items
    c.if-not-script.true c.if-facts.true ran.fails ran.left
    (with_items_is c.progress.inside.kept new.kept (c.run_script.auto.kept ∙ c.as_mut_slice-kept.ensures.len)) (ap (λ p. p.changed) c.progress.view_is) (ap (λ p. p.line) c.progress.view_is)

pub returns-clause-scripted : goal.returns-clause-scripted
returns-clause-scripted c s is =
    let home = c.args.script.home.now in
    let passes = c.args.script.passes.now in
    let new = c.run_script.new in
    let ran : HasRun home passes (Some s) c.args.progress.now new.kept (c.progress.inside.changed || new.facts.changed) new.facts.failed =
    has_run home passes c.indexed-passes.result.now c.args.slot.now s c.args.progress.now _ c.as_mut_slice-kept.result.now
    new.kept (c.progress.inside.changed || new.facts.changed) new.facts.failed c.indexed-passes.ensures is c.progress.view_is c.as_mut_slice-kept.ensures.value
    c.in_ok-run_script.ensures.kept (ap (λ b. c.progress.inside.changed || b) c.in_ok-run_script.ensures.changed) c.in_ok-run_script.ensures.failed in
    let left : new.slot ≡ slot_after (meaning home) passes (Some s) =
    c.in_ok-run_script.ensures.slot ∙ ap (λ r. slot_after (meaning home) r c.args.slot.now) c.indexed-passes.ensures ∙ ap (slot_after (meaning home) passes) is in
    let whole : (with_items c.progress.inside.kept new.kept).items ≡ new.kept =
    with_items_is c.progress.inside.kept new.kept (c.run_script.auto.kept ∙ c.as_mut_slice-kept.ensures.len) in
    let laid = laid_out (run_of c.args.script) s c.args.progress.now _ new.kept new.slot c.progress.inside.last c.args.text.now.items _
    ran whole left (ap (λ p. p.last) c.progress.view_is) refl (ap (λ p. p.line) c.progress.view_is) c.in_ok-put_slot.ensures.text in
    subst (λ (p : Progress). IsLaidOut (run_of c.args.script) s c.args.progress.now p c.args.text.now.items c.put_slot.new.text.items) (sym c.in_ok-put_slot.ensures.last)
    (elim c.else-facts.branch [
      | else-facts-via-then-facts+else-not-script w ↦
          laid (λ ends. absurd (false≢true (sym ends ∙ w.if-not-script.false)))
      | else-facts-via-else-facts w ↦
          laid (λ ends. w.if-facts.false)
    ])

pub put_slot-requires : goal.put_slot-requires
put_slot-requires c =
    let home = c.args.script.home.now in
    let passes = c.args.script.passes.now in
    let new = c.run_script.new in
    subst (λ (known : Option _). IfSome known (λ (w : _). (s : Statement) → new.slot ≡ Some s → layout_text s ≡ w.now)) (sym c.unchanged-known.ensures)
    (known_still (λ (w : _). w.now) home passes c.args.slot.now new.slot c.args.written new.facts.changed
    (c.in_ok-run_script.ensures.changed ∙ ap (λ r. some_alone (meaning home) (changes home) r c.args.slot.now) c.indexed-passes.ensures)
    (c.in_ok-run_script.ensures.slot ∙ ap (λ r. slot_after (meaning home) r c.args.slot.now) c.indexed-passes.ensures)
    c.requires.written)
