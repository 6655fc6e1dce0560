use Rattle.std.proofs.Common.{◌+◌, ◌∷◌, drop, sym, ◌∙◌, ap, subst}
use Rattle.std.proofs.lemmas.List.{drop_more, drop_all}
use Rattle.bz_passes.proofs.Woven.{Rest, all_rest, line_rest, warning_rest, failure_is, none_is}
use Rattle.bz_passes.proofs.log.Log.first_failure.Goals as goal
use Rattle.bz_passes.proofs.log.Log.first_failure.Goals.{in-Line, in-Warning}

pub loop-kind-init : goal.loop-kind-init
loop-kind-init c =
    subst (λ kinds. Rest c.args.self.now kinds c.iter-messages.result) (sym c.deref-kind-items.ensures.value)
    (subst (Rest c.args.self.now c.self.inside.parts.kinds.items) (sym c.iter-messages.ensures)
    (all_rest c.self.inside.parts.kinds.items c.self.inside.parts.lines c.self.inside.parts.messages c.args.self.now c.self.invariant c.self.view_is))

pub loop-kind-preserved : goal.loop-kind-preserved
loop-kind-preserved c =
    let es = c.args.self.now in
    let ks = c.deref-kind-items.result.now in
    let i = c.loop-kind.kind-index in
    let after = drop (i + 1) ks in
    elim c.match-kind.branch [
      | in-Line w ↦
          subst (Rest es after) (sym w.messages-is)
          (line_rest es after c.loop-kind.messages (subst (λ kinds. Rest es kinds c.loop-kind.messages) (drop_more ks i _ c.loop-kind-test.true ∙ ap (λ kind. kind ∷ after) w.in-Line.is) c.loop-kind.invariant))
      | in-Warning w ↦
          subst (Rest es after) (sym w.messages-is)
          (warning_rest (λ text. text.now) es after c.loop-kind.messages w.next-warning.new.self w.next-warning.result w.next-warning.ensures.steps
          (subst (λ kinds. Rest es kinds c.loop-kind.messages) (drop_more ks i _ c.loop-kind-test.true ∙ ap (λ kind. kind ∷ after) w.in-Warning.is) c.loop-kind.invariant))
    ]

pub returns-in-Failure : goal.returns-in-Failure
returns-in-Failure c =
    let es = c.args.self.now in
    let ks = c.deref-kind-items.result.now in
    let i = c.loop-kind.kind-index in
    let after = drop (i + 1) ks in
    failure_is (λ text. text.now) es after c.loop-kind.messages c.next.new.self c.next.result c.next.ensures.steps
    (subst (λ kinds. Rest es kinds c.loop-kind.messages) (drop_more ks i _ c.loop-kind-test.true ∙ ap (λ kind. kind ∷ after) c.in-Failure.is) c.loop-kind.invariant)

pub returns : goal.returns
returns c =
    none_is c.args.self.now c.loop-kind.messages
    (subst (λ kinds. Rest c.args.self.now kinds c.loop-kind.messages) (drop_all c.loop-kind.kind-index c.deref-kind-items.result.now c.loop-kind-test.false) c.loop-kind.invariant)
