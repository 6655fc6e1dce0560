use Rattle.std.proofs.Common.{◌+◌, None, Some, arith, ap, length, subst, sym, ◌∙◌}
use Rattle.std.proofs.lemmas.Bool.{false≢true}
use Rattle.bz_label.specs.Labels.{Target}
use Rattle.bz_passes.specs.Asked.{IsFirstFrom}
use Rattle.bz_passes.specs.Passes.{Pass}
use Rattle.bz_rule.specs.Commands.{Command}
use Rattle.bz_engine.specs.Outcome.{Script}
use Rattle.bz_engine.specs.private.Marked.{may_mark_rule}
use Rattle.bz_engine.proofs.MarkedRules.{for_rule, known_passed, none_at_end, none_found}
use Rattle.bz_engine.proofs.marking.by_kind.Goals as goal
use Rattle.bz_engine.proofs.marking.by_kind.Goals.{else-as_slice-at-via-then-as_slice-at+else-is_some, else-as_slice-at-via-else-as_slice-at}

pub returns-in_default-next_for : goal.returns-in_default-next_for
returns-in_default-next_for c s on =
    let rule = c.in-Some.rule in
    let passes : Script = c.args.script.passes.now in
    let none = subst (λ (ps : Script). IsFirstFrom (λ (pass : Pass Target Command). may_mark_rule rule pass.target) ps 0 None) c.indexed-passes.ensures c.in_default-next_for.ensures in
    known_passed c.args.script.home.now passes rule s (c.in-Some.ensures c.args.script.max_depth passes c.requires.spans s on) none

pub returns-in-Some-one_at : goal.returns-in-Some-one_at
returns-in-Some-one_at c =
    let rule = c.in-Some.rule in
    let passes : Script = c.args.script.passes.now in
    let indexed : Script = c.indexed-passes.result.now in
    let at = c.in-Some-next_for.at in
    let test = λ (pass : Pass Target Command). may_mark_rule rule pass.target in
    let none : IsFirstFrom test indexed (at + 1) None = elim c.else-as_slice-at.branch [
      | else-as_slice-at-via-then-as_slice-at+else-is_some w ↦ none_found test indexed (at + 1) _ (sym w.is_some.ensures ∙ w.if-is_some.false) w.next_for-then-as_slice-at.ensures
      | else-as_slice-at-via-else-as_slice-at w ↦ none_at_end test indexed (at + 1) (omega (arith, w.if-as_slice-at.false, ap length c.as_slice.ensures))
    ] in
    for_rule c.args.script.home.now passes rule c.in-Some-one_at.only _ at (λ s on. c.in-Some.ensures c.args.script.max_depth passes c.requires.spans s on)
    (subst (λ (ps : Script). IsFirstFrom test ps 0 (Some at)) c.indexed-passes.ensures c.in-Some-next_for.ensures) (subst (λ (ps : Script). IsFirstFrom test ps (at + 1) None) c.indexed-passes.ensures none)
    c.in-Some-one_at.ensures.at c.in-Some-one_at.ensures.pass c.in-Some-one_at.ensures.last (λ line asks. false≢true (sym c.if-not-asks_for_line.true ∙ c.asks_for_line.ensures line asks))
