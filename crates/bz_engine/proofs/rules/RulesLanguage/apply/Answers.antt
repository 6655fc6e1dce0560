use Rattle.std.proofs.Common.{◌∙◌, ◌++◌, [], ap}
use Rattle.bz_token.specs.Common.{map_or}
use Rattle.bz_attribute.specs.Texts.{shown_text}
use Rattle.std.proofs.lemmas.Result.{IfOk-weaker, on_ok_weaker}
use Rattle.bz_engine.specs.Failing.{fails}
use Rattle.bz_engine.proofs.Failures.{told_fails}
use Rattle.bz_engine.proofs.Noted.{says_found}
use Rattle.bz_engine.proofs.rules.RulesLanguage.apply.Goals as goal

pub returns-clause-slot : goal.returns-clause-slot
returns-clause-slot c = on_ok_weaker c.tell_done.result (λ told. c.in_ok-done.ensures.slot) c.tell_done.ensures.told

pub returns-clause-log : goal.returns-clause-log
returns-clause-log c =
    let done = c.in_ok-done.ensures in
    on_ok_weaker c.tell_done.result
    (λ told. told
    ∙ ap (λ says. c.args.log.now ++ says) (says_found c.args.command.now c.args.self.now.home.now c.args.slot.now c.execute.new.slot c.in_ok-done.done done.slot done.done))
    c.tell_done.ensures.told

pub returns-clause-changed : goal.returns-clause-changed
returns-clause-changed c = IfOk-weaker c.tell_done.result _ _ (λ facts is. is ∙ ap (λ d. d.changed) c.in_ok-done.ensures.done) c.tell_done.ensures.changed

pub returns-clause-failed : goal.returns-clause-failed
returns-clause-failed c =
    IfOk-weaker c.tell_done.result _ _
    (λ facts is. is ∙ told_fails (map_or [] (shown_text c.args.self.now.home.now) c.execute.new.slot) c.in_ok-done.done.note ∙ ap (λ d. fails d.note) c.in_ok-done.ensures.done)
    c.tell_done.ensures.failed
