use Rattle.std.proofs.Common.{◌≡◌, subst, Ok, ◌∙◌, ap}
use Rattle.bz_folder.specs.DraftValue.{IsText}
use Rattle.bz_folder.specs.private.Steps.{IsPut}
use Rattle.bz_folder.specs.declared.draft.DraftState.TheVariants.{Broken}
use Rattle.bz_folder.proofs.Finishes.{finished_put, finished_unput, finished_no, finished_err}
use Rattle.bz_folder.proofs.replace.finish.Goals as goal

pub returns-in-Ok-false : goal.returns-in-Ok-false
returns-in-Ok-false g c =
    let a = c.abandon-in-Ok-false.ensures in
    (_, a.1, finished_no c.args.draft.now c.args.file.now c.args.mode c.args.answer a.0 c.abandon-in-Ok-false.result (c.in-Ok-false.is ∙ ap (λ b. Ok b) c.in-Ok-false.field-0-test) c.requires a.2)

pub returns-in-Err : goal.returns-in-Err
returns-in-Err g c =
    let a = c.abandon-in-Err.ensures in
    (_, a.1, finished_err c.args.draft.now c.args.file.now c.args.mode c.args.answer _ a.0 c.abandon-in-Err.result c.in-Err.is c.requires a.2)

pub returns-in-Ok : goal.returns-in-Ok
returns-in-Ok g c =
    let p = c.put.ensures.calls in (
      p.0,
      p.1,
      finished_put c.args.draft.now c.args.file.now c.args.mode c.args.answer p.0 c.in-Ok.field-0 (c.in-Ok-true.is ∙ ap (λ b. Ok b) c.in-Ok-true.field-0-test)
          (subst (λ r. IsPut (IsText c.args.draft.now) (c.args.draft.now.state ≡ Broken) c.args.file.now c.args.mode r p.0) c.in-Ok.is p.2),
    )

pub returns-in-Err-put : goal.returns-in-Err-put
returns-in-Err-put g c =
    let p = c.put.ensures.calls in
    let a = c.abandon.ensures in (
      _,
      g.met.D.Folder.did_more _ _ _ p.0 _ p.1 a.1,
      finished_unput c.args.draft.now c.args.file.now c.args.mode c.args.answer p.0 c.in-Err-put.field-0 c.put.new.self.state a.0 c.put.new.self.temporary
          (c.in-Ok-true.is ∙ ap (λ b. Ok b) c.in-Ok-true.field-0-test) (c.put.ensures.path ∙ c.requires) c.in-Err-put.ensures.made c.abandon.result a.2
          (subst (λ r. IsPut (IsText c.args.draft.now) (c.args.draft.now.state ≡ Broken) c.args.file.now c.args.mode r p.0) c.in-Err-put.is p.2),
    )
