use Rattle.std.proofs.Common.{Option, ℕ, ◌≡◌, ◌≤◌, ◌<◌, ◌+◌, ◌^◌, refl, ◌∙◌, [], ap, sym, subst}
use Rattle.std.specs.Prelude.{Ok, Err, IsTrue}
use Rattle.std.proofs.lemmas.Result.{err_from_is_err_and}
use Rattle.bz_devices.specs.Ahead.{IsReadOn}
use Rattle.bz_engine.specs.contracts.session.Session.{the_view}
use Rattle.bz_engine.proofs.Advances.{some_of, none_of}
use Rattle.bz_engine.proofs.Kept.{lines_fit, session_ahead}
use Rattle.bz_engine.proofs.States.{err_on_ok, err_if_ok, with_more, with_edit, next_edited}
use Rattle.bz_engine.specs.declared.next_chunk.NextChunk.{NextChunk}
use Rattle.bz_engine.specs.SessionValue.{SessionValue}
use Rattle.bz_passes.specs.Exchange.{Fits}
use Rattle.bz_engine.specs.private.Finds.{Finds}
use Rattle.bz_engine.proofs.Finds.{finds_found, finds_failed, finds_memory}
use Rattle.bz_engine.proofs.session.Session.edit_by_lines.Goals as goal

pub returns-in_err-edited-clause-next : goal.returns-in_err-edited-clause-next
returns-in_err-edited-clause-next g c =
    let fault = c.from_residual-in_err-edited in
    let p = err_from_is_err_and fault.result fault.ensures.1 in
    err_if_ok _ fault.result p.0 p.1

pub returns-in_err-edited-clause-fits : goal.returns-in_err-edited-clause-fits
returns-in_err-edited-clause-fits g c =
    let fault = c.from_residual-in_err-edited in
    let p = err_from_is_err_and fault.result fault.ensures.1 in
    err_on_ok _ fault.result p.0 p.1

pub returns-in_err-len-clause-next : goal.returns-in_err-len-clause-next
returns-in_err-len-clause-next g c =
    let fault = c.from_residual in
    let p = err_from_is_err_and fault.result fault.ensures.1 in
    err_if_ok _ fault.result p.0 p.1

pub returns-in_err-len-clause-fits : goal.returns-in_err-len-clause-fits
returns-in_err-len-clause-fits g c =
    let fault = c.from_residual in
    let p = err_from_is_err_and fault.result fault.ensures.1 in
    err_on_ok _ fault.result p.0 p.1

pub returns-clause-fits : goal.returns-clause-fits
returns-clause-fits g c = c.in_ok-edited.ensures.fits

pub returns-in_default-clause-fits : goal.returns-in_default-clause-fits
returns-in_default-clause-fits g c = subst (λ v. Fits v.progress.kept v.passes) (sym (ap the_view c.self-inside.view_is ∙ c.self.view_is)) c.requires.ready.fits

pub returns-in_default-clause-next : goal.returns-in_default-clause-next
returns-in_default-clause-next g c =
    let over = none_of ((c.find_chunk.new.ahead.bytes ≡ []) × IsTrue c.find_chunk.new.ahead.ended) _ c.in_ok-len.ensures.none c.in_default.is in
    (ap (λ v. v.progress) (ap the_view c.self-inside.view_is ∙ c.self.view_is), over.0, over.1)

pub returns-in_err-len-clause-same : goal.returns-in_err-len-clause-same
returns-in_err-len-clause-same g c = with_more c.args.self.now c.args.self.now _ c.find_chunk.new.ahead (ap the_view c.self-inside.view_is ∙ c.self.view_is) refl

pub returns-in_default-clause-same : goal.returns-in_default-clause-same
returns-in_default-clause-same g c = with_more c.args.self.now c.args.self.now _ c.find_chunk.new.ahead (ap the_view c.self-inside.view_is ∙ c.self.view_is) refl

pub returns-in_err-edited-clause-same : goal.returns-in_err-edited-clause-same
returns-in_err-edited-clause-same g c = with_edit c.args.self.now _ c.edit.new.self c.find_chunk.new.ahead _
    (with_more c.args.self.now c.args.self.now _ c.find_chunk.new.ahead (ap the_view c.self-inside.view_is ∙ c.self.view_is) refl)
    c.edit.ensures.same

pub returns-clause-same : goal.returns-clause-same
returns-clause-same g c = with_edit c.args.self.now _ c.edit.new.self c.find_chunk.new.ahead _
    (with_more c.args.self.now c.args.self.now _ c.find_chunk.new.ahead (ap the_view c.self-inside.view_is ∙ c.self.view_is) refl)
    c.edit.ensures.same

pub edit-requires-clause-fits : goal.edit-requires-clause-fits
edit-requires-clause-fits g c = subst (λ v. Fits v.progress.kept v.passes) (sym (ap the_view c.self-inside.view_is ∙ c.self.view_is)) c.requires.ready.fits

pub edit-requires-clause-stopped : goal.edit-requires-clause-stopped
edit-requires-clause-stopped g c = ap (λ v. v.state) (ap the_view c.self-inside.view_is ∙ c.self.view_is) ∙ c.requires.stopped

pub edit-requires-clause-lines : goal.edit-requires-clause-lines
edit-requires-clause-lines g c =
    let there = ap the_view c.self-inside.view_is ∙ c.self.view_is in
    let same = there in
    let read = c.find_chunk.ensures.finds.read in
    let next = some_of _ _ c.in-Some.len c.in_ok-len.ensures.chunk c.in-Some.is in
    let limit = subst (λ v. v.options.max_reads ≤ 2 ^ 50) c.self.view_is c.self.invariant.limit in
    let small = lines_fit c.args.self.now c.find_chunk.new.ahead c.in-Some.len read.0 c.requires.ready.lines (subst (λ v. IsReadOn v.options.max_reads v.ahead c.find_chunk.new.ahead read.0) same read.2) limit next.within in
    subst (λ n. n + c.in-Some.len < 2 ^ 64) (sym (ap (λ v. v.progress.line) there)) small

pub invariant_of-self : goal.invariant_of-self
invariant_of-self g c =
    let read = c.find_chunk.ensures.finds.read in
    session_ahead _ _ c.find_chunk.new.ahead read.0 (ap the_view c.self-inside.view_is) c.self.invariant (ap (λ v. v.state) (c.self.view_is) ∙ c.requires.stopped) read.2

pub returns-clause-next : goal.returns-clause-next
returns-clause-next g c =
    let v = c.args.self.now in
    let mid = c.find_chunk.new.ahead in
    let reads : SessionValue → SessionValue = λ x. record x { ahead = mid } in
    let next = some_of _ _ c.in-Some.len c.in_ok-len.ensures.chunk c.in-Some.is in
    let answer : NextChunk = record { len = c.in-Some.len; edited = c.in_ok-edited.edited } in
    next_edited v _ c.edit.new.self mid c.args.text.now.items c.edit.new.text.items answer (ap reads (ap the_view c.self-inside.view_is ∙ c.self.view_is))
    c.edit.ensures.same next c.in_ok-edited.ensures.lines c.in_ok-edited.ensures.edited

pub returns-in_err-len-clause-finds : goal.returns-in_err-len-clause-finds
returns-in_err-len-clause-finds g c =
    let p = err_from_is_err_and c.from_residual.result c.from_residual.ensures.1 in
    finds_failed _ _ _ _ _ p.0 c.in_err-len.field-0.0 _ _ _ _ p.1 p.2
    (subst (λ v. Finds {T = Option ℕ} g.S.Source.gave g.S.Source.failures v.options v.progress.line c.args.source.now c.find_chunk.new.source v.ahead c.find_chunk.new.ahead (Err c.in_err-len.field-0.0))
    (ap the_view c.self-inside.view_is ∙ c.self.view_is) c.in_err-len.ensures.finds)

pub returns-in_default-clause-finds : goal.returns-in_default-clause-finds
returns-in_default-clause-finds g c =
    finds_found _ _ _ _ _ _ _ _ _ _ (subst (λ v. Finds g.S.Source.gave g.S.Source.failures v.options v.progress.line c.args.source.now c.find_chunk.new.source v.ahead c.find_chunk.new.ahead (Ok c.in_ok-len.field-0))
    (ap the_view c.self-inside.view_is ∙ c.self.view_is) c.in_ok-len.ensures.finds)

pub returns-in_err-edited-clause-finds : goal.returns-in_err-edited-clause-finds
returns-in_err-edited-clause-finds g c =
    let fault = c.from_residual-in_err-edited in
    let p = err_from_is_err_and fault.result fault.ensures.1 in
    finds_memory _ _ _ _ c.in_ok-len.field-0 _ _ _ _ _ (p.1 ∙ ap Err p.2)
    (subst (λ a. Finds g.S.Source.gave g.S.Source.failures c.args.self.now.options c.args.self.now.progress.line c.args.source.now c.find_chunk.new.source c.args.self.now.ahead a (Ok c.in_ok-len.field-0)) (sym (ap (λ v. v.ahead) c.edit.ensures.same))
    (subst (λ v. Finds g.S.Source.gave g.S.Source.failures v.options v.progress.line c.args.source.now c.find_chunk.new.source v.ahead c.find_chunk.new.ahead (Ok c.in_ok-len.field-0))
    (ap the_view c.self-inside.view_is ∙ c.self.view_is) c.in_ok-len.ensures.finds))

pub returns-clause-finds : goal.returns-clause-finds
returns-clause-finds g c =
    finds_found _ _ _ _ c.in_ok-len.field-0 _ _ _ _ _
    (subst (λ a. Finds g.S.Source.gave g.S.Source.failures c.args.self.now.options c.args.self.now.progress.line c.args.source.now c.find_chunk.new.source c.args.self.now.ahead a (Ok c.in_ok-len.field-0)) (sym (ap (λ v. v.ahead) c.edit.ensures.same))
    (subst (λ v. Finds g.S.Source.gave g.S.Source.failures v.options v.progress.line c.args.source.now c.find_chunk.new.source v.ahead c.find_chunk.new.ahead (Ok c.in_ok-len.field-0))
    (ap the_view c.self-inside.view_is ∙ c.self.view_is) c.in_ok-len.ensures.finds))
