use Rattle.std.proofs.Common.{◌≡◌, Err, sym, ◌∙◌, ap, subst}
use Rattle.bz_folder.specs.Sequence.{SafeRun}
use Rattle.bz_program.specs.Files.{MayBe}
use Rattle.bz_program.specs.declared.file_run.Ended.TheVariants.{Told, Failed, NotYet}
use Rattle.bz_program.proofs.Edited.{safe_edit, safe_idle, edited_as, placed, faulted, of_folder, if_err}
use Rattle.bz_script.proofs.Loops.{if_ok}
use Rattle.bz_program.proofs.edit_file.edit_file.Goals as goal

pub returns-in-Told-clause-edited : goal.returns-in-Told-clause-edited
returns-in-Told-clause-edited g c =
    if_ok (λ told h. edited_as _ g.D.File.Source.failures c.new-author.result c.replace_file-replaced.new.author c.args.job c.new-author.ensures.0 _ c.new-author.ensures.2 c.replace_file-replaced.result told.1 told.0
    h.1 c.replace_file-replaced.ensures.wanted (λ e. let given = c.replace_file-replaced.ensures.unwanted e in (given.0, given.1)) (sym c.ended.ensures ∙ c.in-Told.is ∙ ap Told (sym h.0)))
    c.report_and_kept.result c.report_and_kept.ensures.told

pub returns-in-Told-clause-idle : goal.returns-in-Told-clause-idle
returns-in-Told-clause-idle g c =
    if_ok (λ told h none.
    let ended = sym c.ended.ensures ∙ c.in-Told.is ∙ ap Told (sym h.0) in
    let edited = edited_as _ g.D.File.Source.failures c.new-author.result c.replace_file-replaced.new.author c.args.job c.new-author.ensures.0 _ c.new-author.ensures.2 c.replace_file-replaced.result told.1 told.0
    h.1 c.replace_file-replaced.ensures.wanted (λ e. let given = c.replace_file-replaced.ensures.unwanted e in (given.0, given.1)) ended in
    safe_idle _ g.D.File.Source.failures c.new-author.result c.replace_file-replaced.new.author c.args.job c.new-author.ensures.0 g.D.Folder.did c.args.draft.now.folder c.replace_file-replaced.new.draft.folder
    _ _ _ c.replace_file-replaced.ensures.safe told.0 ended (sym edited.replaced_is ∙ none))
    c.report_and_kept.result c.report_and_kept.ensures.told

pub returns-in-Told-clause-failed : goal.returns-in-Told-clause-failed
returns-in-Told-clause-failed g c = if_err (of_folder g.D.File.Source.gave g.D.File.Source.failures c.args.opened.source) c.report_and_kept.result c.report_and_kept.ensures.fault

pub returns-in-Failed-clause-failed : goal.returns-in-Failed-clause-failed
returns-in-Failed-clause-failed g c =
    faulted _ g.D.File.Source.failures c.new-author.result c.replace_file-replaced.new.author c.args.job c.new-author.ensures.0 c.args.opened.source c.new-author.ensures.2 c.new-author.ensures.1 c.in-Failed.fault
    (sym c.ended.ensures ∙ c.in-Failed.is) c.replace_file-replaced.ensures.asked c.fault_of_run.result c.fault_of_run.ensures

pub returns-clause-failed : goal.returns-clause-failed
returns-clause-failed g c = of_folder g.D.File.Source.gave g.D.File.Source.failures c.args.opened.source c.fault_of_start.result c.fault_of_start.ensures

pub returns-in-Told-clause-safe : goal.returns-in-Told-clause-safe
returns-in-Told-clause-safe g c =
    subst (λ edited. SafeRun g.D.Folder.did (MayBe g.D.File.Source.gave c.args.opened.source c.args.job edited) c.args.draft.now.folder c.replace_file-replaced.new.draft.folder) c.deref.ensures
    (safe_edit _ g.D.File.Source.failures c.new-author.result c.replace_file-replaced.new.author c.args.job c.new-author.ensures.0 _ c.new-author.ensures.2 g.D.Folder.did c.args.draft.now.folder c.replace_file-replaced.new.draft.folder
    _ _ _ c.replace_file-replaced.ensures.safe)

pub returns-in-Failed-clause-safe : goal.returns-in-Failed-clause-safe
returns-in-Failed-clause-safe g c =
    subst (λ edited. SafeRun g.D.Folder.did (MayBe g.D.File.Source.gave c.args.opened.source c.args.job edited) c.args.draft.now.folder c.replace_file-replaced.new.draft.folder) c.deref.ensures
    (safe_edit _ g.D.File.Source.failures c.new-author.result c.replace_file-replaced.new.author c.args.job c.new-author.ensures.0 _ c.new-author.ensures.2 g.D.Folder.did c.args.draft.now.folder c.replace_file-replaced.new.draft.folder
    _ _ _ c.replace_file-replaced.ensures.safe)

pub returns-clause-safe : goal.returns-clause-safe
returns-clause-safe g c =
    subst (λ edited. SafeRun g.D.Folder.did (MayBe g.D.File.Source.gave c.args.opened.source c.args.job edited) c.args.draft.now.folder c.replace_file-replaced.new.draft.folder) c.deref.ensures
    (safe_edit _ g.D.File.Source.failures c.new-author.result c.replace_file-replaced.new.author c.args.job c.new-author.ensures.0 _ c.new-author.ensures.2 g.D.Folder.did c.args.draft.now.folder c.replace_file-replaced.new.draft.folder
    _ _ _ c.replace_file-replaced.ensures.safe)

pub returns-in-Told-clause-placed : goal.returns-in-Told-clause-placed
returns-in-Told-clause-placed g c =
    placed _ g.D.File.Source.failures c.new-author.result c.replace_file-replaced.new.author c.args.job c.new-author.ensures.0 g.D.Folder.did c.args.draft.now.folder c.replace_file-replaced.new.draft.folder _ c.args.opened
    c.new-author.ensures.2 c.deref.ensures _ c.replace_file-replaced.ensures.safe c.replace_file-replaced.ensures.wanted _
    (if_ok (λ told h. (sym c.ended.ensures ∙ c.in-Told.is ∙ ap Told (sym h.0), h.1)) c.report_and_kept.result c.report_and_kept.ensures.told) c.report_and_kept.ensures.failed

pub returns-in-Failed-clause-placed : goal.returns-in-Failed-clause-placed
returns-in-Failed-clause-placed g c =
    placed _ g.D.File.Source.failures c.new-author.result c.replace_file-replaced.new.author c.args.job c.new-author.ensures.0 g.D.Folder.did c.args.draft.now.folder c.replace_file-replaced.new.draft.folder _ c.args.opened
    c.new-author.ensures.2 c.deref.ensures _ c.replace_file-replaced.ensures.safe c.replace_file-replaced.ensures.wanted (Err c.fault_of_run.result)
    tt (λ yes. let both : Told (c.replace_file-replaced.ensures.wanted yes).1.report ≡ Failed c.in-Failed.fault = sym (c.replace_file-replaced.ensures.wanted yes).1.ended_is ∙ sym c.ended.ensures ∙ c.in-Failed.is in cc)

pub returns-clause-placed : goal.returns-clause-placed
returns-clause-placed g c =
    placed _ g.D.File.Source.failures c.new-author.result c.replace_file-replaced.new.author c.args.job c.new-author.ensures.0 g.D.Folder.did c.args.draft.now.folder c.replace_file-replaced.new.draft.folder _ c.args.opened
    c.new-author.ensures.2 c.deref.ensures _ c.replace_file-replaced.ensures.safe c.replace_file-replaced.ensures.wanted (Err c.fault_of_start.result)
    tt (λ yes. let both : Told (c.replace_file-replaced.ensures.wanted yes).1.report ≡ NotYet = sym (c.replace_file-replaced.ensures.wanted yes).1.ended_is ∙ sym c.ended.ensures ∙ c.in-NotYet.is in cc)
