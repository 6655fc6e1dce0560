use Rattle.std.proofs.Common.{◌≡◌, ℕ, Bool, true, false, inl, inr, [], refl, sym, ◌∙◌, ap}
use Rattle.std.proofs.lemmas.Bool.{false≢true}
use Rattle.bz_folder.specs.declared.folder.Purpose.{Purpose}
use Rattle.bz_folder.specs.declared.folder.Purpose.TheVariants.{Read, Replace}
use Rattle.bz_program.specs.declared.edit_file.FileFault.{FileFault}
use Rattle.bz_program.specs.Handled.{edited_account, kept_account}
use Rattle.bz_program.specs.Texts.{lines_text, messages_text, fixed_told}
use Rattle.bz_program.proofs.Edited.{left_alone, leaves_as, of_file, file_of, three_unkept, if_reads, put_as}
use Rattle.bz_program.proofs.Shown.{shows_more}
use Rattle.bz_program.proofs.package.edit_opened.Goals as goal

-- what is opened to be read is shown, and nothing else
read_shown : (shown : Bool) (purpose : Purpose) → true ≡ denote.Enum.Bare.sameb Rattle.bz_folder.specs.contracts.folder.Purpose.the_type purpose Read → purpose ≡ if_reads Read Replace shown → shown ≡ true
read_shown true purpose read is = refl
read_shown false purpose read is = absurd (false≢true (sym (read ∙ ap (λ p. denote.Enum.Bare.sameb Rattle.bz_folder.specs.contracts.folder.Purpose.the_type p Read) is)))

other_kept : (shown : Bool) (purpose : Purpose) → false ≡ denote.Enum.Bare.sameb Rattle.bz_folder.specs.contracts.folder.Purpose.the_type purpose Read → purpose ≡ if_reads Read Replace shown → shown ≡ false
other_kept true purpose other is = absurd (false≢true (other ∙ ap (λ p. denote.Enum.Bare.sameb Rattle.bz_folder.specs.contracts.folder.Purpose.the_type p Read) is))
other_kept false purpose other is = refl

two_three : (status : ℕ) → status ≡ 2 → status ≡ 3 → ⊥
two_three status two three = let both : (let two : ℕ = 2 in two ≡ 3) = sym two ∙ three in cc

pub returns-then-eq : goal.returns-then-eq
returns-then-eq g c =
    let shown = c.edit_shown.ensures in
    record {
      files = left_alone g.D.Folder.did g.D.Folder.leads g.D.File.Source.gave c.args.flags.now.stdout c.args.job g.met.D.Folder.did_nothing c.args.devices.now.draft.folder _;
      input = refl;
      account = record {
        account = shown.0;
        is_its = inl (read_shown _ c.purpose_of.result c.if-eq.ensures c.purpose_of.ensures, c.edit_shown.new.source, shown.1);
        left = leaves_as g.D.Folder.did g.met.D.Folder.did_nothing c.args.devices.now.draft.folder shown.0.puts shown.3;
        shows = shown.2;
        status_is = shown.4;
      };
    }

pub returns-in-Ok-clause-files : goal.returns-in-Ok-clause-files
returns-in-Ok-clause-files g c = record {
  safe = of_file g.D.Folder.did g.D.Folder.leads g.D.File.Source.gave c.args.job _ _ (file_of g.D.Folder.leads g.D.Folder.absent _ c.args.job.home _ c.args.opened c.requires) _ _ c.edit_file.ensures.safe;
  idle = λ three. c.in-Ok.ensures.idle (c.in-Ok.ensures.edited.replaced_is ∙ three_unkept c.args.job.keep_going c.in-Ok.report (sym c.status.ensures ∙ three));
  shown = λ is. absurd (false≢true (sym (other_kept _ c.purpose_of.result c.if-eq.ensures c.purpose_of.ensures) ∙ is));
}

pub returns-in-Ok-clause-account : goal.returns-in-Ok-clause-account
returns-in-Ok-clause-account g c =
    let put = put_as FileFault g.D.Folder.did g.D.File.Source.gave c.args.job c.args.devices.now.draft.folder c.edit_file.new.draft.folder c.args.opened c.in-Ok.report c.in-Ok.replaced
    c.in-Ok.ensures.placed c.in-Ok.ensures.edited in
    record {
      account = edited_account c.args.flags.now.quiet c.args.name.now c.args.opened put.0.text c.in-Ok.report c.in-Ok.replaced;
      is_its = inr (other_kept _ c.purpose_of.result c.if-eq.ensures c.purpose_of.ensures, inl (record { report = c.in-Ok.report; replaced = c.in-Ok.replaced; edited = put.0; account_is = refl }));
      left = put.1;
      shows = shows_more g.O.Sink.took g.E.Sink.took g.met.O.Sink.took_more g.met.E.Sink.took_more c.args.devices.now.console c.put_replaced.new.console c.put_report.new.self [] (fixed_told c.args.flags.now.quiet c.in-Ok.replaced c.args.name.now)
          (lines_text c.in-Ok.report.lines) (messages_text c.args.name.now c.in-Ok.report.messages) c.put_replaced.ensures c.put_report.ensures;
      status_is = c.status.ensures;
    }

pub returns-in-Err-clause-files : goal.returns-in-Err-clause-files
returns-in-Err-clause-files g c = record {
  safe = of_file g.D.Folder.did g.D.Folder.leads g.D.File.Source.gave c.args.job _ _ (file_of g.D.Folder.leads g.D.Folder.absent _ c.args.job.home _ c.args.opened c.requires) _ _ c.edit_file.ensures.safe;
  idle = λ three. absurd (two_three _ c.put_file_fault.ensures.status three);
  shown = λ is. absurd (false≢true (sym (other_kept _ c.purpose_of.result c.if-eq.ensures c.purpose_of.ensures) ∙ is));
}

pub returns-in-Err-clause-account : goal.returns-in-Err-clause-account
returns-in-Err-clause-account g c =
    let told = c.put_file_fault.ensures.told in
    record {
      account = kept_account c.args.opened told.0;
      is_its = inr (other_kept _ c.purpose_of.result c.if-eq.ensures c.purpose_of.ensures, inr (record { fault = c.in-Err.fault; cause = c.in-Err.ensures.failed; told = told.0; told_is = told.1; account_is = refl }));
      left = c.in-Err.ensures.placed;
      shows = told.2;
      status_is = c.put_file_fault.ensures.status;
    }
