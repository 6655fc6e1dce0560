use Rattle.std.proofs.Common.{inl, inr, refl, ◌∙◌, ap, subst, codes, string_bytes}
use Rattle.bz_program.specs.Handled.{IsAccountAt, AreFilesOf, failed_account}
use Rattle.bz_program.specs.Runs.{Job}
use Rattle.bz_program.specs.Texts.{message_of}
use Rattle.bz_program.proofs.Edited.{left_alone, leaves_as, leaves_nothing}
use Rattle.bz_program.proofs.package.edit_home.Goals as goal

pub edit_found-requires : goal.edit_found-requires
edit_found-requires g c =
    subst (λ home. AreFilesOf home (string_bytes c.in-Ok.files.first) (string_bytes c.in-Ok.files.second)) (c.in-Some.ensures.value ∙ ap (λ (a : Job). a.home) c.job.view_is) (c.in-Ok.ensures.first, c.in-Ok.ensures.second)

pub returns-in-None : goal.returns-in-None
returns-in-None g c =
    let shown = c.edit_shown.ensures in
    record {
      files = left_alone g.D.Folder.did g.D.Folder.leads g.D.File.Source.gave c.args.flags.now.stdout c.args.job g.met.D.Folder.did_nothing c.args.devices.now.draft.folder _;
      account = record {
        account = shown.0;
        is_its = subst (λ home. IsAccountAt g.D.Folder.leads g.D.Folder.absent g.D.File.Source.gave g.D.File.Source.failures g.S.Source.gave g.S.Source.failures c.args.flags.now home c.args.job
            c.args.devices.now.draft.folder c.args.devices.now.input c.edit_shown.new.source shown.0) (c.in-None.ensures.value ∙ ap (λ (a : Job). a.home) c.job.view_is) shown.1;
        left = leaves_as g.D.Folder.did g.met.D.Folder.did_nothing c.args.devices.now.draft.folder shown.0.puts shown.3;
        shows = shown.2;
        status_is = shown.4;
      };
    }

pub returns-in-Ok-clause-account : goal.returns-in-Ok-clause-account
returns-in-Ok-clause-account g c =
    let found = c.edit_found.ensures.account in
    record {
      account = found.account;
      is_its = subst (λ home. IsAccountAt g.D.Folder.leads g.D.Folder.absent g.D.File.Source.gave g.D.File.Source.failures g.S.Source.gave g.S.Source.failures c.args.flags.now home c.args.job
          c.args.devices.now.draft.folder c.args.devices.now.input c.edit_found.new.devices.input found.account) (c.in-Some.ensures.value ∙ ap (λ (a : Job). a.home) c.job.view_is)
          (c.edit_found.ensures.input, inr found.is_its);
      left = found.left;
      shows = found.shows;
      status_is = found.status_is;
    }

pub returns-in-Err : goal.returns-in-Err
returns-in-Err g c =
    record {
      files = left_alone g.D.Folder.did g.D.Folder.leads g.D.File.Source.gave c.args.flags.now.stdout c.args.job g.met.D.Folder.did_nothing c.args.devices.now.draft.folder _;
      account = record {
        account = failed_account (message_of c.in-Some.folder.now (codes "out of memory"));
        is_its = subst (λ home. IsAccountAt g.D.Folder.leads g.D.Folder.absent g.D.File.Source.gave g.D.File.Source.failures g.S.Source.gave g.S.Source.failures c.args.flags.now home c.args.job
            c.args.devices.now.draft.folder c.args.devices.now.input c.args.devices.now.input (failed_account (message_of c.in-Some.folder.now (codes "out of memory"))))
            (c.in-Some.ensures.value ∙ ap (λ (a : Job). a.home) c.job.view_is) (refl, inl refl);
        left = leaves_nothing g.D.Folder.did g.met.D.Folder.did_nothing c.args.devices.now.draft.folder;
        shows = c.put_message.ensures;
        status_is = refl;
      };
    }
