use Rattle.std.proofs.Common.{[], inl, inr, refl, ◌∙◌, ap, subst}
use Rattle.bz_program.specs.Console.{Shows}
use Rattle.bz_program.specs.Handled.{IsTried, folder_of, failed_account}
use Rattle.bz_program.specs.Runs.{Job}
use Rattle.bz_program.specs.Texts.{unopened_text}
use Rattle.bz_program.proofs.Edited.{left_alone, leaves_nothing, tried_as}
use Rattle.bz_program.proofs.package.edit_found.Goals as goal

pub edit_opened-requires : goal.edit_opened-requires
edit_opened-requires g c = record { tried = subst (λ folder. IsTried g.D.Folder.absent folder c.args.job.home c.in-Ok.name.now) c.folder.ensures (tried_as g.D.Folder.absent c.folder.result.now c.args.job.home _ _ _ c.requires c.in-Ok.ensures.opened.0); leads_to = c.in-Ok.ensures.opened.1 }

pub returns-in-Ok-clause-account : goal.returns-in-Ok-clause-account
returns-in-Ok-clause-account g c =
    let here = c.edit_opened.ensures.account in
    record {
      account = here.account;
      is_its = (c.in-Ok.name.now, inr (c.in-Ok.opened, record { tried = subst (λ folder. IsTried g.D.Folder.absent folder c.args.job.home c.in-Ok.name.now) c.folder.ensures (tried_as g.D.Folder.absent c.folder.result.now c.args.job.home _ _ _ c.requires c.in-Ok.ensures.opened.0); leads_to = c.in-Ok.ensures.opened.1 }, here.is_its));
      left = here.left;
      shows = here.shows;
      status_is = here.status_is;
    }

pub returns-in-Err : goal.returns-in-Err
returns-in-Err g c = record {
  files = left_alone g.D.Folder.did g.D.Folder.leads g.D.File.Source.gave c.args.flags.now.stdout c.args.job g.met.D.Folder.did_nothing c.args.devices.now.draft.folder _;
  input = refl;
  account = record {
    account = failed_account (unopened_text (folder_of c.args.job.home) c.in-Err.name.now c.in-Err.why);
    is_its = (
      c.in-Err.name.now,
      inl (record {
        tried = subst (λ folder. IsTried g.D.Folder.absent folder c.args.job.home c.in-Err.name.now) c.folder.ensures (tried_as g.D.Folder.absent c.folder.result.now c.args.job.home _ _ _ c.requires c.in-Err.ensures.unopened);
        why = c.in-Err.why;
        absent_note = λ e. subst (λ folder. g.D.Folder.absent folder c.in-Err.name.now) c.folder.ensures (c.in-Err.ensures.absent e);
        account_is = refl;
      }),
    );
    left = leaves_nothing g.D.Folder.did g.met.D.Folder.did_nothing c.args.devices.now.draft.folder;
    shows = subst (λ home. Shows g.O.Sink.took g.E.Sink.took c.args.devices.now.console [] (unopened_text home c.in-Err.name.now c.in-Err.why) c.put_unopened.new.console)
        (c.folder_of.ensures ∙ ap (λ (a : Job). folder_of a.home) c.job.view_is) c.put_unopened.ensures.told;
    status_is = c.put_unopened.ensures.status;
  };
}
