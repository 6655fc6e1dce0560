use Rattle.std.proofs.Common.{◌∙◌, subst, ap}
use Rattle.bz_folder.proofs.Ends.{put_after, put_nothing}
use Rattle.bz_folder.proofs.draft.Draft.put.Goals as goal

pub returns-in_err-spill-clause-calls : goal.returns-in_err-spill-clause-calls
returns-in_err-spill-clause-calls g c =
    let s = c.spill.ensures.sent in
    (s.events, s.made, put_nothing c.args.file.now g.D.Folder.did c.args.self.now c.spill.new.self c.args.mode c.from_residual.result _ c.requires s c.in_err-spill.ensures.err c.from_residual.ensures.1)

pub returns-clause-calls : goal.returns-clause-calls
returns-clause-calls g c =
    let s = c.spill.ensures.sent in
    let i = c.install.ensures in
    let back = c.self.view_is in
    let made = subst (λ d. g.D.Folder.did d.folder i.0 c.install.new.folder) back i.1 in (
      _,
      g.met.D.Folder.did_more _ _ _ s.events i.0 s.made made,
      put_after c.args.file.now g.D.Folder.did c.args.self.now c.spill.new.self c.args.mode c.install.result c.deref.result.now i.0 c.requires
          (c.deref.ensures ∙ ap (λ d. d.temporary) back) s c.in_ok-spill.ensures.ok.0 c.in_ok-spill.ensures.ok.1 i.2,
    )
