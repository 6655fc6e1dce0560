use Rattle.std.proofs.Common.{[], ◌∙◌, subst, sym}
use Rattle.bz_folder.specs.DraftValue.{Sent}
use Rattle.bz_folder.specs.DraftLaws.{pushes, pushes_nothing}
use Rattle.bz_folder.proofs.draft.DraftSink.write.Goals as goal

pub returns-in_err-make_room-clause-err : goal.returns-in_err-make_room-clause-err
returns-in_err-make_room-clause-err g c =
    pushes_nothing g.D.Folder.did _ c.args.self.now c.make_room.new.self c.from_residual.result c.make_room.ensures.sent c.make_room.ensures.idle c.from_residual.ensures.1

pub returns-clause-ok : goal.returns-clause-ok
returns-clause-ok g c =
    let did = g.D.Folder.did in
    pushes did g.met.D.Folder.did_nothing g.met.D.Folder.did_more c.args.self.now _ c.push.new.self _
    (subst (λ d. Sent did c.args.self.now d []) (sym c.self.view_is) c.make_room.ensures.sent)
    (λ few. c.self.view_is ∙ c.make_room.ensures.idle few)
    c.push.ensures.taken
