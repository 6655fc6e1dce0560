use Rattle.std.proofs.Common.{sym, subst, ◌∙◌}
use Rattle.bz_engine.specs.private.NextChunks.{CanTake}
use Rattle.bz_engine.proofs.Kept.{lines_ahead}
use Rattle.bz_engine.proofs.session.Session.edit_ahead.Goals as goal

pub copy_canonical-requires-clause-lines : goal.copy_canonical-requires-clause-lines
copy_canonical-requires-clause-lines c =
    lines_ahead _ (subst CanTake (sym (c.self.view_is ∙ c.clear_lists.ensures)) c.requires.ready) c.self.invariant.made c.self.invariant.limit
