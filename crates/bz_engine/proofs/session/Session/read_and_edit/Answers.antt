use Rattle.std.proofs.Common.{sym, subst}
use Rattle.bz_engine.specs.private.NextChunks.{CanTake}
use Rattle.bz_engine.proofs.Kept.{lines_ahead}
use Rattle.bz_engine.proofs.session.Session.read_and_edit.Goals as goal

pub edit_first-requires-clause-lines : goal.edit_first-requires-clause-lines
edit_first-requires-clause-lines c =
    lines_ahead _ (subst CanTake (sym c.self.view_is) c.requires.ready) c.self.invariant.made c.self.invariant.limit
