use Rattle.std.proofs.Common.{List, [], ◌∷◌, ◌++◌, ◌∙◌, ap, append-nil, sym}
use Rattle.bz_passes.specs.declared.entry.Entry.TheVariants.{Line}
use Rattle.bz_passes.specs.declared.entry.EntryKind.{EntryKind}
use Rattle.bz_passes.specs.private.Logs.{kind_of}
use Rattle.bz_passes.proofs.Woven.{are_pushed, woven_pushed}
use Rattle.bz_passes.proofs.log.Log.push_line.Goals as goal

pub invariant_of-self-2 : goal.invariant_of-self-2
invariant_of-self-2 c =
    let parts = c.self.inside.parts in
    are_pushed parts.kinds.items c.push_reserved.new.self.items parts.lines parts.messages _ _ (Line c.args.line.now)
    (c.push_reserved.ensures.items ∙ ap (λ (kinds : List EntryKind). kinds ++ kind_of (Line c.args.line.now) ∷ []) c.reserve.ensures.items) c.in_ok-push.ensures.pushed (sym (append-nil parts.messages))
    c.self.invariant

pub returns : goal.returns
returns c =
    let parts = c.self.inside.parts in
    woven_pushed parts.kinds.items c.push_reserved.new.self.items parts.lines parts.messages _ _ (Line c.args.line.now) c.args.self.now
    (c.push_reserved.ensures.items ∙ ap (λ (kinds : List EntryKind). kinds ++ kind_of (Line c.args.line.now) ∷ []) c.reserve.ensures.items) c.in_ok-push.ensures.pushed (sym (append-nil parts.messages))
    c.self.invariant c.self.view_is
