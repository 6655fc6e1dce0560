use Rattle.std.proofs.Common.{[], ◌∷◌, ◌++◌, ◌∙◌, ap, ap₂}
use Rattle.bz_passes.proofs.Woven.{are_pushed, woven_pushed}
use Rattle.bz_passes.proofs.log.Log.push.Goals as goal

pub invariant_of-self-2 : goal.invariant_of-self-2
invariant_of-self-2 c =
    let put = c.in_ok-put_text.ensures in
    are_pushed c.self.inside.parts.kinds.items c.push_reserved.new.self.items c.self.inside.parts.lines c.self.inside.parts.messages _ _ c.args.entry
    (c.push_reserved.ensures.items ∙ ap₂ (λ kinds kind. kinds ++ kind ∷ []) (ap (λ kinds. kinds.items) put.kinds ∙ c.reserve.ensures.items) c.kind_of.ensures) put.lines put.messages
    c.self.invariant

pub returns : goal.returns
returns c =
    let put = c.in_ok-put_text.ensures in
    woven_pushed c.self.inside.parts.kinds.items c.push_reserved.new.self.items c.self.inside.parts.lines c.self.inside.parts.messages _ _ c.args.entry c.args.self.now
    (c.push_reserved.ensures.items ∙ ap₂ (λ kinds kind. kinds ++ kind ∷ []) (ap (λ kinds. kinds.items) put.kinds ∙ c.reserve.ensures.items) c.kind_of.ensures) put.lines put.messages
    c.self.invariant c.self.view_is
