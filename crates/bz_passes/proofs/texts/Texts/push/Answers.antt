use Rattle.std.proofs.Common.{[], ◌∷◌, ◌++◌, length, ◌∙◌, ap, string_bytes}
use Rattle.bz_passes.proofs.Cuts.{are_pushed, cut_pushed}
use Rattle.bz_passes.proofs.texts.Texts.push.Goals as goal

pub invariant_of-self-2 : goal.invariant_of-self-2
invariant_of-self-2 c =
    let text = c.args.text.now in
    are_pushed c.self.inside.lens.items (string_bytes c.self.inside.joined) text c.push_reserved.new.self.items (string_bytes c.push_str.new.string)
    (c.push_reserved.ensures.items ∙ ap (λ lens. lens ++ length text ∷ []) c.reserve.ensures.items)
    c.in_ok-push_str.ensures.bytes c.self.invariant c.utf8.text

pub returns-clause-pushed : goal.returns-clause-pushed
returns-clause-pushed c =
    let text = c.args.text.now in
    cut_pushed c.self.inside.lens.items (string_bytes c.self.inside.joined) text c.push_reserved.new.self.items (string_bytes c.push_str.new.string) c.args.self.now
    (c.push_reserved.ensures.items ∙ ap (λ lens. lens ++ length text ∷ []) c.reserve.ensures.items)
    c.in_ok-push_str.ensures.bytes c.self.invariant c.self.view_is
