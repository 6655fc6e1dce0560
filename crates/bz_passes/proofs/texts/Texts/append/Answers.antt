use Rattle.std.proofs.Common.{◌++◌, ◌∙◌, ap, ap₂, string_bytes}
use Rattle.bz_passes.proofs.Cuts.{are_appended, cut_appended}
use Rattle.bz_passes.proofs.texts.Texts.append.Goals as goal

pub invariant_of-self-2 : goal.invariant_of-self-2
invariant_of-self-2 c =
    are_appended c.self.inside.lens.items (string_bytes c.self.inside.joined) c.other.inside.lens.items (string_bytes c.other.inside.joined) c.extend_from_slice.new.list.items (string_bytes c.push_str.new.string)
    (c.in_ok-extend_from_slice.ensures.items ∙ ap₂ (λ a b. a ++ b) c.reserve_for.ensures.items c.as_slice-2.ensures.value)
    (c.in_ok-push_str.ensures.bytes ∙ ap (λ bytes. (string_bytes c.self.inside.joined) ++ bytes) c.as_str.ensures.value) c.self.invariant c.other.invariant

pub returns-clause-appended : goal.returns-clause-appended
returns-clause-appended c =
    cut_appended c.self.inside.lens.items (string_bytes c.self.inside.joined) c.other.inside.lens.items (string_bytes c.other.inside.joined) c.extend_from_slice.new.list.items (string_bytes c.push_str.new.string) c.args.self.now c.args.other
    (c.in_ok-extend_from_slice.ensures.items ∙ ap₂ (λ a b. a ++ b) c.reserve_for.ensures.items c.as_slice-2.ensures.value)
    (c.in_ok-push_str.ensures.bytes ∙ ap (λ bytes. (string_bytes c.self.inside.joined) ++ bytes) c.as_str.ensures.value) c.self.invariant c.self.view_is c.other.view_is
