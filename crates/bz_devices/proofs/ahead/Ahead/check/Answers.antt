use Rattle.std.proofs.Common.{◌≤◌, ◌-◌, ◌≡◌, ◌∙◌, ap, sym, subst, length, take, drop}
use Rattle.std.specs.Prelude.{IsUtf8}
use Rattle.std.proofs.lemmas.List.{take_rest}
use Rattle.bz_devices.proofs.TextAhead.{text_grows, grown_within}
use Rattle.bz_devices.proofs.ahead.Ahead.check.Goals as goal

pub invariant_of-self : goal.invariant_of-self
invariant_of-self c =
    let items = take c.self.inside.end c.self.inside.buffer.items in
    let start = c.self.inside.start in
    let k = c.self.inside.text_len in
    let m = c.text_front.result in
    let bytes = c.bytes.result.now in
    let rest : take (length bytes - k) (drop k bytes) ≡ drop k (drop start items) =
    take_rest bytes k ∙ ap (drop k) (c.bytes.ensures ∙ sym (ap (λ v. v.bytes) c.self.view_is)) in
    let more : IsUtf8 (take m (take (length bytes - k) (drop k bytes))) = c.text_front.ensures.utf8 in (
      grown_within items start k m c.self.invariant.0 (subst (λ l. m ≤ length l) rest c.text_front.ensures.within),
      text_grows (drop start items) k m c.self.invariant.1 (subst (λ l. IsUtf8 (take m l)) rest more),
      c.self.invariant.2,
    )
