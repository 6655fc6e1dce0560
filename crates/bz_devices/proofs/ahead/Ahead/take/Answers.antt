use Rattle.std.proofs.Common.{◌≡◌, ◌≤◌, ◌+◌, ◌<◌, ◌∙◌, ap, sym, subst, length, take, drop, arith}
use Rattle.std.specs.Prelude.{IsUtf8}
use Rattle.bz_devices.proofs.TextAhead.{text_left, left_within, taken_fits}
use Rattle.bz_devices.proofs.ahead.Ahead.take.Goals as goal

pub invariant_of-self : goal.invariant_of-self
invariant_of-self c =
    let items = take c.self.inside.end c.self.inside.buffer.items in
    let start = c.self.inside.start in
    let n = c.args.n in
    let m = c.text_left-self-inside.result in
    let front = c.text.ensures.front in
    let bytes : c.args.self.now.bytes ≡ drop start items = sym (ap (λ v. v.bytes) c.self.view_is) in
    let within : front.0 ≤ length (drop start items) = subst (λ l. front.0 ≤ length l) bytes front.1 in
    let is : c.text.result.now ≡ take front.0 (drop start items) = front.2 ∙ ap (take front.0) bytes in
    let few : n ≤ length (drop start items) = subst (λ l. n ≤ length l) bytes c.requires in
    let rest : IsUtf8 (take m (drop n c.text.result.now)) = c.text_left-self-inside.ensures.utf8 in
    let left : 0 < m → n + m ≤ front.0 = taken_fits (drop start items) c.text.result.now front.0 n m within is c.text_left-self-inside.ensures.within in (
      left_within items start front.0 n m (omega (arith, c.self.invariant.0)) within few left,
      text_left items start front.0 n m within left (subst (λ l. IsUtf8 (take m (drop n l))) is rest),
      c.self.invariant.2,
    )
