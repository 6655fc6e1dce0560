use Rattle.std.proofs.Common.{◌≡◌, ◌≤◌, ◌+◌, ◌-◌, take, drop, sym, ap, ◌∙◌, arith, length-drop}
use lib.Seq.{paste}
use Rattle.std.proofs.lemmas.List.{drop-take}
use Rattle.std.proofs.lemmas.List.Edits.{take-paste}
use Rattle.bz_devices.proofs.TextAhead.{start_within}
use Rattle.bz_devices.proofs.ahead.Ahead.drop_taken.Goals as goal

pub returns-then-self-ge-MANY_TAKEN : goal.returns-then-self-ge-MANY_TAKEN
returns-then-self-ge-MANY_TAKEN c =
    let inside = c.self.inside in
    let all = inside.buffer.items in
    let start = inside.start in
    let end = inside.end in
    let most = end - start in
    let within : start ≤ end = start_within all start inside.text_len end c.self.invariant.0 c.self.invariant.2 in
    let same : most ≡ 0 + most = omega arith in
    let whole : start + most ≡ end = omega (arith, within) in
    let moved : take most c.copy_within.new.self.items ≡ drop start (take end all) =
    ap (take most) c.copy_within.ensures.items ∙ ap (λ k. take k (paste all 0 (drop start all) most)) same
    ∙ take-paste all 0 (drop start all) most (omega arith) (omega (arith, c.self.invariant.2, within, length-drop start all))
    ∙ sym (drop-take start most all) ∙ ap (λ k. drop start (take k all)) whole in
    ap (λ l. record { bytes = l; reads = inside.reads; ended = inside.ended }) moved ∙ c.self.view_is
