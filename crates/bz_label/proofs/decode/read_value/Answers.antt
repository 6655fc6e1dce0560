use Rattle.std.proofs.Common.{◌≡◌, ◌∙◌, ◌++◌, ◌∷◌, [], ◌-◌, List, ℕ, length, take, string_bytes, encode_utf8, sym, ap, arith}
use Rattle.std.proofs.lemmas.Grind.{common_steps}
use Rattle.std.proofs.lemmas.Str.{encode_ascii}
use Rattle.bz_label.specs.private.ByteSteps.{StandsIn}
use Rattle.bz_label.proofs.Decoding.{read, start, escaped, before_escape, after_escape, past_escape, past_byte}
use Rattle.bz_label.proofs.Opened.{boundary}
use Rattle.bz_label.proofs.decode.read_value.Goals as goal

pub range_from-run-requires : goal.range_from-run-requires
range_from-run-requires c = λ _.
    let stands : StandsIn c.args.text.now c.in-Some-open.literal = rw c.as_bytes.ensures.value at c.in-Some-open.ensures.place in
    boundary c.args.text.now c.in-Some-open.literal c.utf8.text stands

pub loop-byte-init : goal.loop-byte-init
loop-byte-init c =
    let stands : StandsIn c.args.text.now c.in-Some-open.literal = rw c.as_bytes.ensures.value at c.in-Some-open.ensures.place in
    record {
      walk = rw c.new-value.ensures.bytes (start _ c.range_from-run.result.now c.in-Some-open.literal.rest.now _ c.range_from-run.utf8 (c.range_from-run.ensures.value ∙ sym stands.rest) (rw c.as_bytes.ensures.value at c.in-Some-open.ensures.value));
      some = stands.some;
      ascii = stands.ascii;
    }

pub range-requires-clause-end_boundary : goal.range-requires-clause-end_boundary
range-requires-clause-end_boundary c =
    let walk = c.loop-byte.invariant.walk in
    before_escape c.loop-byte.run.now c.loop-byte.left.rest.now _ c.in-Some-next_in.byte walk.fits walk.place (omega (arith, c.if-left-after-gt1.true))
    (escaped c.loop-byte.left.raw _ c.loop-byte.left.rest.now c.in-Some-next_in.after.rest.now c.in-Some-next_in.byte c.in-Some-next_in.ensures.unit c.if-left-after-gt1.true)

pub range_from-run-requires-then-left-after-gt1 : goal.range_from-run-requires-then-left-after-gt1
range_from-run-requires-then-left-after-gt1 c = λ _.
    let walk = c.loop-byte.invariant.walk in
    after_escape c.loop-byte.run.now c.loop-byte.left.rest.now c.in-Some-next_in.after.rest.now c.in-Some-next_in.byte walk.utf8 walk.fits walk.place c.if-left-after-gt1.true
    (escaped c.loop-byte.left.raw _ c.loop-byte.left.rest.now c.in-Some-next_in.after.rest.now c.in-Some-next_in.byte c.in-Some-next_in.ensures.unit c.if-left-after-gt1.true)

pub loop-byte-preserved-in_ok-push_char : goal.loop-byte-preserved-in_ok-push_char
loop-byte-preserved-in_ok-push_char c =
    let ascii = escaped c.loop-byte.left.raw _ c.loop-byte.left.rest.now c.in-Some-next_in.after.rest.now c.in-Some-next_in.byte c.in-Some-next_in.ensures.unit c.if-left-after-gt1.true in
    let all : length c.loop-byte.run.now - length c.loop-byte.left.rest.now - 0 ≡ length c.loop-byte.run.now - length c.loop-byte.left.rest.now = omega arith in
    let done : string_bytes c.push_char.new.string ≡ string_bytes c.loop-byte.value ++ read c.loop-byte.run.now c.loop-byte.left.rest.now ++ c.in-Some-next_in.byte ∷ [] =
    c.in_ok-push_char.ensures.bytes
    ∙ ap (λ (w : List ℕ). w ++ encode_utf8 c.from.result) c.in_ok-push_str.ensures.bytes
    ∙ ap (λ (w : List ℕ). string_bytes c.loop-byte.value ++ w ++ encode_utf8 c.from.result) (c.range.ensures.value ∙ ap (λ k. take k c.loop-byte.run.now) all)
    ∙ ap (λ (b : ℕ). string_bytes c.loop-byte.value ++ read c.loop-byte.run.now c.loop-byte.left.rest.now ++ encode_utf8 b) c.from.ensures
    ∙ ap (λ (w : List ℕ). string_bytes c.loop-byte.value ++ read c.loop-byte.run.now c.loop-byte.left.rest.now ++ w) (encode_ascii c.in-Some-next_in.byte ascii.worth) in
    record {
      walk = past_escape c.loop-byte.left.raw _ _ _ _ (string_bytes c.loop-byte.value) _ c.loop-byte.run.now c.range_from-run-then-left-after-gt1.result.now c.loop-byte.left.rest.now c.in-Some-next_in.after.rest.now c.in-Some-next_in.byte c.loop-byte.invariant.walk c.in-Some-next_in.ensures.unit c.in-Some-next_in.ensures.shorter c.in-Some-next_in.ensures.next c.range_from-run-then-left-after-gt1.utf8 c.range_from-run-then-left-after-gt1.ensures.value done;
      some = rw c.in-Some-next_in.ensures.quotes c.loop-byte.invariant.some;
      ascii = rw c.in-Some-next_in.ensures.quotes c.loop-byte.invariant.ascii;
    }

pub loop-byte-preserved : goal.loop-byte-preserved
loop-byte-preserved c = record {
  walk = past_byte c.loop-byte.left.raw _ _ _ _ (string_bytes c.loop-byte.value) c.loop-byte.run.now c.loop-byte.left.rest.now c.in-Some-next_in.after.rest.now c.in-Some-next_in.byte c.loop-byte.invariant.walk c.in-Some-next_in.ensures.unit c.in-Some-next_in.ensures.shorter (omega (arith, c.if-left-after-gt1.false)) c.in-Some-next_in.ensures.next;
  some = rw c.in-Some-next_in.ensures.quotes c.loop-byte.invariant.some;
  ascii = rw c.in-Some-next_in.ensures.quotes c.loop-byte.invariant.ascii;
}

pub range-requires-2-clause-end_boundary : goal.range-requires-2-clause-end_boundary
range-requires-2-clause-end_boundary c = grind (arith, common_steps)

pub returns : goal.returns
returns c = grind (arith, common_steps)
