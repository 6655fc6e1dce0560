use Rattle.std.proofs.Common.{◌≡◌, ◌∷◌, ◌++◌, true, false, ap, sym, ◌∙◌, arith}
use Rattle.std.proofs.lemmas.Grind.{common_steps}
use Rattle.std.specs.List.{flat_map}
use Rattle.std.specs.Ordering.{is_ne, nat_cmp}
use Rattle.std.specs.Cmp.Lexicographic.{slice_cmp}
use Rattle.bz_label.specs.private.ByteSteps.{left}
use Rattle.bz_label.specs.private.LabelSteps.{chain_bytes}
use Rattle.bz_label.specs.declared.bytes.Bytes.{Bytes}
use Rattle.bz_label.proofs.LabelSets.{decided, undecided, fronts_decide}
use Rattle.bz_label.proofs.completed.order.Goals as goal

pub returns-then-is_ne : goal.returns-then-is_ne
returns-then-is_ne c =
    let f = c.split_at.result.0.now in
    let g = c.split_at-in-Plain-Plain.result.0.now in
    let r = flat_map left c.in-Some.after.rest.now in
    let s = flat_map left c.in-Some-next_in.following.rest.now in
    let first : chain_bytes c.loop-byte.a ≡ c.in-Some.byte ∷ (c.in-Plain-Plain.x.now ++ r) = c.in-Some.ensures.next ∙ ap (λ (t : Bytes). c.in-Some.byte ∷ (left t ++ r)) c.in-Plain-Plain.is-0 in
    let second : chain_bytes c.loop-byte.b ≡ c.in-Some-next_in.other ∷ (c.in-Plain-Plain.y.now ++ s) = c.in-Some-next_in.ensures.next ∙ ap (λ (t : Bytes). c.in-Some-next_in.other ∷ (left t ++ s)) c.in-Plain-Plain.is-1 in
    let differ : is_ne (slice_cmp nat_cmp f g) ≡ true = ap is_ne (sym c.cmp-found.ensures) ∙ sym c.is_ne.ensures ∙ c.if-is_ne.true in
    c.cmp-found.ensures
    ∙ sym (decided (slice_cmp nat_cmp f g) (slice_cmp nat_cmp (c.split_at.result.1.now ++ r) (c.split_at-in-Plain-Plain.result.1.now ++ s)) differ)
    ∙ sym (fronts_decide c.in-Some.byte c.in-Some-next_in.other (chain_bytes c.loop-byte.a) (chain_bytes c.loop-byte.b) c.in-Plain-Plain.x.now c.in-Plain-Plain.y.now f g c.split_at.result.1.now c.split_at-in-Plain-Plain.result.1.now r s (omega (arith, c.if-byte-other.false)) (c.split_at.ensures.front_len ∙ sym c.split_at-in-Plain-Plain.ensures.front_len) first second c.split_at.ensures.by_index.0 c.split_at-in-Plain-Plain.ensures.by_index.0)
    ∙ c.loop-byte.invariant.same

pub loop-byte-preserved-in-Plain-b : goal.loop-byte-preserved-in-Plain-b
loop-byte-preserved-in-Plain-b c =
    let f = c.split_at.result.0.now in
    let g = c.split_at-in-Plain-Plain.result.0.now in
    let r = flat_map left c.in-Some.after.rest.now in
    let s = flat_map left c.in-Some-next_in.following.rest.now in
    let first : chain_bytes c.loop-byte.a ≡ c.in-Some.byte ∷ (c.in-Plain-Plain.x.now ++ r) = c.in-Some.ensures.next ∙ ap (λ (t : Bytes). c.in-Some.byte ∷ (left t ++ r)) c.in-Plain-Plain.is-0 in
    let second : chain_bytes c.loop-byte.b ≡ c.in-Some-next_in.other ∷ (c.in-Plain-Plain.y.now ++ s) = c.in-Some-next_in.ensures.next ∙ ap (λ (t : Bytes). c.in-Some-next_in.other ∷ (left t ++ s)) c.in-Plain-Plain.is-1 in
    let tie : is_ne (slice_cmp nat_cmp f g) ≡ false = ap is_ne (sym c.cmp-found.ensures) ∙ sym c.is_ne.ensures ∙ c.if-is_ne.false in
    record {
      a = rw c.in-Plain-Plain.is-0 at c.in-Some.ensures.good;
      b = rw c.in-Plain-Plain.is-1 at c.in-Some-next_in.ensures.good;
      same =
          sym (undecided (slice_cmp nat_cmp f g) (slice_cmp nat_cmp (c.split_at.result.1.now ++ r) (c.split_at-in-Plain-Plain.result.1.now ++ s)) tie)
          ∙ sym (fronts_decide c.in-Some.byte c.in-Some-next_in.other (chain_bytes c.loop-byte.a) (chain_bytes c.loop-byte.b) c.in-Plain-Plain.x.now c.in-Plain-Plain.y.now f g c.split_at.result.1.now c.split_at-in-Plain-Plain.result.1.now r s (omega (arith, c.if-byte-other.false)) (c.split_at.ensures.front_len ∙ sym c.split_at-in-Plain-Plain.ensures.front_len) first second c.split_at.ensures.by_index.0 c.split_at-in-Plain-Plain.ensures.by_index.0)
          ∙ c.loop-byte.invariant.same;
    }

pub loop-byte-smaller-in-Plain-b : goal.loop-byte-smaller-in-Plain-b
loop-byte-smaller-in-Plain-b c = grind (arith, common_steps)
