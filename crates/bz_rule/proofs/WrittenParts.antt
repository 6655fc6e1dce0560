-- Parts that are written anew, where some places of them make way.
use Rattle.std.proofs.Common.{◌≡◌, ℕ, ◌+◌, ◌-◌, ◌≤◌, List, [], ◌++◌, Bool, true, false, ◌||◌, if◌then◌else◌, Option, None, Some, is_some, length, map, take, drop, ap, sym, ◌∙◌, arith, rules, append_assoc, append-nil, take-add, drop-drop}
use Rattle.std.specs.Prelude.{Result, Ok, Err, IfOk, OnOk, is_ok}
use Rattle.std.proofs.lemmas.List.{map-append}
use Rattle.std.proofs.Math.Bool.{or-false}
use Rattle.std.proofs.Math.Seq.{take-append_seam}
use Rattle.bz_tree.specs.declared.row.Part.{Part}
use Rattle.bz_tree.specs.Rows.{RowPart, part_view}
use Rattle.bz_attribute.specs.declared.place.Place.{Place}
use Rattle.bz_attribute.proofs.Slices.{slice_seen}
use Rattle.bz_rule.specs.private.StringEdits.{HasMadeWay, IsUpTo, written_to}

pub regroup : (a b c d : List RowPart) → a ++ (b ++ (c ++ d)) ≡ (a ++ (b ++ c)) ++ d
regroup a b c d = simp append_assoc

none_taken : (k : ℕ) (ps : List RowPart) → take (k - k) (drop k ps) ≡ []
none_taken k ps = let zero : k - k ≡ 0 = omega arith in ap (λ (n : ℕ). take n (drop k ps)) zero

-- what stands between two places, and between the second and a third
pub between : (ps : List RowPart) (i j k : ℕ) → i ≤ j → j ≤ k → take (k - i) (drop i ps) ≡ take (j - i) (drop i ps) ++ take (k - j) (drop j ps)
between ps i j k first second =
    let more : k - i ≡ (j - i) + (k - j) = omega (arith, first, second) in
    let back : i + (j - i) ≡ j = omega (arith, first) in
    ap (λ (n : ℕ). take n (drop i ps)) more ∙ take-add (j - i) (k - j) (drop i ps)
    ∙ ap (λ (qs : List RowPart). take (j - i) (drop i ps) ++ take (k - j) qs) (drop-drop (j - i) i ps ∙ ap (λ (n : ℕ). drop n ps) back)

pub later : (written : Option Place) (at k : ℕ) → IsUpTo written at → at ≤ k → IsUpTo written k
later None at k h more = h
later (Some place) at k h more = (h.0, omega (arith, h.1, more))

-- parts that stay
pub passed_to : (written : Option Place) (out ps : List RowPart) (at k : ℕ) → IsUpTo written at → at ≤ k → written_to written out ps k ≡ written_to written out ps at ++ take (k - at) (drop at ps)
passed_to None out ps at k h more = ap (λ (n : ℕ). take n ps) (omega (arith, more)) ∙ take-add at (k - at) ps
passed_to (Some place) out ps at k h more =
    ap (λ (qs : List RowPart). take place.from ps ++ (out ++ qs)) (between ps place.to at k h.1 more) ∙ regroup (take place.from ps) out (take (at - place.to) (drop place.to ps)) (take (k - at) (drop at ps))

pub passed : (written : Option Place) (out ps xs : List RowPart) (at k : ℕ) → IsUpTo written at → drop at ps ≡ xs ++ drop k ps → k ≡ at + length xs → written_to written out ps k ≡ written_to written out ps at ++ xs
passed written out ps xs at k h are size =
    let long : k - at ≡ length xs = omega (arith, size) in
    let own : take (k - at) (drop at ps) ≡ xs = (λ i. take (long i) (are i)) ∙ take-append_seam xs (drop k ps) in
    passed_to written out ps at k h (omega (arith, size)) ∙ ap (λ (qs : List RowPart). written_to written out ps at ++ qs) own

-- a place that makes way
pub made_first : (ps out : List RowPart) (place : Place) (written : Option Place) → written ≡ Some place → place.from ≤ place.to → out ≡ [] → HasMadeWay (take place.from ps) ps out place written
made_first ps out place written is order none = record { from = place.from; order = order; is = is; are = ap (λ (qs : List RowPart). take place.from ps ++ qs) none ∙ append-nil (take place.from ps) }

pub made_more : (ps old new : List Part) (before place : Place) (written : Option Place) → written ≡ Some (record { from = before.from; to = place.to }) → before.from ≤ place.to → new ≡ old ++ take (place.from - before.to) (drop before.to ps)
    → HasMadeWay (written_to (Some before) (map part_view old) (map part_view ps) place.from) (map part_view ps) (map part_view new) place written
made_more ps old new before place written is order copied = record {
  from = before.from;
  order = order;
  is = is;
  are = ap (λ (qs : List RowPart). take before.from (map part_view ps) ++ qs)
      (ap (map part_view) copied ∙ map-append part_view old (take (place.from - before.to) (drop before.to ps)) ∙ ap (λ (qs : List RowPart). map part_view old ++ qs) (slice_seen ps before.to (place.from - before.to)));
}

pub is_made : {before ps out : List RowPart} {place : Place} {written : Option Place} → HasMadeWay before ps out place written → is_some written ≡ true
is_made h = ap is_some h.is

pub up_to_made : {before ps out : List RowPart} {place : Place} {written : Option Place} → HasMadeWay before ps out place written → IsUpTo written place.to
up_to_made h = rw h.is (h.order, omega arith)

-- what comes in its place
pub put : (before ps one two new : List RowPart) (place : Place) (written : Option Place) → HasMadeWay before ps one place written → two ≡ one ++ new → written_to written two ps place.to ≡ before ++ new
put before ps one two new place written h pushed =
    ap (λ (w : Option Place). written_to w two ps place.to) h.is
    ∙ ap (λ (qs : List RowPart). take h.from ps ++ (two ++ qs)) (none_taken place.to ps)
    ∙ ap (λ (qs : List RowPart). take h.from ps ++ qs) (append-nil two ∙ pushed)
    ∙ sym (append_assoc (take h.from ps) one new) ∙ ap (λ (qs : List RowPart). qs ++ new) h.are

-- whether anything changed, where one thing more may
pub some_more : (was is b : Bool) → is ≡ true → b ≡ true → is ≡ (was || b)
some_more true is b some is_true = some
some_more false is b some is_true = some ∙ sym is_true

pub none_more : (was b : Bool) → b ≡ false → was ≡ (was || b)
none_more was b none = sym (ap (λ (c : Bool). was || c) none ∙ or-false was)

-- what holds of the value of a call that succeeds
pub ok_as : {T E : Type 0} {P Q : T → Type 0} → ((x : T) → P x → Q x) → (r : Result T E) → IfOk r P → IfOk r Q
ok_as f (Ok x) p = f x p
ok_as f (Err e) p = search rules

-- what stands where a call's `Result` is returned as it is
pub on_ok_by : {T E A Q : Type 0} {x y : A} (z : A) (r : Result T E) → x ≡ (if is_ok r then y else z) → (x ≡ y → Q) → OnOk r Q
on_ok_by z (Ok t) is f = f is
on_ok_by z (Err e) is f = search rules
