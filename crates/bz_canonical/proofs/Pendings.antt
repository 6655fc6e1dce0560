-- What is written up to here, and is not in the buffer yet.
use Rattle.std.proofs.Common.{◌≡◌, ◌<◌, ℕ, ◌-◌, List, [], ◌++◌, refl, length, take, sym, ap, ◌∙◌, arith, append_assoc, subst}
use Rattle.std.proofs.lemmas.List.{length-append}
use Rattle.bz_canonical.specs.private.Pendings.{IsPending}
use Rattle.bz_canonical.proofs.Taken.{taken}

-- more that stands as it is written
pub pend_more : (text buffer all from rest v next : List ℕ) → IsPending text buffer all from rest → rest ≡ v ++ next → IsPending text buffer (all ++ v) from next
pend_more text buffer all from rest v next p is = record {
  part = p.part ++ v;
  front = p.front ∙ ap (λ (t : List ℕ). p.part ++ t) is ∙ sym (append_assoc p.part v next);
  all_is = ap (λ (t : List ℕ). t ++ v) p.all_is ∙ append_assoc buffer p.part v;
  whole = p.whole;
}

pub pend_same : (text buffer all from rest other : List ℕ) → IsPending text buffer all from rest → all ≡ other → IsPending text buffer other from rest
pend_same text buffer all from rest other p is = subst (λ (t : List ℕ). IsPending text buffer t from rest) is p

-- where reading begins
pub pend_first : (text front rest : List ℕ) → text ≡ front ++ rest → IsPending text [] front text rest
pend_first text front rest is = record { part = front; front = is; all_is = refl; whole = λ none. refl }

-- a value goes into the buffer, after what was pending
pub pend_value : (text old new begun from at value end next front back w put : List ℕ) → IsPending text old begun from at → at ≡ front ++ value → end ≡ back ++ next → 0 < length front → put ≡ take (length from - length value) from
    → new ≡ (old ++ put) ++ w → IsPending text new (begun ++ (front ++ (w ++ back))) end next
pend_value text old new begun from at value end next front back w put p at_is end_is filled put_is new_is =
    let front_is : from ≡ (p.part ++ front) ++ value = p.front ∙ ap (λ (t : List ℕ). p.part ++ t) at_is ∙ sym (append_assoc p.part front value) in
    let all : new ≡ (old ++ (p.part ++ front)) ++ w = new_is ∙ ap (λ (t : List ℕ). (old ++ t) ++ w) (put_is ∙ taken from (p.part ++ front) value front_is) in
    record {
      part = back;
      front = end_is;
      all_is = ap (λ (t : List ℕ). t ++ (front ++ (w ++ back))) p.all_is ∙ joined old p.part front w back ∙ ap (λ (t : List ℕ). t ++ back) (sym all);
      whole = λ none. absurd (some (sym all ∙ none));
    }
  where
    joined : (o p f w b : List ℕ) → (o ++ p) ++ (f ++ (w ++ b)) ≡ ((o ++ (p ++ f)) ++ w) ++ b
    joined o p f w b = simp append_assoc

    some : (old ++ (p.part ++ front)) ++ w ≡ [] → ⊥
    some none =
        omega (arith, length-append (old ++ (p.part ++ front)) w, length-append old (p.part ++ front), length-append p.part front, ap length none, filled)
