-- A line without a carriage return at its end.
use Rattle.std.proofs.Common.{◌≡◌, ◌≢◌, ℕ, ◌-◌, ◌++◌, List, [], ◌∷◌, length, take, get_or, Option, Some, None, refl, sym, ap, ◌∙◌, arith, inl, inr, eqb, eq-eqb}
use Rattle.std.specs.Prelude.{MatchOption, unwrap_or}
use Rattle.std.specs.Str.Lines.{strip_carriage_return}
use Rattle.std.specs.Str.Pattern.{FindsCharSuffix, StripsSuffix}
use Rattle.std.proofs.lemmas.Bool.{cases_Bool, eqb-true}
use Rattle.std.proofs.lemmas.Grind.{common_steps}
use Rattle.std.proofs.lemmas.Str.{encode_ascii}
use Rattle.std.proofs.lemmas.Str.Pattern.{strip_suffix_char}
use denote.Ref.{Bor}

-- the line, where no carriage return ends it
return_kept : (line : List ℕ) → ((front : List ℕ) → line ≢ front ++ 13 ∷ []) → strip_carriage_return line ≡ line
return_kept [] h = refl
return_kept (b ∷ bs) h = elim (cases_Bool (eqb (get_or (b ∷ bs) (length (b ∷ bs) - 1) 0) 13)) [
  | inl is ↦
      let last : get_or (b ∷ bs) (length (b ∷ bs) - 1) 0 ≡ 13 = eqb-true _ 13 is in
      absurd (h (take (length (b ∷ bs) - 1) (b ∷ bs)) (grind (arith, common_steps)))
  | inr other ↦ rw other refl
]

return_dropped : (front : List ℕ) → strip_carriage_return (front ++ 13 ∷ []) ≡ front
return_dropped front =
    let last : get_or (front ++ 13 ∷ []) (length (front ++ 13 ∷ []) - 1) 0 ≡ 13 = grind (arith, common_steps) in
    let rest : take (length (front ++ 13 ∷ []) - 1) (front ++ 13 ∷ []) ≡ front = grind (arith, common_steps) in
    rw (eq-eqb _ 13 last) rest

-- the front that a search for a carriage return at the end gives, or else the line
pub return_is : (line : List ℕ) (r : Option (Bor (List ℕ))) → MatchOption r (FindsCharSuffix 13 line None) (λ x. StripsSuffix (FindsCharSuffix 13) line x.now) → (d : Bor (List ℕ)) → d.now ≡ line → (unwrap_or r d).now ≡ strip_carriage_return line
return_is line None h d e = e ∙ sym (return_kept line (λ front is. h front (is ∙ ap (λ (c : List ℕ). front ++ c) (sym (encode_ascii 13 (omega arith))))))
return_is line (Some x) h d e =
    let whole : line ≡ x.now ++ 13 ∷ [] = strip_suffix_char 13 line (Some x) h (omega arith) in
    sym (return_dropped x.now) ∙ ap strip_carriage_return (sym whole)
