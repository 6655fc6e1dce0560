-- Where a part stands in a text.
use Rattle.std.proofs.Common.{◌≡◌, ℕ, List, [], ◌∷◌, ◌++◌, length, take, drop, Bool, true, false, ◌||◌, if◌then◌else◌, append-nil, refl, sym, ap, ◌∙◌, inl, inr, append_assoc, take-append-drop}
use Rattle.std.specs.Prelude.{nat_eq}
use Rattle.std.specs.List.{list_any, starts_with}
use Rattle.std.proofs.Math.Seq.{take-append_seam}
use Rattle.std.proofs.lemmas.Bool.{cases_Bool, false≢true, or_cases}
use Rattle.std.proofs.lemmas.List.Folds.{list_any-append}
use Rattle.std.proofs.lemmas.Slice.Eq.{bytes_eq-Decides}
use Rattle.bz_label.specs.Endings.{ending, is_in, is_mark}
use Rattle.bz_label.proofs.PlainValues.{IsIn}

pub or_later : (a b : Bool) → b ≡ true → (a || b) ≡ true
or_later true b is = refl
or_later false b is = is

at_front : (part back : List ℕ) → is_in part (part ++ back) ≡ true
at_front [] [] = refl
at_front [] (b ∷ bs) = refl
at_front (p ∷ ps) back =
    let starts : starts_with nat_eq (p ∷ (ps ++ back)) (p ∷ ps) ≡ true = (bytes_eq-Decides (p ∷ ps) (take (length (p ∷ ps)) ((p ∷ ps) ++ back))).1 (sym (take-append_seam (p ∷ ps) back)) in
    ap (λ b. b || is_in (p ∷ ps) (ps ++ back)) starts

in_here : (front part back : List ℕ) → is_in part (front ++ (part ++ back)) ≡ true
in_here [] part back = at_front part back
in_here (x ∷ front) part back = or_later (starts_with nat_eq (x ∷ (front ++ (part ++ back))) part) (is_in part (front ++ (part ++ back))) (in_here front part back)

pub is_there : (part text : List ℕ) → IsIn part text → is_in part text ≡ true
is_there part text h = ap (is_in part) h.is ∙ in_here h.front part h.back

pub where_in : (part text : List ℕ) → is_in part text ≡ true → IsIn part text
where_in part [] is = record { front = []; back = []; is = ap (λ (t : List ℕ). t ++ []) (sym ((bytes_eq-Decides part []).0 is)) }
where_in part (b ∷ bs) is = elim (or_cases (starts_with nat_eq (b ∷ bs) part) (is_in part bs) is) [
  | inl here ↦
      let same : part ≡ take (length part) (b ∷ bs) = (bytes_eq-Decides part (take (length part) (b ∷ bs))).0 here in
      record { front = []; back = drop (length part) (b ∷ bs); is = sym (take-append-drop (length part) (b ∷ bs)) ∙ ap (λ (t : List ℕ). t ++ drop (length part) (b ∷ bs)) (sym same) }
  | inr later ↦ let more = where_in part bs later in record { front = b ∷ more.front; back = more.back; is = ap (λ (t : List ℕ). b ∷ t) more.is }
]

apart : (a b c d e : List ℕ) → a ++ ((b ++ (c ++ d)) ++ e) ≡ (a ++ b) ++ (c ++ (d ++ e))
apart a b c d e = simp append_assoc

-- what stands in a part stands in the text
pub in_part : (inner part text : List ℕ) → IsIn inner part → IsIn part text → IsIn inner text
in_part inner part text h k = record {
  front = k.front ++ h.front;
  back = h.back ++ k.back;
  is = k.is ∙ ap (λ (t : List ℕ). k.front ++ (t ++ k.back)) h.is ∙ apart k.front h.front inner h.back k.back;
}

pub none_in : (p : ℕ → Bool) (part text : List ℕ) → IsIn part text → list_any p text ≡ false → list_any p part ≡ false
none_in p part text h none = elim (cases_Bool (list_any p part)) [
  | inl some ↦
      let inner : list_any p (part ++ h.back) ≡ true = list_any-append p part h.back ∙ ap (λ b. b || list_any p h.back) some in
      let all : list_any p text ≡ true = ap (list_any p) h.is ∙ list_any-append p h.front (part ++ h.back) ∙ or_later (list_any p h.front) (list_any p (part ++ h.back)) inner in
      absurd (false≢true (sym none ∙ all))
  | inr gone ↦ gone
]

-- all of it
pub all_in : (text : List ℕ) → IsIn text text
all_in text = record { front = []; back = []; is = sym (append-nil text) }

-- the end stands last in the text
ends_in : (text : List ℕ) → (front : List ℕ) × (text ≡ front ++ ending text)
ends_in [] = ([], refl)
ends_in (b ∷ bs) = by (list_any is_mark bs) (is_mark b) (ends_in bs)
  where
    by : (some mark : Bool) → (front : List ℕ) × (bs ≡ front ++ ending bs) → (front : List ℕ) × (b ∷ bs ≡ front ++ (if some then ending bs else (if mark then bs else b ∷ bs)))
    by true mark h = (b ∷ h.0, ap (λ (t : List ℕ). b ∷ t) h.1)
    by false true h = (b ∷ [], refl)
    by false false h = ([], refl)

pub ending_in : (text : List ℕ) → IsIn (ending text) text
ending_in text = let at = ends_in text in record { front = at.0; back = []; is = at.1 ∙ ap (λ (t : List ℕ). at.0 ++ t) (sym (append-nil (ending text))) }

pub ending_before : (text : List ℕ) (q : ℕ) → IsIn (ending text ++ q ∷ []) (text ++ q ∷ [])
ending_before text q = let at = ends_in text in record {
  front = at.0;
  back = [];
  is = ap (λ (t : List ℕ). t ++ q ∷ []) at.1 ∙ append_assoc at.0 (ending text) (q ∷ []) ∙ ap (λ (t : List ℕ). at.0 ++ t) (sym (append-nil (ending text ++ q ∷ [])));
}
