-- Parts that are cut from texts.
use Rattle.std.proofs.Common.{◌≡◌, ℕ, ◌+◌, ◌-◌, List, [], ◌∷◌, ◌++◌, length, take, drop, refl, ap, sym, ◌∙◌, arith, append_assoc}
use Rattle.std.proofs.Math.Seq.{take-append_seam, drop-append_seam}
use Rattle.std.proofs.lemmas.List.{length-append}
use Rattle.bz_canonical.specs.SealedRules.{between, name_line}

pub cut_at : (front part back text : List ℕ) (from to : ℕ) → text ≡ front ++ (part ++ back) → from ≡ length front → to ≡ from + length part → between from to text ≡ part
cut_at front part back text from to is begins ends =
    let size : to - from ≡ length part = omega (arith, ends) in
    ap (λ t. take (to - from) (drop from t)) is ∙ ap (λ n. take (to - from) (drop n (front ++ (part ++ back)))) begins ∙ ap (λ t. take (to - from) t) (drop-append_seam front (part ++ back))
    ∙ ap (λ n. take n (part ++ back)) size ∙ take-append_seam part back

pub rest_at : (front back text : List ℕ) (from : ℕ) → text ≡ front ++ back → from ≡ length front → drop from text ≡ back
rest_at front back text from is begins = ap (λ t. drop from t) is ∙ ap (λ n. drop n (front ++ back)) begins ∙ drop-append_seam front back

-- the text of a name
pub name_cut : (name line : List ℕ) (len : ℕ) → line ≡ (10 ∷ 32 ∷ 32 ∷ 32 ∷ 32 ∷ 110 ∷ 97 ∷ 109 ∷ 101 ∷ 32 ∷ 61 ∷ 32 ∷ []) ++ ((34 ∷ (name ++ 34 ∷ [])) ++ 44 ∷ []) → len + 1 ≡ length line
    → between 12 len line ≡ 34 ∷ (name ++ 34 ∷ [])
name_cut name line len is size =
    cut_at (10 ∷ 32 ∷ 32 ∷ 32 ∷ 32 ∷ 110 ∷ 97 ∷ 109 ∷ 101 ∷ 32 ∷ 61 ∷ 32 ∷ []) (34 ∷ (name ++ 34 ∷ [])) (44 ∷ []) line 12 len is refl
    (omega (arith, size, ap length is, length-append (10 ∷ 32 ∷ 32 ∷ 32 ∷ 32 ∷ 110 ∷ 97 ∷ 109 ∷ 101 ∷ 32 ∷ 61 ∷ 32 ∷ []) ((34 ∷ (name ++ 34 ∷ [])) ++ 44 ∷ []), length-append (34 ∷ (name ++ 34 ∷ [])) (44 ∷ [])))

pub name_is : (name : List ℕ) → name_line name ≡ (10 ∷ 32 ∷ 32 ∷ 32 ∷ 32 ∷ 110 ∷ 97 ∷ 109 ∷ 101 ∷ 32 ∷ 61 ∷ 32 ∷ []) ++ ((34 ∷ (name ++ 34 ∷ [])) ++ 44 ∷ [])
name_is name = ap (λ (t : List ℕ). 10 ∷ 32 ∷ 32 ∷ 32 ∷ 32 ∷ 110 ∷ 97 ∷ 109 ∷ 101 ∷ 32 ∷ 61 ∷ 32 ∷ 34 ∷ t) (sym (append_assoc name (34 ∷ []) (44 ∷ [])))

-- the bytes of a sealed argument, and what follows them
pub inner_cut : (inner side lines : List ℕ) (comma : ℕ) → lines ≡ 10 ∷ 32 ∷ 32 ∷ 32 ∷ 32 ∷ (inner ++ 44 ∷ side) → comma ≡ length (10 ∷ 32 ∷ 32 ∷ 32 ∷ 32 ∷ inner) → (between 5 comma lines ≡ inner) × (drop comma lines ≡ 44 ∷ side)
inner_cut inner side lines comma is at =
    (cut_at (10 ∷ 32 ∷ 32 ∷ 32 ∷ 32 ∷ []) inner (44 ∷ side) lines 5 comma is refl (omega (arith, at)), rest_at (10 ∷ 32 ∷ 32 ∷ 32 ∷ 32 ∷ inner) (44 ∷ side) lines comma is at)

-- all but the last byte
pub last_cut : (front : List ℕ) (last : ℕ) (text : List ℕ) (len : ℕ) → text ≡ front ++ last ∷ [] → len + 1 ≡ length text → take len text ≡ front
last_cut front last text len is size =
    let at : len ≡ length front = omega (arith, size, ap length is, length-append front (last ∷ [])) in
    ap (λ t. take len t) is ∙ ap (λ n. take n (front ++ last ∷ [])) at ∙ take-append_seam front (last ∷ [])
