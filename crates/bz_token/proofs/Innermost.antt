-- The tokens of open brackets, from the last token on.
use Rattle.std.proofs.Common.{◌≡◌, ℕ, zero, suc, ◌+◌, ◌<◌, ◌≤◌, List, [], ◌∷◌, ◌++◌, length, take, drop, get_or, map, true, false, refl, sym, ap, ◌∙◌, arith, add-one, sub-one, ◌-◌}
use Rattle.std.specs.Prelude.{if◌then◌else◌}
use Rattle.std.proofs.lemmas.List.{drop-drop}
use Rattle.bz_token.specs.Places.{Placed, placed}
use Rattle.bz_token.specs.Brackets.{is_opening_bracket, is_closing_bracket, open_tokens}
use Rattle.bz_token.specs.declared.token.Token.{Token}
use Rattle.bz_token.specs.Pieces.{is_one}

-- the open brackets after one token more
abbrev pub step : List Placed → Placed → List Placed
step opened t = if is_one is_opening_bracket t.text then t ∷ opened else (if is_one is_closing_bracket t.text then drop 1 opened else opened)

pub open_tokens-push : (opened ts : List Placed) (t : Placed) → open_tokens opened (ts ++ t ∷ []) ≡ step (open_tokens opened ts) t
open_tokens-push opened [] t = refl
open_tokens-push opened (u ∷ ts) t = open_tokens-push (step opened u) ts t

pub map_push : (ts : List Token) (t : Token) → map placed (ts ++ t ∷ []) ≡ map placed ts ++ placed t ∷ []
map_push [] t = refl
map_push (u ∷ ts) t = ap (λ x. placed u ∷ x) (map_push ts t)

-- the tokens up to i, with the last one apart
front_push : (ts : List Token) (i : ℕ) (d : Token) → i < length ts → take (i + 1) ts ≡ take i ts ++ get_or ts i d ∷ []
front_push [] i d h = absurd (omega arith)
front_push (t ∷ ts) zero d h = refl
front_push (t ∷ ts) (suc i) d h = rw add-one (ap (λ xs. t ∷ xs) (rw add-one at (front_push ts i d (omega arith))))

-- what is open after the tokens up to i, by the last of them
pub last_step : (ts : List Token) (i : ℕ) (d : Token) → i < length ts → open_tokens [] (map placed (take (i + 1) ts)) ≡ step (open_tokens [] (map placed (take i ts))) (placed (get_or ts i d))
last_step ts i d h =
    ap (λ xs. open_tokens [] (map placed xs)) (front_push ts i d h)
    ∙ ap (open_tokens []) (map_push (take i ts) (get_or ts i d))
    ∙ open_tokens-push [] (map placed (take i ts)) (placed (get_or ts i d))

-- an opening bracket, a closing one, and another token
pub step_opening : (opened : List Placed) (t : Placed) → is_one is_opening_bracket t.text ≡ true → step opened t ≡ t ∷ opened
step_opening opened t h = rw h refl

pub step_closing : (opened : List Placed) (t : Placed) → is_one is_opening_bracket t.text ≡ false → is_one is_closing_bracket t.text ≡ true → step opened t ≡ drop 1 opened
step_closing opened t none h = rw (none, h) refl

pub step_neither : (opened : List Placed) (t : Placed) → is_one is_opening_bracket t.text ≡ false → is_one is_closing_bracket t.text ≡ false → step opened t ≡ opened
step_neither opened t none no_closing = rw (none, no_closing) refl

-- the same with the count of closing brackets met
at_last : (ts : List Token) (i : ℕ) (d : Token) → 0 < i → i ≤ length ts → open_tokens [] (map placed (take i ts)) ≡ step (open_tokens [] (map placed (take (i - 1) ts))) (placed (get_or ts (i - 1) d))
at_last ts i d some fits =
    let e : i - 1 + 1 ≡ i = omega arith in
    ap (λ k. open_tokens [] (map placed (take k ts))) (sym e) ∙ last_step ts (i - 1) d (omega arith)

pub met_closing : (ts : List Token) (i closed : ℕ) (d : Token) → 0 < i → i ≤ length ts → is_one is_opening_bracket (get_or ts (i - 1) d).text.now ≡ false → is_one is_closing_bracket (get_or ts (i - 1) d).text.now ≡ true
    → open_tokens [] (map placed ts) ≡ drop closed (open_tokens [] (map placed (take i ts))) → open_tokens [] (map placed ts) ≡ drop (closed + 1) (open_tokens [] (map placed (take (i - 1) ts)))
met_closing ts i closed d some fits none closing all =
    let before = open_tokens [] (map placed (take (i - 1) ts)) in
    let e : 1 + closed ≡ closed + 1 = omega arith in
    all ∙ ap (drop closed) (at_last ts i d some fits ∙ step_closing before (placed (get_or ts (i - 1) d)) none closing) ∙ drop-drop closed 1 before ∙ ap (λ k. drop k before) e

pub met_opening : (ts : List Token) (i closed : ℕ) (d : Token) → 0 < i → i ≤ length ts → 0 < closed → is_one is_opening_bracket (get_or ts (i - 1) d).text.now ≡ true
    → open_tokens [] (map placed ts) ≡ drop closed (open_tokens [] (map placed (take i ts))) → open_tokens [] (map placed ts) ≡ drop (closed - 1) (open_tokens [] (map placed (take (i - 1) ts)))
met_opening ts i zero d some fits more opening all = absurd (omega arith)
met_opening ts i (suc closed) d some fits more opening all =
    let before = open_tokens [] (map placed (take (i - 1) ts)) in
    rw sub-one (all ∙ ap (drop (suc closed)) (at_last ts i d some fits ∙ step_opening before (placed (get_or ts (i - 1) d)) opening))

pub met_neither : (ts : List Token) (i closed : ℕ) (d : Token) → 0 < i → i ≤ length ts → is_one is_opening_bracket (get_or ts (i - 1) d).text.now ≡ false → is_one is_closing_bracket (get_or ts (i - 1) d).text.now ≡ false
    → open_tokens [] (map placed ts) ≡ drop closed (open_tokens [] (map placed (take i ts))) → open_tokens [] (map placed ts) ≡ drop closed (open_tokens [] (map placed (take (i - 1) ts)))
met_neither ts i closed d some fits none no_closing all =
    all ∙ ap (drop closed) (at_last ts i d some fits ∙ step_neither (open_tokens [] (map placed (take (i - 1) ts))) (placed (get_or ts (i - 1) d)) none no_closing)

pub met_last : (ts : List Token) (i closed : ℕ) (d : Token) → 0 < i → i ≤ length ts → closed ≤ 0 → is_one is_opening_bracket (get_or ts (i - 1) d).text.now ≡ true
    → open_tokens [] (map placed ts) ≡ drop closed (open_tokens [] (map placed (take i ts))) → open_tokens [] (map placed ts) ≡ placed (get_or ts (i - 1) d) ∷ open_tokens [] (map placed (take (i - 1) ts))
met_last ts i zero d some fits none opening all = all ∙ at_last ts i d some fits ∙ step_opening (open_tokens [] (map placed (take (i - 1) ts))) (placed (get_or ts (i - 1) d)) opening
met_last ts i (suc closed) d some fits none opening all = absurd (omega arith)
