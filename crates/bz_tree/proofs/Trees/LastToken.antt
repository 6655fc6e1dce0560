-- The last token that a test does not leave out, found from the end.
use Rattle.std.proofs.Common.{map, reverse, not, ◌≡◌, List, [], ◌∷◌, ◌++◌, Bool, true, false, cond, Option, Some, None, option_map, refl, ap, sym, ◌∙◌}
use Rattle.std.specs.List.{find}
use Rattle.std.specs.Option.{option_or}
use Rattle.std.proofs.lemmas.List.{reverse-append}
use Rattle.std.proofs.lemmas.List.Folds.{find-append}
use Rattle.bz_token.specs.declared.token.Token.{Token}
use Rattle.bz_token.specs.Common.{first_of}
use Rattle.bz_token.specs.Places.{Placed, placed}
use Rattle.bz_tree.specs.Kinds.{mark_of}
use Rattle.bz_tree.specs.Brackets.{is_line, without_lines}
use Rattle.std.specs.List.{last_or as last_of}
use Rattle.bz_tree.specs.Statement.{is_aside, bare_tokens, last_token, last_seen}

pub bare_append : (xs ys : List Placed) → bare_tokens (xs ++ ys) ≡ bare_tokens xs ++ bare_tokens ys
bare_append [] ys = refl
bare_append (x ∷ xs) ys = at (is_aside x.kind) (bare_append xs ys)
  where
    at : (b : Bool) → bare_tokens (xs ++ ys) ≡ bare_tokens xs ++ bare_tokens ys → cond b (bare_tokens (xs ++ ys)) (x ∷ bare_tokens (xs ++ ys)) ≡ cond b (bare_tokens xs) (x ∷ bare_tokens xs) ++ bare_tokens ys
    at true more = more
    at false more = ap (λ zs. x ∷ zs) more

abbrev without : (Placed → Bool) → List Placed → List Placed
without test [] = []
without test (t ∷ ts) = cond (test t) (without test ts) (t ∷ without test ts)

bare_is : (ts : List Placed) → without (λ t. is_aside t.kind) ts ≡ bare_tokens ts
bare_is [] = refl
bare_is (t ∷ ts) = ap (λ us. cond (is_aside t.kind) us (t ∷ us)) (bare_is ts)

lines_is : (ts : List Placed) → without (λ t. is_line (mark_of t)) ts ≡ without_lines ts
lines_is [] = refl
lines_is (t ∷ ts) = ap (λ us. cond (is_line (mark_of t)) us (t ∷ us)) (lines_is ts)

pub first_append : (xs ys : List Placed) → first_of (xs ++ ys) ≡ option_or (first_of xs) (first_of ys)
first_append [] ys = refl
first_append (x ∷ xs) ys = refl

chosen : (o : Option Placed) (y : Placed) (found : Option Placed) → option_or o (Some y) ≡ option_or (option_or o (Some y)) found
chosen None y found = refl
chosen (Some z) y found = refl

pub last_or : (found : Option Placed) (ys : List Placed) → last_of found ys ≡ option_or (last_of None ys) found
last_or found [] = refl
last_or found (y ∷ ys) = last_or (Some y) ys ∙ chosen (last_of None ys) y found ∙ ap (λ o. option_or o found) (sym (last_or (Some y) ys))

pub last_append : (found : Option Placed) (xs ys : List Placed) → last_of found (xs ++ ys) ≡ option_or (last_of None ys) (last_of found xs)
last_append found [] ys = last_or found ys
last_append found (x ∷ xs) ys = last_append (Some x) xs ys

pub either_placed : (o p : Option Token) → option_map placed (option_or o p) ≡ option_or (option_map placed o) (option_map placed p)
either_placed None p = refl
either_placed (Some t) p = refl

abbrev pub counts : (Placed → Bool) → Token → Bool
counts test t = not (test (placed t))

last_found : (test : Placed → Bool) (ts : List Token) → option_map placed (find (counts test) (reverse ts)) ≡ last_of None (without test (map placed ts))
last_found test [] = refl
last_found test (t ∷ ts) =
    ap (λ us. option_map placed (find (counts test) us)) (reverse-append (t ∷ []) ts) ∙ ap (option_map placed) (find-append (counts test) (reverse ts) (t ∷ []))
    ∙ either_placed (find (counts test) (reverse ts)) _ ∙ ap (λ o. option_or o (option_map placed (cond (not (test (placed t))) (Some t) None))) (last_found test ts) ∙ at (test (placed t)) (without test (map placed ts))
  where
    at : (b : Bool) (us : List Placed) → option_or (last_of None us) (option_map placed (cond (not b) (Some t) None)) ≡ last_of None (cond b us (placed t ∷ us))
    at true us = sym (last_or None us)
    at false us = sym (last_or (Some (placed t)) us)

pub last_token_found : (ts : List Token) → option_map placed (find (counts (λ t. is_aside t.kind)) (reverse ts)) ≡ last_token (map placed ts)
last_token_found ts = last_found _ ts ∙ ap (last_of None) (bare_is (map placed ts))

pub last_seen_found : (ts : List Token) → option_map placed (find (counts (λ t. is_line (mark_of t))) (reverse ts)) ≡ last_seen (map placed ts)
last_seen_found ts = last_found _ ts ∙ ap (last_of None) (lines_is (map placed ts))
