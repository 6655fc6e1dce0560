-- Tokens at the front of a text, by their lengths.
use Rattle.std.proofs.Common.{arith, ◌≡◌, ◌<◌, ◌∙◌, ℕ, zero, suc, List, [], ◌∷◌, ◌++◌, Bool, true, false, take, drop, refl, sym, ap, subst, take-append-drop}
use Rattle.std.specs.Prelude.{if◌then◌else◌}
use Rattle.std.specs.List.{prefix_len}
use Rattle.bz_token.specs.declared.token.Kind.{Kind}
use Rattle.bz_token.specs.declared.token.Kind.TheVariants.{String}
use Rattle.bz_token.specs.Lexical.{is_word_byte, is_text}
use Rattle.bz_token.specs.Lengths.{front_word, word_length}
use Rattle.bz_layout.specs.Respell.{respell}
use Rattle.bz_canonical.specs.private.Fronts.{IsQuotedFront, IsTokenFront}

pub token_front : (kind : Kind) (text rest : List ℕ) (n : ℕ) → is_text kind (take n text) ≡ true → respell kind (take n text) ≡ take n text → rest ≡ drop n text → IsTokenFront kind text rest
token_front kind text rest n is stays back = record {
  token = take n text;
  is = is;
  stays = stays;
  front = sym (take-append-drop n text) ∙ ap (λ (xs : List ℕ). take n text ++ xs) (sym back);
}

-- the letters, digits and underscores at the front
word_text : (kind : Kind) (text : List ℕ) (n : ℕ) → 0 < n → n ≡ word_length kind text → is_text kind (take n text) ≡ true
word_text kind text n some len = by (is_text kind (front_word text)) refl len
  where
    by : (t : Bool) → is_text kind (front_word text) ≡ t → n ≡ (if t then prefix_len is_word_byte text else 0) → is_text kind (take n text) ≡ true
    by true e is = ap (λ k. is_text kind (take k text)) is ∙ e
    by false e is = absurd (omega (arith, some, is))

pub word_front : (kind : Kind) (text rest : List ℕ) (n : ℕ) → 0 < n → n ≡ word_length kind text → respell kind (take n text) ≡ take n text → rest ≡ drop n text → IsTokenFront kind text rest
word_front kind text rest n some len stays back = token_front kind text rest n (word_text kind text n some len) stays back

-- a string in double quotes is written as it is
pub quoted_stays : (text inside : List ℕ) (n : ℕ) → 0 < n → text ≡ 34 ∷ inside → respell String (take n text) ≡ take n text
quoted_stays text inside zero some starts = absurd (omega (arith, some))
quoted_stays text inside (suc n) some starts = subst (λ t. respell String (take (suc n) t) ≡ take (suc n) t) (sym starts) refl

-- a string in double quotes whose value stands as it is
pub quoted_token : (text inner rest : List ℕ) → IsQuotedFront text inner rest → IsTokenFront String text rest
quoted_token text inner rest q = record { token = 34 ∷ (inner ++ 34 ∷ []); is = q.is; stays = refl; front = q.front }
