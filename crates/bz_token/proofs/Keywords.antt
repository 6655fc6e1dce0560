-- Which bytes are no keyword.
use Rattle.std.proofs.Common.{◌≡◌, ℕ, List, ◌==◌, ◌||◌, Bool, true, length, get_or, refl, sym, ap, ◌∙◌, inl, inr}
use Rattle.std.specs.Prelude.{codes, bytes_eq}
use Rattle.std.proofs.lemmas.Bool.{cases_Bool, or_cases, eqb-true, false≢true}
use Rattle.bz_token.specs.Lexical.{keywords, is_keyword}
use Rattle.bz_token.specs.private.Keywords.{keyword_len}
use Rattle.bz_token.proofs.Classes.{one_of, same_bytes}

abbrev fits : List ℕ → Bool
fits bytes = length bytes == keyword_len (get_or bytes 0 0)

lambda_is : is_keyword (codes "lambda") ≡ true
unfolding keywords
lambda_is = refl

all_fit : (bytes : List ℕ) → is_keyword bytes ≡ true → (fits bytes || bytes_eq bytes (codes "lambda")) ≡ true
unfolding keywords
all_fit bytes is = one_of (λ t. fits t || bytes_eq t (codes "lambda")) keywords bytes refl is

-- of another length than the keywords that begin so
pub of_other_length : (bytes : List ℕ) → (length bytes ≡ keyword_len (get_or bytes 0 0) → ⊥) → is_keyword bytes ≡ bytes_eq bytes (codes "lambda")
of_other_length bytes other = elim (cases_Bool (is_keyword bytes)) [
  | inl is ↦ elim (or_cases (fits bytes) (bytes_eq bytes (codes "lambda")) (all_fit bytes is)) [
    | inl fit ↦ absurd (other (eqb-true (length bytes) (keyword_len (get_or bytes 0 0)) fit))
    | inr lambda ↦ is ∙ sym lambda
  ]
  | inr none ↦ elim (cases_Bool (bytes_eq bytes (codes "lambda"))) [
    | inl lambda ↦ absurd (false≢true (sym none ∙ ap is_keyword (same_bytes bytes (codes "lambda") lambda) ∙ lambda_is))
    | inr miss ↦ none ∙ sym miss
  ]
]
