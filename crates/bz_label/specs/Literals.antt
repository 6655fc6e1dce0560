-- String literals of which each byte stands for itself, and the values of tokens: for calls that read literals,
-- which `run` does not reach.
-- Begin with `IsPlain` and `token_value`.
use Rattle.std.specs.Prelude.{ℕ, ◌≡◌, ◌⊎◌, not, ◌==◌, List, ◌∷◌, [], ◌++◌, Bool, true, ◌&&◌, Option, None}
use Rattle.std.specs.List.{list_all}
use Rattle.bz_token.specs.declared.token.Kind.{Kind}
use Rattle.bz_token.specs.declared.token.Kind.TheVariants.{String}
use Rattle.bz_token.specs.declared.token.Token.{Token}
use Rattle.bz_token.specs.Strings.{is_quote}
use Rattle.bz_label.specs.Values.{value_of}

-- a byte that stands for itself in a string of one quote
abbrev pub is_plain : ℕ → ℕ → Bool
is_plain quote b = not (quote == b) && (not (b == 92) && (not (b == 13) && not (b == 10)))

-- a value between one quote and another, each byte of which stands for itself
abbrev pub IsQuoted : List ℕ → List ℕ → Type 0
IsQuoted literal value =
    (quote : ℕ) × (is_quote quote ≡ true) × (list_all (is_plain quote) value ≡ true)
    × (literal ≡ quote ∷ (value ++ quote ∷ []))

-- such a literal, or one after the prefix `r`
abbrev pub IsPlain : List ℕ → List ℕ → Type 0
IsPlain text value = IsQuoted text value ⊎ ((literal : List ℕ) × (text ≡ 114 ∷ literal) × IsQuoted literal value)

-- the value of a token: only a string has one
abbrev pub value_at : Kind → List ℕ → Option (List ℕ)
value_at String text = value_of text
value_at _ text = None

abbrev pub token_value : Token → Option (List ℕ)
token_value t = value_at t.kind t.text.now
