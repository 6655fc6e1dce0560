-- A string at the front of a text, and how it is written, for private clauses.
use Rattle.std.specs.Prelude.{◌≡◌, ◌==◌, ◌&&◌, not, ℕ, List, [], ◌∷◌, ◌++◌, Bool, true, false, if◌then◌else◌}
use Rattle.bz_token.specs.Lexical.{is_text}
use Rattle.bz_token.specs.declared.token.Kind.TheVariants.{String}
use Rattle.bz_layout.specs.Respell.{is_plain, respell}
use Rattle.bz_canonical.specs.declared.lists.ReadString.{ReadString}

-- a byte that stands for itself in a string, in double quotes too
abbrev pub is_plain_inside : ℕ → Bool
is_plain_inside b = is_plain b && not (b == 10)

-- a string in single quotes that double quotes would leave as it is
pub record IsSingleFront (text inner rest : List ℕ) : Type 0 where
  pub front : text ≡ (39 ∷ (inner ++ 39 ∷ [])) ++ rest
  pub is : is_text String (39 ∷ (inner ++ 39 ∷ [])) ≡ true
  pub spells : respell String (39 ∷ (inner ++ 39 ∷ [])) ≡ 34 ∷ (inner ++ 34 ∷ [])

-- a string in double quotes, where it stands in single quotes
abbrev pub spelling : ReadString → List ℕ
spelling read = if read.single then 34 ∷ (read.body.now ++ 34 ∷ []) else read.body.now

-- a string, and what is written of it
pub record IsStringRead (text : List ℕ) (read : ReadString) : Type 0 where
  pub is : is_text String read.token.now ≡ true
  pub front : text ≡ read.token.now ++ read.rest.now
  pub spells : spelling read ≡ respell String read.token.now
  pub same : read.single ≡ false → spelling read ≡ read.token.now
