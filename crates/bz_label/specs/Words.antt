-- The words of a command (this project's own rule): a text is split at runs of spaces, and a space after a backslash is one of the word.
use Rattle.std.specs.Prelude.{ℕ, nat_eq, ◌-◌, ◌==◌, List, [], ◌∷◌, ◌++◌, Bool, not, if◌then◌else◌, filter, length, take, codes, bytes_eq}
use Rattle.std.specs.List.{ends_with, slice_split}

abbrev pub is_space : ℕ → Bool
is_space b = b == 32

-- the space after it does not split
abbrev pub goes_on : List ℕ → Bool
goes_on part = ends_with nat_eq part (codes "\\")

-- without the backslash at its end, and with the space
abbrev pub with_space : List ℕ → List ℕ
with_space part = take (length part - 1) part ++ 32 ∷ []

abbrev pub onto_word : List ℕ → List (List ℕ) → List (List ℕ)
onto_word front [] = front ∷ []
onto_word front (word ∷ words) = (front ++ word) ∷ words

-- the parts between spaces, joined where a space does not split
abbrev pub mended : List (List ℕ) → List (List ℕ)
mended [] = []
mended (part ∷ []) = part ∷ []
mended (part ∷ next ∷ more) = if goes_on part then onto_word (with_space part) (mended (next ∷ more)) else part ∷ mended (next ∷ more)

abbrev pub is_word : List ℕ → Bool
is_word word = not (bytes_eq word [])

abbrev pub words_of : List ℕ → List (List ℕ)
words_of text = filter is_word (mended (slice_split is_space text))
