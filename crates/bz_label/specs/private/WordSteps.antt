-- For private clauses alone: the words of a command, part by part.
use Rattle.std.specs.Prelude.{ℕ, List, [], ◌∷◌, if◌then◌else◌}
use Rattle.bz_label.specs.Words.{is_word}

-- a word that is kept where it is not empty
abbrev pub kept : List ℕ → List (List ℕ)
kept word = if is_word word then word ∷ [] else []
