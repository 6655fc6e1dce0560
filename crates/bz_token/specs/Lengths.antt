-- How long the token of a kind is that a text begins with.
use Rattle.std.specs.Prelude.{ℕ, ◌≤◌, List, length, take, drop, if◌then◌else◌}
use Rattle.std.specs.List.{prefix_len}
use Rattle.bz_token.specs.declared.token.Kind.{Kind}
use Rattle.bz_token.specs.Lexical.{is_word_byte, is_text, IsToken}

-- the letters, digits and underscores at the front
abbrev pub front_word : List ℕ → List ℕ
front_word bytes = take (prefix_len is_word_byte bytes) bytes

-- their number, where they are a text of this kind; else 0
abbrev pub word_length : Kind → List ℕ → ℕ
word_length kind bytes = if is_text kind (front_word bytes) then prefix_len is_word_byte bytes else 0

-- So many bytes at the front are a token of this kind.
abbrev pub IsTokenOf : Kind → List ℕ → ℕ → Type 0
IsTokenOf kind bytes n = (n ≤ length bytes) × IsToken kind (take n bytes) (drop n bytes)
