-- Many texts in one list of bytes, by their lengths.
use Rattle.std.specs.Prelude.{◌≡◌, ℕ, ◌≤◌, List, [], ◌∷◌, length, take, drop}
use Rattle.std.specs.Str.{IsUtf8}

-- the texts of these lengths
abbrev pub cut : List ℕ → List ℕ → List (List ℕ)
cut [] bytes = []
cut (n ∷ ns) bytes = take n bytes ∷ cut ns (drop n bytes)

-- the bytes are texts of these lengths, and nothing more
abbrev pub AreTexts : List ℕ → List ℕ → Type 0
AreTexts [] bytes = bytes ≡ []
AreTexts (n ∷ ns) bytes = (n ≤ length bytes) × IsUtf8 (take n bytes) × AreTexts ns (drop n bytes)
