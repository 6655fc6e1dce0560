-- The written form of a token (this project's own rule): a plain string in single quotes gets double quotes,
-- anything else stands as it is.
-- Begin with `respell`.
use Rattle.std.specs.Prelude.{ℕ, ◌-◌, List, [], ◌∷◌, ◌++◌, Bool, not, ◌&&◌, ◌==◌, if◌then◌else◌, length, take, drop}
use Rattle.std.specs.List.{list_all}
use Rattle.std.specs.Str.{bytes_eq}
use Rattle.bz_token.specs.declared.token.Kind.{Kind}
use Rattle.bz_token.specs.declared.token.Kind.TheVariants.{String}

-- neither a quote (34 and 39) nor a backslash (92)
abbrev pub is_plain : ℕ → Bool
is_plain b = not (b == 34) && not (b == 39) && not (b == 92)

-- what stands between the first and the last byte
abbrev pub content : List ℕ → List ℕ
content text = drop 1 (take (length text - 1) text)

-- a string without prefix in single quotes, with plain content (no long string is one: its content begins
-- with quotes)
abbrev pub is_single : List ℕ → Bool
is_single text = bytes_eq text (39 ∷ (content text ++ 39 ∷ [])) && list_all is_plain (content text)

-- the text of a token as it is written
abbrev pub respell : Kind → List ℕ → List ℕ
respell String text = if is_single text then 34 ∷ (content text ++ 34 ∷ []) else text
respell _ text = text
