-- The end of a text after its last colon or slash: texts that are the same label have one end (this project's own notion).
use Rattle.std.specs.Prelude.{ℕ, ◌==◌, nat_eq, List, [], ◌∷◌, ◌++◌, Bool, ◌||◌, if◌then◌else◌, bytes_eq}
use Rattle.std.specs.List.{list_any, starts_with}
use Rattle.bz_label.specs.Labels.{is_colon, is_slash}

abbrev pub is_mark : ℕ → Bool
is_mark b = is_colon b || is_slash b

abbrev pub ending : List ℕ → List ℕ
ending [] = []
ending (b ∷ bs) = if list_any is_mark bs then ending bs else (if is_mark b then bs else b ∷ bs)

-- a part stands somewhere in a text
abbrev pub is_in : List ℕ → List ℕ → Bool
is_in part [] = bytes_eq part []
is_in part (b ∷ bs) = starts_with nat_eq (b ∷ bs) part || is_in part bs

-- a byte of a literal that may not stand for itself in its value: a backslash, a carriage return
abbrev pub is_odd : ℕ → Bool
is_odd b = b == 92 || b == 13

-- such a byte, or one that may open a literal in single quotes
abbrev pub is_unsure : ℕ → Bool
is_unsure b = is_odd b || b == 39

-- What a literal in double quotes ends with whose value is the same label as this, if each byte of it stands for itself.
abbrev pub literal_end : List ℕ → List ℕ
literal_end value = ending value ++ 34 ∷ []
