-- For private clauses alone: the end of a text.
use Rattle.std.specs.Prelude.{ℕ, ◌-◌, List, [], ◌∷◌, Bool, length, get_or, false}
use Rattle.bz_rule.specs.Comment.{is_blank}

-- the last byte is a space or a tab
abbrev pub ends_blank : List ℕ → Bool
ends_blank [] = false
ends_blank (b ∷ bs) = is_blank (get_or (b ∷ bs) (length (b ∷ bs) - 1) 0)
