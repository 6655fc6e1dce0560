-- For private clauses: bytes that may change something.
use Rattle.std.specs.Prelude.{ℕ, Bool, not, ◌||◌, ◌==◌}
use Rattle.std.specs.Int.{is_in_range}
use Rattle.bz_token.specs.declared.cutter.marks.Stretch.{Stretch}
use Rattle.bz_token.specs.declared.cutter.marks.Stretch.TheVariants.{Statement, Text}

-- In a statement: a newline; quotes and round brackets, with what is between them; square ones with the backslash; curly ones with the bar.
abbrev pub is_mark : Stretch → ℕ → Bool
is_mark Statement b = b == 10 || is_in_range 34 41 b || is_in_range 91 93 b || is_in_range 123 125 b
is_mark Text b = b == 34 || b == 10 || b == 92

abbrev pub passes : Stretch → ℕ → Bool
passes stretch b = not (is_mark stretch b)
