-- A word that asks for nothing, and where it stands: its line, 0 for the command line, and its number there.
use Rattle.std.specs.Prelude.{ℕ, List}
use Rattle.bz_script.specs.declared.usage.Refused.{Refused}

abbrev pub refused : ℕ → ℕ → List ℕ → Refused
refused line number word = record { line = line; number = number; word = word }
