-- The path of the temporary file of a file.
use Rattle.std.specs.Prelude.{ℕ, List, ◌++◌, codes}

-- it stands beside the file, with `.buildozer.tmp` after its name
abbrev pub temporary_path : List ℕ → List ℕ
temporary_path file = file ++ codes ".buildozer.tmp"
