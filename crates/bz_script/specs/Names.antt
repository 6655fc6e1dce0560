-- The paths of a package's BUILD file (buildozer README: `BUILD.bazel` and `BUILD`).
use Rattle.std.specs.Prelude.{◌≡◌, ◌⊎◌, ℕ, if◌then◌else◌, List, [], ◌++◌, None, Some, codes, bytes_eq}
use Rattle.bz_label.specs.Labels.{Package}

-- the path of a file in a package's folder; the root has the empty path
abbrev pub in_folder : List ℕ → List ℕ → List ℕ
in_folder folder name = if bytes_eq folder [] then name else folder ++ codes "/" ++ name

-- a path at which the BUILD file of a package may stand; standard input has none
abbrev pub IsBuildPath : Package → List ℕ → Type 0
IsBuildPath None path = ⊥
IsBuildPath (Some folder) path = (path ≡ in_folder folder (codes "BUILD.bazel")) ⊎ (path ≡ in_folder folder (codes "BUILD"))
