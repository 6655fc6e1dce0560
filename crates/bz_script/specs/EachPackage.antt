-- A script package by package (this project's own rule).
-- Begin with `packages_of` and `steps_for`.
use Rattle.std.specs.Prelude.{List, map, filter}
use Rattle.bz_label.specs.Labels.{Package}
use Rattle.bz_script.specs.Packages.{first_mentions, same_package}

-- the packages in the order of first mention
abbrev pub packages_of : {T : Type 0} → List (Package × T) → List Package
packages_of script = first_mentions same_package (map (λ step. step.0) script)

-- what a script asks of one package, in its order
abbrev pub steps_for : {T : Type 0} → Package → List (Package × T) → List (Package × T)
steps_for home script = filter (λ step. same_package home step.0) script
