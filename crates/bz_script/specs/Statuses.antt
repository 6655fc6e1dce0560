-- The exit status of a run over several packages, from those of the packages (buildozer README, "Error codes").
use Rattle.std.specs.Prelude.{ℕ, ◌==◌, Bool, List, if◌then◌else◌}
use Rattle.std.specs.List.{list_any}

-- whether a package has the status
abbrev pub some_is : ℕ → List ℕ → Bool
some_is status statuses = list_any (λ other. other == status) statuses

-- 2 where a package failed, else 0 where one changed, else 3
abbrev pub whole_status : List ℕ → ℕ
whole_status statuses = if some_is 2 statuses then 2 else (if some_is 0 statuses then 0 else 3)
