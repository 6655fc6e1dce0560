-- What a run answers for a file that it may not have read to its end: the same, whatever stands after what
-- was read (this project's own rule).
-- Begin with `ForEveryFile`.
use Rattle.std.specs.Prelude.{ℕ, List, ◌++◌}
use Rattle.bz_devices.specs.Device.{ends, MayFollow}
use Rattle.std.specs.List.{concat}

-- `Answer` holds of each file that begins with what the reads gave, whatever `rest` follows; if they met the
-- end, nothing does, and it holds of that text alone.
pub record ForEveryFile (pieces : List (List ℕ)) (Answer : List ℕ → Type 0) : Type 0 where
  pub each : (rest : List ℕ) → MayFollow (ends pieces) rest → Answer (concat pieces ++ rest)
