-- A search for the next chunk: what it reads, and why it finds none.
use Rattle.std.specs.Prelude.{◌≡◌, ℕ, ◌+◌, ◌≤◌, ◌⊎◌, false, List, length, OnOk, Result, IsErrOf}
use Rattle.bz_devices.specs.declared.limits.Limits.{Limits}
use Rattle.bz_devices.specs.declared.ahead.ChunkFault.{ChunkFault}
use Rattle.bz_devices.specs.declared.ahead.ChunkFault.TheVariants.{ReadFailed, InputTooLong, StatementTooLong}
use Rattle.bz_devices.specs.Device.{IsCounted}
use Rattle.bz_devices.specs.Ahead.{Ahead, IsReadOn, AreNeeded, IsTooLong, IsFewAfter, IsUndecided}

-- The bytes ahead leave the next chunk open, and the end of the input was not met.
pub record IsOpenAhead (limits : Limits) (ahead : Ahead) : Type 0 where
  pub going : ahead.ended ≡ false
  pub undecided : IsUndecided limits.statement ahead.bytes

-- The source gave these pieces, each of which was needed. Where a read failed or no more may be made, another was needed.
pub record Searches {S T : Type 0} (gave : S → List (List ℕ) → S → Type 0) (failures : S → ℕ) (limits : Limits)
    (source after : S) (old new : Ahead) (result : Result T ChunkFault) : Type 0 where
  pub pieces : List (List ℕ)
  pub given : gave source pieces after
  pub read : IsReadOn limits.reads old new pieces
  pub needed : AreNeeded limits.statement old.bytes pieces
  pub bound : length new.bytes ≤ limits.statement + 8192
  pub few : OnOk result (IsFewAfter new)
  pub too_long : IsErrOf result StatementTooLong → IsTooLong limits.statement new
  pub made : IsErrOf result InputTooLong → new.reads ≡ limits.reads
  pub open_ahead : IsErrOf result InputTooLong ⊎ IsErrOf result ReadFailed → IsOpenAhead limits new
  pub counted : IsCounted (IsErrOf result ReadFailed) (failures source) (failures after)
