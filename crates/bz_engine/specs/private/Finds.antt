-- What a search for the next chunk answers in a run, for private clauses.
use Rattle.std.specs.Prelude.{◌≡◌, ◌≢◌, ℕ, ◌+◌, ◌≤◌, List, ◌++◌, length, Result, Err}
use Rattle.std.specs.List.{concat}
use Rattle.bz_devices.specs.Ahead.{Ahead, IsReadOn, AreNeeded, IsTooLong}
use Rattle.bz_devices.specs.Device.{Rises}
use Rattle.bz_engine.specs.SessionValue.{SessionValue}
use Rattle.bz_engine.specs.Stops.{NeedsRead}
use Rattle.bz_engine.specs.declared.options.Options.{Options}
use Rattle.bz_engine.specs.declared.run_fault.RunFault.{RunFault}
use Rattle.bz_engine.specs.declared.run_fault.RunFault.TheVariants.{ReadFailed, WriteFailed, InputTooLong, StatementTooLong, Stopped}

-- Each of these reads was needed. With what stood ahead they gave at most the longest chunk and one piece more.
pub record AreFew (max_statement : ℕ) (bytes : List ℕ) (pieces : List (List ℕ)) : Type 0 where
  pub needed : AreNeeded max_statement bytes pieces
  pub few : length (bytes ++ concat pieces) ≤ max_statement + 8192

-- What was read stands ahead, and each read was needed. A fault tells why there is no next chunk, which begins on this line.
pub record Finds {S T : Type 0} (gave : S → List (List ℕ) → S → Type 0) (failures : S → ℕ) (options : Options) (line : ℕ)
    (source source_after : S) (old new : Ahead) (result : Result T RunFault) : Type 0 where
  pub read : (pieces : List (List ℕ)) × gave source pieces source_after × IsReadOn options.max_reads old new pieces
      × AreFew options.max_statement old.bytes pieces
  pub bound : length new.bytes ≤ options.max_statement + 8192
  pub too_long : result ≡ Err InputTooLong → (new.reads ≡ options.max_reads) × NeedsRead options.max_statement new
  pub statement_too_long : (at : ℕ) → result ≡ Err (StatementTooLong at) → (at ≡ line) × IsTooLong options.max_statement new
  pub unread : result ≡ Err ReadFailed → NeedsRead options.max_statement new
  pub failed : result ≡ Err ReadFailed → Rises (failures source) (failures source_after)
  pub steady : result ≢ Err ReadFailed → failures source_after ≡ failures source
  pub runs : (result ≢ Err Stopped) × (result ≢ Err WriteFailed)

-- what a session found of the next chunk, and read for it
abbrev pub FindsNext : {S T : Type 0} → (S → List (List ℕ) → S → Type 0) → (S → ℕ) → S → S → SessionValue → SessionValue → Result T RunFault → Type 0
FindsNext gave failures source after old new result = Finds gave failures old.options old.progress.line source after old.ahead new.ahead result
