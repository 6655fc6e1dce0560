-- What a step of a session does to the file's run, and what its faults tell.
use Rattle.std.specs.Prelude.{◌≡◌, ◌≢◌, ◌⊎◌, ℕ, ◌+◌, ◌*◌, ◌<◌, ◌≤◌, List, [], ◌∷◌, ◌++◌, length, Result, Ok, Err}
use Rattle.bz_devices.specs.Device.{IsCounted}
use Rattle.bz_devices.specs.Ahead.{IsReadOn, AreNeeded, IsTooLong}
use Rattle.bz_engine.specs.declared.report.End.{End}
use Rattle.bz_engine.specs.declared.run_fault.RunFault.{RunFault}
use Rattle.bz_engine.specs.declared.run_fault.RunFault.TheVariants.{ReadFailed, WriteFailed}
use Rattle.bz_engine.specs.declared.session.SessionState.TheVariants as state
use Rattle.bz_engine.specs.declared.session.Step.{Step}
use Rattle.bz_engine.specs.declared.session.Step.TheVariants as step
use Rattle.bz_engine.specs.Outcome.{IsFrontOf}
use Rattle.bz_engine.specs.NeededReads.{AreReads}
use Rattle.bz_engine.specs.Stops.{Tells}
use Rattle.bz_engine.specs.SessionValue.{SessionValue, HasDone, HasEnded}
use Rattle.std.specs.List.{concat}

-- A source in a step: that it gave these pieces, and how many reads had failed before and after.
pub record Reader : Type 1 where
  pub Gave : List (List ℕ) → Type 0
  pub failed : ℕ
  pub failed_after : ℕ

-- A sink in a step: that it took these bytes, that it stayed as it was, and how many writes had failed before and after.
pub record Writer : Type 1 where
  pub Took : List ℕ → Type 0
  pub Stays : Type 0
  pub failed : ℕ
  pub failed_after : ℕ

abbrev pub reader : {S : Type 0} → (S → List (List ℕ) → S → Type 0) → (S → ℕ) → S → S → Reader
reader gave failures source after =
    record { Gave = λ pieces. gave source pieces after; failed = failures source; failed_after = failures after }

abbrev pub writer : {W : Type 0} → (W → List ℕ → W → Type 0) → (W → ℕ) → W → W → Writer
writer took failures sink after =
    record { Took = λ text. took sink text after; Stays = after ≡ sink; failed = failures sink; failed_after = failures after }

-- One chunk was taken, which may have so many bytes. It is done, whatever was done before.
pub record AddsOne (old new : SessionValue) (read : List (List ℕ)) (shown : List ℕ) : Type 0 where
  pub going : new.state ≡ state.Going
  pub chunk : List ℕ
  pub some : 0 < length chunk
  pub size : length chunk ≤ new.options.max_statement
  pub done : (pieces cs : List (List ℕ)) (text : List ℕ) → HasDone old pieces cs text
      → HasDone new (pieces ++ read) (cs ++ chunk ∷ []) (text ++ shown)

-- The run came to this end: what was read stands ahead, and the next chunk is not too long. What the session tells is the outcome.
pub record EndsRun (old new : SessionValue) (read : List (List ℕ)) : Type 0 where
  pub end : End
  pub ended : new.state ≡ state.Ended end
  pub read_ahead : IsReadOn old.options.max_reads old.ahead new.ahead read
  pub fits : IsTooLong new.options.max_statement new.ahead → ⊥
  pub outcome : (pieces cs : List (List ℕ)) (text : List ℕ) → HasDone old pieces cs text
      → AreReads new.home new.passes new.options (pieces ++ read) × HasEnded new end (pieces ++ read) cs text

-- The next chunk, the first of the bytes ahead, is done but not taken: this text is what it adds.
pub record IsNextText (v : SessionValue) (pieces cs : List (List ℕ)) (text next : List ℕ) : Type 0 where
  pub chunk : List ℕ
  pub left : List ℕ
  pub ahead_is : v.ahead.bytes ≡ chunk ++ left
  pub done : HasDone (record v { ahead = record v.ahead { bytes = left } }) pieces (cs ++ chunk ∷ []) (text ++ next)

-- nothing, or a front of what the next chunk adds
abbrev pub IsCutShort : SessionValue → List (List ℕ) → List (List ℕ) → List ℕ → List ℕ → Type 0
IsCutShort v pieces cs text shown = (shown ≡ []) ⊎ ((next : List ℕ) × IsNextText v pieces cs text next × IsFrontOf shown next)

-- What a fault leaves: what was read stands ahead, and what was written is a front of what the next chunk adds.
pub record IsLeftByFault (old new : SessionValue) (read : List (List ℕ)) (shown : List ℕ) (fault : RunFault) : Type 0 where
  pub stopped : new.state ≡ state.Stopped
  pub read_ahead : IsReadOn old.options.max_reads old.ahead new.ahead read
  pub front : (pieces cs : List (List ℕ)) (text : List ℕ) → HasDone old pieces cs text → IsCutShort new (pieces ++ read) cs text shown
  pub tells : Tells old.options old.progress.line new.ahead fault

-- What was done, by the answer, where this was read and written.
abbrev pub Did : SessionValue → SessionValue → List (List ℕ) → List ℕ → Result Step RunFault → Type 0
Did old new read shown (Ok step.More) = AddsOne old new read shown
Did old new read shown (Ok step.End) = EndsRun old new read
Did old new read shown (Err fault) = IsLeftByFault old new read shown fault

-- What a step of a session that goes on reads, writes and does.
pub record Steps (source : Reader) (sink : Writer) (old new : SessionValue) (result : Result Step RunFault) : Type 0 where
  pub read : List (List ℕ)
  pub shown : List ℕ
  pub gave : source.Gave read
  pub took : sink.Took shown
  pub did : Did old new read shown result
  -- Each read was needed. What stood ahead, and what was read then, is at most the longest chunk and one piece more.
  pub needed : AreNeeded old.options.max_statement old.ahead.bytes read
  pub few : length (concat read) ≤ 8192 * length read
  pub bound : length (old.ahead.bytes ++ concat read) ≤ old.options.max_statement + 8192
  -- Only a chunk that is done, or whose write failed, was written.
  pub unwritten : result ≢ Ok step.More → result ≢ Err WriteFailed → (shown ≡ []) × sink.Stays
  pub reads_counted : IsCounted (result ≡ Err ReadFailed) source.failed source.failed_after
  pub writes_counted : IsCounted (result ≡ Err WriteFailed) sink.failed sink.failed_after
