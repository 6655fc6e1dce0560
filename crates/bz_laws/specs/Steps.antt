-- What any number of steps of a session does.
use Rattle.std.specs.Prelude.{◌≡◌, ◌≢◌, ℕ, ◌<◌, List, [], ◌++◌, length}
use Rattle.bz_engine.specs.NeededReads.{AreReads}
use Rattle.bz_engine.specs.SessionSteps.{IsLeftByFault}
use Rattle.bz_engine.specs.SessionValue.{SessionValue, IsSameRun, HasDone, HasEnded, run_in}
use Rattle.bz_engine.specs.Stops.{IsStopped}
use Rattle.bz_engine.specs.declared.report.End.{End}
use Rattle.bz_engine.specs.declared.run_fault.RunFault.{RunFault}
use Rattle.bz_engine.specs.declared.run_fault.RunFault.TheVariants.{WriteFailed}

-- Steps took so many chunks after those that were done, and wrote their text.
pub record HasManyMore (count : ℕ) (Gave : List (List ℕ) → Type 0) (Took : List ℕ → Type 0) (v : SessionValue) (pieces cs : List (List ℕ)) (text : List ℕ) : Type 0 where
  pub read : List (List ℕ)
  pub chunks : List (List ℕ)
  pub shown : List ℕ
  pub gave : Gave read
  pub took : Took shown
  pub as_many : length chunks ≡ count
  pub done : HasDone v (pieces ++ read) (cs ++ chunks) (text ++ shown)

-- Fewer steps than these took a chunk each, and the next came to this end of the run: what was written is its text, and what the
-- session tells then is its outcome. Each read was needed.
pub record HasComeTo (count : ℕ) (end : End) (Gave : List (List ℕ) → Type 0) (Took : List ℕ → Type 0) (v : SessionValue) (pieces cs : List (List ℕ)) (text : List ℕ) : Type 0 where
  pub read : List (List ℕ)
  pub chunks : List (List ℕ)
  pub shown : List ℕ
  pub gave : Gave read
  pub took : Took shown
  pub fewer : length chunks < count
  pub reads : AreReads v.home v.passes v.options (pieces ++ read)
  pub ended : HasEnded v end (pieces ++ read) (cs ++ chunks) (text ++ shown)

-- Fewer steps than these took a chunk each, and the next answered this fault: what was written is the text of the chunks that are
-- done and, where a write failed, a front of what the next one adds. Each read was needed.
pub record HasMetFault (count : ℕ) (fault : RunFault) (Gave : List (List ℕ) → Type 0) (Took : List ℕ → Type 0) (v : SessionValue) (pieces cs : List (List ℕ)) (text : List ℕ) : Type 0 where
  pub read : List (List ℕ)
  pub chunks : List (List ℕ)
  pub shown : List ℕ
  -- The session before the last step has done these chunks, and no others.
  pub before : SessionValue
  pub same : IsSameRun before v
  pub fewer : length chunks < count
  pub done : HasDone before (pieces ++ read) (cs ++ chunks) (text ++ shown)
  -- What the last step read and wrote, and what its fault leaves.
  pub last : List (List ℕ)
  pub cut : List ℕ
  pub left : IsLeftByFault before v last cut fault
  pub unwritten : fault ≢ WriteFailed → cut ≡ []
  pub gave : Gave (read ++ last)
  pub took : Took (shown ++ cut)
  -- So it is of a run that ends there.
  pub reads : AreReads v.home v.passes v.options (pieces ++ (read ++ last))
  pub stopped : IsStopped (run_in v) v.options (pieces ++ (read ++ last)) (text ++ (shown ++ cut)) fault
