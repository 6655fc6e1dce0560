-- What a contract sees of a session, and what its answers say of the file.
use Rattle.std.specs.Prelude.{◌≡◌, ℕ, ◌+◌, ◌*◌, ◌^◌, ◌≤◌, Bool, true, false, ◌||◌, List, [], ◌∷◌, ◌++◌, length, map, Option, None, option_to_list}
use Rattle.std.specs.List.{concat, flat_map}
use Rattle.bz_token.specs.Chunks.{chunks}
use Rattle.bz_tree.specs.Tree.{Statement}
use Rattle.bz_label.specs.Labels.{Package}
use Rattle.bz_engine.specs.declared.options.Options.{Options}
use Rattle.bz_engine.specs.declared.report.End.{End}
use Rattle.bz_engine.specs.declared.report.End.TheVariants.{Whole, Syntax, FirstFailure}
use Rattle.bz_engine.specs.declared.session.SessionState.{SessionState}
use Rattle.bz_engine.specs.declared.session.SessionState.TheVariants.{Going, Ended}
use Rattle.bz_devices.specs.Device.{ends, MayFollow, NoneEnds}
use Rattle.bz_devices.specs.Ahead.{Ahead}
use Rattle.bz_engine.specs.EveryFile.{ForEveryFile}
use Rattle.bz_passes.specs.Exchange.{no_slot, told, some_not_found, Fits}
use Rattle.bz_engine.specs.Progress.{Progress, IsKeptOf}
use Rattle.bz_engine.specs.Language.{meaning}
use Rattle.bz_engine.specs.Messages.{fault_text}
use Rattle.bz_engine.specs.Outcome.{Script, Run, run_with, Told, IsOutcome, text_after}
use Rattle.bz_engine.specs.NeededReads.{AreNeededAfter}
use Rattle.bz_engine.specs.Scripts.{AreCommands}
use Rattle.bz_engine.specs.Stops.{EndsAfter}
use Rattle.bz_passes.specs.Entries.{line_text, message_text}

-- The package, the passes and the options; what is kept of the chunks that are done; the bytes ahead, with the reads made and whether the end
-- was met; whether it goes on, ended or was stopped, and the message of the failure that ended it.
pub record SessionValue : Type 0 where
  pub home : Package
  pub passes : Script
  pub options : Options
  pub progress : Progress
  pub ahead : Ahead
  pub state : SessionState
  pub failure : Option (List ℕ)

abbrev pub at_start : Package → Script → Options → SessionValue
at_start home passes options = record {
  home = home;
  passes = passes;
  options = options;
  progress = record { kept = map no_slot passes; changed = false; failed = false; last = None; line = 1 };
  ahead = record { bytes = []; reads = 0; ended = false };
  state = Going;
  failure = None;
}

abbrev pub run_in : SessionValue → Run
run_in v = run_with v.home v.passes v.options

-- it has the same package, passes and options
pub record IsSameRun (old new : SessionValue) : Type 0 where
  pub home : new.home ≡ old.home
  pub passes : new.passes ≡ old.passes
  pub options : new.options ≡ old.options

-- Reads gave these pieces, and each was needed: the chunks that are done, whatever follows, and the bytes ahead. This text was written: that of the
-- statements of these chunks as the script left them.
pub record HasDone (v : SessionValue) (pieces cs : List (List ℕ)) (text : List ℕ) : Type 0 where
  pub bytes : concat pieces ≡ concat cs ++ v.ahead.bytes
  pub reads : v.ahead.reads ≡ length pieces
  pub ended : v.ahead.ended ≡ ends pieces
  pub none_ends : v.ahead.ended ≡ false → NoneEnds pieces
  pub needed : AreNeededAfter (run_in v) v.options.max_statement [] pieces
  pub few : length v.ahead.bytes ≤ 8192
  pub first : (rest : List ℕ) → MayFollow v.ahead.ended rest → chunks (concat pieces ++ rest) ≡ cs ++ chunks (v.ahead.bytes ++ rest)
  pub statements : List Statement
  pub kept : IsKeptOf (run_in v) cs statements v.progress
  pub text_is : text ≡ text_after v.home v.passes statements
  pub none_fails : v.options.keep_going ≡ false → v.progress.failed ≡ false

-- all that was kept
abbrev pub told_of_progress : Package → Script → Progress → Told
told_of_progress home passes p = record {
  lines = flat_map line_text (told (meaning home) passes p.kept);
  messages = flat_map message_text (told (meaning home) passes p.kept);
  changed = p.changed;
  failed = p.failed || some_not_found (meaning home) passes p.kept;
  end = Whole;
}

-- what a run tells that ended before the end of its file
abbrev pub told_alone : List (List ℕ) → Bool → End → Told
told_alone messages changed end = record { lines = []; messages = messages; changed = changed; failed = true; end = end }

-- what an ended session tells
abbrev pub told_at : SessionValue → End → Told
told_at v Whole = told_of_progress v.home v.passes v.progress
told_at v (Syntax fault) = told_alone (fault_text fault ∷ []) v.progress.changed (Syntax fault)
told_at v FirstFailure = told_alone (option_to_list v.failure) v.progress.changed FirstFailure

-- Reads gave these pieces, these chunks were done and this text was written: with what the session tells at this end it is the outcome for every file
-- that begins with the pieces, where the end was met for that file alone. No chunk was looked at but those and the one that ended the run.
pub record HasEnded (v : SessionValue) (end : End) (pieces cs : List (List ℕ)) (text : List ℕ) : Type 0 where
  pub outcome : ForEveryFile pieces (λ file. IsOutcome (run_in v) file text (told_at v end))
  pub last : EndsAfter (run_in v) v.options.max_statement pieces cs end

-- it can take a chunk
pub record IsReady (v : SessionValue) : Type 0 where
  pub fits : Fits v.progress.kept v.passes
  pub few : length v.ahead.bytes ≤ 8192
  pub lines : v.progress.line + length v.ahead.bytes ≤ 1 + 8192 * v.ahead.reads

-- what a session always keeps to
pub record IsSession (v : SessionValue) : Type 0 where
  pub limit : v.options.max_reads ≤ 2 ^ 50
  pub made : v.ahead.reads ≤ v.options.max_reads
  pub ready : v.state ≡ Going → IsReady v
  pub fits : (end : End) → v.state ≡ Ended end → Fits v.progress.kept v.passes
  pub commands : AreCommands v.passes
