-- A file that is edited holds what it held, or the whole text of a run that is kept.
use Rattle.std.proofs.Common.{◌≡◌, ◌≢◌, ℕ, Bool, true, false, not, ◌||◌, ◌&&◌, if◌then◌else◌, List, [], ◌∷◌, ◌++◌, Option, None, Some, IfSome, Result, Ok, Err, IfOk, IfErr, OnErr, sym, ◌∙◌, ap, subst, refl, Contains, ⊎_elim, ◌⊎◌, inl, inr, string_bytes}
use Rattle.std.specs.Prelude.{⊤}
use Rattle.std.proofs.lemmas.Bool.{false≢true}
use Rattle.std.proofs.Math.Decide.{ℕ_discrete}
use mathlib.Core.List.{List-discrete}
use Rattle.bz_devices.specs.declared.device.Failed.{Failed as FailedCall}
use Rattle.bz_folder.specs.Files.{Content, Files, Event}
use Rattle.bz_folder.specs.Moments.{along_append, along_weaker}
use Rattle.bz_folder.specs.Replace.{IsSafe, IsEnd, ReplacesSafely, Replacement}
use Rattle.bz_folder.specs.declared.folder.Opened.{Opened}
use Rattle.bz_folder.specs.Sequence.{SafeRun, Wanted, AmongWanted, EachMay}
use Rattle.bz_folder.specs.SequenceLaws.{run_nothing, run_one}
use Rattle.bz_folder.specs.declared.trouble.Trouble.{Trouble}
use Rattle.bz_folder.specs.declared.trouble.Trouble.TheVariants.{OutOfMemory as NoMemoryFor, Clean, LeftBehind}
use Rattle.bz_engine.specs.declared.run_fault.RunFault.{RunFault}
use Rattle.bz_engine.specs.declared.run_fault.RunFault.TheVariants.{OutOfMemory, ReadFailed, WriteFailed, InputTooLong, StatementTooLong, Stopped}
use Rattle.bz_program.specs.declared.edit_file.FileFault.{FileFault}
use Rattle.bz_program.specs.declared.edit_file.FileFault.TheVariants.{Run, CannotWrite}
use Rattle.bz_engine.specs.declared.report.Report.{Report}
use Rattle.bz_label.specs.Labels.{Package}
use Rattle.bz_program.specs.declared.file_run.Ended.{Ended}
use Rattle.bz_program.specs.declared.file_run.Ended.TheVariants.{Told, Failed as EndedByFault, NotYet}
use Rattle.bz_program.specs.Runs.{Job, IsRun, IsKeptText, is_kept, is_whole, IsFaultOver}
use Rattle.bz_program.specs.FileRuns.{GaveText, GaveAnswer}
use Rattle.bz_program.specs.Files.{IsFileOf, MayBe, MayHold, MayHoldNothing, IsEdited, Holds, AreLeft, Leaves, IsPlaced, file_fault, IsFileFault, IsOfFolder}
use Rattle.bz_program.specs.Handled.{AreFilesOf, IsFirst, IsTried, IsOpened, LeavesFiles}
use Rattle.bz_engine.specs.Outcome.{status_of}
use Rattle.bz_script.specs.Groups.{Step}
use Rattle.bz_script.specs.Names.{IsBuildPath}
use Rattle.bz_script.specs.Packages.{by_package}
use Rattle.bz_program.specs.Program.{MayHold as MayHoldAny, Task, job_of}
use Rattle.bz_program.specs.declared.file_run.FileRun.{FileRun}

abbrev or_else : {A : Type 0} → Option A → A → A
or_else (Some x) y = x
or_else None y = y

abbrev report_in : Ended → Report → Report
report_in (Told r) s = r
report_in (EndedByFault e) s = s
report_in NotYet s = s

-- a file that was not replaced is as it was
old_at_end : (file : List ℕ) (wanted : Option Content) (result : Result Bool Trouble) → result ≢ Ok true → (start now : Files) → IsEnd file wanted result start now → now file ≡ start file
old_at_end file wanted (Ok true) other start now h = absurd (other refl)
old_at_end file wanted (Ok false) other start now h = h.0
old_at_end file wanted (Err Clean) other start now h = h.0
old_at_end file wanted (Err (NoMemoryFor _)) other start now h = h.0
old_at_end file wanted (Err LeftBehind) other start now h = h

all_old : (file : List ℕ) (wanted : Option Content) (start now : Files) → IsSafe file wanted start now → now file ≡ start file → AreLeft ((file, None) ∷ []) start now
all_old file wanted start now s same path other = at_path (List-discrete ℕ_discrete path file)
  where
    at_path : Dec (path ≡ file) → now path ≡ start path
    at_path (yes e) = subst (λ p. now p ≡ start p) (sym e) same
    at_path (no n) = s.others path n (λ e. other (inl e))

module _ {D A : Type 0} (did : D → List Event → D → Type 0) (gives : A → List ℕ → Result Bool FailedCall → A → Type 0) (a b : D) (before after : A) (file : List ℕ) (mode : ℕ) where
  leaves_old : (result : Result Bool Trouble) → Replacement did gives a b before after file mode result → result ≢ Ok true → Leaves did ((file, None) ∷ []) a b
  leaves_old result r other = record {
    events = r.events;
    made = r.made;
    left = λ start. along_weaker (IsSafe file r.wanted start) (λ now. ⊤) (IsEnd file r.wanted result start) (AreLeft ((file, None) ∷ []) start) (λ now s. tt)
        (λ now s end. all_old file r.wanted start now s (old_at_end file r.wanted result other start now end)) r.events start (r.safe start);
  }

  abbrev LeavesGiven : Type 0
  LeavesGiven = (text : List ℕ) × gives before text (Ok true) after × Leaves did ((file, Some (text, mode)) ∷ []) a b

  leaves_wanted : (wanted : Option Content) (events : List Event) → did a events b → IfSome wanted (λ content. gives before content.0 (Ok true) after × (content.1 ≡ mode))
      → ReplacesSafely file wanted (Ok true) events → (text : List ℕ) × gives before text (Ok true) after → LeavesGiven
  leaves_wanted None events made kept safe given = (
    given.0,
    given.1,
    record {
      events = events;
      made = made;
      left = λ start. along_weaker (IsSafe file None start) (λ now. ⊤) (IsEnd file None (Ok true) start) (AreLeft ((file, Some (given.0, mode)) ∷ []) start) (λ now s. tt)
          (λ now s end. absurd (false≢true end.0)) events start (safe start);
    },
  )
  leaves_wanted (Some content) events made kept safe given = (
    content.0,
    kept.0,
    record {
      events = events;
      made = made;
      left = λ start. along_weaker (IsSafe file (Some content) start) (λ now. ⊤) (IsEnd file (Some content) (Ok true) start) (AreLeft ((file, Some (content.0, mode)) ∷ []) start) (λ now s. tt)
          (λ now s end path other. ((λ e. subst (λ p. now p ≡ Some (content.0, mode)) (sym e) (end.1 ∙ ap (λ bits. Some (content.0, bits)) kept.1)), (λ n. s.others path n (λ e. other (inl e))))) events start (safe start);
    },
  )

  leaves_new : (result : Result Bool Trouble) → Replacement did gives a b before after file mode result → result ≡ Ok true
      → (text : List ℕ) × gives before text (Ok true) after → LeavesGiven
  leaves_new result r is given = leaves_wanted r.wanted r.events r.made r.kept (subst (λ answer. ReplacesSafely file r.wanted answer r.events) is r.safe) given

abbrev fault_in : Ended → RunFault → RunFault
fault_in (EndedByFault f) g = f
fault_in (Told r) g = g
fault_in NotYet g = g

not_ended : (fault : RunFault) → NotYet ≡ EndedByFault fault → ⊥
not_ended fault same = cc

not_told : (report : Report) (fault : RunFault) → Told report ≡ EndedByFault fault → ⊥
not_told report fault same = cc

no_job : (job : Job) → (let none : Option Job = None in none ≡ Some job) → ⊥
no_job job same = cc

pub true_fault : {S : Type 0} (gave : S → List (List ℕ) → S → Type 0) (failures : S → ℕ) (source : S) (fault : RunFault) (source_after : S) → IsFaultOver gave failures source fault source_after
    → IsFileFault gave failures source (file_fault fault)
true_fault gave failures source (OutOfMemory why) after h = (after, h)
true_fault gave failures source ReadFailed after h = (after, h)
true_fault gave failures source WriteFailed after h = tt
true_fault gave failures source InputTooLong after h = (after, h)
true_fault gave failures source (StatementTooLong line) after h = (after, h)
true_fault gave failures source Stopped after h = (after, h)

pub if_err : {T E : Type 0} {P Q : E → Type 0} → ((e : E) → P e → Q e) → (r : Result T E) → IfErr r P → IfErr r Q
if_err f (Ok x) h = tt
if_err f (Err e) h = f e h

-- what is not the run's fault is true
pub of_folder : {S : Type 0} (gave : S → List (List ℕ) → S → Type 0) (failures : S → ℕ) (source : S) (fault : FileFault) → IsOfFolder fault → IsFileFault gave failures source fault
of_folder gave failures source CannotWrite h = tt
of_folder gave failures source (Run (OutOfMemory why)) h = (source, tt)
of_folder gave failures source (Run ReadFailed) h = absurd h
of_folder gave failures source (Run WriteFailed) h = absurd h
of_folder gave failures source (Run InputTooLong) h = absurd h
of_folder gave failures source (Run (StatementTooLong line)) h = absurd h
of_folder gave failures source (Run Stopped) h = absurd h

module _ {S : Type 0} (gave : S → List (List ℕ) → S → Type 0) (failures : S → ℕ) (before after : FileRun S) (job : Job) (is : before.job ≡ Some job) where
  -- the job is what the run did
  same_job : (text : List ℕ) (kept : Bool) (g : GaveText gave before.job before.source text kept after.source after.ended) → g.was ≡ job
  same_job text kept g = ap (λ o. or_else o g.was) (sym g.job_is ∙ is)

  kept_text : (text : List ℕ) → GaveText gave before.job before.source text true after.source after.ended → IsKeptText gave before.source job text
  kept_text text g = record {
    read = g.read;
    source_after = after.source;
    gave_is = g.gave_is;
    report = g.report;
    outcome = subst (λ a. IsRun a g.read text g.report) (same_job text true g) g.outcome;
    kept = subst (λ a. is_kept a.keep_going g.report ≡ true) (same_job text true g) (sym g.kept_is);
  }

  pub safe_edit : (source : S) → before.source ≡ source → {D : Type 0} (did : D → List Event → D → Type 0) (a b : D) (file : List ℕ) (mode : ℕ) (result : Result Bool Trouble)
      → Replacement did (λ old text answer new. GaveAnswer gave failures old.job old.source text answer new.source new.ended) a b before after file mode result
      → SafeRun did (MayBe gave source job file) a b
  safe_edit source from did a b file mode result r =
      run_one did (MayBe gave source job file) (λ old text answer new. GaveAnswer gave failures old.job old.source text answer new.source new.ended) a b before after file mode result r
      (λ text g. record { is_it = refl; kept = subst (λ s. IsKeptText gave s job text) from (kept_text text g) })

  -- what the run told is a run's report, and what it answered is whether its text is kept
  pub edited : (text : List ℕ) (kept : Bool) (report : Report) → GaveText gave before.job before.source text kept after.source after.ended
      → after.ended ≡ Told report → IsEdited gave before.source job report kept
  edited text kept report g ended =
      let same : g.report ≡ report = ap (λ o. report_in o g.report) (sym g.ended_is ∙ ended) in
      record {
        read = g.read;
        source_after = after.source;
        gave_is = g.gave_is;
        text = text;
        outcome = subst (λ r. IsRun job g.read text r) same (subst (λ a. IsRun a g.read text g.report) (same_job text kept g) g.outcome);
        replaced_is = subst (λ r. kept ≡ is_kept job.keep_going r) same (subst (λ a. kept ≡ is_kept a.keep_going g.report) (same_job text kept g) g.kept_is);
      }

  -- the same, as the file was replaced or not
  pub edited_as : (source : S) → before.source ≡ source → (result : Result Bool Trouble) (kept : Bool) (report : Report) → result ≡ Ok kept
      → (result ≡ Ok true → (text : List ℕ) × GaveAnswer gave failures before.job before.source text (Ok true) after.source after.ended)
      → (result ≡ Ok false → (text : List ℕ) × GaveAnswer gave failures before.job before.source text (Ok false) after.source after.ended)
      → after.ended ≡ Told report → IsEdited gave source job report kept
  edited_as source from result true report e wanted unwanted ended = subst (λ s. IsEdited gave s job report true) from (edited (wanted e).0 true report (wanted e).1 ended)
  edited_as source from result false report e wanted unwanted ended = subst (λ s. IsEdited gave s job report false) from (edited (unwanted e).0 false report (unwanted e).1 ended)

  -- a run whose text is not kept touches no file
  pub safe_idle : {D : Type 0} (did : D → List Event → D → Type 0) (a b : D) (file : List ℕ) (mode : ℕ) (result : Result Bool Trouble)
      → Replacement did (λ old text answer new. GaveAnswer gave failures old.job old.source text answer new.source new.ended) a b before after file mode result
      → (report : Report) → after.ended ≡ Told report → is_kept job.keep_going report ≡ false → SafeRun did MayHoldNothing a b
  safe_idle did a b file mode result r report ended unkept =
      run_one did MayHoldNothing (λ old text answer new. GaveAnswer gave failures old.job old.source text answer new.source new.ended) a b before after file mode result r
      (λ text g. false≢true (sym unkept ∙ sym (edited text true report g ended).replaced_is))

  -- what the file holds in the end
  pub placed : {D F : Type 0} (did : D → List Event → D → Type 0) (a b : D) (file : List ℕ) (opened : Opened S) → before.source ≡ opened.source → file ≡ string_bytes opened.path
      → (replaced : Result Bool Trouble)
      → Replacement did (λ old text answer new. GaveAnswer gave failures old.job old.source text answer new.source new.ended) a b before after file opened.mode replaced
      → (replaced ≡ Ok true → (text : List ℕ) × GaveAnswer gave failures before.job before.source text (Ok true) after.source after.ended)
      → (result : Result (Report × Bool) F) → IfOk result (λ told. (after.ended ≡ Told told.0) × (replaced ≡ Ok told.1)) → OnErr result (replaced ≢ Ok true)
      → IsPlaced gave did job opened result a b
  unfolding edited
  placed did a b file opened from at replaced r given (Ok (report, true)) told failed =
      let text = leaves_new did (λ old text answer new. GaveAnswer gave failures old.job old.source text answer new.source new.ended) a b before after file opened.mode replaced r told.1 (given told.1) in
      subst (λ path. (ran : IsEdited gave opened.source job report true) × Leaves did ((path, Some (ran.text, opened.mode)) ∷ []) a b) at
      (subst (λ source. (ran : IsEdited gave source job report true) × Leaves did ((file, Some (ran.text, opened.mode)) ∷ []) a b) from
      (edited text.0 true report text.1 told.0, text.2))
  placed did a b file opened from at replaced r given (Ok (report, false)) told failed =
      subst (λ path. Leaves did ((path, None) ∷ []) a b) at
      (leaves_old did (λ old text answer new. GaveAnswer gave failures old.job old.source text answer new.source new.ended) a b before after file opened.mode replaced r
      (λ yes. let both : Ok false ≡ Ok true = sym told.1 ∙ yes in cc))
  placed did a b file opened from at replaced r given (Err fault) told failed =
      subst (λ path. Leaves did ((path, None) ∷ []) a b) at
      (leaves_old did (λ old text answer new. GaveAnswer gave failures old.job old.source text answer new.source new.ended) a b before after file opened.mode replaced r failed)

  -- why the run failed is true
  pub faulted : (source : S) → before.source ≡ source → before.ended ≡ NotYet → (fault : RunFault) → after.ended ≡ EndedByFault fault
      → (after ≡ before) ⊎ ((text : List ℕ) × (answer : Result Bool FailedCall) × GaveAnswer gave failures before.job before.source text answer after.source after.ended)
      → (told : FileFault) → told ≡ file_fault fault → IsFileFault gave failures source told
  faulted source from new fault ended (inl same) told told_is = absurd (not_ended fault (sym new ∙ ap (λ (r : FileRun S). r.ended) (sym same) ∙ ended))
  faulted source from new fault ended (inr (text, Ok kept, g)) told told_is = absurd (not_told g.report fault (sym g.ended_is ∙ ended))
  faulted source from new fault ended (inr (text, Err failed, inl none)) told told_is = absurd (no_job job (sym none ∙ is))
  faulted source from new fault ended (inr (text, Err failed, inr why)) told told_is =
      subst (IsFileFault gave failures source) (sym told_is)
      (true_fault gave failures source fault after.source
      (subst (λ s. IsFaultOver gave failures s fault after.source) from
      (subst (λ f. IsFaultOver gave failures before.source f after.source) (ap (λ e. fault_in e fault) (sym why.1 ∙ ended)) why.2)))

-- a folder of which no call was made
pub untouched : {D : Type 0} (did : D → List Event → D → Type 0) (May : List ℕ → Content → Type 0) → ((s : D) → did s [] s) → (s : D) → SafeRun did May s s
untouched did May nothing s = run_nothing did May nothing s

-- what is at a path after some were put, and others after them
holds_more : (ps qs : List Wanted) (path : List ℕ) (a b c : Option Content) → Holds ps path a b → Holds qs path b c → Holds (ps ++ qs) path a c
holds_more [] qs path a b c h k = subst (λ x. Holds qs path x c) h k
holds_more ((file, None) ∷ ps) qs path a b c h k = holds_more ps qs path a b c h k
holds_more ((file, Some content) ∷ ps) qs path a b c h k = ((λ e. holds_more ps qs path (Some content) b c (h.0 e) k), (λ n. holds_more ps qs path a b c (h.1 n) k))

among_left : (P : Wanted → Type 0) (ps qs : List Wanted) → AmongWanted P ps → AmongWanted P (ps ++ qs)
among_left P [] qs h = absurd h
among_left P (w ∷ ps) qs (inl h) = inl h
among_left P (w ∷ ps) qs (inr h) = inr (among_left P ps qs h)

among_right : (P : Wanted → Type 0) (ps qs : List Wanted) → AmongWanted P qs → AmongWanted P (ps ++ qs)
among_right P [] qs h = h
among_right P (w ∷ ps) qs h = inr (among_right P ps qs h)

pub leaves_nothing : {D : Type 0} (did : D → List Event → D → Type 0) → ((s : D) → did s [] s) → (s : D) → Leaves did [] s s
leaves_nothing did nothing s = record { events = []; made = nothing s; left = λ start. (tt, λ path other. refl) }

-- where nothing was put
pub leaves_as : {D : Type 0} (did : D → List Event → D → Type 0) → ((s : D) → did s [] s) → (s : D) (puts : List Wanted) → puts ≡ [] → Leaves did puts s s
leaves_as did nothing s puts none = subst (λ these. Leaves did these s s) (sym none) (leaves_nothing did nothing s)

pub leaves_more : {D : Type 0} (did : D → List Event → D → Type 0) → ((a b c : D) (es fs : List Event) → did a es b → did b fs c → did a (es ++ fs) c)
    → (ps qs : List Wanted) (a b c : D) → Leaves did ps a b → Leaves did qs b c → Leaves did (ps ++ qs) a c
leaves_more did joins ps qs a b c p q = record {
  events = p.events ++ q.events;
  made = joins a b c p.events q.events p.made q.made;
  left = λ start. along_append (λ now. ⊤) (λ now. ⊤) (AreLeft ps start) (AreLeft (ps ++ qs) start) p.events q.events start (λ m s. tt) (p.left start)
      (λ m s before. along_weaker (λ now. ⊤) (λ now. ⊤) (AreLeft qs m) (AreLeft (ps ++ qs) start) (λ now s. tt)
      (λ now s after path other. holds_more ps qs path (start path) (m path) (now path) (before path (λ e. other (among_left _ ps qs e))) (after path (λ e. other (among_right _ ps qs e)))) q.events m (q.left m));
}

pub left_alone : {D F : Type 0} (did : D → List Event → D → Type 0) (leads : List ℕ → List ℕ → F → Type 0) (gave : F → List (List ℕ) → F → Type 0) (stdout : Bool) (job : Job)
    → ((s : D) → did s [] s) → (s : D) (status : ℕ) → LeavesFiles did leads gave stdout job s s status
left_alone did leads gave stdout job nothing s status = record {
  safe = untouched did (MayHold leads gave job) nothing s;
  idle = λ three. untouched did MayHoldNothing nothing s;
  shown = λ is. nothing s;
}

each_weaker : (May More : List ℕ → Content → Type 0) → ((file : List ℕ) (content : Content) → May file content → More file content)
    → (wants : List Wanted) → EachMay May wants → EachMay More wants
each_weaker May More f [] h = tt
each_weaker May More f ((file, None) ∷ wants) h = (tt, each_weaker May More f wants h.1)
each_weaker May More f ((file, Some content) ∷ wants) h = (f file content h.0, each_weaker May More f wants h.1)

-- what a file may hold, said of more
pub safe_weaker : {D : Type 0} (did : D → List Event → D → Type 0) (May More : List ℕ → Content → Type 0)
    → ((file : List ℕ) (content : Content) → May file content → More file content) → (a b : D) → SafeRun did May a b → SafeRun did More a b
safe_weaker did May More f a b r = record { wants = r.wants; events = r.events; made = r.made; may = each_weaker May More f r.wants r.may; whole = r.whole }

-- a file's run is one of its package
pub of_file : {D F : Type 0} (did : D → List Event → D → Type 0) (leads : List ℕ → List ℕ → F → Type 0) (gave : F → List (List ℕ) → F → Type 0) (job : Job) (edited : List ℕ) (source : F)
    → IsFileOf leads job.home edited source → (a b : D) → SafeRun did (MayBe gave source job edited) a b → SafeRun did (MayHold leads gave job) a b
of_file did leads gave job edited source is_its a b r =
    safe_weaker did (MayBe gave source job edited) (MayHold leads gave job)
    (λ file content may. record { source = source; is_its = subst (λ f. IsFileOf leads job.home f source) (sym may.is_it) is_its; kept = may.kept }) a b r

-- a path that is tried is one of the package's BUILD file
build_path : {D : Type 0} (absent : D → List ℕ → Type 0) (folder : D) (home : Package) (path : List ℕ) → IsTried absent folder home path → IsBuildPath home path
build_path absent folder None path t = t.are
build_path absent folder (Some home) path t = ⊎_elim (λ is. inl (is ∙ t.are.0)) (λ is. inr (is.1 ∙ t.are.1)) t.is_first

pub tried_as : {D : Type 0} (absent : D → List ℕ → Type 0) (folder : D) (home : Package) (first second path : List ℕ) → AreFilesOf home first second → IsFirst absent folder first second path
    → IsTried absent folder home path
tried_as absent folder home first second path are is = record { first = first; second = second; are = are; is_first = is }

pub file_of : {D F : Type 0} (leads : List ℕ → List ℕ → F → Type 0) (absent : D → List ℕ → Type 0) (folder : D) (home : Package) (path : List ℕ) (opened : Opened F)
    → IsOpened leads absent folder home path opened → IsFileOf leads home (string_bytes opened.path) opened.source
file_of leads absent folder home path opened o = record { path = path; is_its = build_path absent folder home path o.tried; leads_to = o.leads_to }

-- a package's run is a run of the program
pub of_package : {D F : Type 0} (did : D → List Event → D → Type 0) (leads : List ℕ → List ℕ → F → Type 0) (gave : F → List (List ℕ) → F → Type 0) (keep_going : Bool) (script : List Step) (task : Task)
    → Contains (by_package script) task → (a b : D) → SafeRun did (MayHold leads gave (job_of keep_going task)) a b → SafeRun did (MayHoldAny leads gave keep_going script) a b
of_package did leads gave keep_going script task is_there a b r =
    safe_weaker did (MayHold leads gave (job_of keep_going task)) (MayHoldAny leads gave keep_going script)
    (λ file content may. record { task = task; is_there = is_there; may = may }) a b r

-- a report of a run in which nothing changed is not kept
abbrev status_by : Bool → Bool → ℕ
status_by failed changed = if failed then 2 else (if changed then 0 else 3)

three_unchanged : (failed changed : Bool) → status_by failed changed ≡ 3 → changed ≡ false
three_unchanged true changed is = absurd cc
three_unchanged false true is = absurd cc
three_unchanged false false is = refl

unchanged_unkept : (whole changed rest : Bool) → changed ≡ false → (whole && (changed && rest)) ≡ false
unchanged_unkept true changed rest is = ap (λ b. b && rest) is
unchanged_unkept false changed rest is = refl

pub three_unkept : (keep_going : Bool) (report : Report) → status_of report ≡ 3 → is_kept keep_going report ≡ false
three_unkept keep_going report is = unchanged_unkept (is_whole report.end) report.changed (keep_going || not report.failed) (three_unchanged report.failed report.changed is)

-- what was put in a file's place
pub put_as : {D F : Type 0} (E : Type 0) (did : D → List Event → D → Type 0) (gave : F → List (List ℕ) → F → Type 0) (job : Job) (a b : D) (opened : Opened F) (report : Report) (replaced : Bool)
    → (let result : Result (Report × Bool) E = Ok (report, replaced) in IsPlaced gave did job opened result a b) → IsEdited gave opened.source job report replaced
    → (edited : IsEdited gave opened.source job report replaced) × Leaves did ((string_bytes opened.path, if replaced then Some (edited.text, opened.mode) else None) ∷ []) a b
put_as E did gave job a b opened report true p e = p
put_as E did gave job a b opened report false p e = (e, p)

-- one of two values, as a function of the test
abbrev pub if_reads : {P : Type 0} → P → P → Bool → P
if_reads one other is = if is then one else other
