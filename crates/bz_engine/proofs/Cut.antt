-- What a run has written where a fault stops it.
use Rattle.std.proofs.Common.{◌≡◌, ◌≢◌, ◌⊎◌, ℕ, ◌≤◌, Bool, List, [], ◌∷◌, ◌++◌, length, refl, sym, ◌∙◌, ap, subst, append_assoc, append-nil, inl, inr}
use Rattle.std.specs.Prelude.{IsTrue}
use Rattle.std.specs.List.{concat}
use Rattle.bz_token.specs.Chunks.{chunks}
use Rattle.bz_label.specs.Labels.{Package}
use Rattle.bz_engine.specs.declared.options.Options.{Options}
use Rattle.bz_devices.specs.Ahead.{Ahead, IsReadOn}
use Rattle.bz_engine.specs.EveryFile.{ForEveryFile}
use Rattle.bz_engine.specs.Outcome.{Script, Run, run_with, Told, IsOutcome, IsFrontOf, text_after}
use Rattle.bz_engine.specs.declared.report.End.{End}
use Rattle.bz_engine.specs.declared.run_fault.RunFault.{RunFault}
use Rattle.bz_engine.specs.declared.run_fault.RunFault.TheVariants.{WriteFailed}
use Rattle.bz_engine.specs.SessionValue.{SessionValue, run_in, IsSameRun, HasDone}
use Rattle.bz_engine.specs.SessionSteps.{IsCutShort, IsLeftByFault}
use Rattle.bz_devices.proofs.MoreReads.{open_more}
use Rattle.bz_engine.proofs.OneOutcome.{front_of_outcome, one_outcome}
use Rattle.bz_engine.proofs.Failures.{calm_of}
use Rattle.bz_engine.proofs.Runs.{run_is, reads_for}
use Rattle.bz_tree.specs.Tree.{Statement}
use Rattle.bz_devices.specs.Device.{ends}
use Rattle.bz_engine.specs.NeededReads.{AreDone, IsOneNeeded, AreReads}
use Rattle.bz_engine.specs.Stops.{NeedsRead, Tells, BeginsNext, AllFit, EndsAfter, HasEndedAt, IsStopped, HasStopped}
use Rattle.bz_engine.specs.private.Finds.{AreFew}
use Rattle.bz_engine.proofs.NeededReads.{done_more}
use Rattle.bz_engine.proofs.Sessions.{read_on, ended_on, reads_on, reads_are}

-- the text begins each outcome of each file that begins with the pieces
abbrev pub BeginsAll : Run → List (List ℕ) → List ℕ → Type 0
BeginsAll run pieces text = ForEveryFile pieces (λ file. (whole : List ℕ) (told : Told) → IsOutcome run file whole told → IsFrontOf text whole)

front_of_front : (a b c : List ℕ) → IsFrontOf a b → IsFrontOf b c → IsFrontOf a c
front_of_front a b c p q = (p.0 ++ q.0, q.1 ∙ ap (λ l. l ++ q.0) p.1 ∙ append_assoc a p.0 q.0)

-- What was done of a file's first chunks begins its outcome.
chunks_front : (v : SessionValue) (pieces cs others : List (List ℕ)) (text file whole : List ℕ) (told : Told) → HasDone v pieces cs text → chunks file ≡ cs ++ others
    → IsOutcome (run_in v) file whole told → IsFrontOf text whole
chunks_front v pieces cs others text file whole told done all outcome =
    subst (λ t. IsFrontOf t whole) (sym done.text_is)
    (front_of_outcome (run_in v) file done.statements whole told
    (record { begins = record { front = cs; after = others; chunks_are = all; read = done.kept.read }; none_fails = calm_of v pieces cs text done }) outcome)

done_begins : (v : SessionValue) (pieces cs : List (List ℕ)) (text : List ℕ) → HasDone v pieces cs text → BeginsAll (run_in v) pieces text
done_begins v pieces cs text done = record {
  each = λ rest over whole told outcome.
      chunks_front v pieces cs (chunks (v.ahead.bytes ++ rest)) text (concat pieces ++ rest) whole told done (done.first rest (λ h. over (subst IsTrue done.ended h))) outcome;
}

-- more was read
read_begins : (v : SessionValue) (mid : Ahead) (max_reads : ℕ) (pieces cs read : List (List ℕ)) (text : List ℕ) → HasDone v pieces cs text → IsReadOn max_reads v.ahead mid read
    → BeginsAll (run_in v) (pieces ++ read) text
read_begins v mid max_reads pieces cs read text done on = record {
  each = λ rest over whole told outcome.
      chunks_front v pieces cs (chunks (mid.bytes ++ rest)) text (concat (pieces ++ read) ++ rest) whole told done
      (read_on v mid max_reads pieces cs read text done on rest (λ h. over (subst IsTrue (ended_on v mid max_reads pieces cs read text done on) h))) outcome;
}

begins_less : (run : Run) (pieces : List (List ℕ)) (text more : List ℕ) → IsFrontOf text more → BeginsAll run pieces more → BeginsAll run pieces text
begins_less run pieces text more front all = record {
  each = λ rest over whole told outcome. front_of_front text more whole front (all.each rest over whole told outcome);
}

joined_front : (text shown next : List ℕ) → IsFrontOf shown next → IsFrontOf (text ++ shown) (text ++ next)
joined_front text shown next front = (front.0, ap (λ l. text ++ l) front.1 ∙ sym (append_assoc text shown front.0))

-- what a step that answered a fault has left
cut_begins : (v w : SessionValue) (pieces cs read : List (List ℕ)) (text shown : List ℕ) → HasDone v pieces cs text → IsReadOn v.options.max_reads v.ahead w.ahead read
    → IsSameRun v w → IsCutShort w (pieces ++ read) cs text shown → BeginsAll (run_in v) (pieces ++ read) (text ++ shown)
cut_begins v w pieces cs read text shown done on same (inl none) =
    subst (λ t. BeginsAll (run_in v) (pieces ++ read) t) (sym (ap (λ l. text ++ l) none ∙ append-nil text))
    (read_begins v w.ahead v.options.max_reads pieces cs read text done on)
cut_begins v w pieces cs read text shown done on same (inr cut) =
    let taken : SessionValue = record w { ahead = record w.ahead { bytes = cut.1.left } } in
    subst (λ run. BeginsAll run (pieces ++ read) (text ++ shown)) (run_is w v.home v.passes v.options same.home same.passes same.options)
    (begins_less (run_in w) (pieces ++ read) (text ++ shown) (text ++ cut.0) (joined_front text shown cut.0 cut.2)
    (done_begins taken (pieces ++ read) (cs ++ cut.1.chunk ∷ []) (text ++ cut.0) cut.1.done))

pub fault_begins : (v w : SessionValue) (fault : RunFault) (home : Package) (passes : Script) (options : Options) (pieces cs read : List (List ℕ)) (text shown : List ℕ)
    → v.home ≡ home → v.passes ≡ passes → v.options ≡ options → HasDone v pieces cs text → IsSameRun v w → IsLeftByFault v w read shown fault
    → BeginsAll (run_with home passes options) (pieces ++ read) (text ++ shown)
fault_begins v w fault home passes options pieces cs read text shown h p o done same left =
    subst (λ run. BeginsAll run (pieces ++ read) (text ++ shown)) (run_is v home passes options h p o)
    (cut_begins v w pieces cs read text shown done left.read_ahead same (left.front pieces cs text done))

-- the reads that were made
pub fault_reads : (v w : SessionValue) (fault : RunFault) (home : Package) (passes : Script) (options : Options) (pieces cs read : List (List ℕ)) (text shown : List ℕ)
    → v.home ≡ home → v.passes ≡ passes → v.options ≡ options → HasDone v pieces cs text → AreFew v.options.max_statement v.ahead.bytes read
    → IsLeftByFault v w read shown fault → AreReads home passes options (pieces ++ read)
fault_reads v w fault home passes options pieces cs read text shown h p o done needed left =
    reads_for v home passes options (pieces ++ read) h p o (reads_are v w.ahead pieces cs read text done left.read_ahead needed)

-- what a fault has left, by the session that it stopped
are_done : (v : SessionValue) (mid : Ahead) (max_reads : ℕ) (pieces cs read : List (List ℕ)) (text : List ℕ) → (done : HasDone v pieces cs text) → IsReadOn max_reads v.ahead mid read
    → AreDone (run_in v) (pieces ++ read) cs done.statements mid.bytes
are_done v mid max_reads pieces cs read text done on =
    subst (AreDone (run_in v) (pieces ++ read) cs done.statements) (sym on.bytes) (done_more v pieces cs read text done on.stays)

stops_at : (v : SessionValue) (mid : Ahead) (fault : RunFault) (pieces cs read : List (List ℕ)) (text shown : List ℕ) → (done : HasDone v pieces cs text)
    → IsReadOn v.options.max_reads v.ahead mid read → (shown ≡ []) ⊎ BeginsNext (run_in v) (pieces ++ read) cs done.statements shown
    → (fault ≢ WriteFailed → shown ≡ []) → Tells v.options v.progress.line mid fault
    → IsStopped (run_in v) v.options (pieces ++ read) (text ++ shown) fault
stops_at v mid fault pieces cs read text shown done on begins unwritten tells =
    let reads : ℕ → Ahead = λ n. record { bytes = mid.bytes; reads = n; ended = mid.ended } in
    let ends_in : Bool → Ahead = λ b. record { bytes = mid.bytes; reads = length (pieces ++ read); ended = b } in
    let ahead = ap reads (reads_on v mid v.options.max_reads pieces cs read text done on) ∙ ap ends_in (ended_on v mid v.options.max_reads pieces cs read text done on) in
    record {
      front = cs;
      statements = done.statements;
      left = mid.bytes;
      done = are_done v mid v.options.max_reads pieces cs read text done on;
      cut = shown;
      text_is = ap (λ l. l ++ shown) done.text_is;
      begins = begins;
      unwritten = unwritten;
      tells = subst (λ line. Tells v.options line (ends_in (ends (pieces ++ read))) fault) done.kept.line
          (subst (λ a. Tells v.options v.progress.line a fault) ahead tells);
    }

stopped_for : (Has : Run → Options → Type 0) (v : SessionValue) (home : Package) (passes : Script) (options : Options)
    → v.home ≡ home → v.passes ≡ passes → v.options ≡ options → Has (run_in v) v.options → Has (run_with home passes options) options
stopped_for Has v home passes options h p o stopped =
    subst (λ run. Has run options) (run_is v home passes options h p o) (subst (λ x. Has (run_in v) x) o stopped)

-- the chunks fit by the session's options
fit_by : (v : SessionValue) (options : Options) (cs : List (List ℕ)) → v.options ≡ options → AllFit options.max_statement cs → AllFit v.options.max_statement cs
fit_by v options cs o fit = subst (λ x. AllFit x.max_statement cs) (sym o) fit

pub one_more_fits : (max_statement : ℕ) (cs : List (List ℕ)) (chunk : List ℕ) → AllFit max_statement cs → length chunk ≤ max_statement
    → AllFit max_statement (cs ++ chunk ∷ [])
one_more_fits max_statement [] chunk fit one = (one, tt)
one_more_fits max_statement (c ∷ cs) chunk fit one = (fit.0, one_more_fits max_statement cs chunk fit.1 one)

-- what is done where the run ends
pub ends_done : (v : SessionValue) (mid : Ahead) (home : Package) (passes : Script) (options : Options) (pieces cs read : List (List ℕ)) (text : List ℕ) (end : End)
    → v.home ≡ home → v.passes ≡ passes → v.options ≡ options → HasDone v pieces cs text → IsReadOn v.options.max_reads v.ahead mid read
    → AllFit options.max_statement cs → EndsAfter (run_with home passes options) options.max_statement (pieces ++ read) cs end
    → HasEndedAt (run_with home passes options) options.max_statement (pieces ++ read) end
ends_done v mid home passes options pieces cs read text end h p o done on fit last = record {
  front = cs;
  statements = done.statements;
  left = mid.bytes;
  done = subst (λ run. AreDone run (pieces ++ read) cs done.statements mid.bytes) (run_is v home passes options h p o)
      (are_done v mid v.options.max_reads pieces cs read text done on);
  fit = fit;
  last = last;
}

-- it was stopped before it did more
pub stops_unread : (v : SessionValue) (mid : Ahead) (fault : RunFault) (home : Package) (passes : Script) (options : Options) (pieces cs read : List (List ℕ)) (text : List ℕ)
    → v.home ≡ home → v.passes ≡ passes → v.options ≡ options → HasDone v pieces cs text
    → IsReadOn v.options.max_reads v.ahead mid read → AllFit options.max_statement cs → Tells v.options v.progress.line mid fault
    → HasStopped (run_with home passes options) options (pieces ++ read) (text ++ []) fault
unfolding stops_at
stops_unread v mid fault home passes options pieces cs read text h p o done on fit tells =
    stopped_for (λ run x. HasStopped run x (pieces ++ read) (text ++ []) fault) v home passes options h p o
    (stops_at v mid fault pieces cs read text [] done on (inl refl) (λ _. refl) tells, fit_by v options cs o fit)

all_done : (v : SessionValue) (pieces cs : List (List ℕ)) (text : List ℕ) → (done : HasDone v pieces cs text)
    → AreDone (run_in v) pieces cs done.statements v.ahead.bytes
all_done v pieces cs text done = record {
  bytes_are = done.bytes;
  chunks_are = λ rest last. done.first rest (λ h. last (subst IsTrue done.ended h));
  read = done.kept.read;
  none_fails = calm_of v pieces cs text done;
}

-- what a step that answered a fault has left of what the next chunk adds
begins_next : (v w : SessionValue) (pieces cs : List (List ℕ)) (statements : List Statement) (text shown : List ℕ) → IsSameRun v w
    → text ≡ text_after v.home v.passes statements → IsCutShort w pieces cs text shown
    → (shown ≡ []) ⊎ BeginsNext (run_in v) pieces cs statements shown
begins_next v w pieces cs statements text shown same is (inl none) = inl none
begins_next v w pieces cs statements text shown same is (inr cut) =
    let taken : SessionValue = record w { ahead = record w.ahead { bytes = cut.1.left } } in
    let done = cut.1.done in
    let run = run_is w v.home v.passes v.options same.home same.passes same.options in
    inr (record {
      chunk = cut.1.chunk;
      left = cut.1.left;
      following = done.statements;
      done = subst (λ r. AreDone r pieces (cs ++ cut.1.chunk ∷ []) done.statements cut.1.left) run
          (all_done taken pieces (cs ++ cut.1.chunk ∷ []) (text ++ cut.0) done);
      added = cut.0;
      adds = ap (λ r. text_after r.home r.passes done.statements) (sym run) ∙ sym done.text_is ∙ ap (λ l. l ++ cut.0) is;
      begins = cut.2;
    })

stops_here : (v w : SessionValue) (fault : RunFault) (pieces cs read : List (List ℕ)) (text shown : List ℕ) → HasDone v pieces cs text → IsSameRun v w
    → IsLeftByFault v w read shown fault → (fault ≢ WriteFailed → shown ≡ []) → IsStopped (run_in v) v.options (pieces ++ read) (text ++ shown) fault
stops_here v w fault pieces cs read text shown done same left unwritten =
    stops_at v w.ahead fault pieces cs read text shown done left.read_ahead
    (begins_next v w (pieces ++ read) cs done.statements text shown same done.text_is (left.front pieces cs text done)) unwritten left.tells

pub stops_by_fault : (v w : SessionValue) (fault : RunFault) (home : Package) (passes : Script) (options : Options) (pieces cs read : List (List ℕ)) (text shown : List ℕ)
    → v.home ≡ home → v.passes ≡ passes → v.options ≡ options → HasDone v pieces cs text → IsSameRun v w → IsLeftByFault v w read shown fault
    → (fault ≢ WriteFailed → shown ≡ []) → IsStopped (run_with home passes options) options (pieces ++ read) (text ++ shown) fault
stops_by_fault v w fault home passes options pieces cs read text shown h p o done same left unwritten =
    stopped_for (λ run x. IsStopped run x (pieces ++ read) (text ++ shown) fault) v home passes options h p o
    (stops_here v w fault pieces cs read text shown done same left unwritten)

-- where none of the chunks that are done was too long
pub stops_in_time : (v w : SessionValue) (fault : RunFault) (home : Package) (passes : Script) (options : Options) (pieces cs read : List (List ℕ)) (text shown : List ℕ)
    → v.home ≡ home → v.passes ≡ passes → v.options ≡ options → HasDone v pieces cs text → IsSameRun v w → AllFit options.max_statement cs
    → IsLeftByFault v w read shown fault → (fault ≢ WriteFailed → shown ≡ []) → HasStopped (run_with home passes options) options (pieces ++ read) (text ++ shown) fault
unfolding stops_at
stops_in_time v w fault home passes options pieces cs read text shown h p o done same fit left unwritten =
    stopped_for (λ run x. HasStopped run x (pieces ++ read) (text ++ shown) fault) v home passes options h p o (
      stops_at v w.ahead fault pieces cs read text shown done left.read_ahead
          (begins_next v w (pieces ++ read) cs done.statements text shown same done.text_is (left.front pieces cs text done)) unwritten left.tells,
      fit_by v options cs o fit,
    )

-- the input is too long
pub one_needed_there : (v : SessionValue) (mid : Ahead) (home : Package) (passes : Script) (options : Options) (pieces cs read : List (List ℕ)) (text : List ℕ)
    → v.home ≡ home → v.passes ≡ passes → v.options ≡ options → HasDone v pieces cs text → IsReadOn v.options.max_reads v.ahead mid read
    → mid.reads ≡ v.options.max_reads → NeedsRead v.options.max_statement mid
    → (length (pieces ++ read) ≡ options.max_reads) × IsOneNeeded (run_with home passes options) options.max_statement (pieces ++ read) mid.bytes
one_needed_there v mid home passes options pieces cs read text h p o done on all needs = (
  sym (reads_on v mid v.options.max_reads pieces cs read text done on) ∙ all ∙ ap (λ x. x.max_reads) o,
  subst (λ run. IsOneNeeded run options.max_statement (pieces ++ read) mid.bytes) (run_is v home passes options h p o)
      (subst (λ x. IsOneNeeded (run_in v) x.max_statement (pieces ++ read) mid.bytes) o
      (record {
        going = open_more v.ahead.ended mid.ended pieces read on.ended done.none_ends on.none_ends needs.going;
        front = cs;
        statements = done.statements;
        done = are_done v mid v.options.max_reads pieces cs read text done on;
        undecided = needs.undecided;
      })),
)

-- where the run had ended, all was written
pub ended_begins : (run : Run) (pieces : List (List ℕ)) (text : List ℕ) (told : Told)
    → ForEveryFile pieces (λ file. IsOutcome run file text told) → BeginsAll run pieces text
ended_begins run pieces text told ended = record {
  each = λ rest over whole told2 outcome.
      let same = one_outcome run (concat pieces ++ rest) whole text told2 told outcome (ended.each rest over) in
      ([], same.0 ∙ sym (append-nil text));
}

-- nothing was read or written
pub nothing_begins : (run : Run) → BeginsAll run [] []
nothing_begins run = record { each = λ rest over whole told outcome. (whole, refl) }
