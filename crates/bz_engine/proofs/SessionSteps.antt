-- What a step did: it took a chunk, came to the end, or left a fault.
use Rattle.std.proofs.Common.{◌≡◌, ◌≢◌, ℕ, ◌+◌, ◌<◌, ◌≤◌, List, [], ◌∷◌, ◌++◌, length, take, drop, append-nil, refl, sym, ◌∙◌, ap, subst, arith, inl}
use Rattle.std.specs.Prelude.{IsTrue, Option, Result, Ok, Err}
use Rattle.std.proofs.Math.Seq.{take-length}
use Rattle.bz_devices.specs.Device.{Rises}
use Rattle.bz_devices.specs.Ahead.{IsReadOn, IsNextChunk, AreNeeded, IsTooLong}
use Rattle.bz_devices.proofs.ChunkAhead.{next_fits, nothing_fits}
use Rattle.bz_devices.proofs.ReadOn.{read_nothing}
use Rattle.bz_devices.proofs.PassedOn.{err_is}
use Rattle.bz_engine.specs.declared.edit.Edited.TheVariants.{Done, Faulty, Failed}
use Rattle.bz_engine.specs.declared.next_chunk.NextChunk.{NextChunk}
use Rattle.bz_engine.specs.declared.report.End.{End}
use Rattle.bz_engine.specs.declared.report.End.TheVariants.{Whole, Syntax, FirstFailure}
use Rattle.bz_engine.specs.declared.report.SyntaxFault.{SyntaxFault}
use Rattle.bz_engine.specs.declared.run_fault.RunFault.{RunFault}
use Rattle.bz_engine.specs.declared.run_fault.RunFault.TheVariants.{OutOfMemory, ReadFailed, WriteFailed, InputTooLong, StatementTooLong}
use Rattle.bz_engine.specs.declared.run_fault.RunFault.TheVariants as fault
use Rattle.bz_engine.specs.declared.session.SessionState.{SessionState}
use Rattle.bz_engine.specs.declared.session.SessionState.TheVariants.{Going, Ended, Stopped}
use Rattle.bz_engine.specs.declared.session.Step.{Step}
use Rattle.bz_engine.specs.declared.session.Step.TheVariants as step
use Rattle.bz_engine.specs.Progress.{Progress}
use Rattle.bz_engine.specs.Scripts.{AreCommands}
use Rattle.bz_engine.specs.SessionValue.{SessionValue, IsSameRun, IsReady, HasDone, HasEnded}
use Rattle.bz_engine.specs.SessionSteps.{Reader, Writer, reader, writer, AddsOne, EndsRun, IsCutShort, IsLeftByFault, Did, Steps}
use Rattle.bz_engine.specs.Stops.{NeedsRead, Tells}
use Rattle.bz_engine.specs.private.Finds.{AreFew, Finds}
use Rattle.bz_engine.specs.private.NextChunks.{IsNextEdited}
use Rattle.bz_engine.proofs.Advances.{chunk_done, chunk_faulty, chunk_failed, write_cut, done_at_state, take_some, take_few}
use Rattle.bz_engine.proofs.BlankLines.{newline_edited}
use Rattle.bz_engine.proofs.Finds.{finds_ok, finds_nothing}
use Rattle.bz_engine.proofs.Runs.{reads_for}
use Rattle.bz_engine.proofs.Sessions.{ended_whole, reads_are, read_within}

-- what was done does not depend on the state, nor does what an ended session tells
abbrev pub IsAtChunk : SessionValue → SessionValue → Type 0
IsAtChunk old v = let stopped : SessionValue = record old { state = Stopped } in v ≡ stopped

done_at : (old v : SessionValue) (pieces cs : List (List ℕ)) (text : List ℕ) → IsAtChunk old v → HasDone old pieces cs text → HasDone v pieces cs text
done_at old v pieces cs text at done = subst (λ x. HasDone x pieces cs text) (sym at) (done_at_state old Stopped pieces cs text done)

ended_in : (v : SessionValue) (state : SessionState) (end : End) (pieces cs : List (List ℕ)) (text : List ℕ) → HasEnded v end pieces cs text → HasEnded (record v { state = state }) end pieces cs text
ended_in v state Whole pieces cs text h = record { outcome = h.outcome; last = h.last }
ended_in v state (Syntax fault) pieces cs text h = record { outcome = h.outcome; last = h.last }
ended_in v state FirstFailure pieces cs text h = record { outcome = h.outcome; last = h.last }

-- a chunk was done, written and taken
pub adds_one : (old v e f new : SessionValue) (before following : List ℕ) (next : NextChunk) (read : List (List ℕ)) → IsAtChunk old v
    → IsReadOn v.options.max_reads v.ahead e.ahead read → AreFew v.options.max_statement v.ahead.bytes read
    → IsNextEdited v e before following next → before ≡ [] → next.edited ≡ Done
    → (let after : SessionValue = record v { ahead = e.ahead; progress = e.progress } in e ≡ after)
    → (let taken : SessionValue = record e { ahead = record e.ahead { bytes = drop next.len e.ahead.bytes } } in f ≡ taken)
    → (let goes : SessionValue = record f { state = Going } in new ≡ goes)
    → AddsOne old new read following
adds_one old v e f new before following next read at on needed is none done after taken goes =
    let most : new.options.max_statement ≡ v.options.max_statement =
    ap (λ x. x.options.max_statement) goes ∙ ap (λ x. x.options.max_statement) taken ∙ ap (λ x. x.options.max_statement) after in
    record {
      going = ap (λ x. x.state) goes;
      chunk = take next.len e.ahead.bytes;
      some = take_some next.len e.ahead.bytes is.chunk.some is.chunk.within;
      size = subst (λ m. length (take next.len e.ahead.bytes) ≤ m) (sym most) (take_few next.len v.options.max_statement e.ahead.bytes is.chunk.size is.chunk.within);
      done = λ pieces cs text before_it.
          let chunk = take next.len e.ahead.bytes in
          subst (λ x. HasDone x (pieces ++ read) (cs ++ chunk ∷ []) (text ++ following)) (sym goes)
          (done_at_state f Going (pieces ++ read) (cs ++ chunk ∷ []) (text ++ following)
          (chunk_done v e f e.ahead before following next.edited v.options.max_reads v.options.max_statement next.len pieces cs read text
          (done_at old v pieces cs text at before_it) on needed is.chunk none after is.edited done taken));
    }

-- the run has ended
ends_run : (old v f new : SessionValue) (end : End) (read : List (List ℕ)) → IsAtChunk old v
    → IsReadOn v.options.max_reads v.ahead f.ahead read → AreFew v.options.max_statement v.ahead.bytes read → IsSameRun v f
    → (IsTooLong v.options.max_statement f.ahead → ⊥)
    → (let there : SessionValue = record f { state = Ended end } in new ≡ there)
    → ((pieces cs : List (List ℕ)) (text : List ℕ) → HasDone v pieces cs text → HasEnded f end (pieces ++ read) cs text)
    → EndsRun old new read
ends_run old v f new end read at on needed same fits there ended = record {
  end = end;
  ended = ap (λ x. x.state) there;
  read_ahead = subst (λ x. IsReadOn old.options.max_reads old.ahead x.ahead read) (sym there) (subst (λ x. IsReadOn x.options.max_reads x.ahead f.ahead read) at on);
  fits = λ long. fits (subst (λ o. IsTooLong o.max_statement f.ahead) same.options (subst (λ x. IsTooLong x.options.max_statement x.ahead) there long));
  outcome = λ pieces cs text before.
      let done = done_at old v pieces cs text at before in (
        reads_for v new.home new.passes new.options (pieces ++ read) (sym (ap (λ x. x.home) there ∙ same.home)) (sym (ap (λ x. x.passes) there ∙ same.passes))
            (sym (ap (λ x. x.options) there ∙ same.options)) (reads_are v f.ahead pieces cs read text done on needed),
        subst (λ x. HasEnded x end (pieces ++ read) cs text) (sym there) (ended_in f (Ended end) end (pieces ++ read) cs text (ended pieces cs text done)),
      );
}

same_after : (v e : SessionValue) → (let after : SessionValue = record v { ahead = e.ahead; progress = e.progress } in e ≡ after) → IsSameRun v e
same_after v e after = record { home = ap (λ x. x.home) after; passes = ap (λ x. x.passes) after; options = ap (λ x. x.options) after }

-- at the end of the input
pub ends_whole : (old v e new : SessionValue) (read : List (List ℕ)) → AreCommands old.passes → IsAtChunk old v
    → IsReadOn v.options.max_reads v.ahead e.ahead read → AreFew v.options.max_statement v.ahead.bytes read
    → (e.progress ≡ v.progress) × (e.ahead.bytes ≡ []) × IsTrue e.ahead.ended
    → (let after : SessionValue = record v { ahead = e.ahead; progress = e.progress } in e ≡ after)
    → (let there : SessionValue = record e { state = Ended Whole } in new ≡ there)
    → EndsRun old new read
ends_whole old v e new read commands at on needed none after there =
    let with_progress : Progress → SessionValue = λ p. record v { ahead = e.ahead; progress = p } in
    ends_run old v e new Whole read at on needed (same_after v e after) (nothing_fits v.options.max_statement e.ahead none.1) there
    (λ pieces cs text done. subst (λ x. HasEnded x Whole (pieces ++ read) cs text) (sym (after ∙ ap with_progress none.0))
    (ended_whole v e.ahead v.options.max_reads pieces cs read text (subst (λ x. AreCommands x.passes) (sym at) commands) done on none.1 none.2))

-- at a chunk with a fault
pub ends_at_fault : (old v e new : SessionValue) (before following : List ℕ) (next : NextChunk) (fault : SyntaxFault) (read : List (List ℕ)) → AreCommands old.passes → IsAtChunk old v
    → IsReadOn v.options.max_reads v.ahead e.ahead read → AreFew v.options.max_statement v.ahead.bytes read
    → IsNextEdited v e before following next → before ≡ [] → next.edited ≡ Faulty fault
    → (let after : SessionValue = record v { ahead = e.ahead; progress = e.progress } in e ≡ after)
    → (let there : SessionValue = record e { state = Ended (Syntax fault) } in new ≡ there)
    → EndsRun old new read
ends_at_fault old v e new before following next fault read commands at on needed is none faulty after there =
    ends_run old v e new (Syntax fault) read at on needed (same_after v e after) (next_fits v.options.max_statement next.len e.ahead is.chunk) there
    (λ pieces cs text done. chunk_faulty v e e.ahead before following next.edited fault v.options.max_reads next.len pieces cs read text (subst (λ x. AreCommands x.passes) (sym at) commands)
    done on is.chunk none after is.edited faulty)

-- at the first failure
pub ends_at_failure : (old v e f new : SessionValue) (before following : List ℕ) (next : NextChunk) (message : Option (List ℕ)) (read : List (List ℕ)) → AreCommands old.passes → IsAtChunk old v
    → IsReadOn v.options.max_reads v.ahead e.ahead read → AreFew v.options.max_statement v.ahead.bytes read
    → IsNextEdited v e before following next → before ≡ [] → next.edited ≡ Failed message
    → (let after : SessionValue = record v { ahead = e.ahead; progress = e.progress } in e ≡ after)
    → (let failed : SessionValue = record e { failure = message } in f ≡ failed)
    → (let there : SessionValue = record f { state = Ended FirstFailure } in new ≡ there)
    → EndsRun old new read
ends_at_failure old v e f new before following next message read commands at on needed is none fails after failed there =
    let same = same_after v e after in
    let ahead = ap (λ x. x.ahead) failed in
    ends_run old v f new FirstFailure read at (subst (λ a. IsReadOn v.options.max_reads v.ahead a read) (sym ahead) on) needed
    (record { home = ap (λ x. x.home) failed ∙ same.home; passes = ap (λ x. x.passes) failed ∙ same.passes; options = ap (λ x. x.options) failed ∙ same.options })
    (λ long. next_fits v.options.max_statement next.len e.ahead is.chunk (subst (λ a. IsTooLong v.options.max_statement a) ahead long)) there
    (λ pieces cs text done. chunk_failed v e f e.ahead before following next.edited message v.options.max_reads next.len pieces cs read text (subst (λ x. AreCommands x.passes) (sym at) commands)
    done on is.chunk none after is.edited fails failed)

-- the next chunk's text was not written to its end
pub left_by_write : (old v e new : SessionValue) (before following : List ℕ) (next : NextChunk) (k : ℕ) (read : List (List ℕ)) → IsAtChunk old v
    → IsReadOn v.options.max_reads v.ahead e.ahead read → AreFew v.options.max_statement v.ahead.bytes read
    → IsNextEdited v e before following next → before ≡ [] → next.edited ≡ Done
    → (let after : SessionValue = record v { ahead = e.ahead; progress = e.progress } in e ≡ after) → new ≡ e
    → IsLeftByFault old new read (take k following) WriteFailed
left_by_write old v e new before following next k read at on needed is none done after same = record {
  stopped = ap (λ x. x.state) same ∙ ap (λ x. x.state) after ∙ ap (λ x. x.state) at;
  read_ahead = subst (λ x. IsReadOn old.options.max_reads old.ahead x.ahead read) (sym same) (subst (λ x. IsReadOn x.options.max_reads x.ahead e.ahead read) at on);
  front = λ pieces cs text before_it. subst (λ x. IsCutShort x (pieces ++ read) cs text (take k following)) (sym same)
      (write_cut v e e.ahead before following next.edited v.options.max_reads v.options.max_statement next.len k pieces cs read text
      (done_at old v pieces cs text at before_it) on needed is.chunk none after is.edited done);
  tells = (
    next.len,
    subst (λ x. IsNextChunk old.options.max_statement x.ahead next.len) (sym same) (subst (λ x. IsNextChunk x.options.max_statement e.ahead next.len) at is.chunk),
  );
}

-- what a fault passed on is
pub steps_as : (source : Reader) (sink : Writer) (old new : SessionValue) (result : Result Step RunFault) (e f : RunFault) → result ≡ Err e → e ≡ f
    → Steps source sink old new (Err f) → Steps source sink old new result
steps_as source sink old new result e f is same = subst (Steps source sink old new) (sym (is ∙ ap Err same))

no_err : (x : Step) (f : RunFault) → (let r : Result Step RunFault = Ok x in r) ≡ Err f → ⊥
no_err x f h = cc

module _ {S W T : Type 0} (gave : S → List (List ℕ) → S → Type 0) (reads_failed : S → ℕ) (took : W → List ℕ → W → Type 0) (writes_failed : W → ℕ) where
  abbrev FindsAs : SessionValue → SessionValue → S → S → Result T RunFault → Type 0
  FindsAs v e source after result = Finds gave reads_failed v.options v.progress.line source after v.ahead e.ahead result

  -- what the next chunk's search read
  tells_read : (old v e : SessionValue) (source after : S) (fault : RunFault) → IsAtChunk old v → FindsAs v e source after (Err fault)
      → Tells old.options old.progress.line e.ahead fault
  tells_read old v e source after (OutOfMemory _) at finds = tt
  tells_read old v e source after ReadFailed at finds = subst (λ x. NeedsRead x.options.max_statement e.ahead) at (finds.unread refl)
  tells_read old v e source after WriteFailed at finds = absurd (finds.runs.1 refl)
  tells_read old v e source after InputTooLong at finds =
      subst (λ x. (e.ahead.reads ≡ x.options.max_reads) × NeedsRead x.options.max_statement e.ahead) at (finds.too_long refl)
  tells_read old v e source after (StatementTooLong line) at finds =
      subst (λ x. (line ≡ x.progress.line) × IsTooLong x.options.max_statement e.ahead) at (finds.statement_too_long line refl)
  tells_read old v e source after fault.Stopped at finds = absurd (finds.runs.0 refl)

  pub step_unread : (old v e : SessionValue) (source after : S) (sink : W) (fault : RunFault) → took sink [] sink → IsAtChunk old v
      → (let there : SessionValue = record v { ahead = e.ahead; progress = e.progress } in e ≡ there)
      → FindsAs v e source after (Err fault)
      → Steps (reader gave reads_failed source after) (writer took writes_failed sink sink) old e (Err fault)
  step_unread old v e source after sink fault nothing at there finds =
      let read = finds.read in
      record {
        read = read.0;
        shown = [];
        gave = read.1;
        took = nothing;
        did = record {
          stopped = ap (λ x. x.state) there ∙ ap (λ x. x.state) at;
          read_ahead = subst (λ x. IsReadOn x.options.max_reads x.ahead e.ahead read.0) at read.2;
          front = λ pieces cs text done. inl refl;
          tells = tells_read old v e source after fault at finds;
        };
        needed = subst (λ x. AreNeeded x.options.max_statement x.ahead.bytes read.0) at read.3.needed;
        few = read.2.few;
        bound = read_within v _ e.ahead v.options.max_reads read.0 at read.2 finds.bound;
        unwritten = λ _ _. (refl, refl);
        reads_counted = (λ h. finds.failed (ap Err (err_is fault ReadFailed h)), λ h. finds.steady (λ k. h (ap Err (err_is fault ReadFailed k))));
        writes_counted = (λ h. absurd (finds.runs.1 (ap Err (err_is fault WriteFailed h))), λ _. refl);
      }

  -- its text was not written to its end
  pub step_unwritten : (old v e new : SessionValue) (x : T) (source after : S) (sink sink_after : W) (shown : List ℕ) → took sink shown sink_after
      → Rises (writes_failed sink) (writes_failed sink_after) → IsAtChunk old v → (finds : FindsAs v e source after (Ok x))
      → IsLeftByFault old new finds.read.0 shown WriteFailed
      → Steps (reader gave reads_failed source after) (writer took writes_failed sink sink_after) old new (Err WriteFailed)
  step_unwritten old v e new x source after sink sink_after shown wrote failed at finds left =
      let read = finds.read in
      record {
        read = read.0;
        shown = shown;
        gave = read.1;
        took = wrote;
        did = left;
        needed = subst (λ y. AreNeeded y.options.max_statement y.ahead.bytes read.0) at read.3.needed;
        few = read.2.few;
        bound = read_within v _ e.ahead v.options.max_reads read.0 at read.2 finds.bound;
        unwritten = λ _ other. absurd (other refl);
        reads_counted = (λ h. absurd cc, λ _. finds.steady (found_no_err x ReadFailed));
        writes_counted = (λ _. failed, λ other. absurd (other refl));
      }
    where
      found_no_err : (x : T) (f : RunFault) → (let r : Result T RunFault = Ok x in r) ≢ Err f
      found_no_err x f h = cc

  -- it was written, or the run has ended
  pub step_on : (old v e new : SessionValue) (x : T) (answer : Step) (source after : S) (sink sink_after : W) (shown : List ℕ) → took sink shown sink_after
      → writes_failed sink_after ≡ writes_failed sink → (answer ≢ step.More → (shown ≡ []) × (sink_after ≡ sink)) → IsAtChunk old v → (finds : FindsAs v e source after (Ok x))
      → Did old new finds.read.0 shown (Ok answer)
      → Steps (reader gave reads_failed source after) (writer took writes_failed sink sink_after) old new (Ok answer)
  step_on old v e new x answer source after sink sink_after shown wrote steady stays at finds did =
      let read = finds.read in
      record {
        read = read.0;
        shown = shown;
        gave = read.1;
        took = wrote;
        did = did;
        needed = subst (λ y. AreNeeded y.options.max_statement y.ahead.bytes read.0) at read.3.needed;
        few = read.2.few;
        bound = read_within v _ e.ahead v.options.max_reads read.0 at read.2 finds.bound;
        unwritten = λ other _. stays (λ same. other (ap Ok same));
        reads_counted = (λ h. absurd (no_err answer ReadFailed h), λ _. finds.steady (found_no_err x ReadFailed));
        writes_counted = (λ h. absurd (no_err answer WriteFailed h), λ _. steady);
      }
    where
      found_no_err : (x : T) (f : RunFault) → (let r : Result T RunFault = Ok x in r) ≢ Err f
      found_no_err x f h = cc

  -- the run has ended, and nothing was written
  pub step_ended : (old v e new : SessionValue) (x : T) (answer : Step) (source after : S) (sink : W) → took sink [] sink → answer ≡ step.End → IsAtChunk old v
      → (finds : FindsAs v e source after (Ok x)) → EndsRun old new finds.read.0
      → Steps (reader gave reads_failed source after) (writer took writes_failed sink sink) old new (Ok answer)
  step_ended old v e new x answer source after sink nothing is at finds over =
      subst (λ s. Steps (reader gave reads_failed source after) (writer took writes_failed sink sink) old new (Ok s)) (sym is)
      (step_on old v e new x step.End source after sink sink [] nothing refl (λ _. (refl, refl)) at finds over)

-- an empty line was taken, of which nothing is written
pub step_at_empty_line : {S W : Type 0} (gave : S → List (List ℕ) → S → Type 0) (reads_failed : S → ℕ) (took : W → List ℕ → W → Type 0) (writes_failed : W → ℕ)
    → (v new : SessionValue) (source : S) (sink : W) (rest : List ℕ) → gave source [] source → took sink [] sink
    → v.state ≡ Going → IsReady v → v.ahead.reads ≤ v.options.max_reads → v.ahead.bytes ≡ 10 ∷ rest → 0 < v.options.max_statement
    → (let after : SessionValue = record v { progress = record v.progress { line = v.progress.line + 1 }; ahead = record v.ahead { bytes = drop 1 v.ahead.bytes } } in new ≡ after)
    → Steps (reader gave reads_failed source source) (writer took writes_failed sink sink) v new (Ok step.More)
unfolding finds_nothing finds_ok
step_at_empty_line gave reads_failed took writes_failed v new source sink rest unread unwritten going ready made begins some is =
    let stopped : SessionValue = record v { state = Stopped } in
    let passed : Progress = record v.progress { line = v.progress.line + 1 } in
    let done : SessionValue = record stopped { progress = passed } in
    let taken : SessionValue = record done { ahead = record v.ahead { bytes = drop 1 v.ahead.bytes } } in
    let goes : SessionState → SessionValue = λ state. record taken { state = state } in
    let next : IsNextEdited stopped done [] [] (record { len = 1; edited = Done }) =
    newline_edited _ _ v.ahead v.progress passed [] rest v.ahead.bytes (λ n more. absurd (omega (arith, ready.few, more))) (length v.ahead.bytes, omega arith, sym (take-length v.ahead.bytes)) begins some refl in
    step_on {T = ℕ} gave reads_failed took writes_failed v stopped done new 0 step.More source source sink sink [] unwritten refl (λ other. absurd (other refl)) refl
    (finds_nothing gave reads_failed v.options v.progress.line 0 source v.ahead unread made (omega (arith, ready.few)))
    (adds_one v stopped done taken new [] [] _ [] refl (read_nothing v.options.max_reads v.ahead made)
    (record { needed = tt; few = subst (λ l. length l ≤ v.options.max_statement + 8192) (sym (append-nil v.ahead.bytes)) (omega (arith, ready.few)) }) next refl refl refl refl (is ∙ ap goes going))

-- what a step did, where its answer is known
pub did_as : {source : Reader} {sink : Writer} {old new : SessionValue} {result : Result Step RunFault} (s : Steps source sink old new result) (answer : Result Step RunFault)
    → result ≡ answer → Did old new s.read s.shown answer
did_as {old = old} {new = new} s answer is = subst (Did old new s.read s.shown) is s.did
