-- Steps one after another: what is done after each, together.
use Rattle.std.proofs.Common.{◌≡◌, ◌≢◌, ℕ, ◌+◌, ◌<◌, ◌≤◌, List, [], ◌∷◌, ◌++◌, length, refl, sym, ap, ◌∙◌, subst, append-nil, append_assoc, length-append}
use Rattle.std.specs.Prelude.{Result, Ok, Err}
use Rattle.std.specs.List.{concat}
use Rattle.bz_devices.specs.Ahead.{AreNeeded}
use Rattle.bz_devices.specs.Device.{IsCounted}
use Rattle.bz_devices.proofs.ReadOn.{rises_from}
use Rattle.bz_engine.specs.NeededReads.{AreReads}
use Rattle.bz_engine.specs.SessionValue.{SessionValue, IsSameRun, HasDone, HasEnded, run_in}
use Rattle.bz_engine.specs.SessionSteps.{AddsOne, EndsRun, IsLeftByFault}
use Rattle.bz_engine.specs.Stops.{IsStopped}
use Rattle.bz_engine.specs.declared.report.End.{End}
use Rattle.bz_engine.specs.declared.run_fault.RunFault.{RunFault}
use Rattle.bz_engine.specs.declared.run_fault.RunFault.TheVariants.{WriteFailed}
use Rattle.bz_engine.specs.declared.run_fault.RunFault.TheVariants as fault
use Rattle.bz_engine.specs.declared.session.SessionState.{SessionState}
use Rattle.bz_engine.specs.declared.session.SessionState.TheVariants.{Going, Ended, Stopped}
use Rattle.bz_engine.specs.declared.session.Step.{Step}
use Rattle.bz_engine.specs.declared.session.Step.TheVariants as step
use Rattle.bz_engine.proofs.Advances.{more_is_no_end}
use Rattle.bz_engine.proofs.Cut.{fault_reads, stops_by_fault}
use Rattle.bz_engine.proofs.Runs.{ok_is_no_err}
use Rattle.bz_laws.specs.Steps.{HasManyMore, HasComeTo, HasMetFault}

-- the same lists, said otherwise
done_at : (v : SessionValue) (pieces pieces2 cs cs2 : List (List ℕ)) (text text2 : List ℕ) → pieces ≡ pieces2 → cs ≡ cs2 → text ≡ text2 → HasDone v pieces cs text → HasDone v pieces2 cs2 text2
done_at v pieces pieces2 cs cs2 text text2 p q r done =
    subst (λ x. HasDone v pieces2 cs2 x) r (subst (λ x. HasDone v pieces2 x text) q (subst (λ x. HasDone v x cs text) p done))

-- how often calls failed by then: the last step's answer tells whether its call did
pub counted_ok : (r : Result Step RunFault) (step : Step) (fault : RunFault) (old new : ℕ) → r ≡ Ok step → new ≡ old → IsCounted (r ≡ Err fault) old new
counted_ok r step fault old new ok same = (λ h. absurd (ok_is_no_err r step fault ok h), λ _. same)

pub counted_err : (r s : Result Step RunFault) (met fault : RunFault) (old mid new : ℕ) → s ≡ Err met → r ≡ Err met → mid ≡ old
    → IsCounted (s ≡ Err fault) mid new → IsCounted (r ≡ Err fault) old new
counted_err r s met fault old mid new was is same counted = (
  λ h. rises_from _ _ _ same (counted.0 (was ∙ sym is ∙ h)),
  λ other. counted.1 (λ h. other (is ∙ sym was ∙ h)) ∙ same,
)

module _ {S W : Type 0} (gave : S → List (List ℕ) → S → Type 0) (took : W → List ℕ → W → Type 0) where
  pub many_none : ((s : S) → gave s [] s) → ((w : W) → took w [] w) → (s : S) (w : W) (v : SessionValue) (pieces cs : List (List ℕ)) (text : List ℕ) → HasDone v pieces cs text
      → HasManyMore 0 (λ read. gave s read s) (λ shown. took w shown w) v pieces cs text
  many_none gave_nothing took_nothing s w v pieces cs text done = record {
    read = [];
    chunks = [];
    shown = [];
    gave = gave_nothing s;
    took = took_nothing w;
    as_many = refl;
    done = done_at v pieces (pieces ++ []) cs (cs ++ []) text (text ++ []) (sym (append-nil pieces)) (sym (append-nil cs)) (sym (append-nil text)) done;
  }

  module _ (gave_more : (a b c : S) (xs ys : List (List ℕ)) → gave a xs b → gave b ys c → gave a (xs ++ ys) c)
      (took_more : (a b c : W) (xs ys : List ℕ) → took a xs b → took b ys c → took a (xs ++ ys) c) where
    pub many_more : (s s1 s2 : S) (w w1 w2 : W) (count next : ℕ) (v1 v2 : SessionValue) (read pieces cs : List (List ℕ)) (more text : List ℕ) → next ≡ count + 1
        → HasManyMore count (λ read. gave s read s1) (λ shown. took w shown w1) v1 pieces cs text
        → gave s1 read s2 → took w1 more w2 → AddsOne v1 v2 read more
        → HasManyMore next (λ read. gave s read s2) (λ shown. took w shown w2) v2 pieces cs text
    many_more s s1 s2 w w1 w2 count next v1 v2 read pieces cs more text next_is before given wrote one = record {
      read = before.read ++ read;
      chunks = before.chunks ++ one.chunk ∷ [];
      shown = before.shown ++ more;
      gave = gave_more s s1 s2 before.read read before.gave given;
      took = took_more w w1 w2 before.shown more before.took wrote;
      as_many = length-append before.chunks (one.chunk ∷ []) ∙ ap (λ n. n + 1) before.as_many ∙ sym next_is;
      done = done_at v2 _ _ _ _ _ _ (append_assoc pieces before.read read) (append_assoc cs before.chunks (one.chunk ∷ [])) (append_assoc text before.shown more)
          (one.done (pieces ++ before.read) (cs ++ before.chunks) (text ++ before.shown) before.done);
    }

    -- and then the end
    pub come_to : (s s1 s2 : S) (w w1 w2 : W) (taken count : ℕ) (v1 v2 : SessionValue) (read pieces cs : List (List ℕ)) (text : List ℕ) → taken < count
        → HasManyMore taken (λ read. gave s read s1) (λ shown. took w shown w1) v1 pieces cs text
        → gave s1 read s2 → w2 ≡ w1 → (over : EndsRun v1 v2 read)
        → HasComeTo count over.end (λ read. gave s read s2) (λ shown. took w shown w2) v2 pieces cs text
    come_to s s1 s2 w w1 w2 taken count v1 v2 read pieces cs text less before given same over =
        let all_read = append_assoc pieces before.read read in
        let outcome = over.outcome (pieces ++ before.read) (cs ++ before.chunks) (text ++ before.shown) before.done in
        record {
          read = before.read ++ read;
          chunks = before.chunks;
          shown = before.shown;
          gave = gave_more s s1 s2 before.read read before.gave given;
          took = subst (λ x. took w before.shown x) (sym same) before.took;
          fewer = subst (λ n. n < count) (sym before.as_many) less;
          reads = subst (λ ps. AreReads v2.home v2.passes v2.options ps) all_read outcome.0;
          ended = subst (λ ps. HasEnded v2 over.end ps (cs ++ before.chunks) (text ++ before.shown)) all_read outcome.1;
        }

    -- or a fault
    pub met_fault : (s s1 s2 : S) (w w1 w2 : W) (taken count : ℕ) (v1 v2 : SessionValue) (fault : RunFault) (read pieces cs : List (List ℕ)) (shown text : List ℕ) → taken < count
        → HasManyMore taken (λ read. gave s read s1) (λ shown. took w shown w1) v1 pieces cs text
        → gave s1 read s2 → took w1 shown w2 → IsSameRun v1 v2
        → AreNeeded v1.options.max_statement v1.ahead.bytes read → length (v1.ahead.bytes ++ concat read) ≤ v1.options.max_statement + 8192
        → IsLeftByFault v1 v2 read shown fault → (fault ≢ WriteFailed → shown ≡ [])
        → HasMetFault count fault (λ read. gave s read s2) (λ shown. took w shown w2) v2 pieces cs text
    met_fault s s1 s2 w w1 w2 taken count v1 v2 fault read pieces cs shown text less before given wrote same needed few left unwritten =
        let all_read = append_assoc pieces before.read read in
        let shows = before.shown ++ shown in
        record {
          read = before.read;
          chunks = before.chunks;
          shown = before.shown;
          before = v1;
          same = same;
          fewer = subst (λ n. n < count) (sym before.as_many) less;
          done = before.done;
          last = read;
          cut = shown;
          left = left;
          unwritten = unwritten;
          gave = gave_more s s1 s2 before.read read before.gave given;
          took = took_more w w1 w2 before.shown shown before.took wrote;
          reads = subst (λ ps. AreReads v2.home v2.passes v2.options ps) all_read
              (fault_reads v1 v2 fault v2.home v2.passes v2.options (pieces ++ before.read) (cs ++ before.chunks) read (text ++ before.shown) shown
              (sym same.home) (sym same.passes) (sym same.options) before.done (record { needed = needed; few = few }) left);
          stopped = subst (λ ps. IsStopped (run_in v2) v2.options ps (text ++ shows) fault) all_read
              (subst (λ t. IsStopped (run_in v2) v2.options ((pieces ++ before.read) ++ read) t fault) (append_assoc text before.shown shown)
              (stops_by_fault v1 v2 fault v2.home v2.passes v2.options (pieces ++ before.read) (cs ++ before.chunks) read (text ++ before.shown) shown
              (sym same.home) (sym same.passes) (sym same.options) before.done same left unwritten));
        }

-- a step that took a chunk was made of a session that went on
pub was_going : (s : SessionState) (result : Result Step RunFault) → (s ≡ Stopped → result ≡ Err fault.Stopped) → ((end : End) → s ≡ Ended end → result ≡ Ok step.End) → result ≡ Ok step.More → s ≡ Going
was_going Going result stopped ended more = refl
was_going (Ended end) result stopped ended more = absurd (more_is_no_end result more (ended end refl))
was_going Stopped result stopped ended more = absurd (ok_is_no_err result _ _ more (stopped refl))
