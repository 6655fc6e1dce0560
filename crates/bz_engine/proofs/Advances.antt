-- A chunk that a session takes: it is done, it has a fault, or the run ends at its failure.
use Rattle.std.proofs.Common.{◌≡◌, ℕ, ◌<◌, ◌≤◌, Bool, true, false, List, [], ◌∷◌, ◌++◌, length, take, drop, take-append-drop, refl, sym, ◌∙◌, ap, subst, inr}
use Rattle.std.specs.Prelude.{Option, None, Some, Result, Ok, Err, IfSome, IfNone}
use Rattle.std.proofs.lemmas.Bool.{false≢true}
use Rattle.std.proofs.lemmas.List.{length-take-le}
use Rattle.bz_engine.specs.declared.run_fault.RunFault.{RunFault}
use Rattle.bz_engine.specs.declared.session.SessionState.{SessionState}
use Rattle.bz_engine.specs.declared.session.Step.{Step}
use Rattle.bz_engine.specs.declared.session.Step.TheVariants.{More}
use Rattle.bz_engine.specs.declared.session.Step.TheVariants as step
use Rattle.bz_engine.specs.declared.report.SyntaxFault.{SyntaxFault}
use Rattle.bz_engine.specs.declared.report.End.TheVariants.{Syntax, FirstFailure}
use Rattle.bz_engine.specs.declared.edit.Edited.{Edited}
use Rattle.bz_engine.specs.declared.edit.Edited.TheVariants.{Done, Faulty, Failed}
use Rattle.bz_devices.specs.Ahead.{Ahead, IsReadOn, IsNextChunk}
use Rattle.bz_engine.specs.Progress.{Progress}
use Rattle.bz_engine.specs.private.Edits.{EditsChunk}
use Rattle.bz_engine.specs.private.Finds.{AreFew}
use Rattle.bz_engine.specs.SessionSteps.{IsCutShort}
use Rattle.bz_engine.specs.Scripts.{AreCommands}
use Rattle.bz_engine.specs.SessionValue.{SessionValue, run_in, HasDone, HasEnded}
use Rattle.bz_engine.proofs.Sessions.{went_on, ended_fault, ended_failure}

-- what the script made of the chunk
abbrev EditsNext : SessionValue → Ahead → ℕ → Progress → List ℕ → List ℕ → Edited → Type 0
EditsNext v mid n after before following edited = EditsChunk (run_in v) (take n mid.bytes) v.progress after before following edited

edits_as : (v : SessionValue) (mid : Ahead) (n : ℕ) (after : Progress) (before following : List ℕ) (edited kind : Edited)
    → EditsNext v mid n after before following edited → before ≡ [] → edited ≡ kind → EditsNext v mid n after [] following kind
edits_as v mid n after before following edited kind edits none is =
    subst (EditsNext v mid n after [] following) is (subst (λ b. EditsNext v mid n after b following edited) none edits)

pub chunk_done : (v e f : SessionValue) (mid : Ahead) (before following : List ℕ) (edited : Edited) (max_reads most n : ℕ) (pieces cs read : List (List ℕ)) (text : List ℕ)
    → HasDone v pieces cs text → IsReadOn max_reads v.ahead mid read → AreFew v.options.max_statement v.ahead.bytes read → IsNextChunk most mid n → before ≡ []
    → (let after : SessionValue = record v { ahead = mid; progress = e.progress } in e ≡ after)
    → EditsNext v mid n e.progress before following edited → edited ≡ Done
    → (let taken : SessionValue = record e { ahead = record e.ahead { bytes = drop n e.ahead.bytes } } in f ≡ taken)
    → HasDone f (pieces ++ read) (cs ++ take n mid.bytes ∷ []) (text ++ following)
chunk_done v e f mid before following edited max_reads most n pieces cs read text done on needed next none at edits is taken =
    let takes : SessionValue → SessionValue = λ x. record x { ahead = record x.ahead { bytes = drop n x.ahead.bytes } } in
    subst (λ x. HasDone x (pieces ++ read) (cs ++ take n mid.bytes ∷ []) (text ++ following)) (sym (taken ∙ ap takes at))
    (went_on v mid e.progress max_reads most n pieces cs read text following done on needed next
    (edits_as v mid n e.progress before following edited Done edits none is cs done.statements done.kept))

pub chunk_faulty : (v e : SessionValue) (mid : Ahead) (before following : List ℕ) (edited : Edited) (fault : SyntaxFault) (max_reads n : ℕ) (pieces cs read : List (List ℕ)) (text : List ℕ)
    → AreCommands v.passes → HasDone v pieces cs text → IsReadOn max_reads v.ahead mid read → IsNextChunk v.options.max_statement mid n → before ≡ []
    → (let after : SessionValue = record v { ahead = mid; progress = e.progress } in e ≡ after)
    → EditsNext v mid n e.progress before following edited → edited ≡ Faulty fault
    → HasEnded e (Syntax fault) (pieces ++ read) cs text
chunk_faulty v e mid before following edited fault max_reads n pieces cs read text commands done on next none at edits is =
    let faulty = edits_as v mid n e.progress before following edited (Faulty fault) edits none is cs done.statements done.kept in
    let with_progress : Progress → SessionValue = λ p. record v { ahead = mid; progress = p } in
    subst (λ x. HasEnded x (Syntax fault) (pieces ++ read) cs text) (sym (at ∙ ap with_progress faulty.same))
    (ended_fault v mid fault max_reads n pieces cs read text commands done on next faulty.fault_is)

pub chunk_failed : (v e f : SessionValue) (mid : Ahead) (before following : List ℕ) (edited : Edited) (message : Option (List ℕ)) (max_reads n : ℕ) (pieces cs read : List (List ℕ)) (text : List ℕ)
    → AreCommands v.passes → HasDone v pieces cs text → IsReadOn max_reads v.ahead mid read → IsNextChunk v.options.max_statement mid n → before ≡ []
    → (let after : SessionValue = record v { ahead = mid; progress = e.progress } in e ≡ after)
    → EditsNext v mid n e.progress before following edited → edited ≡ Failed message
    → (let told : SessionValue = record e { failure = message } in f ≡ told)
    → HasEnded f FirstFailure (pieces ++ read) cs text
chunk_failed v e f mid before following edited message max_reads n pieces cs read text commands done on next none at edits is told =
    let tells : SessionValue → SessionValue = λ x. record x { failure = message } in
    subst (λ x. HasEnded x FirstFailure (pieces ++ read) cs text) (sym (told ∙ ap tells at))
    (ended_failure v mid e.progress message following max_reads n pieces cs read text commands done on next
    (edits_as v mid n e.progress before following edited (Failed message) edits none is cs done.statements done.kept))

-- a chunk was done, and its text was not written to its end
pub write_cut : (v e : SessionValue) (mid : Ahead) (before following : List ℕ) (edited : Edited) (max_reads most n k : ℕ) (pieces cs read : List (List ℕ)) (text : List ℕ)
    → HasDone v pieces cs text → IsReadOn max_reads v.ahead mid read → AreFew v.options.max_statement v.ahead.bytes read → IsNextChunk most mid n → before ≡ []
    → (let after : SessionValue = record v { ahead = mid; progress = e.progress } in e ≡ after)
    → EditsNext v mid n e.progress before following edited → edited ≡ Done
    → IsCutShort e (pieces ++ read) cs text (take k following)
write_cut v e mid before following edited max_reads most n k pieces cs read text done on needed next none at edits is =
    let left = drop n e.ahead.bytes in
    let taken : SessionValue = record e { ahead = record e.ahead { bytes = left } } in
    inr (
      following,
      record {
        chunk = take n mid.bytes;
        left = left;
        ahead_is = sym (take-append-drop n e.ahead.bytes) ∙ ap (λ x. take n x.ahead.bytes ++ left) at;
        done = chunk_done v e taken mid before following edited max_reads most n pieces cs read text done on needed next none at edits is refl;
      },
      (drop k following, sym (take-append-drop k following)),
    )

pub some_of : {X : Type 0} (P : X → Type 0) (found : Option X) (x : X) → IfSome found P → found ≡ Some x → P x
some_of P found x h is = subst (λ o. IfSome o P) is h

pub none_of : {X : Type 0} (P : Type 0) (found : Option X) → IfNone found P → found ≡ None → P
none_of P found h is = subst (λ o. IfNone o P) is h

-- a chunk has bytes
pub take_some : (n : ℕ) (bytes : List ℕ) → 0 < n → n ≤ length bytes → 0 < length (take n bytes)
take_some n bytes some within = subst (λ l. 0 < l) (sym (length-take-le n bytes within)) some

pub take_few : (n most : ℕ) (bytes : List ℕ) → n ≤ most → n ≤ length bytes → length (take n bytes) ≤ most
take_few n most bytes size within = subst (λ l. l ≤ most) (sym (length-take-le n bytes within)) size

-- what was done does not depend on the state
pub done_at_state : (v : SessionValue) (state : SessionState) (pieces cs : List (List ℕ)) (text : List ℕ) → HasDone v pieces cs text → HasDone (record v { state = state }) pieces cs text
done_at_state v state pieces cs text done = record {
  bytes = done.bytes;
  reads = done.reads;
  ended = done.ended;
  none_ends = done.none_ends;
  needed = done.needed;
  few = done.few;
  first = done.first;
  statements = done.statements;
  kept = done.kept;
  text_is = done.text_is;
  none_fails = done.none_fails;
}

-- which step an answer tells
abbrev is_more : Result Step RunFault → Bool
is_more (Ok More) = true
is_more (Ok step.End) = false
is_more (Err fault) = false

pub more_is_no_end : {X : Type 0} (r : Result Step RunFault) → r ≡ Ok More → r ≡ Ok step.End → X
more_is_no_end r more end = absurd (false≢true (sym (ap is_more end) ∙ ap is_more more))
