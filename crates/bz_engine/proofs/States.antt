-- States and answers that differ, and what a session keeps from one call to the next.
use Rattle.std.proofs.Common.{◌≡◌, ℕ, ◌+◌, ◌≤◌, Bool, true, false, List, take, sym, ◌∙◌, ap, subst}
use Rattle.std.specs.Prelude.{Result, Err, OnOk, IfOk}
use Rattle.std.proofs.lemmas.Bool.{false≢true}
use Rattle.bz_engine.specs.declared.report.End.{End}
use Rattle.bz_engine.specs.declared.run_fault.RunFault.{RunFault}
use Rattle.bz_engine.specs.declared.run_fault.RunFault.TheVariants as fault
use Rattle.bz_engine.specs.declared.session.SessionState.{SessionState}
use Rattle.bz_engine.specs.declared.session.SessionState.TheVariants.{Going, Ended, Stopped}
use Rattle.bz_devices.specs.Ahead.{Ahead, IsNextChunk}
use Rattle.bz_engine.specs.Progress.{Progress}
use Rattle.bz_engine.specs.declared.next_chunk.NextChunk.{NextChunk}
use Rattle.bz_engine.specs.private.Edits.{EditsChunk}
use Rattle.bz_engine.specs.private.NextChunks.{IsFirstEdited, IsNextEdited}
use Rattle.bz_engine.specs.SessionValue.{SessionValue, run_in}

abbrev is_going : SessionState → Bool
is_going Going = true
is_going (Ended end) = false
is_going Stopped = false

abbrev is_stopped : SessionState → Bool
is_stopped Going = false
is_stopped (Ended end) = false
is_stopped Stopped = true

pub going_not_ended : {X : Type 0} (s : SessionState) (end : End) → s ≡ Going → s ≡ Ended end → X
going_not_ended s end going ended = absurd (false≢true (sym (ap is_going ended) ∙ ap is_going going))

pub going_not_stopped : {X : Type 0} (s : SessionState) → s ≡ Going → s ≡ Stopped → X
going_not_stopped s going stopped = absurd (false≢true (sym (ap is_going stopped) ∙ ap is_going going))

pub ended_not_stopped : {X : Type 0} (s : SessionState) (end : End) → s ≡ Ended end → s ≡ Stopped → X
ended_not_stopped s end ended stopped = absurd (false≢true (sym (ap is_stopped ended) ∙ ap is_stopped stopped))

pub state_is : (v w : SessionValue) (s : SessionState) → v ≡ w → v.state ≡ s → w.state ≡ s
state_is v w s same is = sym (ap (λ x. x.state) same) ∙ is

abbrev is_stop : RunFault → Bool
is_stop (fault.OutOfMemory _) = false
is_stop fault.ReadFailed = false
is_stop fault.WriteFailed = false
is_stop fault.InputTooLong = false
is_stop (fault.StatementTooLong line) = false
is_stop fault.Stopped = true

-- a fault is no answer
pub err_on_ok : {T E : Type 0} (P : Type 0) (r : Result T E) (e : E) → r ≡ Err e → OnOk r P
err_on_ok P r e is = subst (λ s. OnOk s P) (sym is) tt

pub err_if_ok : {T E : Type 0} (P : T → Type 0) (r : Result T E) (e : E) → r ≡ Err e → IfOk r P
err_if_ok P r e is = subst (λ s. IfOk s P) (sym is) tt

-- nothing was read
pub with_ahead : (v w : SessionValue) → (let after : SessionValue = record v { progress = w.progress } in w ≡ after)
    → (let both : SessionValue = record v { ahead = w.ahead; progress = w.progress } in w ≡ both)
with_ahead v w is =
    let at : Ahead → SessionValue = λ a. record v { ahead = a; progress = w.progress } in
    is ∙ ap at (sym (ap (λ x. x.ahead) is))

-- more was read
pub with_more : (v e i : SessionValue) (mid : Ahead) → i ≡ e → (let after : SessionValue = record v { progress = e.progress } in e ≡ after)
    → (let read : SessionValue = record i { ahead = mid } in let both : SessionValue = record v { ahead = mid; progress = i.progress } in read ≡ both)
with_more v e i mid same is =
    let reads : SessionValue → SessionValue = λ x. record x { ahead = mid } in
    let at : Progress → SessionValue = λ p. record v { ahead = mid; progress = p } in
    ap reads (same ∙ is) ∙ ap at (sym (ap (λ x. x.progress) same))

-- and a chunk done
pub with_edit : (v i w : SessionValue) (mid : Ahead) (progress : Progress)
    → (let both : SessionValue = record v { ahead = mid; progress = progress } in i ≡ both)
    → (let after : SessionValue = record i { progress = w.progress } in w ≡ after)
    → (let both : SessionValue = record v { ahead = w.ahead; progress = w.progress } in w ≡ both)
with_edit v i w mid progress read is =
    let edits : SessionValue → SessionValue = λ x. record x { progress = w.progress } in
    let at : Ahead → SessionValue = λ a. record v { ahead = a; progress = w.progress } in
    is ∙ ap edits read ∙ ap at (sym (ap (λ x. x.ahead) (is ∙ ap edits read)))

pub next_edited : (v i w : SessionValue) (mid : Ahead) (before following : List ℕ) (next : NextChunk)
    → (let read : SessionValue = record v { ahead = mid } in i ≡ read)
    → (let after : SessionValue = record i { progress = w.progress } in w ≡ after)
    → IsNextChunk i.options.max_statement mid next.len → w.progress.line ≤ i.progress.line + next.len
    → EditsChunk (run_in i) (take next.len mid.bytes) i.progress w.progress before following next.edited
    → IsNextEdited v w before following next
next_edited v i w mid before following next read is chunk lines edited =
    let edits : SessionValue → SessionValue = λ x. record x { progress = w.progress } in
    let first : IsFirstEdited (run_in i) i.options.max_statement mid i.progress w.progress before following next =
    record { chunk = chunk; lines = lines; edited = edited } in
    subst (λ a. IsFirstEdited (run_in v) v.options.max_statement a v.progress w.progress before following next)
    (sym (ap (λ x. x.ahead) (is ∙ ap edits read)))
    (subst (λ x. IsFirstEdited (run_in x) x.options.max_statement mid x.progress w.progress before following next) read first)

-- and is as before, but for what is ahead
pub read_alone : (v l w x : SessionValue) (mid : Ahead) → (let after : SessionValue = record v { ahead = l.ahead } in l ≡ after)
    → (let after : SessionValue = record l { progress = w.progress } in w ≡ after) → w.progress ≡ l.progress → x ≡ w
    → (let read : SessionValue = record x { ahead = mid } in let after : SessionValue = record v { ahead = mid } in read ≡ after)
read_alone v l w x mid same is progress there =
    let reads : SessionValue → SessionValue = λ y. record y { ahead = mid } in
    let at : Progress → SessionValue = λ p. record l { progress = p } in
    ap reads (there ∙ is ∙ ap at progress ∙ same)
