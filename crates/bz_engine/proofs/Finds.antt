-- What searches for the next chunk answer in a run, one after another.
use Rattle.bz_memory.specs.NoMemory.{no_memory}
use Rattle.std.proofs.Common.{◌≡◌, ◌≢◌, ℕ, ◌≤◌, ◌+◌, List, [], ◌++◌, length, append-nil, refl, sym, ap, ◌∙◌, subst, Result, Ok, Err, inl, inr}
use Rattle.std.specs.List.{concat}
use Rattle.bz_devices.specs.declared.limits.Limits.{Limits}
use Rattle.bz_devices.specs.declared.ahead.ChunkFault.{ChunkFault}
use Rattle.bz_devices.specs.declared.ahead.ChunkFault.TheVariants as chunk
use Rattle.bz_devices.specs.Ahead.{Ahead, IsReadOn}
use Rattle.bz_devices.specs.Search.{Searches}
use Rattle.bz_devices.proofs.ReadOn.{read_nothing, read_then, needed_then, rises_from}
use Rattle.bz_engine.specs.declared.options.Options.{Options}
use Rattle.bz_engine.specs.declared.run_fault.RunFault.{RunFault}
use Rattle.bz_engine.specs.declared.run_fault.RunFault.TheVariants.{OutOfMemory, ReadFailed, WriteFailed, InputTooLong, StatementTooLong, Stopped}
use Rattle.bz_engine.specs.private.ChunkFaults.{fault_at}
use Rattle.bz_engine.specs.private.Finds.{AreFew, Finds}

pub no_err : {T E : Type 0} (x : T) (e : E) → (let r : Result T E = Ok x in r) ≢ Err e
no_err x e h = cc

other_type : {A B E : Type 0} (e f : E) → (let r : Result A E = Err e in r) ≡ Err f → (let r : Result B E = Err e in r) ≡ Err f
other_type e f h = cc

same_line : {T : Type 0} (line at : ℕ) → (let r : Result T RunFault = Err (StatementTooLong line) in r) ≡ Err (StatementTooLong at) → at ≡ line
same_line line at h = cc

module _ {S : Type 0} (gave : S → List (List ℕ) → S → Type 0) (failures : S → ℕ) (options : Options) (line : ℕ) where
  -- a search that goes on
  abbrev pub Found : S → S → Ahead → Ahead → Type 0
  Found source after old new = Finds gave failures options line source after old new (let r : Result (Unit {0}) RunFault = Ok tt in r)

  -- what stood ahead and what was read then
  few : {old new : Ahead} {pieces : List (List ℕ)} → IsReadOn options.max_reads old new pieces → length new.bytes ≤ options.max_statement + 8192
      → length (old.bytes ++ concat pieces) ≤ options.max_statement + 8192
  few on bound = subst (λ l. length l ≤ options.max_statement + 8192) on.bytes bound

  -- a chunk, or that there is none, is no fault
  unfoldable pub finds_ok : {T : Type 0} (x : T) (source after : S) (old new : Ahead)
      → ((pieces : List (List ℕ)) × gave source pieces after × IsReadOn options.max_reads old new pieces × AreFew options.max_statement old.bytes pieces)
      → length new.bytes ≤ options.max_statement + 8192 → failures after ≡ failures source
      → Finds gave failures options line source after old new (let r : Result T RunFault = Ok x in r)
  finds_ok x source after old new read bound steady = record {
    read = read;
    bound = bound;
    too_long = λ h. absurd (no_err x InputTooLong h);
    statement_too_long = λ at h. absurd (no_err x (StatementTooLong at) h);
    unread = λ h. absurd (no_err x ReadFailed h);
    failed = λ h. absurd (no_err x ReadFailed h);
    steady = λ _. steady;
    runs = (no_err x Stopped, no_err x WriteFailed);
  }

  unfoldable pub finds_nothing : {T : Type 0} (x : T) (source : S) (ahead : Ahead) → gave source [] source → ahead.reads ≤ options.max_reads
      → length ahead.bytes ≤ options.max_statement + 8192
      → Finds gave failures options line source source ahead ahead (let r : Result T RunFault = Ok x in r)
  finds_nothing x source ahead none made bound = finds_ok x source source ahead ahead
      ([], none, read_nothing options.max_reads ahead made, record { needed = tt; few = subst (λ l. length l ≤ options.max_statement + 8192) (sym (append-nil ahead.bytes)) bound }) bound refl

  pub finds_found : {A T : Type 0} (x : A) (y : T) (source after : S) (old new : Ahead)
      → Finds gave failures options line source after old new (let r : Result A RunFault = Ok x in r)
      → Finds gave failures options line source after old new (let r : Result T RunFault = Ok y in r)
  finds_found x y source after old new before = finds_ok y source after old new before.read before.bound (before.steady (no_err x ReadFailed))

  -- one search after another
  pub finds_then : {A T : Type 0} (x : A) (result : Result T RunFault) (a b c : S) (first second third : Ahead)
      → ((a b c : S) (xs ys : List (List ℕ)) → gave a xs b → gave b ys c → gave a (xs ++ ys) c)
      → Finds gave failures options line a b first second (let r : Result A RunFault = Ok x in r)
      → Finds gave failures options line b c second third result → Finds gave failures options line a c first third result
  finds_then x result a b c first second third more before next =
      let steady = before.steady (no_err x ReadFailed) in
      record {
        read = (
          before.read.0 ++ next.read.0,
          more a b c before.read.0 next.read.0 before.read.1 next.read.1,
          read_then options.max_reads first second third before.read.0 next.read.0 before.read.2 next.read.2,
          record {
            needed = needed_then options.max_reads options.max_statement first second before.read.0 next.read.0 before.read.2 before.read.3.needed next.read.3.needed;
            few = few (read_then options.max_reads first second third before.read.0 next.read.0 before.read.2 next.read.2) next.bound;
          },
        );
        bound = next.bound;
        too_long = next.too_long;
        statement_too_long = next.statement_too_long;
        unread = next.unread;
        failed = λ h. rises_from _ _ _ steady (next.failed h);
        steady = λ h. next.steady h ∙ steady;
        runs = next.runs;
      }

  -- a fault is passed on
  pub finds_failed : {A T : Type 0} (result : Result T RunFault) (e f : RunFault) (source after : S) (old new : Ahead)
      → result ≡ Err e → e ≡ f
      → Finds gave failures options line source after old new (let r : Result A RunFault = Err f in r)
      → Finds gave failures options line source after old new result
  finds_failed {A = A} {T = T} result e f source after old new is same before =
      let told = λ (k : RunFault) (h : result ≡ Err k). other_type {B = A} f k (ap Err (sym same) ∙ sym is ∙ h) in
      let back = λ (k : RunFault) (h : (let r : Result A RunFault = Err f in r) ≡ Err k). is ∙ ap Err same ∙ other_type {B = T} f k h in
      record {
        read = before.read;
        bound = before.bound;
        too_long = λ h. before.too_long (told InputTooLong h);
        statement_too_long = λ at h. before.statement_too_long at (told (StatementTooLong at) h);
        unread = λ h. before.unread (told ReadFailed h);
        failed = λ h. before.failed (told ReadFailed h);
        steady = λ h. before.steady (λ k. h (back ReadFailed k));
        runs = (λ h. before.runs.0 (told Stopped h), λ h. before.runs.1 (told WriteFailed h));
      }

  -- memory failed then
  pub finds_memory : {A T : Type 0} (x : A) (result : Result T RunFault) (source after : S) (old new : Ahead) → result ≡ Err (OutOfMemory no_memory)
      → Finds gave failures options line source after old new (let r : Result A RunFault = Ok x in r)
      → Finds gave failures options line source after old new result
  finds_memory {A = A} {T = T} x result source after old new is before =
      let memory : Finds gave failures options line source after old new (let r : Result A RunFault = Err (OutOfMemory no_memory) in r) = record {
        read = before.read;
        bound = before.bound;
        too_long = λ h. absurd cc;
        statement_too_long = λ at h. absurd cc;
        unread = λ h. absurd cc;
        failed = λ h. absurd cc;
        steady = λ _. before.steady (no_err x ReadFailed);
        runs = (λ h. cc, λ h. cc);
      } in
      finds_failed result (OutOfMemory no_memory) (OutOfMemory no_memory) source after old new is refl memory

  abbrev limits : Limits
  limits = record { statement = options.max_statement; reads = options.max_reads }

  -- what a search in an input answers
  pub finds_as : {A T : Type 0} (x : A) (y : T) (source after : S) (old new : Ahead)
      → Searches gave failures limits source after old new (let r : Result A ChunkFault = Ok x in r)
      → Finds gave failures options line source after old new (let r : Result T RunFault = Ok y in r)
  finds_as x y source after old new s = finds_ok y source after old new (s.pieces, s.given, s.read, record { needed = s.needed; few = few s.read s.bound }) s.bound (s.counted.1 (no_err x chunk.ReadFailed))

  pub finds_no : {A T : Type 0} (fault : ChunkFault) (source after : S) (old new : Ahead)
      → Searches gave failures limits source after old new (let r : Result A ChunkFault = Err fault in r)
      → Finds gave failures options line source after old new (let r : Result T RunFault = Err (fault_at line fault) in r)
  finds_no (chunk.OutOfMemory _) source after old new s = record {
    read = (s.pieces, s.given, s.read, record { needed = s.needed; few = few s.read s.bound });
    bound = s.bound;
    too_long = λ h. absurd cc;
    statement_too_long = λ at h. absurd cc;
    unread = λ h. absurd cc;
    failed = λ h. absurd cc;
    steady = λ _. s.counted.1 (λ h. cc);
    runs = (λ h. cc, λ h. cc);
  }
  finds_no chunk.ReadFailed source after old new s = record {
    read = (s.pieces, s.given, s.read, record { needed = s.needed; few = few s.read s.bound });
    bound = s.bound;
    too_long = λ h. absurd cc;
    statement_too_long = λ at h. absurd cc;
    unread = λ _.
        let there = s.open_ahead (inr refl) in
        record { going = there.going; undecided = there.undecided };
    failed = λ _. s.counted.0 refl;
    steady = λ h. absurd (h refl);
    runs = (λ h. cc, λ h. cc);
  }
  finds_no chunk.InputTooLong source after old new s =
      let there = s.open_ahead (inl refl) in
      record {
        read = (s.pieces, s.given, s.read, record { needed = s.needed; few = few s.read s.bound });
        bound = s.bound;
        too_long = λ _. (s.made refl, record { going = there.going; undecided = there.undecided });
        statement_too_long = λ at h. absurd cc;
        unread = λ h. absurd cc;
        failed = λ h. absurd cc;
        steady = λ _. s.counted.1 (λ h. cc);
        runs = (λ h. cc, λ h. cc);
      }
  finds_no chunk.StatementTooLong source after old new s = record {
    read = (s.pieces, s.given, s.read, record { needed = s.needed; few = few s.read s.bound });
    bound = s.bound;
    too_long = λ h. absurd cc;
    statement_too_long = λ at h. (same_line line at h, s.too_long refl);
    unread = λ h. absurd cc;
    failed = λ h. absurd cc;
    steady = λ _. s.counted.1 (λ h. cc);
    runs = (λ h. cc, λ h. cc);
  }
