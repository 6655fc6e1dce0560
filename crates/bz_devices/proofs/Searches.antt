-- Searches for the next chunk, one after another.
use Rattle.std.proofs.Common.{◌≡◌, ◌≢◌, ℕ, ◌≤◌, ◌+◌, List, [], ◌++◌, length, false, refl, sym, subst, ap, ◌∙◌, arith, Result, Ok, Err, OnOk, ⊎_elim, inl, inr}
use Rattle.bz_devices.specs.declared.limits.Limits.{Limits}
use Rattle.bz_devices.specs.declared.ahead.ChunkFault.{ChunkFault}
use Rattle.bz_devices.specs.declared.ahead.ChunkFault.TheVariants.{ReadFailed, InputTooLong, StatementTooLong}
use Rattle.bz_devices.specs.Device.{Rises}
use Rattle.bz_devices.specs.Ahead.{Ahead, IsReadOn, IsTooLong, IsFewAfter, IsUndecided}
use Rattle.bz_devices.specs.Search.{Searches}
use Rattle.bz_devices.proofs.ReadOn.{read_nothing, read_then, needed_one, needed_then, rises_from}

no_err : {T E : Type 0} (x : T) (e : E) → (let r : Result T E = Ok x in r) ≢ Err e
no_err x e h = cc

other_type : {A B E : Type 0} (e f : E) → (let r : Result A E = Err e in r) ≡ Err f → (let r : Result B E = Err e in r) ≡ Err f
other_type e f h = cc

module _ {S : Type 0} (gave : S → List (List ℕ) → S → Type 0) (failures : S → ℕ) (limits : Limits) where
  -- a search that goes on
  abbrev pub Searched : S → S → Ahead → Ahead → Type 0
  Searched source after old new = Searches gave failures limits source after old new (let r : Result (Unit {0}) ChunkFault = Ok tt in r)

  -- nothing is read
  pub searches_nothing : {T : Type 0} (x : T) (source : S) (ahead : Ahead) → gave source [] source → ahead.reads ≤ limits.reads
      → IsFewAfter ahead → length ahead.bytes ≤ limits.statement + 8192
      → Searches gave failures limits source source ahead ahead (let r : Result T ChunkFault = Ok x in r)
  searches_nothing x source ahead none made few bound = record {
    pieces = [];
    given = none;
    read = read_nothing limits.reads ahead made;
    needed = tt;
    bound = bound;
    few = few;
    too_long = λ h. absurd (no_err x StatementTooLong h);
    made = λ h. absurd (no_err x InputTooLong h);
    open_ahead = λ h. absurd (⊎_elim (no_err x InputTooLong) (no_err x ReadFailed) h);
    counted = (λ h. absurd (no_err x ReadFailed h), λ _. refl);
  }

  -- one read was made
  pub searches_one : {T : Type 0} (x : T) (source after : S) (old new : Ahead) (pieces : List (List ℕ)) → gave source pieces after
      → IsReadOn limits.reads old new pieces → new.reads ≡ old.reads + 1 → IsUndecided limits.statement old.bytes
      → IsFewAfter new → length new.bytes ≤ limits.statement + 8192 → failures after ≡ failures source
      → Searches gave failures limits source after old new (let r : Result T ChunkFault = Ok x in r)
  searches_one x source after old new pieces given read one undecided few bound steady = record {
    pieces = pieces;
    given = given;
    read = read;
    needed = needed_one limits.reads limits.statement old new pieces read (omega (arith, one)) undecided;
    bound = bound;
    few = few;
    too_long = λ h. absurd (no_err x StatementTooLong h);
    made = λ h. absurd (no_err x InputTooLong h);
    open_ahead = λ h. absurd (⊎_elim (no_err x InputTooLong) (no_err x ReadFailed) h);
    counted = (λ h. absurd (no_err x ReadFailed h), λ _. steady);
  }

  -- a read was needed and gave nothing
  pub searches_in_vain : {T : Type 0} (fault : ChunkFault) (source after : S) (old new : Ahead) (pieces : List (List ℕ)) → gave source pieces after
      → IsReadOn limits.reads old new pieces → new ≡ old → old.ended ≡ false → IsUndecided limits.statement old.bytes
      → length old.bytes ≤ limits.statement + 8192
      → (let r : Result (Unit {0}) ChunkFault = Err fault in r) ≢ Err StatementTooLong
      → ((let r : Result (Unit {0}) ChunkFault = Err fault in r) ≡ Err InputTooLong → old.reads ≡ limits.reads)
      → ((let r : Result (Unit {0}) ChunkFault = Err fault in r) ≡ Err ReadFailed → Rises (failures source) (failures after))
      → ((let r : Result (Unit {0}) ChunkFault = Err fault in r) ≢ Err ReadFailed → failures after ≡ failures source)
      → Searches gave failures limits source after old new (let r : Result T ChunkFault = Err fault in r)
  searches_in_vain fault source after old new pieces given read same going undecided bound fitting made failed steady = record {
    pieces = pieces;
    given = given;
    read = read;
    needed = needed_one limits.reads limits.statement old new pieces read (omega (arith, ap (λ a. a.reads) same)) undecided;
    bound = omega (arith, bound, ap (λ a. length a.bytes) same);
    few = tt;
    too_long = λ h. absurd (fitting (other_type fault StatementTooLong h));
    made = λ h. ap (λ a. a.reads) same ∙ made (other_type fault InputTooLong h);
    open_ahead = λ _. record {
      going = ap (λ a. a.ended) same ∙ going;
      undecided = subst (λ a. IsUndecided limits.statement a.bytes) (sym same) undecided;
    };
    counted = (λ h. failed (other_type fault ReadFailed h), λ h. steady (λ k. h (other_type fault ReadFailed k)));
  }

  -- the next chunk is too long, and nothing is read
  pub searches_too_long : {T : Type 0} (source : S) (ahead : Ahead) → gave source [] source → ahead.reads ≤ limits.reads
      → length ahead.bytes ≤ limits.statement + 8192 → IsTooLong limits.statement ahead
      → Searches gave failures limits source source ahead ahead (let r : Result T ChunkFault = Err StatementTooLong in r)
  searches_too_long source ahead none made bound long = record {
    pieces = [];
    given = none;
    read = read_nothing limits.reads ahead made;
    needed = tt;
    bound = bound;
    few = tt;
    too_long = λ _. long;
    made = λ h. cc;
    open_ahead = λ h. absurd (⊎_elim (λ k. cc) (λ k. cc) h);
    counted = (λ h. cc, λ _. refl);
  }

  -- one search after another
  pub searches_then : {A T : Type 0} (x : A) (result : Result T ChunkFault) (a b c : S) (first second third : Ahead)
      → ((a b c : S) (xs ys : List (List ℕ)) → gave a xs b → gave b ys c → gave a (xs ++ ys) c)
      → Searches gave failures limits a b first second (let r : Result A ChunkFault = Ok x in r)
      → Searches gave failures limits b c second third result → Searches gave failures limits a c first third result
  searches_then x result a b c first second third more before next =
      let steady = before.counted.1 (no_err x ReadFailed) in
      record {
        pieces = before.pieces ++ next.pieces;
        given = more a b c before.pieces next.pieces before.given next.given;
        read = read_then limits.reads first second third before.pieces next.pieces before.read next.read;
        needed = needed_then limits.reads limits.statement first second before.pieces next.pieces before.read before.needed next.needed;
        bound = next.bound;
        few = next.few;
        too_long = next.too_long;
        made = next.made;
        open_ahead = next.open_ahead;
        counted = (λ h. rises_from _ _ _ steady (next.counted.0 h), λ h. next.counted.1 h ∙ steady);
      }

  -- what a search found is of no matter
  pub searches_found : {A T : Type 0} (x : A) (y : T) (source after : S) (old new : Ahead)
      → Searches gave failures limits source after old new (let r : Result A ChunkFault = Ok x in r)
      → Searches gave failures limits source after old new (let r : Result T ChunkFault = Ok y in r)
  searches_found x y source after old new before = record {
    pieces = before.pieces;
    given = before.given;
    read = before.read;
    needed = before.needed;
    bound = before.bound;
    few = before.few;
    too_long = λ h. absurd (no_err y StatementTooLong h);
    made = λ h. absurd (no_err y InputTooLong h);
    open_ahead = λ h. absurd (⊎_elim (no_err y InputTooLong) (no_err y ReadFailed) h);
    counted = (λ h. absurd (no_err y ReadFailed h), λ _. before.counted.1 (no_err x ReadFailed));
  }

  -- a fault is passed on
  pub searches_failed : {A T : Type 0} (result : Result T ChunkFault) (e f : ChunkFault) (source after : S) (old new : Ahead)
      → result ≡ Err e → e ≡ f
      → Searches gave failures limits source after old new (let r : Result A ChunkFault = Err f in r)
      → Searches gave failures limits source after old new result
  searches_failed {A = A} {T = T} result e f source after old new is same before =
      let told = λ (k : ChunkFault) (h : result ≡ Err k). other_type {B = A} f k (ap Err (sym same) ∙ sym is ∙ h) in
      let back = λ (k : ChunkFault) (h : (let r : Result A ChunkFault = Err f in r) ≡ Err k). is ∙ ap Err same ∙ other_type {B = T} f k h in
      record {
        pieces = before.pieces;
        given = before.given;
        read = before.read;
        needed = before.needed;
        bound = before.bound;
        few = subst (λ r. OnOk r (IsFewAfter new)) (sym is) tt;
        too_long = λ h. before.too_long (told StatementTooLong h);
        made = λ h. before.made (told InputTooLong h);
        open_ahead = λ h. before.open_ahead (⊎_elim (λ k. inl (told InputTooLong k)) (λ k. inr (told ReadFailed k)) h);
        counted = (λ h. before.counted.0 (told ReadFailed h), λ h. before.counted.1 (λ k. h (back ReadFailed k)));
      }
