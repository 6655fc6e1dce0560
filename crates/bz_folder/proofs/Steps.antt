-- The steps of a replacement.
use Rattle.std.proofs.Common.{◌≡◌, ◌≢◌, ◌⊎◌, ℕ, false, List, [], ◌∷◌, ◌++◌, Result, Ok, Err, is_ok, OnOk, OnErr, IsErrAnd, refl, sym, ◌∙◌, ap, subst, inl, inr, ⊎_elim, append-nil}
use Rattle.std.specs.Prelude.{⊤}
use Rattle.bz_folder.specs.Files.{Files, Make, Write, Remove, Event, SameBut, HasBytes, After, Along, AnyFails}
use Rattle.bz_folder.specs.Moments.{along_weaker, at_one, at_append, any_right}
use Rattle.bz_folder.specs.private.Steps.{IsSent}
use Rattle.bz_folder.specs.DraftValue.{DraftValue, HasSent, IsTextAt, IsText, Sent}
use Rattle.bz_folder.specs.declared.draft.DraftState.{DraftState}
use Rattle.bz_folder.specs.declared.draft.DraftState.TheVariants.{Unmade, Made, Broken}
use Rattle.bz_devices.specs.declared.device.Failed.{Failed}

abbrev IsBroken : DraftState → Type 0
IsBroken Unmade = ⊥
IsBroken Made = ⊥
IsBroken Broken = ⊤

abbrev IsUnmade : DraftState → Type 0
IsUnmade Unmade = ⊤
IsUnmade Made = ⊥
IsUnmade Broken = ⊥

unmade-not-broken : Unmade ≢ Broken
unmade-not-broken k = subst IsBroken (sym k) tt

made-not-broken : Made ≢ Broken
made-not-broken k = subst IsBroken (sym k) tt

pub made-not-unmade : Made ≢ Unmade
made-not-unmade k = subst IsUnmade (sym k) tt

pub broken-not-unmade : Broken ≢ Unmade
broken-not-unmade k = subst IsUnmade (sym k) tt

-- a file is made in place of what lies there
pub makes : (path : List ℕ) (removed made : Result ⊤ Failed) → IsSent Unmade path [] made ((Remove path, is_ok removed) ∷ (Make path, is_ok made) ∷ [])
makes path removed made = record { written = written made; whole = on_ok made; cause = cause made }
  where
    on_ok : (made : Result ⊤ Failed) → OnOk made (Unmade ≢ Broken)
    on_ok (Ok x) = unmade-not-broken
    on_ok (Err x) = tt

    there : (made : Result ⊤ Failed) (sent : List ℕ) → sent ≡ [] → (now m : Files) → After (Make path) (is_ok made) now m → OnOk made (HasBytes path (sent ++ []) m)
    there (Ok x) sent e now m h = subst (λ s. HasBytes path (s ++ []) m) (sym e) h.0
    there (Err x) sent e now m h = tt

    written : (made : Result ⊤ Failed) (sent : List ℕ) (start : Files) → sent ≡ []
        → Along (SameBut path start) (λ now. OnOk made (HasBytes path (sent ++ []) now)) ((Remove path, is_ok removed) ∷ (Make path, is_ok made) ∷ []) start
    written made sent start e =
        at_append path (λ m. ⊤) (λ now. OnOk made (HasBytes path (sent ++ []) now)) ((Remove path, is_ok removed) ∷ []) ((Make path, is_ok made) ∷ []) start
        (at_one path (λ m. ⊤) (Remove path) (is_ok removed) start refl (λ m h. tt))
        (λ m q. at_one path (λ now. OnOk made (HasBytes path (sent ++ []) now)) (Make path) (is_ok made) m refl (there made sent e m))

    cause : (made : Result ⊤ Failed) → OnErr made ((Unmade ≡ Broken) ⊎ AnyFails ((Remove path, is_ok removed) ∷ (Make path, is_ok made) ∷ []))
    cause (Ok x) = tt
    cause (Err x) = inr (inr (inl refl))

-- where it could not be made, what lies there is removed, and it is made again
pub makes_again : (path : List ℕ) (first removed made : Result ⊤ Failed)
    → IsSent Unmade path [] made ((Make path, is_ok first) ∷ (Remove path, is_ok removed) ∷ (Make path, is_ok made) ∷ [])
makes_again path first removed made = record { written = written; whole = then.whole; cause = cause made then.cause }
  where
    rest : List Event
    rest = (Remove path, is_ok removed) ∷ (Make path, is_ok made) ∷ []

    then : IsSent Unmade path [] made rest
    then = makes path removed made

    written : (sent : List ℕ) (start : Files) → sent ≡ []
        → Along (SameBut path start) (λ now. OnOk made (HasBytes path (sent ++ []) now)) ((Make path, is_ok first) ∷ rest) start
    written sent start e =
        at_append path (λ m. ⊤) (λ now. OnOk made (HasBytes path (sent ++ []) now)) ((Make path, is_ok first) ∷ []) rest start
        (at_one path (λ m. ⊤) (Make path) (is_ok first) start refl (λ m h. tt))
        (λ m q. then.written sent m e)

    cause : (made : Result ⊤ Failed) → OnErr made ((Unmade ≡ Broken) ⊎ AnyFails ((Remove path, is_ok removed) ∷ (Make path, is_ok made) ∷ []))
        → OnErr made ((Unmade ≡ Broken) ⊎ AnyFails ((Make path, is_ok first) ∷ (Remove path, is_ok removed) ∷ (Make path, is_ok made) ∷ []))
    cause (Ok x) h = tt
    cause (Err x) h = ⊎_elim (λ b. inl b) (λ a. inr (inr a)) h

-- what lies there could not be removed
pub makes_nothing : (path : List ℕ) (first removed result : Result ⊤ Failed) (P : Failed → Type 0) → IsErrAnd result P → is_ok first ≡ false
    → IsSent Unmade path [] result ((Make path, is_ok first) ∷ (Remove path, is_ok removed) ∷ [])
makes_nothing path first removed (Ok x) P h fails = absurd h
makes_nothing path first removed (Err x) P h fails = record {
  written = λ sent start e.
      at_append path (λ m. ⊤) (λ m. ⊤) ((Make path, is_ok first) ∷ []) ((Remove path, is_ok removed) ∷ []) start
      (at_one path (λ m. ⊤) (Make path) (is_ok first) start refl (λ m h. tt))
      (λ m q. at_one path (λ m. ⊤) (Remove path) (is_ok removed) m refl (λ n h. tt));
  whole = tt;
  cause = inr (inl fails);
}

-- bytes are written after those that are there
pub sends : (state : DraftState) (path bytes : List ℕ) (es : List Event) (before after : Result ⊤ Failed) → (x : ⊤) → before ≡ Ok x
    → IsSent state path [] before es → IsSent state path bytes after (es ++ (Write path bytes, is_ok after) ∷ [])
sends state path bytes es before after x e h = record {
  written = λ sent start k.
      at_append path (λ now. OnOk before (HasBytes path (sent ++ []) now)) (λ now. OnOk after (HasBytes path (sent ++ bytes) now)) es ((Write path bytes, is_ok after) ∷ []) start
      (h.written sent start k)
      (λ m q. at_one path (λ now. OnOk after (HasBytes path (sent ++ bytes) now)) (Write path bytes) (is_ok after) m refl
      (λ n a. there after sent m n (subst (λ l. HasBytes path l m) (append-nil sent) (subst (λ r. OnOk r (HasBytes path (sent ++ []) m)) e q)) a));
  whole = whole after;
  cause = cause after;
}
  where
    whole : (after : Result ⊤ Failed) → OnOk after (state ≢ Broken)
    whole (Ok y) = subst (λ r. OnOk r (state ≢ Broken)) e h.whole
    whole (Err y) = tt

    there : (after : Result ⊤ Failed) (sent : List ℕ) (m n : Files) → HasBytes path sent m → After (Write path bytes) (is_ok after) m n → OnOk after (HasBytes path (sent ++ bytes) n)
    there (Ok x) sent m n k a = a.0 sent k
    there (Err x) sent m n k a = tt

    cause : (after : Result ⊤ Failed) → OnErr after ((state ≡ Broken) ⊎ AnyFails (es ++ (Write path bytes, is_ok after) ∷ []))
    cause (Ok x) = tt
    cause (Err x) = inr (any_right es ((Write path bytes, false) ∷ []) (inl refl))

-- where the file could not be made, nothing is written
pub sends_nothing : (state : DraftState) (path bytes : List ℕ) (es : List Event) (before after : Result ⊤ Failed) (P : Failed → Type 0) → (e : Failed) → before ≡ Err e
    → IsErrAnd after P → IsSent state path [] before es → IsSent state path bytes after es
sends_nothing state path bytes es before (Ok x) P e b k h = absurd k
sends_nothing state path bytes es before (Err f) P e b k h = record {
  written = λ sent start s. along_weaker (SameBut path start) (SameBut path start) (λ now. OnOk before (HasBytes path (sent ++ []) now)) (λ now. ⊤) (λ m a. a) (λ m a l. tt) es start (h.written sent start s);
  whole = tt;
  cause = subst (λ r. OnErr r ((state ≡ Broken) ⊎ AnyFails es)) b h.cause;
}

-- what the temporary file has at a state where the draft has a text
has_sent : (state : DraftState) (temporary waiting text : List ℕ) (start : Files) → IsTextAt state temporary waiting text start
    → (sent : List ℕ) × HasSent state temporary sent start × (state ≢ Broken → sent ++ waiting ≡ text)
has_sent Unmade temporary waiting text start t = ([], refl, λ n. t)
has_sent Made temporary waiting text start t = (t.0, t.1, λ n. t.2)
has_sent Broken temporary waiting text start t = ([], tt, λ n. absurd (n refl))

module _ {D : Type 0} (did : D → List Event → D → Type 0) (old : DraftValue D) (folder : D) (failures : ℕ) (path bytes waiting : List ℕ)
    (same_path : path ≡ old.temporary) (same_bytes : bytes ≡ old.waiting) (es : List Event) (result : Result ⊤ Failed)
    (calls : did old.folder es folder) (sent : IsSent old.state path bytes result es) where
  -- the calls change the temporary file alone
  along : (start : Files) (text : List ℕ) → IsText old text start → (Last : Files → Type 0)
      → ((s : List ℕ) → (old.state ≢ Broken → s ++ old.waiting ≡ text) → (m : Files) → OnOk result (HasBytes old.temporary (s ++ old.waiting) m) → Last m)
      → Along (SameBut old.temporary start) Last es start
  along start text t Last f =
      let s = has_sent old.state old.temporary old.waiting text start t in
      let w : Along (SameBut path start) (λ now. OnOk result (HasBytes path (s.0 ++ bytes) now)) es start
      = sent.written s.0 start (subst (λ p. HasSent old.state p s.0 start) (sym same_path) s.1) in
      along_weaker (SameBut path start) (SameBut old.temporary start) (λ now. OnOk result (HasBytes path (s.0 ++ bytes) now)) Last
      (λ m a. subst (λ p. SameBut p start m) same_path a)
      (λ m a q. f s.0 s.2 m (subst (λ p. OnOk result (HasBytes p (s.0 ++ old.waiting) m)) same_path (subst (λ b. OnOk result (HasBytes path (s.0 ++ b) m)) same_bytes q)))
      es start w

  -- the bytes that waited were written
  pub spilled : (x : ⊤) → result ≡ Ok x → waiting ≡ []
      → Sent did old (record { folder = folder; temporary = old.temporary; state = Made; waiting = waiting; failures = failures }) []
  spilled x e none = record {
    events = es;
    made = calls;
    same_path = refl;
    written = λ text start t. along start text t _ (λ s whole m q. (
      s ++ old.waiting,
      subst (λ r. OnOk r (HasBytes old.temporary (s ++ old.waiting) m)) e q,
      ap (λ l. (s ++ old.waiting) ++ l) none ∙ ap (λ l. l ++ []) (whole (subst (λ r. OnOk r (old.state ≢ Broken)) e sent.whole)),
    ));
    cause = λ k. absurd (made-not-broken k);
    unmade = λ k. absurd (made-not-unmade k);
  }

  -- they were not
  pub broken : (x : Failed) → result ≡ Err x
      → Sent did old (record { folder = folder; temporary = old.temporary; state = Broken; waiting = old.waiting; failures = failures }) []
  broken x e = record {
    events = es;
    made = calls;
    same_path = refl;
    written = λ text start t. along start text t (λ m. ⊤) (λ s whole m q. tt);
    cause = λ k. subst (λ r. OnErr r ((old.state ≡ Broken) ⊎ AnyFails es)) e sent.cause;
    unmade = λ k. absurd (broken-not-unmade k);
  }
