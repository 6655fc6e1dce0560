-- The whole of a replacement.
use Rattle.bz_memory.specs.NoMemory.{no_memory}
use Rattle.std.proofs.Common.{◌≡◌, ◌⊎◌, ℕ, ◌+◌, ◌<◌, Bool, true, false, List, [], ◌++◌, length, None, Result, Ok, Err, IsErr, IfSome, refl, sym, ◌∙◌, subst, inl, inr, ⊎_elim, arith, OnOk, is_err}
use Rattle.std.proofs.lemmas.Bool.{false≢true}
use Rattle.std.specs.Prelude.{⊤}
use Rattle.bz_folder.specs.Files.{Files, Event, SameBut, Along, AnyFails}
use Rattle.bz_folder.specs.Paths.{temporary_path}
use Rattle.bz_folder.specs.Moments.{along_append, along_where, any_left, any_right}
use Rattle.bz_folder.specs.Replace.{IsSafe, IsEnd, IsCaused, ReplacesSafely, Replacement}
use Rattle.bz_folder.specs.private.Steps.{IsFinished, IsFinishCaused, wanted_of}
use Rattle.bz_folder.specs.DraftValue.{DraftValue, IsTextAt, IsText, Took, capacity}
use Rattle.bz_folder.proofs.Ends.{safe_of}
use Rattle.bz_folder.specs.declared.draft.DraftState.{DraftState}
use Rattle.bz_folder.specs.declared.draft.DraftState.TheVariants.{Unmade, Made, Broken}
use Rattle.bz_devices.specs.declared.device.Failed.{Failed}
use Rattle.bz_folder.specs.declared.trouble.Trouble.{Trouble}
use Rattle.bz_folder.specs.declared.trouble.Trouble.TheVariants.{OutOfMemory, Clean, LeftBehind}

module _ {D A : Type 0} (did : D → List Event → D → Type 0) (gives : A → List ℕ → Result Bool Failed → A → Type 0) (file : List ℕ) (mode : ℕ) where
  -- where there is no memory for the path, nothing is done
  pub replaces_nothing : ((s : D) → did s [] s) → (a b : D) (author : A) → b ≡ a → Replacement did gives a b author author file mode (Err (OutOfMemory no_memory))
  replaces_nothing nothing a b author same = record {
    wanted = None;
    events = [];
    made = subst (λ d. did a [] d) (sym same) (nothing a);
    kept = tt;
    safe = λ start. (record { whole = inl refl; others = λ p x y. refl }, (refl, inr refl));
    caused = refl;
  }

  module _ (more : (a b c : D) (es fs : List Event) → did a es b → did b fs c → did a (es ++ fs) c) (first begun taken : DraftValue D) (last : D) (author author_after : A)
      (same : begun.folder ≡ first.folder) (path : begun.temporary ≡ temporary_path file) (unmade : begun.state ≡ Unmade) (empty : begun.waiting ≡ [])
      (text : List ℕ) (took : Took did begun taken text) (answer : Result Bool Failed) (gave : gives author text answer author_after)
      (fs : List Event) (calls : did taken.folder fs last) (result : Result Bool Trouble) (end : IsFinished taken file mode answer result fs) where
    nothing_yet : (start : Files) → IsText begun [] start
    nothing_yet start = subst (λ g. IsTextAt g begun.temporary begun.waiting [] start) (sym unmade) empty

    safely : ReplacesSafely file (wanted_of answer text mode) result (took.sent.events ++ fs)
    safely start =
        let T : List ℕ = temporary_path file in
        let S : Files → Type 0 = IsSafe file (wanted_of answer text mode) start in
        let Last : Files → Type 0 = IsEnd file (wanted_of answer text mode) result start in
        let Mid : Files → Type 0 = λ m. IsText taken text m × (taken.state ≡ Unmade → m T ≡ start T) in
        let writes : Along (SameBut T start) (IsText taken text) took.sent.events start
        = subst (λ t. Along (SameBut t start) (IsText taken text) took.sent.events start) path (took.sent.written [] start (nothing_yet start)) in
        along_append (SameBut T start) S Mid Last took.sent.events fs start
        (λ m s. safe_of file (wanted_of answer text mode) start m s)
        (along_where (SameBut T start) (IsText taken text) (taken.state ≡ Unmade) T took.sent.events start (λ k. (took.sent.unmade k).1) writes)
        (λ m s q. end.safe text start m s q.1 q.0)

    keeps : (answer : Result Bool Failed) → gives author text answer author_after → IfSome (wanted_of answer text mode) (λ content. gives author content.0 (Ok true) author_after × (content.1 ≡ mode))
    keeps (Ok true) g = (g, refl)
    keeps (Ok false) g = tt
    keeps (Err e) g = tt

    abbrev Gave : Type 0
    Gave = (t : List ℕ) × (fault : Failed) × gives author t (Err fault) author_after

    from_answer : (answer : Result Bool Failed) → gives author text answer author_after → IsErr answer → Gave
    from_answer (Ok k) g h = absurd (false≢true h)
    from_answer (Err e) g h = (text, e, g)

    broke : taken.state ≡ Broken → AnyFails took.sent.events
    broke k = ⊎_elim (λ b. absurd (unmade-not-broken (sym unmade ∙ b))) (λ f. f) (took.sent.cause k)
      where
        IsUnmade : DraftState → Type 0
        IsUnmade Unmade = ⊤
        IsUnmade Made = ⊥
        IsUnmade Broken = ⊥

        unmade-not-broken : Unmade ≡ Broken → ⊥
        unmade-not-broken k = subst IsUnmade k tt

    causes : (result : Result Bool Trouble) → IsFinishCaused (IsErr answer ⊎ (taken.state ≡ Broken)) result fs → IsCaused Gave result (took.sent.events ++ fs)
    causes (Ok k) h = tt
    causes (Err (OutOfMemory _)) h = absurd h
    causes (Err Clean) h =
        ⊎_elim (λ f. inl (any_right took.sent.events fs f)) (λ b. ⊎_elim (λ e. inr (from_answer answer gave e)) (λ k. inl (any_left took.sent.events fs (broke k))) b) h
    causes (Err LeftBehind) h = any_right took.sent.events fs h

    made_all : (es : List Event) → did begun.folder es taken.folder → did first.folder (es ++ fs) last
    made_all es d = more first.folder taken.folder last es fs (subst (λ f. did f es taken.folder) same d) calls

    -- the calls of the author's writes and those after them
    pub replaces : Replacement did gives first.folder last author author_after file mode result
    replaces = record {
      wanted = wanted_of answer text mode;
      events = took.sent.events ++ fs;
      made = made_all took.sent.events took.sent.made;
      kept = keeps answer gave;
      safe = safely;
      caused = causes result end.cause;
    }

    -- what was put is what the author gave to be kept
    pub puts : result ≡ Ok true → (t : List ℕ) × gives author t (Ok true) author_after
    puts e = (text, subst (λ r. gives author text r author_after) (end.wanted e) gave)

    -- a short text that is not to be kept is written nowhere
    pub leaves : result ≡ Ok false → (t : List ℕ) × gives author t (Ok false) author_after × (length t < capacity → did first.folder [] last)
    leaves e =
        let a : answer ≡ Ok false = end.unwanted e in (
          text,
          subst (λ r. gives author text r author_after) a gave,
          λ few.
              let k : taken.state ≡ Unmade = (took.idle unmade (subst (λ w. length w + length text < capacity) (sym empty) (starts few))).0 in
              let none : took.sent.events ≡ [] = (took.sent.unmade k).1 in
              let after : fs ≡ [] = end.idle a k in
              subst (λ l. did first.folder l last) after (made_all [] (subst (λ l. did begun.folder l taken.folder) none took.sent.made)),
        )
      where
        starts : length text < capacity → length {A = ℕ} [] + length text < capacity
        starts few = omega (arith, few)
