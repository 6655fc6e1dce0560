-- What comes after the author's writes.
use Rattle.std.proofs.Common.{◌≡◌, ◌≢◌, ◌⊎◌, ℕ, Bool, true, false, List, [], ◌∷◌, ◌++◌, Option, Some, None, Result, Ok, Err, IsErr, refl, sym, ◌∙◌, ap, subst, inl, inr, ⊎_elim}
use Rattle.std.specs.Prelude.{⊤}
use Rattle.std.proofs.lemmas.Bool.{false≢true}
use Rattle.bz_folder.specs.Files.{Content, Files, Remove, Event, SameBut, Done, Fails, After, Along}
use Rattle.bz_folder.specs.Paths.{temporary_path}
use Rattle.bz_folder.specs.Moments.{along_append, along_weaker, along_one, changes_there, same_trans, any_left, any_right}
use Rattle.bz_folder.specs.Replace.{IsSafe, IsEnd, IsUndone}
use Rattle.bz_folder.specs.private.Steps.{IsPut, IsPutEnd, IsFinished, IsFinishCaused, abandon_calls, abandon_answer, wanted_of}
use Rattle.bz_folder.specs.DraftValue.{DraftValue, IsText}
use Rattle.bz_folder.proofs.Ends.{safe_of, temporary_differs}
use Rattle.bz_folder.specs.declared.draft.DraftState.{DraftState}
use Rattle.bz_folder.specs.declared.draft.DraftState.TheVariants.{Unmade, Made, Broken}
use Rattle.bz_devices.specs.declared.device.Failed.{Failed}
use Rattle.bz_folder.specs.declared.trouble.Trouble.{Trouble}
use Rattle.bz_folder.specs.declared.trouble.Trouble.TheVariants.{OutOfMemory, Clean, LeftBehind}

abbrev IsKeep : Result Bool Failed → Type 0
IsKeep (Ok true) = ⊤
IsKeep (Ok false) = ⊥
IsKeep (Err e) = ⊥

keep-not-drop : (answer : Result Bool Failed) → answer ≡ Ok true → answer ≡ Ok false → ⊥
keep-not-drop answer p q = subst IsKeep (sym p ∙ q) tt

abbrev IsNo : Result Bool Trouble → Type 0
IsNo (Ok true) = ⊥
IsNo (Ok false) = ⊤
IsNo (Err e) = ⊥

module _ (file : List ℕ) (wanted : Option Content) (answer : Result Bool Trouble)
    (ends : (start now : Files) → IsUndone file start now → IsEnd file wanted answer start now) where
  abbrev T : List ℕ
  T = temporary_path file

  gone : (start m n : Files) → SameBut T start m → Done (Remove T) m n → IsUndone file start n
  gone start m n same d = (d.1 file (temporary_differs file) ∙ same file (temporary_differs file), inl d.0)

  remains : (start m n : Files) → SameBut T start m → Fails (Remove T) m n → n file ≡ start file
  remains start m n same f = f file ∙ same file (temporary_differs file)

  removes : (start now : Files) → SameBut T start now → (ok : Bool) (Last : Files → Type 0) → ((m : Files) → After (Remove T) ok now m → Last m)
      → Along (IsSafe file wanted start) Last ((Remove T, ok) ∷ []) now
  removes start now same ok Last l =
      along_one (IsSafe file wanted start) Last (Remove T) ok now (safe_of file wanted start now same)
      (λ m h. safe_of file wanted start m (same_trans T start now m same (changes_there T (Remove T) now m refl h))) l

  -- nothing is kept
  pub abandons : (state : DraftState) (ok : Bool) (start now : Files) → SameBut T start now → (state ≡ Unmade → now T ≡ start T)
      → Along (IsSafe file wanted start) (IsEnd file wanted (abandon_answer state ok answer) start) (abandon_calls state T ok) now
  abandons Unmade ok start now same tidy = (safe_of file wanted start now same, ends start now (same file (temporary_differs file), inr (tidy refl)))
  abandons Made true start now same tidy = removes start now same true _ (λ m d. ends start m (gone start now m same d))
  abandons Made false start now same tidy = removes start now same false _ (λ m f. remains start now m same f)
  abandons Broken true start now same tidy = removes start now same true _ (λ m d. ends start m (gone start now m same d))
  abandons Broken false start now same tidy = removes start now same false _ (λ m f. remains start now m same f)

cause_more : (Before : Type 0) (result : Result Bool Trouble) (es fs : List Event) → IsFinishCaused Before result es → IsFinishCaused Before result (es ++ fs)
cause_more Before (Ok k) es fs h = tt
cause_more Before (Err (OutOfMemory _)) es fs h = absurd h
cause_more Before (Err Clean) es fs h = ⊎_elim (λ f. inl (any_left es fs f)) (λ b. inr b) h
cause_more Before (Err LeftBehind) es fs h = any_left es fs h

abandon_cause : (Before : Type 0) (answer : Result Bool Trouble) (state : DraftState) (path : List ℕ) (ok : Bool) (es : List Event) → IsFinishCaused Before answer es
    → IsFinishCaused Before (abandon_answer state ok answer) (es ++ abandon_calls state path ok)
abandon_cause Before answer Unmade path ok es h = cause_more Before answer es [] h
abandon_cause Before answer Made path true es h = cause_more Before answer es ((Remove path, true) ∷ []) h
abandon_cause Before answer Made path false es h = any_right es ((Remove path, false) ∷ []) (inl refl)
abandon_cause Before answer Broken path true es h = cause_more Before answer es ((Remove path, true) ∷ []) h
abandon_cause Before answer Broken path false es h = any_right es ((Remove path, false) ∷ []) (inl refl)

abbrev IsFault : Result Bool Trouble → Type 0
IsFault (Ok b) = ⊥
IsFault (Err e) = ⊤

-- to remove what is there is never to keep it
abandon_not_yes : (state : DraftState) (ok : Bool) (reply : Result Bool Trouble) → (reply ≢ Ok true) → abandon_answer state ok reply ≡ Ok true → ⊥
abandon_not_yes Unmade ok reply never e = never e
abandon_not_yes Made true reply never e = never e
abandon_not_yes Made false reply never e = subst IsFault e tt
abandon_not_yes Broken true reply never e = never e
abandon_not_yes Broken false reply never e = subst IsFault e tt

abandon_not_no : (state : DraftState) (ok : Bool) → abandon_answer state ok (Err Clean) ≡ Ok false → ⊥
abandon_not_no Unmade ok e = subst IsNo (sym e) tt
abandon_not_no Made true e = subst IsNo (sym e) tt
abandon_not_no Made false e = subst IsNo (sym e) tt
abandon_not_no Broken true e = subst IsNo (sym e) tt
abandon_not_no Broken false e = subst IsNo (sym e) tt

idle_calls : (state : DraftState) (path : List ℕ) (ok : Bool) → state ≡ Unmade → abandon_calls state path ok ≡ []
idle_calls state path ok e = ap (λ s. abandon_calls s path ok) e

module _ {D : Type 0} (old : DraftValue D) (file : List ℕ) (mode : ℕ) (answer : Result Bool Failed) where
  -- the text was put
  pub finished_put : (es : List Event) (x : ⊤) → answer ≡ Ok true → IsPut (IsText old) (old.state ≡ Broken) file mode (Ok x) es
      → IsFinished old file mode answer (Ok true) es
  finished_put es x a p = record {
    safe = λ text start now same tidy t.
        subst (λ r. Along (IsSafe file (wanted_of r text mode) start) (IsEnd file (wanted_of r text mode) (Ok true) start) es now) (sym a)
        (along_weaker (IsSafe file (Some (text, mode)) start) (IsSafe file (Some (text, mode)) start) (IsPutEnd file (text, mode) (Ok x) start) (IsEnd file (Some (text, mode)) (Ok true) start)
        (λ m s. s) (λ m s q. (refl, q.0, q.1)) es now (p.safe text start now same t));
    cause = tt;
    wanted = λ e. a;
    unwanted = λ e. absurd (false≢true (sym (ap yes e)));
    idle = λ e. absurd (keep-not-drop answer a e);
  }
    where
      yes : Result Bool Trouble → Bool
      yes (Ok b) = b
      yes (Err e) = false

  -- it could not be put
  pub finished_unput : (es : List Event) (e : Failed) (state : DraftState) (ok : Bool) (temporary : List ℕ) → answer ≡ Ok true → temporary ≡ temporary_path file → state ≢ Unmade
      → (result : Result Bool Trouble) → result ≡ abandon_answer state ok (Err Clean)
      → IsPut (IsText old) (old.state ≡ Broken) file mode (Err e) es
      → IsFinished old file mode answer result (es ++ abandon_calls state temporary ok)
  finished_unput es e state ok temporary a path made result is p =
      subst (λ r. IsFinished old file mode answer r (es ++ abandon_calls state temporary ok)) (sym is)
      (subst (λ t. IsFinished old file mode answer (abandon_answer state ok (Err Clean)) (es ++ abandon_calls state t ok)) (sym path) (record {
        safe = λ text start now same tidy t.
            subst (λ r. Along (IsSafe file (wanted_of r text mode) start) (IsEnd file (wanted_of r text mode) (abandon_answer state ok (Err Clean)) start) (es ++ abandon_calls state (temporary_path file) ok) now) (sym a)
            (along_append (IsSafe file (Some (text, mode)) start) (IsSafe file (Some (text, mode)) start) (SameBut (temporary_path file) start)
            (IsEnd file (Some (text, mode)) (abandon_answer state ok (Err Clean)) start) es (abandon_calls state (temporary_path file) ok) now
            (λ m s. s) (p.safe text start now same t)
            (λ m s q. abandons file (Some (text, mode)) (Err Clean) (λ u v i. i) state ok start m q (λ k. absurd (made k))));
        cause = abandon_cause (IsErr answer ⊎ (old.state ≡ Broken)) (Err Clean) state (temporary_path file) ok es (⊎_elim (λ b. inr (inr b)) (λ f. inl f) p.cause);
        wanted = λ k. a;
        unwanted = λ k. absurd (abandon_not_no state ok k);
        idle = λ k. absurd (keep-not-drop answer a k);
      }))

  -- it was not to be kept
  pub finished_unkept : (reply : Result Bool Trouble) (ok : Bool) (result : Result Bool Trouble) → ((text : List ℕ) → wanted_of answer text mode ≡ None)
      → ((start now : Files) → IsUndone file start now → IsEnd file None reply start now)
      → IsFinishCaused (IsErr answer ⊎ (old.state ≡ Broken)) reply [] → (reply ≢ Ok true) → (abandon_answer old.state ok reply ≡ Ok false → answer ≡ Ok false)
      → old.temporary ≡ temporary_path file → result ≡ abandon_answer old.state ok reply
      → IsFinished old file mode answer result (abandon_calls old.state old.temporary ok)
  finished_unkept reply ok result none ends cause never dropped path is =
      subst (λ r. IsFinished old file mode answer r (abandon_calls old.state old.temporary ok)) (sym is)
      (subst (λ t. IsFinished old file mode answer (abandon_answer old.state ok reply) (abandon_calls old.state t ok)) (sym path) (record {
        safe = λ text start now same tidy t.
            subst (λ w. Along (IsSafe file w start) (IsEnd file w (abandon_answer old.state ok reply) start) (abandon_calls old.state (temporary_path file) ok) now) (sym (none text))
            (abandons file None reply ends old.state ok start now same tidy);
        cause = abandon_cause (IsErr answer ⊎ (old.state ≡ Broken)) reply old.state (temporary_path file) ok [] cause;
        wanted = λ k. absurd (abandon_not_yes old.state ok reply never k);
        unwanted = dropped;
        idle = λ k u. idle_calls old.state (temporary_path file) ok u;
      }))

  pub finished_no : (ok : Bool) (result : Result Bool Trouble) → answer ≡ Ok false → old.temporary ≡ temporary_path file → result ≡ abandon_answer old.state ok (Ok false)
      → IsFinished old file mode answer result (abandon_calls old.state old.temporary ok)
  finished_no ok result a path is =
      finished_unkept (Ok false) ok result (λ text. ap (λ r. wanted_of r text mode) a) (λ u v i. i) tt (λ k. subst IsNo k tt) (λ k. a) path is

  pub finished_err : (e : Failed) (ok : Bool) (result : Result Bool Trouble) → answer ≡ Err e → old.temporary ≡ temporary_path file → result ≡ abandon_answer old.state ok (Err Clean)
      → IsFinished old file mode answer result (abandon_calls old.state old.temporary ok)
  finished_err e ok result a path is =
      finished_unkept (Err Clean) ok result (λ text. ap (λ r. wanted_of r text mode) a) (λ u v i. i) (inr (inl (subst IsErr (sym a) refl)))
      (λ k. subst IsFault k tt) (λ k. absurd (abandon_not_no old.state ok k)) path is
