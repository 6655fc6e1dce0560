-- The end of a replacement: the text in the file's place, or nothing left.
use Rattle.std.proofs.Common.{◌≡◌, ◌≢◌, ◌⊎◌, ℕ, true, List, [], ◌∷◌, ◌++◌, length, Option, Some, Result, Ok, Err, is_ok, OnErr, IsErrAnd, refl, sym, ◌∙◌, ap, subst, inl, inr, ⊎_elim, append-nil, arith, length-append}
use Rattle.std.specs.Prelude.{⊤}
use Rattle.bz_folder.specs.Files.{Content, Files, SetMode, Rename, Event, SameBut, HasBytes, Done, Fails, After, Along, AnyFails}
use Rattle.bz_folder.specs.Paths.{temporary_path}
use Rattle.bz_folder.specs.Moments.{along_append, along_weaker, along_one, changes_there, same_trans, any_right}
use Rattle.bz_folder.specs.Replace.{IsSafe}
use Rattle.bz_folder.specs.private.Steps.{IsPut, IsPutEnd}
use Rattle.bz_folder.specs.DraftValue.{DraftValue, IsTextAt, IsText, Sent}
use Rattle.bz_folder.specs.declared.draft.DraftState.TheVariants.{Made, Broken}
use Rattle.bz_devices.specs.declared.device.Failed.{Failed}

longer : (xs : List ℕ) (y : ℕ) (ys : List ℕ) → xs ≢ xs ++ y ∷ ys
longer xs y ys e =
    let same : length xs ≡ length (xs ++ y ∷ ys) = ap length e in
    omega (arith, same, length-append xs (y ∷ ys))

-- the temporary file is never the file
pub temporary_differs : (file : List ℕ) → file ≢ temporary_path file
temporary_differs file = longer file _ _

module _ (file : List ℕ) where
  abbrev T : List ℕ
  T = temporary_path file

  -- all but the temporary file is as at the start
  pub safe_of : (wanted : Option Content) (start now : Files) → SameBut T start now → IsSafe file wanted start now
  safe_of wanted start now h = record { whole = inl (h file (temporary_differs file)); others = λ p a b. h p b }

  rename_during : (content : Content) (start now m : Files) → SameBut T start now → now T ≡ Some content
      → Done (Rename T file) now m ⊎ Fails (Rename T file) now m → IsSafe file (Some content) start m
  rename_during content start now m same there (inl d) = record {
    whole = inr (refl, d.0 ∙ there);
    others = λ p a b. d.2 p b a ∙ same p b;
  }
  rename_during content start now m same there (inr f) = safe_of (Some content) start m (λ p b. f p ∙ same p b)

  -- the file is put in its place, with its permission bits
  pub installs : (mode : ℕ) (renamed : Result ⊤ Failed) → IsPut (HasBytes T) ⊥ file mode renamed ((SetMode T mode, true) ∷ (Rename T file, is_ok renamed) ∷ [])
  installs mode renamed = record { safe = safe; cause = cause renamed }
    where
      ends : (renamed : Result ⊤ Failed) (text : List ℕ) (start m n : Files) → SameBut T start m → m T ≡ Some (text, mode)
          → After (Rename T file) (is_ok renamed) m n → IsPutEnd file (text, mode) renamed start n
      ends (Ok x) text start m n same there d = (d.0 ∙ there, d.1)
      ends (Err x) text start m n same there f = λ p b. f p ∙ same p b

      safe : (text : List ℕ) (start now : Files) → SameBut T start now → HasBytes T text now
          → Along (IsSafe file (Some (text, mode)) start) (IsPutEnd file (text, mode) renamed start) ((SetMode T mode, true) ∷ (Rename T file, is_ok renamed) ∷ []) now
      safe text start now same bytes =
          let S : Files → Type 0 = IsSafe file (Some (text, mode)) start in
          let Mid : Files → Type 0 = λ m. SameBut T start m × (m T ≡ Some (text, mode)) in
          along_append S S Mid (IsPutEnd file (text, mode) renamed start) ((SetMode T mode, true) ∷ []) ((Rename T file, is_ok renamed) ∷ []) now (λ m s. s)
          (along_one S Mid (SetMode T mode) true now (safe_of (Some (text, mode)) start now same)
          (λ m h. safe_of (Some (text, mode)) start m (same_trans T start now m same (changes_there T (SetMode T mode) now m refl h)))
          (λ m d. (same_trans T start now m same d.1, d.0 text bytes)))
          (λ m s q. along_one S (IsPutEnd file (text, mode) renamed start) (Rename T file) (is_ok renamed) m s
          (λ n h. rename_during (text, mode) start m n q.0 q.1 h)
          (λ n a. ends renamed text start m n q.0 q.1 a))

      cause : (renamed : Result ⊤ Failed) → OnErr renamed (⊥ ⊎ AnyFails ((SetMode T mode, true) ∷ (Rename T file, is_ok renamed) ∷ []))
      cause (Ok x) = tt
      cause (Err x) = inr (inr (inl refl))

  -- it is put after the bytes that waited were written
  pub put_after : {D : Type 0} (did : D → List Event → D → Type 0) (a b : DraftValue D) (mode : ℕ) (result : Result ⊤ Failed) (path : List ℕ) (fs : List Event)
      → a.temporary ≡ T → path ≡ b.temporary → (s : Sent did a b []) → b.state ≡ Made → b.waiting ≡ []
      → IsPut (HasBytes path) ⊥ file mode result fs → IsPut (IsText a) (a.state ≡ Broken) file mode result (s.events ++ fs)
  put_after did a b mode result path fs e pe s made none i = record {
    safe = λ text start now same t.
        along_append (SameBut a.temporary now) (IsSafe file (Some (text, mode)) start) (IsText b (text ++ [])) (IsPutEnd file (text, mode) result start) s.events fs now
        (λ m h. safe_of (Some (text, mode)) start m (between start now m same h))
        (s.written text now t)
        (λ m h q. i.safe text start m (between start now m same h) (there text m q));
    cause = cause result i.cause;
  }
    where
      between : (start now m : Files) → SameBut T start now → SameBut a.temporary now m → SameBut T start m
      between start now m same h = same_trans T start now m same (subst (λ p. SameBut p now m) e h)

      there : (text : List ℕ) (m : Files) → IsTextAt b.state b.temporary b.waiting (text ++ []) m → HasBytes path text m
      there text m q =
          let w : (sent : List ℕ) × HasBytes b.temporary sent m × (sent ++ [] ≡ text ++ []) = subst (λ v. IsTextAt Made b.temporary v (text ++ []) m) none (subst (λ g. IsTextAt g b.temporary b.waiting (text ++ []) m) made q) in
          subst (λ p. HasBytes p text m) (sym pe) (subst (λ l. HasBytes b.temporary l m) (sym (append-nil w.0) ∙ w.2 ∙ append-nil text) w.1)

      cause : (result : Result ⊤ Failed) → OnErr result (⊥ ⊎ AnyFails fs) → OnErr result ((a.state ≡ Broken) ⊎ AnyFails (s.events ++ fs))
      cause (Ok x) h = tt
      cause (Err x) h = ⊎_elim (λ f. absurd f) (λ f. inr (any_right s.events fs f)) h

  -- it is not put where these could not be written
  pub put_nothing : {D : Type 0} (did : D → List Event → D → Type 0) (a b : DraftValue D) (mode : ℕ) (result : Result ⊤ Failed) (P : Failed → Type 0)
      → a.temporary ≡ T → (s : Sent did a b []) → b.state ≡ Broken → IsErrAnd result P → IsPut (IsText a) (a.state ≡ Broken) file mode result s.events
  put_nothing did a b mode (Ok x) P e s broken h = absurd h
  put_nothing did a b mode (Err x) P e s broken h = record {
    safe = λ text start now same t.
        along_weaker (SameBut a.temporary now) (IsSafe file (Some (text, mode)) start) (IsText b (text ++ [])) (SameBut T start)
        (λ m k. safe_of (Some (text, mode)) start m (between start now m same k)) (λ m k q. between start now m same k) s.events now (s.written text now t);
    cause = s.cause broken;
  }
    where
      between : (start now m : Files) → SameBut T start now → SameBut a.temporary now m → SameBut T start m
      between start now m same h = same_trans T start now m same (subst (λ p. SameBut p now m) e h)
