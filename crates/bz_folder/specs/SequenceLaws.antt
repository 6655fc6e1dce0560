-- The laws of many replacements.
use Rattle.std.proofs.Common.{◌≡◌, ◌⊎◌, ℕ, List, [], ◌∷◌, ◌++◌, Bool, Option, Some, None, IsSome, IfSome, Result, Ok, true, refl, sym, subst, inl, inr, ⊎_elim}
use Rattle.std.specs.Prelude.{⊤}
use Rattle.std.proofs.lemmas.Bool.{false≢true}
use mathlib.Core.List.{List-discrete}
use Rattle.std.proofs.Math.Decide.{ℕ_discrete}
use Rattle.bz_devices.specs.declared.device.Failed.{Failed}
use Rattle.bz_folder.specs.declared.trouble.Trouble.{Trouble}
use Rattle.bz_folder.specs.Files.{Content, Files, Event}
use Rattle.bz_folder.specs.Paths.{temporary_path}
use Rattle.bz_folder.specs.Moments.{along_append, along_weaker}
use Rattle.bz_folder.specs.Replace.{IsSafe, IsEnd, ReplacesSafely, Replacement}
use Rattle.bz_folder.specs.Sequence.{Wanted, AmongWanted, IsWholeAt, KeepsWhole, EachMay, SafeRun}

among_left : (P : Wanted → Type 0) (ws vs : List Wanted) → AmongWanted P ws → AmongWanted P (ws ++ vs)
among_left P [] vs h = absurd h
among_left P (w ∷ ws) vs (inl h) = inl h
among_left P (w ∷ ws) vs (inr h) = inr (among_left P ws vs h)

among_right : (P : Wanted → Type 0) (ws vs : List Wanted) → AmongWanted P vs → AmongWanted P (ws ++ vs)
among_right P [] vs h = h
among_right P (w ∷ ws) vs h = inr (among_right P ws vs h)

whole_left : (ws vs : List Wanted) (path : List ℕ) (old now : Files) → IsWholeAt ws path old now → IsWholeAt (ws ++ vs) path old now
whole_left ws vs path old now (inl h) = inl h
whole_left ws vs path old now (inr (inl h)) = inr (inl (h.0, h.1, among_left _ ws vs h.2))
whole_left ws vs path old now (inr (inr h)) = inr (inr (among_left _ ws vs h))

-- from one moment to a later one
whole_more : (ws vs : List Wanted) (path : List ℕ) (a b c : Files) → IsWholeAt ws path a b → IsWholeAt vs path b c → IsWholeAt (ws ++ vs) path a c
whole_more ws vs path a b c h (inl same) = whole_left ws vs path a c (subst (λ x. (x ≡ a path) ⊎ ((content : Content) × (x ≡ Some content) × AmongWanted (λ want. want ≡ (path, Some content)) ws) ⊎ AmongWanted (λ want. path ≡ temporary_path want.0) ws) (sym same) h)
whole_more ws vs path a b c h (inr (inl w)) = inr (inl (w.0, w.1, among_right _ ws vs w.2))
whole_more ws vs path a b c h (inr (inr t)) = inr (inr (among_right _ ws vs t))

-- no call is made
pub keeps_nothing : KeepsWhole [] []
keeps_nothing start = (λ path. inl refl, tt)

-- replacements, and further ones
pub keeps_more : (ws vs : List Wanted) (es fs : List Event) → KeepsWhole ws es → KeepsWhole vs fs → KeepsWhole (ws ++ vs) (es ++ fs)
keeps_more ws vs es fs p q start =
    along_append (λ now. (path : List ℕ) → IsWholeAt ws path start now) (λ now. (path : List ℕ) → IsWholeAt (ws ++ vs) path start now) (λ now. ⊤) (λ now. ⊤) es fs start
    (λ m h path. whole_left ws vs path start m (h path))
    (p start)
    (λ m h t. along_weaker (λ now. (path : List ℕ) → IsWholeAt vs path m now) (λ now. (path : List ℕ) → IsWholeAt (ws ++ vs) path start now) (λ now. ⊤) (λ now. ⊤)
    (λ n k path. whole_more ws vs path start m n (h path) (k path)) (λ n k u. tt) fs m (q m))

-- one replacement
pub keeps_one : (file : List ℕ) (wanted : Option Content) (result : Result Bool Trouble) (es : List Event) → ReplacesSafely file wanted result es → KeepsWhole ((file, wanted) ∷ []) es
keeps_one file wanted result es h start =
    along_weaker (IsSafe file wanted start) (λ now. (path : List ℕ) → IsWholeAt ((file, wanted) ∷ []) path start now) (IsEnd file wanted result start) (λ now. ⊤)
    (λ m s path. at_path m s path (List-discrete ℕ_discrete path file) (List-discrete ℕ_discrete path (temporary_path file))) (λ m s k. tt) es start (h start)
  where
    kept : (wanted : Option Content) (m : Files) → IsSome wanted → m file ≡ wanted
        → (content : Content) × (m file ≡ Some content) × AmongWanted (λ want. want ≡ (file, Some content)) ((file, wanted) ∷ [])
    kept (Some content) m i e = (content, e, inl refl)
    kept None m i e = absurd (false≢true i)

    at_path : (m : Files) → IsSafe file wanted start m → (path : List ℕ) → Dec (path ≡ file) → Dec (path ≡ temporary_path file) → IsWholeAt ((file, wanted) ∷ []) path start m
    at_path m s path (yes e) t =
        subst (λ p. IsWholeAt ((file, wanted) ∷ []) p start m) (sym e) (⊎_elim (λ same. inl same) (λ w. inr (inl (kept wanted m w.0 w.1))) s.whole)
    at_path m s path (no n) (yes e) = inr (inr (inl e))
    at_path m s path (no n) (no k) = inl (s.others path n k)

each_append : (May : List ℕ → Content → Type 0) (ws vs : List Wanted) → EachMay May ws → EachMay May vs → EachMay May (ws ++ vs)
each_append May [] vs p q = q
each_append May (w ∷ ws) vs p q = (p.0, each_append May ws vs p.1 q)

module _ {D : Type 0} (did : D → List Event → D → Type 0) (May : List ℕ → Content → Type 0) where
  pub run_nothing : ((s : D) → did s [] s) → (s : D) → SafeRun did May s s
  run_nothing nothing s = record { wants = []; events = []; made = nothing s; may = tt; whole = keeps_nothing }

  pub run_more : ((a b c : D) (es fs : List Event) → did a es b → did b fs c → did a (es ++ fs) c)
      → (a b c : D) → SafeRun did May a b → SafeRun did May b c → SafeRun did May a c
  run_more more a b c r s = record {
    wants = r.wants ++ s.wants;
    events = r.events ++ s.events;
    made = more a b c r.events s.events r.made s.made;
    may = each_append May r.wants s.wants r.may s.may;
    whole = keeps_more r.wants s.wants r.events s.events r.whole s.whole;
  }

  pub run_one : {A : Type 0} (gives : A → List ℕ → Result Bool Failed → A → Type 0) (a b : D) (author author_after : A) (file : List ℕ) (mode : ℕ) (result : Result Bool Trouble)
      → Replacement did gives a b author author_after file mode result → ((text : List ℕ) → gives author text (Ok true) author_after → May file (text, mode)) → SafeRun did May a b
  run_one gives a b author author_after file mode result r f = record {
    wants = (file, r.wanted) ∷ [];
    events = r.events;
    made = r.made;
    may = (allowed r.wanted r.kept, tt);
    whole = keeps_one file r.wanted result r.events r.safe;
  }
    where
      allowed : (wanted : Option Content) → IfSome wanted (λ content. gives author content.0 (Ok true) author_after × (content.1 ≡ mode)) → IfSome wanted (May file)
      allowed None h = tt
      allowed (Some content) h = subst (λ m. May file (content.0, m)) (sym h.1) (f content.0 h.0)
