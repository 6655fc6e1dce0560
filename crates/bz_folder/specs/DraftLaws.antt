-- The laws of what a draft took.
use Rattle.std.proofs.Common.{◌≡◌, ℕ, ◌+◌, ◌<◌, List, [], ◌++◌, length, refl, sym, ◌∙◌, ap, append_assoc, append-nil, length-append, inl, inr, ⊎_elim, subst, arith, Result, Ok, Err, OnErr, IsErrAnd}
use Rattle.std.proofs.Math.Nat.{add-zero}
use Rattle.bz_folder.specs.Files.{Files, Event, SameBut}
use Rattle.bz_folder.specs.Moments.{along_append, along_weaker, same_trans, same_refl, any_left, any_right}
use Rattle.bz_folder.specs.DraftValue.{DraftValue, IsTextAt, IsText, Sent, Took, capacity}
use Rattle.bz_folder.specs.declared.draft.DraftState.{DraftState}
use Rattle.bz_folder.specs.declared.draft.DraftState.TheVariants.{Unmade, Made, Broken}

module _ {D : Type 0} (did : D → List Event → D → Type 0) where
  pub sent_nothing : ((s : D) → did s [] s) → (s : DraftValue D) → Sent did s s []
  sent_nothing nothing s = record {
    events = [];
    made = nothing s.folder;
    same_path = refl;
    written = λ text start h. (same_refl s.temporary start, subst (λ l. IsText s l start) (sym (append-nil text)) h);
    cause = λ h. inl h;
    unmade = λ h. (h, refl);
  }

  pub sent_more : ((a b c : D) (es fs : List Event) → did a es b → did b fs c → did a (es ++ fs) c)
      → (a b c : DraftValue D) (xs ys : List ℕ) → Sent did a b xs → Sent did b c ys → Sent did a c (xs ++ ys)
  sent_more more a b c xs ys s t = record {
    events = s.events ++ t.events;
    made = more a.folder b.folder c.folder s.events t.events s.made t.made;
    same_path = t.same_path ∙ s.same_path;
    written = λ text start h.
        along_append (SameBut a.temporary start) (SameBut a.temporary start) (IsText b (text ++ xs)) (IsText c (text ++ (xs ++ ys)))
        s.events t.events start (λ m k. k) (s.written text start h)
        (λ m k q. along_weaker (SameBut b.temporary m) (SameBut a.temporary start) (IsText c ((text ++ xs) ++ ys)) (IsText c (text ++ (xs ++ ys)))
        (λ n l. same_trans a.temporary start m n k (subst (λ p. SameBut p m n) s.same_path l))
        (λ n l w. subst (λ v. IsText c v n) (append_assoc text xs ys) w)
        t.events m (t.written (text ++ xs) m q));
    cause = λ k. ⊎_elim (λ f. ⊎_elim (λ i. inl i) (λ i. inr (any_left s.events t.events i)) (s.cause f)) (λ i. inr (any_right s.events t.events i)) (t.cause k);
    unmade = λ k. ((s.unmade (t.unmade k).0).0, both_empty s.events t.events (s.unmade (t.unmade k).0).1 (t.unmade k).1);
  }
    where
      both_empty : (es fs : List Event) → es ≡ [] → fs ≡ [] → es ++ fs ≡ []
      both_empty es fs p q = subst (λ l. l ++ fs ≡ []) (sym p) q

  pub took_nothing_lem : ((s : D) → did s [] s) → (s : DraftValue D) → Took did s s []
  took_nothing_lem nothing s = record { sent = sent_nothing nothing s; idle = λ h k. (h, sym (append-nil s.waiting)) }

  pub took_more_lem : ((a b c : D) (es fs : List Event) → did a es b → did b fs c → did a (es ++ fs) c)
      → (a b c : DraftValue D) (xs ys : List ℕ) → Took did a b xs → Took did b c ys → Took did a c (xs ++ ys)
  took_more_lem more a b c xs ys s t = record {
    sent = sent_more more a b c xs ys s.sent t.sent;
    idle = λ h k.
        let first = s.idle h (less a.waiting xs ys k) in
        let second = t.idle first.0 (more_room a.waiting b.waiting xs ys first.1 k) in
        (second.0, second.1 ∙ ap (λ l. l ++ ys) first.1 ∙ append_assoc a.waiting xs ys);
  }
    where
      less : (w xs ys : List ℕ) → length w + length (xs ++ ys) < capacity → length w + length xs < capacity
      less w xs ys k = grind (arith, length-append)

      more_room : (w v xs ys : List ℕ) → v ≡ w ++ xs → length w + length (xs ++ ys) < capacity → length v + length ys < capacity
      more_room w v xs ys e k = grind (arith, length-append)

  -- bytes are taken where there is room
  pub pushes : ((s : D) → did s [] s) → ((a b c : D) (es fs : List Event) → did a es b → did b fs c → did a (es ++ fs) c)
      → (a b : DraftValue D) (waiting piece : List ℕ) → Sent did a b [] → (length a.waiting < capacity → b ≡ a) → waiting ≡ b.waiting ++ piece
      → Took did a (record { folder = b.folder; temporary = b.temporary; state = b.state; waiting = waiting; failures = b.failures }) piece
  pushes nothing more a b waiting piece s same e = record {
    sent = sent_more more a b after [] piece s after_sent;
    idle = λ h k. let back = same (shorter (length a.waiting) (length piece) k) in
        (ap (λ d. d.state) back ∙ h, e ∙ ap (λ d. d.waiting ++ piece) back);
  }
    where
      after : DraftValue D
      after = record { folder = b.folder; temporary = b.temporary; state = b.state; waiting = waiting; failures = b.failures }

      text_after : (state : DraftState) (text : List ℕ) (start : Files) → IsTextAt state b.temporary b.waiting text start
          → IsTextAt state b.temporary waiting (text ++ piece) start
      text_after Unmade text start h = e ∙ ap (λ l. l ++ piece) h
      text_after Made text start h = (h.0, h.1, ap (λ l. h.0 ++ l) e ∙ sym (append_assoc h.0 b.waiting piece) ∙ ap (λ l. l ++ piece) h.2)
      text_after Broken text start h = tt

      after_sent : Sent did b after piece
      after_sent = record {
        events = [];
        made = nothing b.folder;
        same_path = refl;
        written = λ text start h. (same_refl b.temporary start, text_after b.state text start h);
        cause = λ h. inl h;
        unmade = λ h. (h, refl);
      }

      shorter : (m n : ℕ) → m + n < capacity → m < capacity
      shorter m n k = omega (arith, k)

  -- nothing is taken where there is no room
  pub pushes_nothing : {E : Type 0} (P : E → Type 0) (a b : DraftValue D) (result : Result ℕ E) → Sent did a b [] → (length a.waiting < capacity → b ≡ a)
      → IsErrAnd result P → OnErr result (Took did a b [])
  pushes_nothing P a b (Ok n) s same h = absurd h
  pushes_nothing P a b (Err e) s same h = record {
    sent = s;
    idle = λ i k. let back = same (subst (λ n. n < capacity) (add-zero (length a.waiting)) k) in
        (ap (λ d. d.state) back ∙ i, ap (λ d. d.waiting) back ∙ sym (append-nil a.waiting));
  }
