-- The laws of readers and writers over memory: nothing, and one after another.
use Rattle.std.proofs.Common.{◌≡◌, ℕ, ◌+◌, List, [], ◌∷◌, ◌++◌, length, length-append, refl, sym, ◌∙◌, ap, append_assoc, append-nil, subst}
use Rattle.std.specs.Prelude.{Option, None, Some, IsTrue}
use Rattle.std.proofs.Math.Nat.{le_refl, le_trans, lt_of_le_of_lt, add-zero, add_assoc}
use Rattle.std.proofs.lemmas.Bool.{false≢true}
use Rattle.std.specs.Io.KnownBytes.{Appends}
use Rattle.std.proofs.KnownBytes.{Appends-nil, Appends-trans}
use Rattle.std.proofs.lemmas.List.Concat.{flat_map-append}
use Rattle.bz_devices.specs.Device.{Gave, ends, Counts}
use Rattle.std.specs.List.{concat}

pub ends-append : (ps : List (List ℕ)) (q : List ℕ) (qs : List (List ℕ)) → ends (ps ++ q ∷ qs) ≡ ends (q ∷ qs)
ends-append [] q qs = refl
ends-append (p ∷ []) q qs = ends_two p q qs
  where
    ends_two : (p q : List ℕ) (qs : List (List ℕ)) → ends (p ∷ (q ∷ qs)) ≡ ends (q ∷ qs)
    ends_two [] q qs = refl
    ends_two (x ∷ xs) q qs = refl
ends-append (p ∷ (p' ∷ ps)) q qs = ends-append (p' ∷ ps) q qs

pub gave_nothing_lem : (a : Option (List ℕ)) → Gave a a []
gave_nothing_lem None = tt
gave_nothing_lem (Some x) = (refl, λ h. absurd (false≢true h))

pub gave_more_lem : (a b c : Option (List ℕ)) (xs ys : List (List ℕ)) → Gave a b xs → Gave b c ys → Gave a c (xs ++ ys)
gave_more_lem None b c xs ys p q = tt
gave_more_lem (Some x) None c xs ys p q = absurd p
gave_more_lem (Some x) (Some y) None xs ys p q = absurd q
gave_more_lem (Some x) (Some y) (Some z) xs [] p q =
    subst (λ pieces. Gave (Some x) (Some z) pieces) (sym (append-nil xs)) (p.0 ∙ ap (λ l. concat xs ++ l) q.0, λ h. sym q.0 ∙ p.1 h)
gave_more_lem (Some x) (Some y) (Some z) xs (w ∷ ys) p q = (
  p.0 ∙ ap (λ l. concat xs ++ l) q.0 ∙ sym (append_assoc (concat xs) (concat (w ∷ ys)) z)
      ∙ ap (λ l. l ++ z) (sym (flat_map-append (λ x. x) xs (w ∷ ys))),
  λ h. q.1 (subst IsTrue (ends-append xs w ys) h),
)

pub appends_nothing : (a : Option (List ℕ)) → Appends a a []
appends_nothing a = Appends-nil a

pub appends_more : (a b c : Option (List ℕ)) (xs ys : List ℕ) → Appends a b xs → Appends b c ys → Appends a c (xs ++ ys)
appends_more a b c xs ys p q = Appends-trans a b c xs ys p q

-- what a count says of nothing, and of one run of reads or writes after another
pub counts_nothing : (a : ℕ) → Counts a a 0
counts_nothing a = record { grows = le_refl a; exact = λ h. sym (add-zero a) }

counts_more : (a b c m n : ℕ) → Counts a b m → Counts b c n → Counts a c (m + n)
counts_more a b c m n p q = record {
  grows = le_trans p.grows q.grows;
  exact = λ h. q.exact h ∙ ap (λ x. x + n) (p.exact (lt_of_le_of_lt q.grows h)) ∙ add_assoc a m n;
}

pub counts_pieces : (a b c : ℕ) (xs ys : List (List ℕ)) → Counts a b (length (concat xs)) → Counts b c (length (concat ys))
    → Counts a c (length (concat (xs ++ ys)))
counts_pieces a b c xs ys p q =
    subst (Counts a c) (sym (ap length (flat_map-append (λ x. x) xs ys) ∙ length-append (concat xs) (concat ys)))
    (counts_more a b c (length (concat xs)) (length (concat ys)) p q)

pub counts_bytes : (a b c : ℕ) (xs ys : List ℕ) → Counts a b (length xs) → Counts b c (length ys) → Counts a c (length (xs ++ ys))
counts_bytes a b c xs ys p q = subst (Counts a c) (sym (length-append xs ys)) (counts_more a b c (length xs) (length ys) p q)
