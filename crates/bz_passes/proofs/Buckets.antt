-- Names in buckets, by their hash.
use Rattle.std.proofs.Common.{◌≡◌, ◌≢◌, ℕ, suc, zero, ◌<◌, Bool, true, false, if◌then◌else◌, List, [], ◌∷◌, ◌++◌, length, get_or, slice_set, bytes_eq, refl, sym, ◌∙◌, ap, arith, inl, inr}
use Rattle.std.proofs.lemmas.Bool.Decides.{eqb_tells}
use Rattle.std.proofs.lemmas.List.{append-nil, length-set}
use Rattle.std.proofs.lemmas.Slice.Eq.{bytes_eq-Decides}
use Rattle.bz_passes.specs.private.Indexes.{Bucket, bucket_of, found, found_at, named_in}

-- nothing is in empty buckets, nor in one more
pub one_more_empty : (bs : List Bucket) (b : Bucket) (place : ℕ) (name : List ℕ)
    → ((k : ℕ) (q : List ℕ) → found_at bs k q ≡ []) → ((q : List ℕ) → found b q ≡ []) → found_at (bs ++ b ∷ []) place name ≡ []
one_more_empty [] b zero name none empty = empty name
one_more_empty [] b (suc place) name none empty = refl
one_more_empty (x ∷ bs) b zero name none empty = none zero name
one_more_empty (x ∷ bs) b (suc place) name none empty = one_more_empty bs b place name (λ k q. none (suc k) q) empty

-- what was at the place of a bucket
was_there : (bs : List Bucket) (place : ℕ) (d : Bucket) (name : List ℕ) → place < length bs → found (get_or bs place d) name ≡ found_at bs place name
was_there [] place d name h = absurd (omega arith)
was_there (b ∷ bs) zero d name h = refl
was_there (b ∷ bs) (suc place) d name h = was_there bs place d name (omega arith)

-- what is there then
is_there : (bs : List Bucket) (place : ℕ) (new : Bucket) (name : List ℕ) → place < length bs → found_at (slice_set bs place new) place name ≡ found new name
is_there [] place new name h = absurd (omega arith)
is_there (b ∷ bs) zero new name h = refl
is_there (b ∷ bs) (suc place) new name h = is_there bs place new name (omega arith)

-- the other buckets stay
others_stay : (bs : List Bucket) (place k : ℕ) (new : Bucket) (name : List ℕ) → k ≢ place → found_at (slice_set bs place new) k name ≡ found_at bs k name
others_stay [] place k new name h = refl
others_stay (b ∷ bs) zero zero new name h = absurd (h refl)
others_stay (b ∷ bs) zero (suc k) new name h = refl
others_stay (b ∷ bs) (suc place) zero new name h = refl
others_stay (b ∷ bs) (suc place) (suc k) new name h = others_stay bs place k new name (λ e. h (ap suc e))

-- a position is put after those of its name, and those of no other
pub one_added : (bs : List Bucket) (place : ℕ) (old new : Bucket) (asked : List ℕ) (position : ℕ) (name : List ℕ)
    → place ≡ bucket_of asked (length bs) → place < length bs → old ≡ get_or bs place old
    → ((q : List ℕ) → found new q ≡ found old q ++ (if bytes_eq q asked then position ∷ [] else []))
    → named_in (slice_set bs place new) name ≡ named_in bs name ++ (if bytes_eq name asked then position ∷ [] else [])
one_added bs place old new asked position name at within is adds =
    rw (length-set bs place new) (elim (eqb_tells (bucket_of name (length bs)) place) [
      | inl same ↦ rw (same.1) (is_there bs place new name within ∙ adds name
          ∙ ap (λ l. l ++ (if bytes_eq name asked then position ∷ [] else [])) (ap (λ b. found b name) is ∙ was_there bs place old name within))
      | inr other ↦ others_stay bs place (bucket_of name (length bs)) new name other.1 ∙ unasked (bytes_eq name asked) refl other.1
    ]) where
      unasked : (b : Bool) → bytes_eq name asked ≡ b → bucket_of name (length bs) ≢ place
          → found_at bs (bucket_of name (length bs)) name ≡ found_at bs (bucket_of name (length bs)) name ++ (if b then position ∷ [] else [])
      unasked true is other = absurd (other (ap (λ q. bucket_of q (length bs)) ((bytes_eq-Decides name asked).0 is) ∙ sym at))
      unasked false is other = sym (append-nil _)
