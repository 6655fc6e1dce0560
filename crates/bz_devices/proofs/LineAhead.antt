-- The next line of what is ahead.
use Rattle.std.proofs.Common.{◌≡◌, ℕ, ◌≤◌, ◌+◌, ◌-◌, List, [], ◌++◌, length, take, drop, subst, refl, sym, ◌∙◌, ap, arith, inl, inr, length-drop}
use Rattle.std.specs.Prelude.{IsTrue}
use Rattle.std.proofs.lemmas.Grind.{common_steps}
use Rattle.bz_devices.specs.Ahead.{Ahead, IsReadOn}
use Rattle.bz_devices.specs.private.AheadSteps.{IsOpen, IsLine, IsLineAt}
use Rattle.bz_devices.proofs.ChunkLines.{open_then, line_then, slice_more, slice_all, tail_is}
use Rattle.bz_devices.proofs.ReadOn.{back_grows}
use Rattle.std.specs.List.{concat}

-- nothing was searched
pub passed_none : (bytes : List ℕ) (e : ℕ) → IsOpen (take (e - e) (drop e bytes))
passed_none bytes e rest =
    let none : take (e - e) (drop e bytes) ≡ [] = grind (arith, common_steps) in
    rw none refl

-- a newline was found
pub line_found : (ahead : Ahead) (seen : List ℕ) (e s n : ℕ) → seen ≡ ahead.bytes → e ≤ s → s ≤ length seen
    → IsOpen (take (s - e) (drop e ahead.bytes)) → n ≤ length (take (length seen - s) (drop s seen)) → IsLine (take n (take (length seen - s) (drop s seen)))
    → IsLineAt ahead e (s + n)
line_found ahead seen e s n same after within passed fits line =
    let all : take (length seen - s) (drop s seen) ≡ drop s ahead.bytes = tail_is seen s ∙ ap (drop s) same in
    let some : n ≤ length (drop s ahead.bytes) = rw all at fits in
    let here : IsLine (take n (drop s ahead.bytes)) = subst (λ l. IsLine (take n l)) all line in
    record {
      after = omega arith;
      within = omega (arith, length-drop s ahead.bytes, ap length same);
      line = inl (subst (λ l. IsLine l) (sym (slice_more ahead.bytes e s n after)) (line_then (take (s - e) (drop e ahead.bytes)) (take n (drop s ahead.bytes)) passed here));
    }

-- no newline was found in all that is ahead
pub open_there : (ahead : Ahead) (seen : List ℕ) (e s : ℕ) → seen ≡ ahead.bytes → e ≤ s → IsOpen (take (s - e) (drop e ahead.bytes))
    → IsOpen (take (length seen - s) (drop s seen)) → IsOpen (drop e ahead.bytes)
open_there ahead seen e s same after passed more =
    let all : take (length seen - s) (drop s seen) ≡ drop s ahead.bytes = tail_is seen s ∙ ap (drop s) same in
    subst (λ l. IsOpen l) (sym (slice_all ahead.bytes e s after)) (open_then (take (s - e) (drop e ahead.bytes)) (drop s ahead.bytes) passed (subst (λ l. IsOpen l) all more))

pub line_last : (ahead : Ahead) (seen : List ℕ) (e : ℕ) → seen ≡ ahead.bytes → e ≤ length seen → IsTrue ahead.ended → IsOpen (drop e ahead.bytes) → IsLineAt ahead e (length seen)
line_last ahead seen e same within ended is =
    let len : length seen ≡ length ahead.bytes = ap length same in
    record {
      after = within;
      within = omega arith;
      line = inr (len, record { ended = ended; rest_is_open = is });
    }

-- one read more
pub passed_all : (max : ℕ) (old new : Ahead) (seen : List ℕ) (pieces : List (List ℕ)) (e : ℕ) → seen ≡ old.bytes → IsReadOn max old new pieces → e ≤ length seen
    → IsOpen (drop e old.bytes) → IsOpen (take (length seen - e) (drop e new.bytes))
passed_all max old new seen pieces e same read within is =
    let len : length seen ≡ length old.bytes = ap length same in
    let fits : e ≤ length old.bytes = omega arith in
    let front : take (length seen - e) (drop e old.bytes ++ concat pieces) ≡ drop e old.bytes = grind (arith, common_steps) in
    subst (λ l. IsOpen l) (sym (ap (take (length seen - e)) (back_grows max old new pieces e read fits) ∙ front)) is
