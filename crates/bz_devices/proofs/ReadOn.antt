-- Reads, one after another.
use Rattle.std.proofs.Common.{rules, ◌<◌, ◌-◌, ◌==◌, ◌≡◌, ℕ, ◌≤◌, ◌+◌, Bool, true, false, List, [], ◌∷◌, ◌++◌, length, length-append, take, drop, refl, sym, ◌∙◌, ap, subst, append-nil, append_assoc, arith}
use Rattle.std.specs.Prelude.{IsTrue, ◌||◌}
use Rattle.std.proofs.lemmas.Bool.{false≢true}
use Rattle.std.proofs.lemmas.List.{drop-append-le, take-append-le}
use Rattle.std.proofs.lemmas.List.Concat.{flat_map-append}
use Rattle.bz_devices.specs.Device.{ends, MayFollow, NoneEnds, NoneAfterEnd, Rises}
use Rattle.bz_devices.specs.DeviceLaws.{ends-append}
use Rattle.bz_devices.specs.Ahead.{Ahead, IsReadOn, IsUndecided, AreNeeded}
use Rattle.std.specs.List.{concat}

-- no read
pub read_nothing : (max : ℕ) (ahead : Ahead) → ahead.reads ≤ max → IsReadOn max ahead ahead []
read_nothing max ahead within =
    record { bytes = sym (append-nil ahead.bytes); reads = omega arith; within = within; ended = or_false ahead.ended; stays = λ _. refl; none_ends = λ _. tt; none_after = tt; few = omega arith }
  where
    or_false : (b : Bool) → b ≡ (b || false)
    or_false true = refl
    or_false false = refl

-- a read that failed left the bytes
pub read_failed : (max : ℕ) (old : Ahead) (items left : List ℕ) (start reads : ℕ) (ended : Bool) → record { bytes = drop start items; reads = reads; ended = ended } ≡ old → left ≡ items → old.reads ≤ max
    → IsReadOn max old (record { bytes = drop start left; reads = reads; ended = ended }) []
read_failed max old items left start reads ended view same made =
    subst (λ l. IsReadOn max old (record { bytes = drop start l; reads = reads; ended = ended }) []) (sym same)
    (subst (λ a. IsReadOn max old a []) (sym view) (read_nothing max old made))

pub nothing_within : (most : ℕ) → length (concat []) ≤ most
nothing_within most = omega arith

-- a read gave a piece
pub read_once : (max most : ℕ) (old new : Ahead) (items all piece : List ℕ) (start text_len reads n : ℕ) (ended : Bool) → record { bytes = drop start items; reads = reads; ended = ended } ≡ old
    → new ≡ record { bytes = drop start all; reads = reads + 1; ended = n == 0 } → all ≡ items ++ piece → n ≡ length piece → n ≤ most → most ≤ 8192 → start + text_len ≤ length items → 0 < max - reads → old.ended ≡ false
    → IsReadOn max old new (piece ∷ []) × (length (concat (piece ∷ [])) ≤ most)
read_once max most old new items all piece start text_len reads n ended view made same size within few fits left going =
    let whole : length (concat (piece ∷ [])) ≡ length piece = ap length (append-nil piece) in
    let before : ended ≡ false = ap (λ (a : Ahead). a.ended) view ∙ going in
    let is : IsReadOn max (record { bytes = drop start items; reads = reads; ended = ended }) (record { bytes = drop start all; reads = reads + 1; ended = n == 0 }) (piece ∷ []) = record {
      bytes = ap (drop start) same ∙ drop-append-le start items piece (omega arith) ∙ ap (λ l. drop start items ++ l) (sym (append-nil piece));
      reads = refl;
      within = omega arith;
      ended = ap (λ k. k == 0) size ∙ met_end piece ∙ ap (λ b. b || ends (piece ∷ [])) (sym before);
      stays = λ h. absurd (false≢true (sym before ∙ h));
      none_ends = λ h. (some_bytes piece (ap (λ k. k == 0) (sym size) ∙ h), tt);
      none_after = tt;
      few = omega (arith, whole, size, within, few);
    } in (
      subst (λ a. IsReadOn max a new (piece ∷ [])) view (subst (λ a. IsReadOn max (record { bytes = drop start items; reads = reads; ended = ended }) a (piece ∷ [])) (sym made) is),
      omega (arith, whole, size, within),
    )
  where
    met_end : (piece : List ℕ) → (length piece == 0) ≡ ends (piece ∷ [])
    met_end [] = refl
    met_end (b ∷ bs) = search rules

    some_bytes : (piece : List ℕ) → (length piece == 0) ≡ false → 0 < length piece
    some_bytes [] h = absurd (false≢true (sym h))
    some_bytes (b ∷ bs) h = omega arith

none_append : (xs ys : List (List ℕ)) → NoneEnds xs → NoneEnds ys → NoneEnds (xs ++ ys)
none_append [] ys h k = k
none_append (x ∷ xs) ys h k = (h.0, none_append xs ys h.1 k)

after_append : (xs ys : List (List ℕ)) → NoneEnds xs → NoneAfterEnd ys → NoneAfterEnd (xs ++ ys)
after_append [] ys h k = k
after_append (x ∷ []) [] h k = tt
after_append (x ∷ []) (y ∷ ys) h k = (h.0, k)
after_append (x ∷ (z ∷ xs)) ys h k = (h.0, after_append (z ∷ xs) ys h.1 k)

after_then : (b : Bool) (xs ys : List (List ℕ)) → NoneAfterEnd xs → NoneAfterEnd ys → (b ≡ false → NoneEnds xs) → (IsTrue b → ys ≡ []) → NoneAfterEnd (xs ++ ys)
after_then true xs ys h k none stays = subst (λ l. NoneAfterEnd (xs ++ l)) (sym (stays refl)) (subst NoneAfterEnd (sym (append-nil xs)) h)
after_then false xs ys h k none stays = after_append xs ys (none refl) k

ended_then : (a b c : Bool) (xs ys : List (List ℕ)) → b ≡ (a || ends xs) → c ≡ (b || ends ys) → (IsTrue b → ys ≡ []) → c ≡ (a || ends (xs ++ ys))
ended_then a b c xs [] first second stays = second ∙ or_false b ∙ first ∙ ap (λ l. a || ends l) (sym (append-nil xs))
  where
    or_false : (b : Bool) → (b || false) ≡ b
    or_false true = refl
    or_false false = refl
ended_then true b c xs (y ∷ ys) first second stays = absurd (no_list (stays first))
  where
    no_list : y ∷ ys ≡ [] → ⊥
    no_list h = cc
ended_then false true c xs (y ∷ ys) first second stays = absurd (no_list (stays refl))
  where
    no_list : y ∷ ys ≡ [] → ⊥
    no_list h = cc
ended_then false false c xs (y ∷ ys) first second stays = second ∙ sym (ends-append xs y ys)

or_left : (a b c : Bool) → c ≡ (a || b) → c ≡ false → a ≡ false
or_left true b c h k = absurd (false≢true (sym k ∙ h))
or_left false b c h k = refl

or_true : (a b c : Bool) → c ≡ (a || b) → a ≡ true → c ≡ true
or_true a b c h k = h ∙ ap (λ t. t || b) k

-- one run of reads after another
pub read_then : (max : ℕ) (a b c : Ahead) (xs ys : List (List ℕ)) → IsReadOn max a b xs → IsReadOn max b c ys → IsReadOn max a c (xs ++ ys)
read_then max a b c xs ys first second =
    let all : concat (xs ++ ys) ≡ concat xs ++ concat ys = flat_map-append (λ x. x) xs ys in
    record {
      bytes = second.bytes ∙ ap (λ l. l ++ concat ys) first.bytes ∙ append_assoc a.bytes (concat xs) (concat ys) ∙ ap (λ l. a.bytes ++ l) (sym all);
      reads = omega (arith, first.reads, second.reads, length-append xs ys);
      within = second.within;
      ended = ended_then a.ended b.ended c.ended xs ys first.ended second.ended second.stays;
      stays = λ h.
          let none : xs ≡ [] = first.stays h in
          let more : ys ≡ [] = second.stays (or_true a.ended (ends xs) b.ended first.ended h) in
          cc;
      none_ends = λ h.
          none_append xs ys (first.none_ends (or_left b.ended (ends ys) c.ended second.ended h)) (second.none_ends h);
      none_after = after_then b.ended xs ys first.none_after second.none_after first.none_ends second.stays;
      few = omega (arith, first.few, second.few, ap length all, length-append (concat xs) (concat ys), length-append xs ys);
    }

-- what may follow the bytes after the reads may follow the first with them
pub follows_read : (max : ℕ) (old new : Ahead) (pieces : List (List ℕ)) (rest : List ℕ) → IsReadOn max old new pieces → MayFollow new.ended rest → MayFollow old.ended (concat pieces ++ rest)
follows_read max old new pieces rest read may ended =
    let none : pieces ≡ [] = read.stays ended in
    let now : new.ended ≡ true = or_true old.ended (ends pieces) new.ended read.ended ended in
    let nothing : rest ≡ [] = may now in
    ap (λ ps. concat ps ++ rest) none ∙ nothing

-- the bytes that were ahead stay in front
pub front_stays : (max : ℕ) (old new : Ahead) (pieces : List (List ℕ)) (n : ℕ) → IsReadOn max old new pieces → n ≤ length old.bytes → take n new.bytes ≡ take n old.bytes
front_stays max old new pieces n read h = ap (take n) read.bytes ∙ take-append-le n old.bytes (concat pieces) h

pub back_grows : (max : ℕ) (old new : Ahead) (pieces : List (List ℕ)) (n : ℕ) → IsReadOn max old new pieces → n ≤ length old.bytes
    → drop n new.bytes ≡ drop n old.bytes ++ concat pieces
back_grows max old new pieces n read h = ap (drop n) read.bytes ∙ drop-append-le n old.bytes (concat pieces) h

pub grows : (max : ℕ) (old new : Ahead) (pieces : List (List ℕ)) → IsReadOn max old new pieces → length new.bytes ≡ length old.bytes + length (concat pieces)
grows max old new pieces read = ap length read.bytes ∙ length-append old.bytes (concat pieces)

-- a count that stood still and then rose
pub rises_from : (a b c : ℕ) → b ≡ a → Rises b c → Rises a c
rises_from a b c e h = subst (λ k. Rises k c) e h

pub ended_on : (max : ℕ) (old new : Ahead) (pieces : List (List ℕ)) → IsReadOn max old new pieces → IsTrue old.ended → IsTrue new.ended
ended_on max old new pieces read h = or_true old.ended (ends pieces) new.ended read.ended h

-- a read, or none, that was needed
pub needed_one : (max_reads max : ℕ) (old new : Ahead) (pieces : List (List ℕ)) → IsReadOn max_reads old new pieces → new.reads ≤ old.reads + 1 → IsUndecided max old.bytes → AreNeeded max old.bytes pieces
needed_one max_reads max old new [] read one undecided = tt
needed_one max_reads max old new (piece ∷ []) read one undecided = (undecided, omega (arith, read.few, ap length (append-nil piece)), tt)
needed_one max_reads max old new (piece ∷ (next ∷ pieces)) read one undecided = absurd (omega (arith, read.reads, one))

needed_append : (max : ℕ) (bytes : List ℕ) (xs ys : List (List ℕ)) → AreNeeded max bytes xs → AreNeeded max (bytes ++ concat xs) ys → AreNeeded max bytes (xs ++ ys)
needed_append max bytes [] ys first second = subst (λ l. AreNeeded max l ys) (append-nil bytes) second
needed_append max bytes (x ∷ xs) ys first second =
    (first.0, first.1, needed_append max (bytes ++ x) xs ys first.2 (subst (λ l. AreNeeded max l ys) (sym (append_assoc bytes x (concat xs))) second))

-- one run of needed reads after another
pub needed_then : (max_reads max : ℕ) (old new : Ahead) (xs ys : List (List ℕ)) → IsReadOn max_reads old new xs → AreNeeded max old.bytes xs → AreNeeded max new.bytes ys → AreNeeded max old.bytes (xs ++ ys)
needed_then max_reads max old new xs ys read first second = needed_append max old.bytes xs ys first (subst (λ l. AreNeeded max l ys) read.bytes second)
