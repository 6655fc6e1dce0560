-- Lines, and where they end.
use Rattle.std.proofs.Common.{◌≡◌, ℕ, ◌<◌, ◌≤◌, ◌+◌, ◌-◌, Bool, true, false, ◌==◌, List, [], ◌∷◌, ◌++◌, length, take, drop, get_or, subst, refl, sym, ◌∙◌, ap, arith, append_assoc, take-append-drop}
use Rattle.std.proofs.Math.Seq.{take-add}
use Rattle.std.proofs.lemmas.Bool.{ne_eqb, eq-eqb, eqb-true, false≢true}
use Rattle.std.specs.Prelude.{Some, None, zero, suc}
use Rattle.memchr.specs.Find.{IsFirstByte, is_byte}
use Rattle.std.proofs.lemmas.List.{take_more}
use Rattle.std.proofs.lemmas.Grind.{common_steps}
use Rattle.bz_token.specs.Cuts.{first_line, is_physical_line, ends_in_newline}
use Rattle.bz_devices.specs.private.AheadSteps.{IsOpen, IsLine}

first_more : (b : ℕ) (rest : List ℕ) → (b == 10) ≡ false → first_line (b ∷ rest) ≡ b ∷ first_line rest
first_more b rest h = ap (λ t. b ∷ elim t [ true ↦ [] | false ↦ first_line rest ]) h

open_byte : (xs : List ℕ) (b : ℕ) → (b == 10) ≡ false → IsOpen xs → IsOpen (xs ++ b ∷ [])
open_byte xs b other is rest =
    ap first_line (append_assoc xs (b ∷ []) rest)
    ∙ is (b ∷ rest)
    ∙ ap (λ l. xs ++ l) (first_more b rest other)
    ∙ sym (append_assoc xs (b ∷ []) (first_line rest))

newline_append : (xs ys : List ℕ) → ends_in_newline ys ≡ true → ends_in_newline (xs ++ ys) ≡ true
newline_append [] ys h = h
newline_append (x ∷ []) [] h = absurd (false≢true h)
newline_append (x ∷ []) (y ∷ ys) h = h
newline_append (x ∷ (x' ∷ xs)) ys h = newline_append (x' ∷ xs) ys h

line_byte : (xs : List ℕ) → IsOpen xs → IsLine (xs ++ 10 ∷ [])
line_byte xs is = record {
  newline = newline_append xs (10 ∷ []) refl;
  first = λ rest. ap first_line (append_assoc xs (10 ∷ []) rest) ∙ is (10 ∷ rest);
}

-- one byte more
pub line_at : (bytes : List ℕ) (i d : ℕ) → i < length bytes → get_or bytes i d ≡ 10 → IsOpen (take i bytes) → IsLine (take (i + 1) bytes)
line_at bytes i d h newline is =
    subst (λ l. IsLine l) (sym (take_more bytes i d h ∙ ap (λ b. take i bytes ++ b ∷ []) newline)) (line_byte (take i bytes) is)

pub open_at : (bytes : List ℕ) (i d : ℕ) → i < length bytes → (get_or bytes i d ≡ 10 → ⊥) → IsOpen (take i bytes) → IsOpen (take (i + 1) bytes)
open_at bytes i d h other is =
    subst (λ l. IsOpen l) (sym (take_more bytes i d h)) (open_byte (take i bytes) (get_or bytes i d) (ne_eqb (get_or bytes i d) 10 other) is)

pub open_all : (bytes : List ℕ) (i : ℕ) → length bytes ≤ i → IsOpen (take i bytes) → IsOpen bytes
open_all bytes i h is =
    let all : take i bytes ≡ bytes = grind (arith, common_steps) in
    subst (λ l. IsOpen l) all is

-- no newline stands before this place
pub open_front : (bytes : List ℕ) (n : ℕ) → n ≤ length bytes → ((k : ℕ) → k < n → get_or bytes k 0 ≡ 10 → ⊥) → IsOpen (take n bytes)
open_front bytes zero h none = λ rest. refl
open_front bytes (suc n) h none =
    let less : n < length bytes = omega (arith, h) in
    let next : n + 1 ≡ suc n = omega arith in
    subst (λ m. IsOpen (take m bytes)) next (open_at bytes n 0 less (none n (omega arith)) (open_front bytes n (omega (arith, h)) (λ k below. none k (omega (arith, below)))))

-- The first newline ends the line; without one nothing does.
pub line_found : (bytes : List ℕ) (n : ℕ) → IsFirstByte (is_byte 10) bytes (Some n) → IsLine (take (n + 1) bytes)
line_found bytes n is = line_at bytes n 0 is.0.high (eqb-true (get_or bytes n 0) 10 is.1) (open_front bytes n (omega (arith, is.0.high)) (λ k below e. is.0.before k (omega arith) below (eq-eqb (get_or bytes k 0) 10 e)))

pub none_found : (bytes : List ℕ) → IsFirstByte (is_byte 10) bytes None → IsOpen bytes
none_found bytes is = open_all bytes (length bytes) (omega arith) (open_front bytes (length bytes) (omega arith) (λ k below e. is k (omega arith) below (eq-eqb (get_or bytes k 0) 10 e)))

-- one part of a line more
pub open_then : (xs ys : List ℕ) → IsOpen xs → IsOpen ys → IsOpen (xs ++ ys)
open_then xs ys p q rest =
    ap first_line (append_assoc xs ys rest) ∙ p (ys ++ rest) ∙ ap (λ l. xs ++ l) (q rest) ∙ sym (append_assoc xs ys (first_line rest))

pub line_then : (xs ys : List ℕ) → IsOpen xs → IsLine ys → IsLine (xs ++ ys)
line_then xs ys p q = record {
  newline = newline_append xs ys q.newline;
  first = λ rest. ap first_line (append_assoc xs ys rest) ∙ p (ys ++ rest) ∙ ap (λ l. xs ++ l) (q.first rest);
}

physical_more : (b : ℕ) (xs : List ℕ) → (b == 10) ≡ false → is_physical_line xs ≡ true → is_physical_line (b ∷ xs) ≡ true
physical_more b [] n h = refl
physical_more b (c ∷ xs) n h = rw n h

physical_step : (b : ℕ) (t : Bool) (bs : List ℕ) → (b == 10) ≡ t → is_physical_line (first_line bs) ≡ true
    → is_physical_line (b ∷ elim t [ true ↦ [] | false ↦ first_line bs ]) ≡ true
physical_step b true bs e h = refl
physical_step b false bs e h = physical_more b (first_line bs) e h

-- a first line is a physical line
pub line_is_physical : (bytes : List ℕ) → is_physical_line (first_line bytes) ≡ true
line_is_physical [] = refl
line_is_physical (b ∷ bs) = physical_step b (b == 10) bs refl (line_is_physical bs)

pub tail_is : (bytes : List ℕ) (e : ℕ) → take (length bytes - e) (drop e bytes) ≡ drop e bytes
tail_is bytes e = grind (arith, common_steps)

-- from one place to the next, and on
pub slice_more : (bytes : List ℕ) (e s n : ℕ) → e ≤ s → take (s + n - e) (drop e bytes) ≡ take (s - e) (drop e bytes) ++ take n (drop s bytes)
slice_more bytes e s n h =
    let len : s + n - e ≡ (s - e) + n = omega arith in
    let there : e + (s - e) ≡ s = omega arith in
    let rest : drop (s - e) (drop e bytes) ≡ drop s bytes = grind (arith, common_steps) in
    ap (λ k. take k (drop e bytes)) len ∙ take-add (s - e) n (drop e bytes) ∙ ap (λ l. take (s - e) (drop e bytes) ++ take n l) rest

pub slice_all : (bytes : List ℕ) (e s : ℕ) → e ≤ s → drop e bytes ≡ take (s - e) (drop e bytes) ++ drop s bytes
slice_all bytes e s h =
    let there : e + (s - e) ≡ s = omega arith in
    let rest : drop (s - e) (drop e bytes) ≡ drop s bytes = grind (arith, common_steps) in
    sym (ap (λ l. take (s - e) (drop e bytes) ++ l) (sym rest) ∙ take-append-drop (s - e) (drop e bytes))

pub slice_is : (seen bytes : List ℕ) (e : ℕ) → seen ≡ bytes → take (length seen - e) (drop e seen) ≡ drop e bytes
slice_is seen bytes e same = tail_is seen e ∙ ap (drop e) same

pub front_more : (bytes : List ℕ) (e n : ℕ) → e ≤ n → take e bytes ++ take (n - e) (drop e bytes) ≡ take n bytes
front_more bytes e n h =
    let sum : e + (n - e) ≡ n = omega arith in
    sym (take-add e (n - e) bytes) ∙ ap (λ k. take k bytes) sum

-- the front with a line that was cut out of the same bytes
pub front_line : (bytes line : List ℕ) (e n : ℕ) → line ≡ take (n - e) (drop e bytes) → e ≤ n → take e bytes ++ line ≡ take n bytes
front_line bytes line e n is h = ap (λ l. take e bytes ++ l) is ∙ front_more bytes e n h
