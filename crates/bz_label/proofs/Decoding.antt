-- A literal's value taken over in runs.
use Rattle.std.proofs.Common.{◌≡◌, ℕ, ◌+◌, ◌<◌, ◌≤◌, ◌-◌, ◌==◌, ◌&&◌, ◌||◌, List, [], ◌∷◌, ◌++◌, length, take, drop, get_or, Bool, true, Option, Some, None, refl, sym, ap, ap₂, ◌∙◌, arith, inl, inr, append_assoc, append-nil, eqb-true}
use Rattle.std.specs.Prelude.{if◌then◌else◌, option_map, nat_lt}
use Rattle.std.specs.List.{list_all, find}
use Rattle.std.specs.Str.{IsUtf8, IsCharBoundary}
use Rattle.std.proofs.lemmas.Bool.{cases_Bool, and_parts, or_left, or_right, ltb-true}
use Rattle.std.proofs.lemmas.List.{drop-drop, take_more, get_or-drop, length-drop}
use Rattle.std.proofs.lemmas.Str.{IsCharBoundary-after_ascii, IsCharBoundary-before_ascii}
use Rattle.bz_label.specs.Values.{escapes, escape_value}
use Rattle.bz_label.specs.private.ValueSteps.{first_len, is_newline, unit_value, value_in, taken}
use Rattle.bz_label.proofs.Literals.{taken_is}

-- the bytes of a run that were read
abbrev pub read : List ℕ → List ℕ → List ℕ
read run rest = take (length run - length rest) run

abbrev pub after : List ℕ → Option (List ℕ) → Option (List ℕ)
after done o = option_map (λ v. done ++ v) o

-- where the walk stands: `done` is written, what was read of the run is to be, and the value of `rest` is `o`
pub record Decoded (whole : Option (List ℕ)) (done run rest : List ℕ) (o : Option (List ℕ)) : Type 0 where
  pub utf8 : IsUtf8 run
  pub fits : length rest ≤ length run
  pub place : rest ≡ drop (length run - length rest) run
  pub same : after (done ++ read run rest) o ≡ whole

after_nothing : (o : Option (List ℕ)) → after [] o ≡ o
after_nothing None = refl
after_nothing (Some v) = refl

after_more : (a b : List ℕ) (o : Option (List ℕ)) → after a (after b o) ≡ after (a ++ b) o
after_more a b None = refl
after_more a b (Some v) = ap (λ (x : List ℕ). Some x) (sym (append_assoc a b v))

after_one : (v : ℕ) (o : Option (List ℕ)) → option_map (λ bs. v ∷ bs) o ≡ after (v ∷ []) o
after_one v None = refl
after_one v (Some w) = refl

read_none : (run : List ℕ) → read run run ≡ []
read_none run = let none : length run - length run ≡ 0 = omega arith in ap (λ k. take k run) none

pub start : (whole : Option (List ℕ)) (run rest : List ℕ) (o : Option (List ℕ)) → IsUtf8 run → run ≡ rest → o ≡ whole → Decoded whole [] run rest o
start whole run rest o utf8 e is =
    let none : length run - length run ≡ 0 = omega arith in
    rw (← e) (record {
      utf8 = utf8;
      fits = omega arith;
      place = rw none refl;
      same = ap (λ (w : List ℕ). after w o) (read_none run) ∙ after_nothing o ∙ is;
    })

use_value : (raw short : Bool) (u : List ℕ) (v : ℕ) → value_in raw short u ≡ Some v → unit_value raw u ≡ Some v
use_value raw short u v h = elim (cases_Bool (short && is_newline u)) [
  | inl is ↦ let none : None ≡ Some v = rw is at h in absurd (cc)
  | inr other ↦ rw other at h
]

-- a byte that stands for itself
single : (raw : Bool) (rest : List ℕ) (v : ℕ) → 0 < length rest → unit_value raw (take 1 rest) ≡ Some v → v ≡ get_or rest 0 0
single raw [] v some h = absurd (omega arith)
single raw (b ∷ rest) v some h = elim (cases_Bool (b == 92)) [
  | inl is ↦ let none : None ≡ Some v = rw is at h in absurd (cc)
  | inr other ↦ let this : Some b ≡ Some v = rw other at h in cc
]

-- the value that a table has for a byte
abbrev meant : ℕ → List (ℕ × ℕ) → Option ℕ
meant c es = option_map (λ e. e.1) (find (λ e. c == e.0) es)

meant_small : (c v : ℕ) (es : List (ℕ × ℕ)) → list_all (λ e. nat_lt e.0 128 && nat_lt e.1 128) es ≡ true → meant c es ≡ Some v → (c < 128) × (v < 128)
meant_small c v [] h is = absurd (cc)
meant_small c v (e ∷ es) h is =
    let parts = and_parts (nat_lt e.0 128 && nat_lt e.1 128) (list_all (λ e. nat_lt e.0 128 && nat_lt e.1 128) es) h in
    let small = and_parts (nat_lt e.0 128) (nat_lt e.1 128) parts.0 in
    let low : e.0 < 128 = ltb-true e.0 128 small.0 in
    let worth_low : e.1 < 128 = ltb-true e.1 128 small.1 in
    elim (cases_Bool (c == e.0)) [
      | inl same ↦
          let this : Some e.1 ≡ Some v = rw same at is in
          let key : c ≡ e.0 = eqb-true c e.0 same in
          let worth : e.1 ≡ v = cc in
          (omega arith, omega arith)
      | inr other ↦ meant_small c v es parts.1 (rw other at is)
    ]

-- an escape with a value, and a carriage return with its newline: ASCII at both ends, and so is the value
pub record Ascii (rest : List ℕ) (n v : ℕ) : Type 0 where
  pub first : get_or rest 0 0 < 128
  pub last : get_or rest (n - 1) 0 < 128
  pub worth : v < 128
  pub fits : n ≤ length rest

abbrev Pair : ℕ → ℕ → ℕ → Type 0
Pair b c v = (b < 128) × (c < 128) × (v < 128)

pair_ascii : (raw : Bool) (b c v : ℕ) → b == 92 || b == 13 && c == 10 ≡ true → unit_value raw (b ∷ c ∷ []) ≡ Some v → Pair b c v
pair_ascii raw b c v h is = elim (cases_Bool (b == 92)) [
  | inl back ↦
      let e : b ≡ 92 = eqb-true b 92 back in
      let this : (if raw then None else escape_value c) ≡ Some v = rw back at is in
      elim (cases_Bool raw) [
        | inl r ↦ let none : None ≡ Some v = rw r at this in absurd (cc)
        | inr r ↦ let value : escape_value c ≡ Some v = rw r at this in let small = meant_small c v escapes refl value in (omega arith, small.0, small.1)
      ]
  | inr other ↦
      let both : b == 13 && c == 10 ≡ true = rw other at h in
      let parts = and_parts (b == 13) (c == 10) both in
      let e : b ≡ 13 = eqb-true b 13 parts.0 in
      let f : c ≡ 10 = eqb-true c 10 parts.1 in
      let this : Some c ≡ Some v = rw other at is in
      let g : c ≡ v = cc in
      (omega arith, omega arith, omega arith)
]

pub ascii_unit : (raw : Bool) (rest : List ℕ) (v : ℕ) → 1 < first_len rest → unit_value raw (take (first_len rest) rest) ≡ Some v → Ascii rest (first_len rest) v
ascii_unit raw [] v more is = absurd (omega arith)
ascii_unit raw (b ∷ []) v more is = absurd (omega arith)
ascii_unit raw (b ∷ c ∷ []) v more is = elim (cases_Bool (b == 92 || b == 13 && c == 10)) [
  | inl pair ↦
      let this : unit_value raw (b ∷ c ∷ []) ≡ Some v = rw pair at is in
      let p = pair_ascii raw b c v pair this in
      rw pair (record { first = p.0; last = p.1; worth = p.2; fits = omega arith })
  | inr other ↦ let none : 1 < 1 = rw other at more in absurd (omega arith)
]
ascii_unit raw (b ∷ c ∷ d ∷ bs) v more is = elim (cases_Bool (b == 92)) [
  | inl back ↦ elim (cases_Bool (c == 13 && d == 10)) [
    | inl three ↦ let none : None ≡ Some v = rw (back, three) at is in absurd (cc)
    | inr two ↦
        let this : unit_value raw (b ∷ c ∷ []) ≡ Some v = rw (back, two) at is in
        let p = pair_ascii raw b c v (or_left (b == 92) (b == 13 && c == 10) back) this in
        rw (back, two) (record { first = p.0; last = p.1; worth = p.2; fits = omega arith })
  ]
  | inr other ↦ elim (cases_Bool (b == 13 && c == 10)) [
    | inl pair ↦
        let this : unit_value raw (b ∷ c ∷ []) ≡ Some v = rw (other, pair) at is in
        let p = pair_ascii raw b c v (or_right (b == 92) (b == 13 && c == 10) pair) this in
        rw (other, pair) (record { first = p.0; last = p.1; worth = p.2; fits = omega arith })
    | inr none ↦ let one : 1 < 1 = rw (other, none) at more in absurd (omega arith)
  ]
]

pub boundary_after : (inner : List ℕ) (k n : ℕ) → IsUtf8 inner → k < length inner → get_or inner k 0 < 128 → k + 1 ≡ n → IsCharBoundary inner n
boundary_after inner k n utf8 some low e = rw (sym e) (IsCharBoundary-after_ascii inner k utf8 some low)

first_len_fits : (bs : List ℕ) → first_len bs ≤ length bs
first_len_fits [] = omega arith
first_len_fits (b ∷ []) = omega arith
first_len_fits (b ∷ c ∷ []) = elim (cases_Bool (b == 92 || b == 13 && c == 10)) [
  | inl is ↦ rw is (omega arith)
  | inr other ↦ rw other (omega arith)
]
first_len_fits (b ∷ c ∷ d ∷ bs) = elim (cases_Bool (b == 92)) [
  | inl back ↦ elim (cases_Bool (c == 13 && d == 10)) [
    | inl is ↦ rw (back, is) (omega arith)
    | inr other ↦ rw (back, other) (omega arith)
  ]
  | inr plain ↦ elim (cases_Bool (b == 13 && c == 10)) [
    | inl is ↦ rw (plain, is) (omega arith)
    | inr other ↦ rw (plain, other) (omega arith)
  ]
]

-- how many bytes a unit has that was taken
count : (raw short : Bool) (rest more : List ℕ) (b : ℕ) → taken raw short rest ≡ Some (b, more) → first_len rest ≡ length rest - length more
count raw short rest more b e =
    let is = taken_is raw short rest more b e in
    omega (arith, ap length is.1, length-drop (first_len rest) rest, first_len_fits rest)

-- a unit of more than one byte
pub escaped : (raw short : Bool) (rest more : List ℕ) (b : ℕ) → taken raw short rest ≡ Some (b, more) → 1 < length rest - length more → Ascii rest (length rest - length more) b
escaped raw short rest more b e long =
    let is = taken_is raw short rest more b e in
    let n : first_len rest ≡ length rest - length more = count raw short rest more b e in
    let many : 1 < first_len rest = omega (arith, n, long) in
    rw n at (ascii_unit raw rest b many (use_value raw short (take (first_len rest) rest) b is.0))

-- what is left after a unit, as a part of the run
left_in : (run rest more : List ℕ) (n : ℕ) → length rest ≤ length run → rest ≡ drop (length run - length rest) run → drop n rest ≡ more → n ≡ length rest - length more → length more < length rest → more ≡ drop (length run - length more) run
left_in run rest more n fits place is e shorter =
    let all : length run - length rest + n ≡ length run - length more = omega (arith, e, fits, shorter) in
    sym is ∙ ap (drop n) place ∙ drop-drop n (length run - length rest) run ∙ ap (λ k. drop k run) all

-- what one value more says
one_more : (whole o o' : Option (List ℕ)) (w : List ℕ) (b : ℕ) → after w o ≡ whole → o ≡ option_map (λ bs. b ∷ bs) o' → after (w ++ b ∷ []) o' ≡ whole
one_more whole o o' w b h e = sym (after_more w (b ∷ []) o') ∙ ap (after w) (sym (e ∙ after_one b o')) ∙ h

in_run : (run rest : List ℕ) (i : ℕ) → length rest ≤ length run → rest ≡ drop (length run - length rest) run → get_or rest i 0 ≡ get_or run (length run - length rest + i) 0
in_run run rest i fits place = ap (λ (bs : List ℕ). get_or bs i 0) place ∙ get_or-drop (length run - length rest) run i 0

-- the place before an escape
pub before_escape : (run rest : List ℕ) (n b : ℕ) → length rest ≤ length run → rest ≡ drop (length run - length rest) run → 0 < n → Ascii rest n b → IsCharBoundary run (length run - length rest)
before_escape run rest n b fits place some a =
    let at : length run - length rest + 0 ≡ length run - length rest = omega arith in
    let first : get_or run (length run - length rest) 0 < 128 = rw (in_run run rest 0 fits place, at) at a.first in
    IsCharBoundary-before_ascii run (length run - length rest) (omega (arith, a.fits, fits)) first

-- the place after one
pub after_escape : (run rest more : List ℕ) (b : ℕ) → IsUtf8 run → length rest ≤ length run → rest ≡ drop (length run - length rest) run → 1 < length rest - length more → Ascii rest (length rest - length more) b → IsCharBoundary run (length run - length more)
after_escape run rest more b utf8 fits place long a =
    let last : get_or run (length run - length rest + (length rest - length more - 1)) 0 < 128 = rw (in_run run rest (length rest - length more - 1) fits place) at a.last in
    boundary_after run (length run - length rest + (length rest - length more - 1)) (length run - length more) utf8 (omega (arith, fits, long)) last (omega (arith, fits, long))

-- an escape is written, and a new run begins after it
pub past_escape : (raw short : Bool) (whole o o' : Option (List ℕ)) (done new run next rest more : List ℕ) (b : ℕ) → Decoded whole done run rest o → taken raw short rest ≡ Some (b, more) → length more < length rest → o ≡ option_map (λ bs. b ∷ bs) o'
    → IsUtf8 next → next ≡ drop (length run - length more) run → new ≡ done ++ read run rest ++ b ∷ [] → Decoded whole new next more o'
past_escape raw short whole o o' done new run next rest more b d e shorter is utf8 from written =
    let taken = taken_is raw short rest more b e in
    let same : more ≡ next = left_in run rest more (first_len rest) d.fits d.place taken.1 (count raw short rest more b e) shorter ∙ sym from in
    let none : length next - length next ≡ 0 = omega arith in
    rw same (record {
      utf8 = utf8;
      fits = omega arith;
      place = rw none refl;
      same =
          ap₂ (λ (w v : List ℕ). after (w ++ v) o') written (read_none next)
          ∙ ap (λ (w : List ℕ). after w o') (append-nil (done ++ read run rest ++ b ∷ []))
          ∙ one_more whole o o' (done ++ read run rest) b d.same is;
    })

-- a byte that stands for itself joins the run
pub past_byte : (raw short : Bool) (whole o o' : Option (List ℕ)) (done run rest more : List ℕ) (b : ℕ) → Decoded whole done run rest o → taken raw short rest ≡ Some (b, more) → length more < length rest → length rest - length more ≤ 1 → o ≡ option_map (λ bs. b ∷ bs) o'
    → Decoded whole done run more o'
past_byte raw short whole o o' done run rest more b d e shorter short_ is =
    let taken = taken_is raw short rest more b e in
    let n : first_len rest ≡ length rest - length more = count raw short rest more b e in
    let one : first_len rest ≡ 1 = omega (arith, n, shorter, short_) in
    let unit : value_in raw short (take 1 rest) ≡ Some b = rw one at taken.0 in
    let at : length run - length rest + 0 ≡ length run - length rest = omega arith in
    let byte : b ≡ get_or run (length run - length rest) 0 = single raw rest b (omega (arith, shorter)) (use_value raw short (take 1 rest) b unit) ∙ in_run run rest 0 d.fits d.place ∙ ap (λ k. get_or run k 0) at in
    let next : length run - length more ≡ length run - length rest + 1 = omega (arith, d.fits, shorter, short_) in
    let grown : read run more ≡ read run rest ++ b ∷ [] = ap (λ k. take k run) next ∙ take_more run (length run - length rest) 0 (omega (arith, d.fits, shorter)) ∙ ap (λ (c : ℕ). read run rest ++ c ∷ []) (sym byte) in
    record {
      utf8 = d.utf8;
      fits = omega (arith, d.fits, shorter);
      place = left_in run rest more (first_len rest) d.fits d.place taken.1 n shorter;
      same =
          ap (λ (w : List ℕ). after w o') (ap (λ (w : List ℕ). done ++ w) grown ∙ sym (append_assoc done (read run rest) (b ∷ [])))
          ∙ one_more whole o o' (done ++ read run rest) b d.same is;
    }
