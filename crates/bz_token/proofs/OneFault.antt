-- A text has one list of tokens or one first fault.
use Rattle.std.proofs.Common.{◌≡◌, ℕ, ◌<◌, ◌≤◌, List, [], ◌∷◌, ◌++◌, length, Bool, true, false, refl, sym, ap, ap₂, ◌∙◌, arith, inl, inr, length-append, append-nil}
use Rattle.std.specs.Prelude.{Option, Some}
use Rattle.std.proofs.lemmas.Bool.{cases_lt, false≢true}
use Rattle.bz_token.specs.declared.fault.LexFault.{LexFault}
use Rattle.bz_token.specs.Places.{Placed, line_at, column_at}
use Rattle.bz_token.specs.Brackets.{is_inside, open_tokens}
use Rattle.bz_token.specs.Reading.{is_gap, begins_gap, Piece, open_after, bytes_of, tokens_of, AreTokensOf}
use Rattle.bz_token.specs.Faults.{fault_at, IsFirstFault}
use Rattle.bz_token.proofs.Progress.{open_lengths}
use Rattle.bz_token.proofs.Unique.{gap_begins, one_reading, gap_stuck, longer_front, same_fronts, gap_tail}

-- a gap that does not go on is the only one
same_gaps : (inside : Bool) (g h x y : List ℕ) → g ++ x ≡ h ++ y → is_gap inside g ≡ true → is_gap inside h ≡ true → begins_gap inside x ≡ false → begins_gap inside y ≡ false → (g ≡ h) × (x ≡ y)
same_gaps inside g h x y same is is2 none none2 = same_fronts g h x y same (omega (arith, shorter g h x y same is is2 none, shorter h g y x (sym same) is2 is none2))
  where
    shorter : (g h x y : List ℕ) → g ++ x ≡ h ++ y → is_gap inside g ≡ true → is_gap inside h ≡ true → begins_gap inside x ≡ false → length h ≤ length g
    shorter g h x y same is is2 none = elim (cases_lt (length g) (length h)) [
      | inr more ↦ more
      | inl less ↦
          let r = longer_front g h x y same (omega arith) in
          absurd (at_place r.0 x y r.2 (gap_tail inside g r.0 (ap (is_gap inside) (sym r.1) ∙ is2) is) none (omega (arith, ap length r.1, length-append g r.0)))
    ]
      where
        at_place : (more x y : List ℕ) → x ≡ more ++ y → is_gap inside more ≡ true → begins_gap inside x ≡ false → 0 < length more → ⊥
        at_place [] x y same gap none some = omega arith
        at_place (m ∷ more) x y same gap none some = false≢true (sym none ∙ ap (begins_gap inside) same ∙ gap_begins inside m more y gap)

-- the fault after pieces and a gap
abbrev told_after : ℕ → List Piece → List ℕ → List ℕ → Option LexFault
told_after first ps gap place = fault_at place (open_tokens [] (tokens_of first [] [] ps)) (line_at first (bytes_of ps ++ gap)) (column_at (bytes_of ps ++ gap))

-- a text has one first fault
pub one_fault : (first depth : ℕ) (bytes : List ℕ) (f g : LexFault) → IsFirstFault first depth bytes f → IsFirstFault first depth bytes g → f ≡ g
one_fault first depth bytes f g a b =
    let one = one_reading depth [] a.pieces b.pieces (a.gap ++ a.place) (b.gap ++ b.place) bytes a.reading a.stuck b.reading b.stuck in
    let inside : is_inside (open_after [] b.pieces) ≡ is_inside (open_after [] a.pieces) = ap (λ ps. is_inside (open_after [] ps)) (sym one.0) in
    let places = same_gaps (is_inside (open_after [] a.pieces)) a.gap b.gap a.place b.place one.1 a.is_gap (ap (λ i. is_gap i b.gap) (sym inside) ∙ b.is_gap) a.after_gap (ap (λ i. begins_gap i b.place) (sym inside) ∙ b.after_gap) in
    same_some (sym a.is ∙ ap (λ ps. told_after first ps a.gap a.place) one.0 ∙ ap₂ (told_after first b.pieces) places.0 places.1 ∙ b.is)
  where
    same_some : Some f ≡ Some g → f ≡ g
    same_some e = cc

-- a text has one list of tokens
pub one_tokens : (first depth : ℕ) (bytes : List ℕ) (ts us : List Placed) → AreTokensOf first depth bytes ts → AreTokensOf first depth bytes us → ts ≡ us
one_tokens first depth bytes ts us a b =
    let one = one_reading depth [] a.0 b.0 a.1 b.1 bytes a.2 (gap_stuck depth (open_after [] a.0) a.1 (ap (λ o. is_gap (is_inside o) a.1) a.4 ∙ a.3)) b.2 (gap_stuck depth (open_after [] b.0) b.1 (ap (λ o. is_gap (is_inside o) b.1) b.4 ∙ b.3)) in
    a.5 ∙ ap (tokens_of first [] []) one.0 ∙ sym b.5

-- a text with tokens has no fault
pub no_fault : (first depth : ℕ) (bytes : List ℕ) (ts : List Placed) (f : LexFault) → AreTokensOf first depth bytes ts → IsFirstFault first depth bytes f → ⊥
no_fault first depth bytes ts f a b =
    let one = one_reading depth [] a.0 b.pieces a.1 (b.gap ++ b.place) bytes a.2 (gap_stuck depth (open_after [] a.0) a.1 (ap (λ o. is_gap (is_inside o) a.1) a.4 ∙ a.3)) b.reading b.stuck in
    let none : open_after [] b.pieces ≡ [] = ap (open_after []) (sym one.0) ∙ a.4 in
    let whole : a.1 ++ [] ≡ b.gap ++ b.place = append-nil a.1 ∙ one.1 in
    let places = same_gaps false a.1 b.gap [] b.place whole a.3 (ap (λ o. is_gap (is_inside o) b.gap) (sym none) ∙ b.is_gap) refl (ap (λ o. begins_gap (is_inside o) b.place) (sym none) ∙ b.after_gap) in
    let lengths = open_lengths first [] [] [] [] b.pieces refl in
    let some = some_open (open_tokens [] (tokens_of first [] [] b.pieces)) (line_at first (bytes_of b.pieces ++ b.gap)) (column_at (bytes_of b.pieces ++ b.gap)) (ap (λ place. told_after first b.pieces b.gap place) places.1 ∙ b.is) in
    omega (arith, some, lengths, ap length none)
  where
    some_open : (opens : List Placed) (line col : ℕ) → fault_at [] opens line col ≡ Some f → 0 < length opens
    some_open [] line col e = absurd cc
    some_open (t ∷ opens) line col e = omega arith
