-- The first fault after lines.
use Rattle.std.proofs.Common.{◌≡◌, ℕ, List, [], ◌∷◌, ◌++◌, length, true, false, refl, sym, ap, ap₂, subst, ◌∙◌, arith, append_assoc, append-nil}
use Rattle.bz_token.specs.declared.fault.LexFault.{LexFault}
use Rattle.bz_token.specs.Places.{Placed, line_at, column_from, column_at}
use Rattle.bz_token.specs.Brackets.{is_inside, open_tokens}
use Rattle.bz_token.specs.Reading.{is_gap, begins_gap, Piece, IsReading, open_after, bytes_of, tokens_of}
use Rattle.bz_token.specs.Faults.{fault_at, IsFirstFault}
use Rattle.bz_token.specs.FreshStart.{ends_in_line, AreLinesOf}
use Rattle.bz_token.proofs.Progress.{newlines, newlines-append, column_from-append, reading_bytes, open_lengths}
use Rattle.bz_token.proofs.Unique.{IsStuck}
use Rattle.bz_token.proofs.Joins.{join_reading, open_after-append, bytes_of-append, joined_tokens, column_after}

-- places after lines
line_joined : (first depth : ℕ) (ps qs : List Piece) (a gap : List ℕ) → IsReading depth [] ps [] a → line_at (line_at first a) (bytes_of qs ++ gap) ≡ line_at first (bytes_of (ps ++ qs) ++ gap)
line_joined first depth ps qs a gap r =
    let whole : a ≡ bytes_of ps = reading_bytes depth [] ps [] a r ∙ append-nil (bytes_of ps) in
    let e : bytes_of (ps ++ qs) ++ gap ≡ a ++ (bytes_of qs ++ gap) = ap (λ x. x ++ gap) (bytes_of-append ps qs ∙ ap (λ x. x ++ bytes_of qs) (sym whole)) ∙ append_assoc a (bytes_of qs) gap in
    omega (arith, ap newlines e, newlines-append a (bytes_of qs ++ gap))

column_joined : (depth : ℕ) (ps qs : List Piece) (a gap : List ℕ) → IsReading depth [] ps [] a → ends_in_line ps ≡ true → column_at (bytes_of qs ++ gap) ≡ column_at (bytes_of (ps ++ qs) ++ gap)
column_joined depth ps qs a gap r line =
    let e : bytes_of (ps ++ qs) ++ gap ≡ bytes_of ps ++ (bytes_of qs ++ gap) = ap (λ x. x ++ gap) (bytes_of-append ps qs) ∙ append_assoc (bytes_of ps) (bytes_of qs) gap in
    sym (ap column_at e ∙ column_from-append 1 (bytes_of ps) (bytes_of qs ++ gap) ∙ ap (λ c. column_from c (bytes_of qs ++ gap)) (column_after depth ps a r line))

open_tokens-append : (opened ts us : List Placed) → open_tokens opened (ts ++ us) ≡ open_tokens (open_tokens opened ts) us
open_tokens-append opened [] us = refl
open_tokens-append opened (t ∷ ts) us = open_tokens-append (open_tokens opened (t ∷ [])) ts us

none_left : (xs : List Placed) → length xs ≡ 0 → xs ≡ []
none_left [] e = refl
none_left (x ∷ xs) e = absurd (omega arith)

-- no bracket of lines is open after them
open_joined : (first depth : ℕ) (ps qs : List Piece) (a : List ℕ) → IsReading depth [] ps [] a → ends_in_line ps ≡ true → open_after [] ps ≡ [] → open_tokens [] (tokens_of first [] [] (ps ++ qs)) ≡ open_tokens [] (tokens_of (line_at first a) [] [] qs)
open_joined first depth ps qs a r line closed =
    let ts = tokens_of first [] [] ps in
    let us = tokens_of (line_at first a) [] [] qs in
    let none : open_tokens [] ts ≡ [] = none_left (open_tokens [] ts) (open_lengths first [] [] [] [] ps refl ∙ ap length closed) in
    ap (open_tokens []) (joined_tokens first depth ps qs a r line) ∙ open_tokens-append [] ts us ∙ ap (λ o. open_tokens o us) none

-- the first fault of a text after lines is that of the whole, after the same pieces and those of the lines
pub fault_after_lines : (first depth : ℕ) (a b : List ℕ) (ts : List Placed) (f : LexFault) (x : AreLinesOf first depth a ts) (is : IsFirstFault (line_at first a) depth b f) → (whole : IsFirstFault first depth (a ++ b) f) × (whole.pieces ≡ x.0 ++ is.pieces)
fault_after_lines first depth a b ts f x is =
    let ps = x.0 in
    let qs = is.pieces in
    let opens : open_after [] qs ≡ open_after [] (ps ++ qs) = sym (open_after-append [] ps qs ∙ ap (λ o. open_after o qs) x.2) in (
      record {
        pieces = ps ++ qs;
        gap = is.gap;
        place = is.place;
        reading = join_reading depth [] ps qs a b (is.gap ++ is.place) x.1 x.3 (subst (λ o. IsReading depth o qs (is.gap ++ is.place) b) (sym x.2) is.reading);
        stuck = subst (λ o. IsStuck depth o (is.gap ++ is.place)) opens is.stuck;
        is_gap = subst (λ o. is_gap (is_inside o) is.gap ≡ true) opens is.is_gap;
        after_gap = subst (λ o. begins_gap (is_inside o) is.place ≡ false) opens is.after_gap;
        is =
            ap (λ opens. fault_at is.place opens (line_at first (bytes_of (ps ++ qs) ++ is.gap)) (column_at (bytes_of (ps ++ qs) ++ is.gap))) (open_joined first depth ps qs a x.1 x.3 x.2)
            ∙ ap₂ (λ line col. fault_at is.place (open_tokens [] (tokens_of (line_at first a) [] [] qs)) line col) (sym (line_joined first depth ps qs a is.gap x.1)) (sym (column_joined depth ps qs a is.gap x.1 x.3))
            ∙ is.is;
      },
      refl,
    )
