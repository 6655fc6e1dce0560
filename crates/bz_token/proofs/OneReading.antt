-- A text is read in one way up to its first fault.
use Rattle.std.proofs.Common.{◌≡◌, ℕ, ◌⊎◌, List, [], ◌++◌, refl, sym, ap, ◌∙◌, inl, inr}
use Rattle.std.specs.Prelude.{◌↔◌, Option, Some, None}
use Rattle.bz_token.specs.declared.fault.LexFault.{LexFault}
use Rattle.bz_token.specs.Places.{Placed}
use Rattle.bz_token.specs.Reading.{Piece, IsReading, open_after, tokens_of, AreTokensOf}
use Rattle.bz_token.specs.Faults.{IsFirstFault}
use Rattle.bz_token.specs.UpToFault.{IsReadAs}
use Rattle.bz_token.proofs.Unique.{IsStuck, one_reading}
use Rattle.bz_token.proofs.OneFault.{one_fault, one_tokens, no_fault}
use Rattle.bz_token.proofs.SomeReading.{some_reading}

-- after these pieces no further one stands
abbrev pub StopsAfter : ℕ → List ℕ → List Piece → Type 0
StopsAfter depth bytes ps = (rest : List ℕ) × IsReading depth [] ps rest bytes × IsStuck depth (open_after [] ps) rest

pub read_stops : (first depth : ℕ) (bytes : List ℕ) (f : LexFault) (is : IsFirstFault first depth bytes f) → StopsAfter depth bytes is.pieces
read_stops first depth bytes f is = (is.gap ++ is.place, is.reading, is.stuck)

pub same_pieces : (depth : ℕ) (bytes : List ℕ) (ps qs : List Piece) → StopsAfter depth bytes ps → StopsAfter depth bytes qs → ps ≡ qs
same_pieces depth bytes ps qs a b = (one_reading depth [] ps qs a.0 b.0 bytes a.1 a.2 b.1 b.2).0

-- a text is read in one way
pub one_way : (first depth : ℕ) (bytes : List ℕ) (ts us : List Placed) (f g : Option LexFault) → IsReadAs first depth bytes ts f → IsReadAs first depth bytes us g → (ts ≡ us) × (f ≡ g)
one_way first depth bytes ts us None None a b = (one_tokens first depth bytes ts us a b, refl)
one_way first depth bytes ts us None (Some g) a b = absurd (no_fault first depth bytes ts g a b.0)
one_way first depth bytes ts us (Some f) None a b = absurd (no_fault first depth bytes us f b a.0)
one_way first depth bytes ts us (Some f) (Some g) a b = (
  a.1 ∙ ap (tokens_of first [] []) (same_pieces depth bytes a.0.pieces b.0.pieces (read_stops first depth bytes f a.0) (read_stops first depth bytes g b.0)) ∙ sym b.1,
  ap (λ x. Some x) (one_fault first depth bytes f g a.0 b.0),
)

pub whole_read : (first depth : ℕ) (bytes : List ℕ) (ts : List Placed) → (AreTokensOf first depth bytes ts ↔ IsReadAs first depth bytes ts None)
whole_read first depth bytes ts = (λ h. h, λ h. h)

pub fault_read : (first depth : ℕ) (bytes : List ℕ) (f : LexFault) → (IsFirstFault first depth bytes f ↔ ((ts : List Placed) × IsReadAs first depth bytes ts (Some f)))
fault_read first depth bytes f = (λ is. (tokens_of first [] [] is.pieces, (is, refl)), λ h. h.1.0)

-- a text has tokens or a fault
pub tokens_or_fault : (first depth : ℕ) (bytes : List ℕ) → ((ts : List Placed) × AreTokensOf first depth bytes ts) ⊎ ((f : LexFault) × IsFirstFault first depth bytes f)
tokens_or_fault first depth bytes = by_fault (some_reading first depth bytes).0 (some_reading first depth bytes).1 (some_reading first depth bytes).2
  where
    by_fault : (ts : List Placed) (fault : Option LexFault) → IsReadAs first depth bytes ts fault → ((ts : List Placed) × AreTokensOf first depth bytes ts) ⊎ ((f : LexFault) × IsFirstFault first depth bytes f)
    by_fault ts None r = inl (ts, r)
    by_fault ts (Some f) r = inr (f, r.0)
