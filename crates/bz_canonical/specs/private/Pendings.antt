-- What is written of what was read so far, and is not in the buffer yet, for private clauses.
use Rattle.std.specs.Prelude.{◌≡◌, ℕ, List, [], ◌++◌}
use Rattle.bz_canonical.specs.declared.arguments.Pending.{Pending}

-- the text from somewhere on, and from a later place on
pub record Ends : Type 0 where
  pub from : List ℕ
  pub to : List ℕ

-- Of what was read of a text up to `rest`, `all` is written: what is in the buffer, and a part that stands as it is written. As
-- long as all does, nothing is in the buffer.
pub record IsPending (text buffer all from rest : List ℕ) : Type 0 where
  pub part : List ℕ
  pub front : from ≡ part ++ rest
  pub all_is : all ≡ buffer ++ part
  pub whole : buffer ≡ [] → from ≡ text

-- what the buffer had is its front
abbrev pub Grows : List ℕ → List ℕ → Type 0
Grows old new = (w : List ℕ) × (new ≡ old ++ w)

-- What is read on the way, after `begun`, and what is written of it. Ends of a way: `from` and `to` of what is pending.
abbrev pub Reads : List ℕ → Ends → List ℕ → Ends → (List ℕ → List ℕ → Type 0) → Type 0
Reads old start new end IsRead = (text begun : List ℕ) → IsPending text old begun start.from start.to → (w : List ℕ) × IsPending text new (begun ++ w) end.from end.to × IsRead begun w

abbrev pub pending : Pending → Ends
pending at = record { from = at.from.now; to = at.rest.now }
