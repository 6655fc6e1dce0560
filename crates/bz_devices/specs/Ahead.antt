-- The bytes of an input that were read and not yet taken, and the chunk that they begin with (this project's
-- own rule). What a chunk is, `Chunks` of bz_token says.
-- Begin with `IsUndecided` and `IsTooLong`.
-- `run` does not reach `IsReadOn`, `IsFewAfter` and `AreNeeded`.
use Rattle.std.specs.Prelude.{◌≡◌, ℕ, ◌+◌, ◌*◌, ◌<◌, ◌≤◌, Bool, false, ◌||◌, IsTrue, List, [], ◌∷◌, ◌++◌, length, take, drop, ⊤}
use Rattle.std.specs.List.{concat}
use Rattle.bz_token.specs.Chunks.{chunks}
use Rattle.bz_token.specs.Cuts.{EndsBefore}
use Rattle.bz_devices.specs.Device.{ends, MayFollow, NoneEnds, NoneAfterEnd}

-- what was read and not yet taken, how many reads were made, and whether one met the end of the input
pub record Ahead : Type 0 where
  pub bytes : List ℕ
  pub reads : ℕ
  pub ended : Bool

-- Reads gave these pieces, at most 8,192 bytes a read: they stand after the bytes ahead. After the end
-- nothing is read.
pub record IsReadOn (max_reads : ℕ) (old new : Ahead) (pieces : List (List ℕ)) : Type 0 where
  pub bytes : new.bytes ≡ old.bytes ++ concat pieces
  pub reads : new.reads ≡ old.reads + length pieces
  pub within : new.reads ≤ max_reads
  pub ended : new.ended ≡ (old.ended || ends pieces)
  pub stays : IsTrue old.ended → pieces ≡ []
  pub none_ends : new.ended ≡ false → NoneEnds pieces
  pub none_after : NoneAfterEnd pieces
  pub few : length (concat pieces) ≤ 8192 * length pieces

-- The first n bytes ahead are the next chunk, whatever follows. It has at most `max_statement` bytes. At most
-- 8,192 are left after it: no read comes after the one that settles the chunk, and each is short enough for that.
pub record IsNextChunk (max_statement : ℕ) (ahead : Ahead) (n : ℕ) : Type 0 where
  pub some : 0 < n
  pub within : n ≤ length ahead.bytes
  pub size : n ≤ max_statement
  pub left : length (drop n ahead.bytes) ≤ 8192
  pub ends : (rest : List ℕ) → MayFollow ahead.ended rest
      → EndsBefore (take n ahead.bytes) (drop n ahead.bytes ++ rest)

-- The first chunk of these bytes and the rest begins with a front of the bytes, `seen` of them, that is
-- longer than a chunk may be. `more` is what that chunk has after them, `others` are the chunks after it.
pub record BeginsTooLong (max_statement : ℕ) (bytes rest : List ℕ) : Type 0 where
  pub seen : ℕ
  pub within : seen ≤ length bytes
  pub over : max_statement < seen
  pub more : List ℕ
  pub others : List (List ℕ)
  pub chunks_are : chunks (bytes ++ rest) ≡ (take seen bytes ++ more) ∷ others

-- The next chunk is too long, whatever follows.
abbrev pub IsTooLong : ℕ → Ahead → Type 0
IsTooLong most ahead = (rest : List ℕ) → MayFollow ahead.ended rest → BeginsTooLong most ahead.bytes rest

-- All bytes ahead but 8,192 at most belong to the next chunk: where more stand after the first n, it has more
-- than n.
abbrev pub IsFewAfter : Ahead → Type 0
IsFewAfter ahead = (n : ℕ) → n + 8192 < length ahead.bytes → IsTooLong n ahead

-- No front of these bytes is a chunk whatever follows.
abbrev pub NoneIsChunk : List ℕ → Type 0
NoneIsChunk bytes = (n : ℕ) → 0 < n → n ≤ length bytes
    → ((rest : List ℕ) → EndsBefore (take n bytes) (drop n bytes ++ rest)) → ⊥

-- These bytes, after which no end was met, leave the next chunk open: no front of them is a chunk whatever follows,
-- and it is not sure to be too long. (Its opposites: `IsNextChunk`, a front is the chunk, and `IsTooLong`, it is sure
-- to be too long. There the end may have been met.)
pub record IsUndecided (max_statement : ℕ) (bytes : List ℕ) : Type 0 where
  pub none_is_chunk : NoneIsChunk bytes
  pub none_too_long : ((rest : List ℕ) → BeginsTooLong max_statement bytes rest) → ⊥

-- Each of these reads was needed, since the bytes before it left the next chunk open, and gave at most 8,192
-- bytes.
abbrev pub AreNeeded : ℕ → List ℕ → List (List ℕ) → Type 0
AreNeeded max_statement bytes [] = ⊤
AreNeeded max_statement bytes (piece ∷ pieces) =
    IsUndecided max_statement bytes × (length piece ≤ 8192) × AreNeeded max_statement (bytes ++ piece) pieces
