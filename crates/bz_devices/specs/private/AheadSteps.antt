-- What the functions answer that find the next chunk, for private clauses.
use Rattle.std.specs.Prelude.{◌≡◌, ℕ, ◌-◌, ◌<◌, ◌≤◌, ◌⊎◌, IsTrue, List, [], ◌∷◌, ◌++◌, length, take, drop}
use Rattle.bz_token.specs.Chunks.{chunks}
use Rattle.bz_token.specs.Cuts.{EndsBefore, IsLonger, first_line, ends_in_newline}
use Rattle.bz_token.specs.CutterState.{IsAfter}
use Rattle.bz_token.specs.declared.cutter.Cutter.{Cutter}
use Rattle.bz_devices.specs.Device.{MayFollow}
use Rattle.bz_devices.specs.Ahead.{Ahead}
use Rattle.bz_devices.specs.declared.input.ReadFault.{ReadFault}
use Rattle.bz_devices.specs.declared.input.ReadFault.TheVariants.{OutOfMemory as no_bytes, ReadFailed as Failed, InputTooLong as TooManyReads}
use Rattle.bz_devices.specs.declared.ahead.ChunkFault.{ChunkFault}
use Rattle.bz_devices.specs.declared.ahead.ChunkFault.TheVariants.{OutOfMemory, ReadFailed, InputTooLong}

abbrev pub chunk_fault : ReadFault → ChunkFault
chunk_fault (no_bytes why) = OutOfMemory why
chunk_fault Failed = ReadFailed
chunk_fault TooManyReads = InputTooLong

-- No line ends in these bytes: their line goes on with what follows.
abbrev pub IsOpen : List ℕ → Type 0
IsOpen bytes = (rest : List ℕ) → first_line (bytes ++ rest) ≡ bytes ++ first_line rest

-- a line with its newline
pub record IsLine (line : List ℕ) : Type 0 where
  pub newline : IsTrue (ends_in_newline line)
  pub first : (rest : List ℕ) → first_line (line ++ rest) ≡ line

-- What is left of the input after the first n bytes is a line without a newline, or nothing.
pub record IsLastLine (ahead : Ahead) (n : ℕ) : Type 0 where
  pub ended : IsTrue ahead.ended
  pub rest_is_open : IsOpen (drop n ahead.bytes)

-- The line that begins after the first n bytes ends after the first m.
pub record IsLineAt (ahead : Ahead) (n m : ℕ) : Type 0 where
  pub after : n ≤ m
  pub within : m ≤ length ahead.bytes
  pub line : IsLine (take (m - n) (drop n ahead.bytes)) ⊎ (m ≡ length ahead.bytes) × IsLastLine ahead n

-- something follows the first n bytes, or may follow them
abbrev pub GoesAfter : Ahead → ℕ → Type 0
GoesAfter ahead n = IsTrue ahead.ended → 0 < length (drop n ahead.bytes)

-- The first n bytes are a part of the chunk, which goes on after them. Where nothing follows, they are the chunk.
pub record IsBegun (ahead : Ahead) (n : ℕ) : Type 0 where
  pub last : 0 < n → chunks (take n ahead.bytes) ≡ take n ahead.bytes ∷ []
  pub longer : (rest : List ℕ) → MayFollow ahead.ended rest → 0 < length (drop n ahead.bytes ++ rest) → IsLonger (take n ahead.bytes) (drop n ahead.bytes ++ rest)

-- The chunk goes on after the first n bytes, which the cutter has read.
pub record GoesOn (cutter : Cutter) (ahead : Ahead) (n : ℕ) : Type 0 where
  pub begun : IsBegun ahead n
  pub after : GoesAfter ahead n → IsAfter cutter (take n ahead.bytes)

-- The first n bytes are the chunk, whatever follows.
abbrev pub EndsAt : Ahead → ℕ → Type 0
EndsAt ahead n = (rest : List ℕ) → MayFollow ahead.ended rest → EndsBefore (take n ahead.bytes) (drop n ahead.bytes ++ rest)

-- The next chunk ends after the first n bytes. Where that is 0, nothing is left of the input.
pub record IsEnd (ahead : Ahead) (n : ℕ) : Type 0 where
  pub within : n ≤ length ahead.bytes
  pub left : length (drop n ahead.bytes) ≤ 8192
  pub ends : 0 < n → EndsAt ahead n
  pub none : n ≡ 0 → (ahead.bytes ≡ []) × IsTrue ahead.ended
