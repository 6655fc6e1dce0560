-- Where a chunk ends; and what of it a `Cutter` answers, the code that takes a file line by line
-- (`src/cutter.rt`; this project's own rule).
-- Begin with `EndsBefore`.
-- `run` reaches `EndsBefore` alone.
use Rattle.std.specs.Prelude.{◌≡◌, ◌<◌, ◌++◌, length, ℕ, List, [], ◌∷◌, Bool, true, false, not, ◌&&◌}
use Rattle.bz_token.specs.declared.cutter.block.Opener.{Opener}
use Rattle.bz_token.specs.declared.cutter.Cut.{Cut}
use Rattle.bz_token.specs.declared.cutter.Cut.TheVariants.{Whole, More, Block}
use Rattle.bz_token.specs.declared.cutter.Next.{Next}
use Rattle.bz_token.specs.declared.cutter.Next.TheVariants.{Goes, Ends, Short}
use Rattle.bz_token.specs.Common.{is_newline}
use Rattle.bz_token.specs.Blocks.{goes_on}
use Rattle.bz_token.specs.Chunks.{chunks}

-- a newline stands at most at the end
abbrev pub is_physical_line : List ℕ → Bool
is_physical_line [] = true
is_physical_line (b ∷ []) = true
is_physical_line (b ∷ c ∷ bs) = not (is_newline b) && is_physical_line (c ∷ bs)

abbrev pub ends_in_newline : List ℕ → Bool
ends_in_newline [] = false
ends_in_newline (b ∷ []) = is_newline b
ends_in_newline (b ∷ c ∷ bs) = ends_in_newline (c ∷ bs)

-- the physical line that a text begins with
abbrev pub first_line : List ℕ → List ℕ
first_line [] = []
first_line (b ∷ bs) = b ∷ elim (is_newline b) [ true ↦ [] | false ↦ first_line bs ]

-- The bytes are the first chunk where this follows, and the other chunks are those of the rest.
abbrev pub EndsBefore : List ℕ → List ℕ → Type 0
EndsBefore bytes rest = chunks (bytes ++ rest) ≡ bytes ∷ chunks rest

-- Something follows, and the first chunk takes the bytes and the physical line after them.
pub record IsLonger (bytes rest : List ℕ) : Type 0 where
  pub some : 0 < length rest
  pub more : List ℕ
  pub others : List (List ℕ)
  pub chunks_are : chunks (bytes ++ rest) ≡ (bytes ++ (first_line rest ++ more)) ∷ others

-- The bytes are a chunk, whatever follows.
abbrev pub IsChunk : List ℕ → Type 0
IsChunk bytes = (rest : List ℕ) → EndsBefore bytes rest

-- The bytes are a part of a chunk, whatever follows; at the end they are the chunk.
pub record IsPart (bytes : List ℕ) : Type 0 where
  pub last : 0 < length bytes → chunks bytes ≡ bytes ∷ []
  pub longer : (rest : List ℕ) → 0 < length rest → IsLonger bytes rest

-- The bytes are a chunk unless what follows goes on with their block.
pub record IsBlock (bytes : List ℕ) : Type 0 where
  pub word : Opener
  pub ends : (rest : List ℕ) → goes_on word rest ≡ false → EndsBefore bytes rest
  pub goes : (rest : List ℕ) → goes_on word rest ≡ true → IsLonger bytes rest

abbrev pub IsCut : Cut → List ℕ → Type 0
IsCut Whole bytes = IsChunk bytes
IsCut More bytes = IsPart bytes
IsCut Block bytes = IsBlock bytes

-- the bytes that wait for their chunk's end
abbrev pub left : Cut → List ℕ → List ℕ
left Whole bytes = []
left More bytes = bytes
left Block bytes = bytes

-- What follows a block decides whether the chunk goes on: these bytes (`ahead`), and whatever comes after
-- them, if anything may (this condition is `MayFollow` of bz_devices, written out). `Short`: undecided. Only
-- fewer than five bytes can be: four may be `elif` or `else`, and a fifth tells whether the word ends there.
abbrev pub IsNext : Next → Bool → List ℕ → List ℕ → Type 0
IsNext Goes at_end bytes ahead = (rest : List ℕ) → (at_end ≡ true → rest ≡ []) → IsLonger bytes (ahead ++ rest)
IsNext Ends at_end bytes ahead = (rest : List ℕ) → (at_end ≡ true → rest ≡ []) → EndsBefore bytes (ahead ++ rest)
IsNext Short at_end bytes ahead =
    (at_end ≡ false) × (length ahead < 5)
    × ((rest : List ℕ) × IsLonger bytes (ahead ++ rest))
    × ((rest : List ℕ) × EndsBefore bytes (ahead ++ rest))

-- the bytes that wait after the answer
abbrev pub left_next : Next → List ℕ → List ℕ
left_next Goes bytes = bytes
left_next Ends bytes = []
left_next Short bytes = bytes

-- The bytes, if there are any, are the last chunk of the file: `last` of `IsPart` says the same.
abbrev pub IsLast : Cut → List ℕ → Type 0
IsLast cut bytes = (cut ≡ More) × (0 < length bytes → chunks bytes ≡ bytes ∷ [])
