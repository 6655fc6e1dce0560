-- The first chunk of the text ahead is the next chunk.
use Rattle.std.proofs.Common.{◌≡◌, ℕ, ◌<◌, ◌≤◌, List, ◌++◌, length, take, drop, sym, ◌∙◌, ap, subst, arith}
use Rattle.std.proofs.lemmas.List.{take-take, length-take-le}
use Rattle.bz_token.specs.Cuts.{IsChunk, EndsBefore}
use Rattle.bz_devices.specs.Ahead.{Ahead, IsNextChunk, IsFewAfter}
use Rattle.bz_devices.specs.private.AheadSteps.{EndsAt}
use Rattle.bz_devices.proofs.ChunkAhead.{few_left}

-- a front of these bytes
abbrev pub IsTakenOf : List ℕ → List ℕ → Type 0
IsTakenOf front bytes = (n : ℕ) × (n ≤ length bytes) × (front ≡ take n bytes)

taken_few : (front bytes : List ℕ) → IsTakenOf front bytes → length front ≤ length bytes
taken_few front bytes h =
    let size : length front ≡ h.0 = ap length h.2 ∙ length-take-le h.0 bytes h.1 in
    omega (arith, h.1)

-- the text is a front of the bytes
text_is : (text bytes : List ℕ) → IsTakenOf text bytes → text ≡ take (length text) bytes
text_is text bytes h =
    let size : length text ≡ h.0 = ap length h.2 ∙ length-take-le h.0 bytes h.1 in
    h.2 ∙ ap (λ n. take n bytes) (sym size)

-- and the chunk one of the text
pub chunk_within : (chunk text bytes : List ℕ) → IsTakenOf text bytes → length chunk ≤ length text → length chunk ≤ length bytes
chunk_within chunk text bytes outer within =
    let few = taken_few text bytes outer in
    omega (arith, few, within)

pub chunk_is : (chunk text bytes : List ℕ) → IsTakenOf text bytes → length chunk ≤ length text → chunk ≡ take (length chunk) text
    → chunk ≡ take (length chunk) bytes
chunk_is chunk text bytes outer within inner =
    inner ∙ ap (take (length chunk)) (text_is text bytes outer) ∙ take-take (length chunk) (length text) bytes within

pub first_is_next : (most : ℕ) (ahead : Ahead) (chunk text : List ℕ) → IsFewAfter ahead → IsTakenOf text ahead.bytes
    → 0 < length chunk → length chunk ≤ length text → chunk ≡ take (length chunk) text → length chunk ≤ most → IsChunk chunk
    → IsNextChunk most ahead (length chunk)
first_is_next most ahead chunk text few outer some within inner size ends =
    let n = length chunk in
    let here = chunk_within chunk text ahead.bytes outer within in
    let ends_at : EndsAt ahead n = λ more over. subst (λ bytes. EndsBefore bytes (drop n ahead.bytes ++ more)) (chunk_is chunk text ahead.bytes outer within inner) (ends (drop n ahead.bytes ++ more)) in
    record { some = some; within = here; size = size; left = few_left n ahead here ends_at few; ends = ends_at }
