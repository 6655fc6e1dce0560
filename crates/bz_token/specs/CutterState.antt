-- What a cutter has read. To a caller `IsAfter` is a word: what it means `new`, `line` and `goes_on` say, by the bytes that
-- were read alone. Its fields are in private words, since they tell what the fields of a cutter say of the chunks.
use Rattle.std.specs.Prelude.{◌≡◌, ◌<◌, ◌≤◌, ◌++◌, length, ℕ, List, [], ◌∷◌, true, false}
use Rattle.bz_token.specs.declared.cutter.Cutter.{Cutter}
use Rattle.bz_token.specs.declared.cutter.block.Opener.{Opener}
use Rattle.bz_token.specs.declared.cutter.block.ChunkPhase.TheVariants.{InBlock}
use Rattle.bz_token.specs.Blocks.{opener}
use Rattle.bz_token.specs.Chunks.{chunks}
use Rattle.bz_token.specs.Cuts.{EndsBefore}
use Rattle.bz_token.specs.private.Phases.{takes}
use Rattle.bz_token.specs.private.CutSteps.{is_ended, is_blank_kind, seen_chunks, next, start, Takes}

-- The cutter has read these bytes since the last chunk's end: it goes on as the definition does.
pub record IsAfter (cutter : Cutter) (seen : List ℕ) : Type 0 where
  -- the chunk's whole lines, and a part of the next
  pub before : List ℕ
  pub part : List ℕ
  pub seen_is : seen ≡ before ++ part
  pub depth : cutter.scan.depth ≤ length part
  -- it waits after a line of a block
  pub waits : is_ended cutter.scan.inside ≡ true → (is_blank_kind cutter.scan.kind ≡ true) × ((word : Opener) × (cutter.phase ≡ InBlock word))
  -- the head of the line is not yet read, or known
  pub blank : is_blank_kind cutter.scan.kind ≡ true → ((b : ℕ) → next cutter.scan b ≡ next start b) × ((more : List ℕ) → opener (part ++ more) ≡ opener more)
  pub head : is_blank_kind cutter.scan.kind ≡ false → (more : List ℕ) → opener (part ++ more) ≡ cutter.opener
  -- the chunks, where nothing follows, where the line goes on, and where it does not
  pub last : 0 < length seen → chunks seen ≡ seen ∷ []
  pub follows : (b : ℕ) (rest : List ℕ) → Takes cutter (b ∷ rest) → chunks (seen ++ b ∷ rest) ≡ seen_chunks (next cutter.scan b) cutter.phase before (part ++ b ∷ []) rest
  pub ends : is_ended cutter.scan.inside ≡ true → (rest : List ℕ) → takes cutter.phase rest ≡ false → EndsBefore seen rest
