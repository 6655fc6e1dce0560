-- What a text begins with: a chunk and its tokens.
use Rattle.std.specs.Prelude.{◌≡◌, ℕ, ◌<◌, ◌≤◌, List, length, take, drop, map}
use Rattle.bz_token.specs.declared.chunk.FirstChunk.{FirstChunk}
use Rattle.bz_token.specs.Places.{placed}
use Rattle.bz_token.specs.Reading.{AreTokensOf}
use Rattle.bz_token.specs.Cuts.{IsChunk}

-- the text begins with this chunk, whatever follows it
pub record IsFirstChunk (first depth : ℕ) (bytes : List ℕ) (chunk : FirstChunk) : Type 0 where
  pub some : 0 < length chunk.text.now
  pub within : length chunk.text.now ≤ length bytes
  pub front : chunk.text.now ≡ take (length chunk.text.now) bytes
  pub rest : chunk.rest.now ≡ drop (length chunk.text.now) bytes
  pub tokens : AreTokensOf first depth chunk.text.now (map placed chunk.tokens.now)
  pub ends : IsChunk chunk.text.now
