-- The tokens that a reader gives in batches.
use Rattle.std.specs.Prelude.{◌≡◌, ℕ, List, length, map}
use Rattle.bz_token.specs.declared.reader.TokenReader.{TokenReader}
use Rattle.bz_token.specs.Places.{Placed, placed}
use Rattle.bz_token.specs.private.Progress.{Progress, PlacesFit}
use Rattle.bz_token.specs.private.Scans.{opened}

-- the last batch
abbrev pub batch : TokenReader → List Placed
batch reader = map placed reader.lexer.tokens.items

-- how much of the text is still to be read
abbrev pub left : TokenReader → ℕ
left reader = length reader.cursor.rest.now

-- These are the tokens of the text so far, the last batch with them.
pub record HasGiven (first depth : ℕ) (text : List ℕ) (given : List Placed) (reader : TokenReader) : Type 0 where
  pub read : Progress first depth text given (opened reader.lexer.brackets) reader.cursor.last_line reader.cursor.rest.now reader.cursor.place.line reader.cursor.place.col
  pub depth_is : reader.max_depth ≡ depth
  pub fit : PlacesFit first text
