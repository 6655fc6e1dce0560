-- What a text is read as: its tokens up to its first lexical fault, and that fault, if it has one.
use Rattle.std.specs.Prelude.{◌≡◌, ℕ, List, [], Option, Some, None}
use Rattle.bz_token.specs.declared.fault.LexFault.{LexFault}
use Rattle.bz_token.specs.Places.{Placed}
use Rattle.bz_token.specs.Reading.{tokens_of, AreTokensOf}
use Rattle.bz_token.specs.Faults.{IsFirstFault}

-- These are the tokens of the whole text, and it has no fault; or this is its first fault, and these are the
-- tokens before. An open bracket is told at the end of a text that has no other fault, so all its tokens stand
-- before it.
abbrev pub IsReadAs : ℕ → ℕ → List ℕ → List Placed → Option LexFault → Type 0
IsReadAs first depth bytes tokens None = AreTokensOf first depth bytes tokens
IsReadAs first depth bytes tokens (Some fault) =
    (is : IsFirstFault first depth bytes fault) × (tokens ≡ tokens_of first [] [] is.pieces)
