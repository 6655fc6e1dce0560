-- Reading starts afresh after a newline outside brackets: a text that such a newline ends leaves nothing to what follows
-- but its number of lines. So what a file is read as on the lines of a chunk can be told from the chunk.
use Rattle.std.specs.Prelude.{◌≡◌, ℕ, ◌+◌, List, [], ◌∷◌, ◌++◌, filter, Bool, true, ◌&&◌, if◌then◌else◌, nat_le, nat_lt, Option, Some, None}
use Rattle.bz_token.specs.declared.fault.LexFault.{LexFault}
use Rattle.bz_token.specs.declared.fault.LexFault.TheVariants.{OutOfMemory, BadCharacter, BadNumber, OpenText, BadBracket, OpenBracket, TooDeep, BadBackslash}
use Rattle.bz_token.specs.Cuts.{ends_in_newline}
use Rattle.bz_token.specs.Brackets.{is_line}
use Rattle.bz_token.specs.Places.{Placed, line_at}
use Rattle.bz_token.specs.Reading.{Piece, IsReading, open_after, tokens_of, AreTokensOf}

-- no piece, or a last one that is a newline outside brackets
abbrev pub ends_in_line : List Piece → Bool
ends_in_line [] = true
ends_in_line (p ∷ []) = is_line p.kind
ends_in_line (p ∷ q ∷ ps) = ends_in_line (q ∷ ps)

-- The whole text is gaps and these tokens, the last of which is a newline outside brackets that ends the text.
abbrev pub AreLinesOf : ℕ → ℕ → List ℕ → List Placed → Type 0
AreLinesOf first depth bytes tokens =
    (pieces : List Piece) × IsReading depth [] pieces [] bytes × (open_after [] pieces ≡ []) × (ends_in_line pieces ≡ true)
    × (tokens ≡ tokens_of first [] [] pieces)

-- The tokens of chunks one after another, each chunk read as a text of its own with its first line.
abbrev pub AreTokensOfChunks : ℕ → ℕ → List (List ℕ) → List Placed → Type 0
AreTokensOfChunks first depth [] tokens = tokens ≡ []
AreTokensOfChunks first depth (c ∷ cs) tokens =
    (ts us : List Placed) × AreTokensOf first depth c ts × AreTokensOfChunks (line_at first c) depth cs us × (tokens ≡ ts ++ us)

-- The line after those of a text; the last one may lack its newline.
abbrev pub line_following : ℕ → List ℕ → ℕ
line_following first bytes = if ends_in_newline bytes then line_at first bytes else line_at first bytes + 1

-- whether this is a line of the text
abbrev pub is_line_of : ℕ → List ℕ → ℕ → Bool
is_line_of first bytes line = nat_le first line && nat_lt line (line_following first bytes)

-- the tokens that begin on the lines of the text
abbrev pub tokens_on_lines : ℕ → List ℕ → List Placed → List Placed
tokens_on_lines first bytes tokens = filter (λ t. is_line_of first bytes t.line) tokens

abbrev pub line_of : LexFault → ℕ
line_of (OutOfMemory _) = 0
line_of (BadCharacter line col) = line
line_of (BadNumber line col) = line
line_of (OpenText line col) = line
line_of (BadBracket line col) = line
line_of (OpenBracket line col) = line
line_of (TooDeep line col) = line
line_of (BadBackslash line col) = line

-- the fault, where it stands on a line of the text
abbrev pub fault_on_lines : ℕ → List ℕ → Option LexFault → Option LexFault
fault_on_lines first bytes None = None
fault_on_lines first bytes (Some fault) = if is_line_of first bytes (line_of fault) then Some fault else None
