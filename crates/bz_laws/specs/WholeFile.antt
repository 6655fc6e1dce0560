-- The statements of a file by the tokens of the whole file: what stands on the lines of each of its chunks.
use Rattle.std.specs.Prelude.{◌≡◌, ℕ, List, [], ◌∷◌, ◌++◌, Option, Some, None, IsNone, Result, Ok, Err}
use Rattle.std.specs.Str.{IsUtf8, IsValidUpTo}
use Rattle.bz_token.specs.declared.fault.LexFault.{LexFault}
use Rattle.bz_token.specs.FreshStart.{tokens_on_lines, fault_on_lines}
use Rattle.bz_token.specs.Places.{Placed, line_at}
use Rattle.bz_tree.specs.declared.fault.ParseFault.{ParseFault}
use Rattle.bz_tree.specs.declared.fault.ParseFault.TheVariants.{OutOfMemory, Lex}
use Rattle.bz_tree.specs.Chunk.{IsReadAs, IsTokenFault}
use Rattle.bz_tree.specs.Statement.{first_seen}
use Rattle.bz_tree.specs.Tree.{Statement}
use Rattle.bz_layout_laws.specs.FileRead.{AreFound}
use Rattle.bz_engine.specs.declared.report.SyntaxFault.{SyntaxFault}
use Rattle.bz_engine.specs.declared.report.SyntaxFault.TheVariants.{NotUtf8, Parse}
use Rattle.bz_engine.specs.File.{not_utf8, Follows}

-- On the lines of a chunk, on which these tokens begin, stands a statement; or nothing, where they are newlines alone.
abbrev pub IsOnLines : ℕ → List ℕ → List Placed → Option Statement → Type 0
IsOnLines line chunk tokens None = IsNone (first_seen tokens)
IsOnLines line chunk tokens (Some s) = IsReadAs line chunk tokens s

-- The statements on the lines of chunks, of which the first begins at this line, where the file has these tokens.
abbrev pub AreOnLines : List Placed → ℕ → List (List ℕ) → List Statement → Type 0
AreOnLines tokens line [] statements = statements ≡ []
AreOnLines tokens line (c ∷ cs) statements =
    (found : Option Statement) × IsOnLines line c (tokens_on_lines line c tokens) found
    × AreFound found (AreOnLines tokens (line_at line c) cs) statements

-- The tokens on the lines of chunks, of which the first begins at this line, one chunk after another.
abbrev pub tokens_by_chunks : List Placed → ℕ → List (List ℕ) → List Placed
tokens_by_chunks tokens line [] = []
tokens_by_chunks tokens line (c ∷ cs) = tokens_on_lines line c tokens ++ tokens_by_chunks tokens (line_at line c) cs

-- The fault of a chunk, on whose lines stand these tokens and this lexical fault, if any.
abbrev pub IsFaultOnLines : ℕ → List ℕ → List Placed → Option LexFault → ParseFault → Type 0
IsFaultOnLines line chunk tokens lexical (OutOfMemory _) = ⊥
IsFaultOnLines line chunk tokens lexical (Lex fault) = lexical ≡ Some fault
IsFaultOnLines line chunk tokens lexical fault = (lexical ≡ None) × IsTokenFault line chunk tokens fault

-- What such a chunk gives: a statement, nothing, or its first fault.
abbrev pub IsAnswerOnLines : ℕ → List ℕ → List Placed → Option LexFault → Result (Option Statement) SyntaxFault → Type 0
IsAnswerOnLines line chunk tokens lexical (Ok found) = IsUtf8 chunk × (lexical ≡ None) × IsOnLines line chunk tokens found
IsAnswerOnLines line chunk tokens lexical (Err (NotUtf8 l c)) = ¬ (IsUtf8 chunk) × ((n : ℕ) × IsValidUpTo chunk n × (NotUtf8 l c ≡ not_utf8 line n chunk))
IsAnswerOnLines line chunk tokens lexical (Err (Parse fault)) = IsUtf8 chunk × IsFaultOnLines line chunk tokens lexical fault

-- The statements on the lines of chunks, of which the first begins at this line, up to the first chunk with a fault, where
-- the file has these tokens up to this lexical fault, if any.
abbrev pub AreStatementsOnLines : List Placed → Option LexFault → ℕ → List (List ℕ) → List Statement → Option SyntaxFault → Type 0
AreStatementsOnLines tokens lexical line [] statements fault = (statements ≡ []) × (fault ≡ None)
AreStatementsOnLines tokens lexical line (c ∷ cs) statements fault =
    (answer : Result (Option Statement) SyntaxFault)
    × IsAnswerOnLines line c (tokens_on_lines line c tokens) (fault_on_lines line c lexical) answer
    × Follows answer (AreStatementsOnLines tokens lexical (line_at line c) cs) statements fault
