-- The statement of a chunk, or its fault, by the chunk's tokens (`ParseFault` is an enum of `src/fault.rt`;
-- what is a fault, and which one is first, is this project's own rule).
-- Begin with `IsStatementIn`, `IsBlank` and `IsFaultIn`.
use Rattle.std.specs.Prelude.{ℕ, List, Bool, true, false, if◌then◌else◌, ◌≡◌, ◌==◌, Option, Some, None, IsSome, IsNone, ⊤}
use Rattle.bz_token.specs.Places.{Placed}
use Rattle.bz_token.specs.Reading.{AreTokensOf}
use Rattle.bz_token.specs.Faults.{IsFirstFault}
use Rattle.bz_tree.specs.declared.fault.ParseFault.{ParseFault}
use Rattle.bz_tree.specs.declared.fault.ParseFault.TheVariants.{OutOfMemory, Lex, Indented, NotAStatement}
use Rattle.bz_tree.specs.Tree.{Statement, items_of}
use Rattle.bz_tree.specs.Statement.{IsStatementOf, first_token, first_seen, start_of}
use Rattle.bz_tree.specs.Grammar.{IsStatement}
use Rattle.bz_tree.specs.Blocks.{is_block_word, block_indent, IsBlockOf}
use Rattle.bz_token.specs.Common.{map_or}

-- a statement of the grammar, that is no block
pub record IsPlain (tokens : List Placed) (s : Statement) : Type 0 where
  pub tree : IsStatementOf tokens s
  pub grammar : IsStatement (items_of s.nodes)

-- the line of `indent_fault` (below), where this is the first token
abbrev pub indent_at : Option Placed → List Placed → Option ℕ
indent_at None tokens = None
indent_at (Some t) tokens =
    if t.col == 1 then (if is_block_word t then block_indent tokens else None) else Some t.line

-- The line at which the chunk is indented wrongly; none, if its first token stands in column 1 and the lines of a
-- block on columns that fit. Comment lines may be indented.
abbrev pub indent_fault : List Placed → Option ℕ
indent_fault tokens = indent_at (first_token tokens) tokens

-- The statement of these tokens, of which the first begins a block (true) or not.
abbrev pub IsBlockOrPlain : Bool → ℕ → List ℕ → List Placed → Statement → Type 0
IsBlockOrPlain true first bytes tokens s = IsBlockOf first bytes tokens s
IsBlockOrPlain false first bytes tokens s = IsPlain tokens s

-- The statement of a chunk of these bytes with these tokens.
abbrev pub IsChunkOf : ℕ → List ℕ → List Placed → Statement → Type 0
IsChunkOf first bytes tokens s =
    IsBlockOrPlain (map_or false is_block_word (first_token tokens)) first bytes tokens s

-- These tokens are read as the statement: none is indented wrongly, and the chunk is not blank.
pub record IsReadAs (first : ℕ) (bytes : List ℕ) (tokens : List Placed) (s : Statement) : Type 0 where
  pub upright : indent_fault tokens ≡ None
  pub some : IsSome (first_seen tokens)
  pub chunk : IsChunkOf first bytes tokens s

-- no statement has these tokens, though none is indented wrongly; the line is that of the first token
pub record IsNoStatement (first : ℕ) (bytes : List ℕ) (tokens : List Placed) (line : ℕ) : Type 0 where
  pub upright : indent_fault tokens ≡ None
  pub none : (s : Statement) → IsChunkOf first bytes tokens s → ⊥
  pub line_is : line ≡ start_of tokens

-- the fault of a chunk with these tokens
abbrev pub IsTokenFault : ℕ → List ℕ → List Placed → ParseFault → Type 0
IsTokenFault first bytes tokens (Indented line) = indent_fault tokens ≡ Some line
IsTokenFault first bytes tokens (NotAStatement line) = IsNoStatement first bytes tokens line
IsTokenFault first bytes tokens _ = ⊥

-- What a chunk's bytes are read as is one of three: a statement, nothing, or a fault. Each is told by the tokens
-- of the bytes; only bytes with a lexical fault have none. Lines count from `first`, and at most `depth` brackets
-- are open at once.

-- a chunk that is this statement
pub record IsStatementIn (first depth : ℕ) (bytes : List ℕ) (s : Statement) : Type 0 where
  pub tokens : List Placed
  pub are : AreTokensOf first depth bytes tokens
  pub reads : IsReadAs first bytes tokens s

-- a chunk of white space and continued lines alone: it has no token but newlines (`kind_of` of bz_token says
-- of a logical line, by its pieces, that it is blank)
pub record IsBlank (first depth : ℕ) (bytes : List ℕ) : Type 0 where
  pub tokens : List Placed
  pub are : AreTokensOf first depth bytes tokens
  pub none : IsNone (first_seen tokens)

-- a fault of a chunk that has tokens
pub record HasTokenFault (first depth : ℕ) (bytes : List ℕ) (fault : ParseFault) : Type 0 where
  pub tokens : List Placed
  pub are : AreTokensOf first depth bytes tokens
  pub is : IsTokenFault first bytes tokens fault

-- The first fault of a chunk: lexical faults come before wrong indents, and these before the grammar. That memory
-- was refused says nothing of the chunk, so it holds of each: the contract of `parse` says of all its faults that
-- they are this. `IsAnswerOf` (bz_engine `File`) leaves it out.
abbrev pub IsFaultIn : ℕ → ℕ → List ℕ → ParseFault → Type 0
IsFaultIn first depth bytes (OutOfMemory _) = ⊤
IsFaultIn first depth bytes (Lex fault) = IsFirstFault first depth bytes fault
IsFaultIn first depth bytes fault = HasTokenFault first depth bytes fault
