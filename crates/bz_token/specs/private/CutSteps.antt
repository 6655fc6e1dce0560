-- For private clauses: a byte at a time.
use Rattle.std.specs.Prelude.{◌≡◌, ℕ, ◌+◌, ◌-◌, List, [], ◌∷◌, ◌++◌, drop, Bool, true, false, Option, None, cond, ◌||◌, ◌==◌, if◌then◌else◌, codes}
use Rattle.std.specs.List.{list_any}
use Rattle.bz_token.specs.Strings.{is_byte}
use Rattle.bz_token.specs.declared.cutter.scan.Quote.{Quote}
use Rattle.bz_token.specs.declared.cutter.scan.Quote.TheVariants.{Single, Double}
use Rattle.bz_token.specs.declared.cutter.scan.LineKind.{LineKind}
use Rattle.bz_token.specs.declared.cutter.scan.LineKind.TheVariants.{Blank, CommentLine, Statement}
use Rattle.bz_token.specs.declared.cutter.scan.CutState.{CutState}
use Rattle.bz_token.specs.declared.cutter.scan.CutState.TheVariants.{Plain, Ended, BrokenOff, Backslash, BackslashReturn, Comment, Opened, OpenedTwice, Short, ShortEscape, ShortEscapeReturn, Long, LongQuote, LongTwoQuotes, LongEscape}
use Rattle.bz_token.specs.declared.cutter.scan.Scan.{Scan}
use Rattle.bz_token.specs.declared.cutter.Cutter.{Cutter}
use Rattle.bz_token.specs.declared.cutter.block.Opener.{Opener}
use Rattle.bz_token.specs.declared.cutter.block.ChunkPhase.{ChunkPhase}
use Rattle.bz_token.specs.declared.cutter.block.ChunkPhase.TheVariants.{Comments, InBlock, Done}
use Rattle.bz_token.specs.LogicalLines.{Line}
use Rattle.bz_token.specs.declared.cutter.Cut.{Cut}
use Rattle.bz_token.specs.declared.cutter.Cut.TheVariants.{Whole, More, Block}
use Rattle.bz_token.specs.Blocks.{word_at, opener_of}
use Rattle.bz_token.specs.private.Phases.{phase_step, phase_after, takes}

abbrev pub is_ended : CutState → Bool
is_ended Ended = true
is_ended BrokenOff = true
is_ended _ = false

abbrev pub is_one_of : List ℕ → List ℕ → Bool
is_one_of bytes text = list_any (λ b. is_byte b text) bytes

-- how many brackets are open after a piece
abbrev pub count : ℕ → List ℕ → ℕ
count depth piece =
    if is_one_of (codes "([{") piece then depth + 1
    else (if is_one_of (codes ")]}") piece then depth - 1 else depth)

abbrev pub byte_of : Quote → ℕ
byte_of Single = 39
byte_of Double = 34

abbrev pub with_comment : LineKind → LineKind
with_comment Blank = CommentLine
with_comment CommentLine = CommentLine
with_comment Statement = Statement

abbrev pub at : CutState → ℕ → LineKind → Scan
at inside depth kind = record { inside = inside; depth = depth; kind = kind }

-- a byte outside strings and comments
abbrev pub outside : ℕ → LineKind → ℕ → Scan
outside depth kind b =
    if b == 10 then (if depth == 0 then at Ended depth kind else at Plain depth kind)
    else (if b == 32 || b == 9 || b == 13 then at Plain depth kind
    else (if b == 35 then at Comment depth (with_comment kind)
    else (if b == 92 then at Backslash depth kind
    else (if b == 34 then at (Opened Double) depth Statement
    else (if b == 39 then at (Opened Single) depth Statement
    else (if b == 40 || b == 91 || b == 123 then at Plain (depth + 1) Statement
    else (if b == 41 || b == 93 || b == 125 then at Plain (depth - 1) Statement
    else at Plain depth Statement)))))))

abbrev pub in_short : Quote → ℕ → LineKind → ℕ → Scan
in_short quote depth kind b =
    if b == byte_of quote then at Plain depth kind
    else (if b == 10 then at BrokenOff depth kind
    else (if b == 92 then at (ShortEscape quote) depth kind
    else at (Short quote) depth kind))

abbrev pub in_long : CutState → Quote → ℕ → LineKind → ℕ → Scan
in_long quoted quote depth kind b =
    if b == byte_of quote then at quoted depth kind
    else (if b == 92 then at (LongEscape quote) depth kind
    else at (Long quote) depth kind)

abbrev pub next_in : CutState → ℕ → LineKind → ℕ → Scan
next_in Plain depth kind b = outside depth kind b
next_in Ended depth kind b = outside 0 Blank b
next_in BrokenOff depth kind b = outside 0 Blank b
next_in Backslash depth kind b = if b == 10 then at Plain depth kind else (if b == 13 then at BackslashReturn depth kind else outside depth Statement b)
next_in BackslashReturn depth kind b = if b == 10 then at Plain depth kind else outside depth Statement b
next_in Comment depth kind b = if b == 10 then outside depth kind b else at Comment depth kind
next_in (Opened quote) depth kind b = if b == byte_of quote then at (OpenedTwice quote) depth kind else in_short quote depth kind b
next_in (OpenedTwice quote) depth kind b = if b == byte_of quote then at (Long quote) depth kind else outside depth kind b
next_in (Short quote) depth kind b = in_short quote depth kind b
next_in (ShortEscape quote) depth kind b = if b == 13 then at (ShortEscapeReturn quote) depth kind else at (Short quote) depth kind
next_in (ShortEscapeReturn quote) depth kind b = if b == 10 then at (Short quote) depth kind else in_short quote depth kind b
next_in (Long quote) depth kind b = in_long (LongQuote quote) quote depth kind b
next_in (LongQuote quote) depth kind b = in_long (LongTwoQuotes quote) quote depth kind b
next_in (LongTwoQuotes quote) depth kind b = in_long Plain quote depth kind b
next_in (LongEscape quote) depth kind b = at (Long quote) depth kind

abbrev pub next : Scan → ℕ → Scan
next s b = next_in s.inside s.depth s.kind b

abbrev pub start : Scan
start = at Plain 0 Blank

abbrev pub run : Scan → List ℕ → Scan
run s [] = s
run s (b ∷ bs) = run (next s b) bs

-- the bytes from one place to another change nothing
abbrev pub IsSame : Scan → List ℕ → ℕ → ℕ → Type 0
IsSame s bytes from to = run s (drop from bytes) ≡ run s (drop to bytes)

-- The chunks that the steps find, after the bytes of whole lines and a part of a line.
abbrev pub is_broken : CutState → Bool
is_broken BrokenOff = true
is_broken _ = false

abbrev pub line_at : List ℕ → LineKind → Bool → Line
line_at text kind broken = record { text = text; kind = kind; broken = broken }

abbrev pub line_here : Scan → List ℕ → Line
line_here s part = line_at part s.kind (is_broken s.inside)

abbrev pub seen_chunks : Scan → ChunkPhase → List ℕ → List ℕ → List ℕ → List (List ℕ)
seen_chunks s phase before part [] = (before ++ part) ∷ []
seen_chunks s phase before part (b ∷ bs) = elim (is_ended s.inside) [
  | false ↦ seen_chunks (next s b) phase before (part ++ b ∷ []) bs
  | true ↦ elim (takes (phase_after phase (line_here s part)) (b ∷ bs)) [
    | true ↦ seen_chunks (next s b) (phase_after phase (line_here s part)) (before ++ part) (b ∷ []) bs
    | false ↦ (before ++ part) ∷ seen_chunks (next s b) Comments [] (b ∷ []) bs
  ]
]

abbrev pub is_blank_kind : LineKind → Bool
is_blank_kind Blank = true
is_blank_kind CommentLine = false
is_blank_kind Statement = false

-- the word of a block that a logical line begins with, as far as it is known after a physical line
abbrev pub head_after : Cutter → List ℕ → Option Opener
head_after cutter line = cond (is_blank_kind cutter.scan.kind) (opener_of (word_at line)) cutter.opener

-- the cutter after a physical line, before it is asked whether the logical line has ended
abbrev pub moved : Cutter → List ℕ → Cutter
moved cutter line = record { scan = run cutter.scan line; phase = cutter.phase; opener = head_after cutter line }

-- what the chunk is after a logical line that has ended
abbrev pub phase_now : Cutter → ChunkPhase
phase_now cutter = phase_step cutter.phase cutter.scan.kind cutter.opener (is_broken cutter.scan.inside)

-- the cutter at the beginning of a line in no block, and after a line of a block
abbrev pub fresh : Cutter
fresh = record { scan = start; phase = Comments; opener = None }

abbrev pub between : Opener → Cutter
between word = record { scan = at Ended 0 Blank; phase = InBlock word; opener = None }

-- the answer and the cutter after a logical line that has ended
abbrev pub cut_at : ChunkPhase → Cut
cut_at Comments = More
cut_at (InBlock word) = Block
cut_at Done = Whole

abbrev pub cutter_at : ChunkPhase → Cutter
cutter_at Comments = fresh
cutter_at (InBlock word) = between word
cutter_at Done = fresh

-- The cutter goes on with this line: where it waits after a line of a block, the line belongs to the block.
abbrev pub Takes : Cutter → List ℕ → Type 0
Takes cutter line = is_ended cutter.scan.inside ≡ true → takes cutter.phase line ≡ true
