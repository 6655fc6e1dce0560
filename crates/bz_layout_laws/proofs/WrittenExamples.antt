-- The premises are met, and what the words say, computed.
use Rattle.std.proofs.Common.{◌≡◌, ℕ, List, [], ◌∷◌, true, false, refl}
use Rattle.std.specs.Prelude.{codes}
use Rattle.bz_token.specs.declared.token.Kind.{Kind}
use Rattle.bz_token.specs.declared.token.Kind.TheVariants.{Identifier, Integer, Operator, Newline, Comment}
use Rattle.bz_token.specs.declared.cutter.scan.LineKind.TheVariants.{CommentLine, Statement}
use Rattle.bz_token.specs.Lexical.{keywords, operators}
use Rattle.bz_token.specs.FreshStart.{ends_in_line}
use Rattle.bz_token.specs.Reading.{Piece, open_after}
use Rattle.bz_layout_laws.specs.Readable.{are_texts, are_ended, are_fitting}
use Rattle.bz_token.specs.TokenLines.{lines_of}
use Rattle.bz_token.specs.Chunks.{chunk_goes_on}
use Rattle.bz_token.specs.Groups.{grouped}
use Rattle.bz_token.specs.LogicalLines.{lines}
use Rattle.bz_token.specs.ChunkForms.{are_comments, ends_chunk, are_forms}

abbrev piece : List ℕ → Kind → List ℕ → Piece
piece gap kind text = record { gap = gap; kind = kind; text = text }

-- a comment line, and a call over two lines with a comment inside and one after it
abbrev example : List Piece
example =
    piece [] Comment (codes "# a") ∷ piece [] Newline (codes "\n")
    ∷ piece [] Identifier (codes "x") ∷ piece (codes " ") Operator (codes "=") ∷ piece (codes " ") Identifier (codes "f") ∷ piece [] Operator (codes "(")
    ∷ piece (codes "  ") Comment (codes "# b") ∷ piece (codes "\n    ") Operator (codes "-") ∷ piece [] Integer (codes "1") ∷ piece [] Operator (codes ",")
    ∷ piece (codes "\n") Operator (codes ")") ∷ piece (codes "  ") Comment (codes "# c") ∷ piece [] Newline (codes "\n") ∷ []

texts : are_texts example ≡ true
unfolding keywords operators
texts = refl

ended : are_ended example [] ≡ true
unfolding operators
ended = refl

fitting : are_fitting 1 [] example ≡ true
fitting = refl

too_deep : are_fitting 0 [] example ≡ false
too_deep = refl

closed : open_after [] example ≡ []
closed = refl

last : ends_in_line example ≡ true
last = refl

cut : lines_of example [] ≡ record { text = codes "# a\n"; kind = CommentLine; broken = false } ∷ record { text = codes "x = f(  # b\n    -1,\n)  # c\n"; kind = Statement; broken = false } ∷ []
cut = refl

comment : are_comments (record { text = codes "# a\n"; kind = CommentLine; broken = false } ∷ []) ≡ true
comment = refl

statement : ends_chunk (record { text = codes "x = f(  # b\n    -1,\n)  # c\n"; kind = Statement; broken = false }) ≡ true
statement = refl

block : ends_chunk (record { text = codes "def f():\n"; kind = Statement; broken = false }) ≡ false
block = refl

-- a newline outside brackets is no gap
unfitting : are_fitting 1 [] (piece [] Identifier (codes "x") ∷ piece (codes "\n") Identifier (codes "y") ∷ []) ≡ false
unfitting = refl

-- two names with nothing between them are one
joined : are_ended (piece [] Identifier (codes "x") ∷ piece [] Identifier (codes "y") ∷ []) [] ≡ false
joined = refl

-- chunks of the three forms; a statement and a blank line are none, nor are comment lines that a statement follows
three_forms : are_forms (grouped chunk_goes_on (lines (codes "# a\n\n# b\nif x:\n  y\nelse:\n  z\n\nw\n# c"))) ≡ true
three_forms = refl

too_long : are_forms (lines (codes "x\n\n") ∷ []) ≡ false
too_long = refl

too_short : are_forms (lines (codes "# a\n") ∷ lines (codes "x\n") ∷ []) ≡ false
too_short = refl
