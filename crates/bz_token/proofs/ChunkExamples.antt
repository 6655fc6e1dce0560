-- The definitions compute.
use Rattle.std.specs.Prelude.{◌≡◌, [], ◌∷◌, codes, refl}
use Rattle.bz_token.specs.Chunks.{chunks}

-- a comment and brackets over two lines, a blank line
comment_and_brackets : chunks (codes "# a\nx = [\n]\n\n") ≡ codes "# a\nx = [\n]\n" ∷ codes "\n" ∷ []
comment_and_brackets = refl

-- a newline breaks off a string; a long string holds newlines and quotes
strings : chunks (codes "x = \"a\ny = '''\n'(\n'''\nz") ≡ codes "x = \"a\n" ∷ codes "y = '''\n'(\n'''\n" ∷ codes "z" ∷ []
strings = refl

-- a carriage return is white space, and a blank line ends a chunk of comments
carriage_returns : chunks (codes "# a\r\n\r\nx = 1\r\n") ≡ codes "# a\r\n\r\n" ∷ codes "x = 1\r\n" ∷ []
carriage_returns = refl

-- a closing bracket too many counts nothing; a backslash that continues no line makes a statement line
odd_lines : chunks (codes ")\nx\n# c\n\\ \n\\\n\n") ≡ codes ")\n" ∷ codes "x\n" ∷ codes "# c\n\\ \n" ∷ codes "\\\n\n" ∷ []
odd_lines = refl

-- a block takes its indented and blank lines, and an `if` its branches
block : chunks (codes "if a:\n  b\nelse:\n\nz\n") ≡ codes "if a:\n  b\nelse:\n\n" ∷ codes "z\n" ∷ []
block = refl

-- what is in a long string is no line of its own, and a comment in column 1 ends the block
block_with_string : chunks (codes "if a:\n    def = \"\"\"\n# in the text\n\"\"\"\nelse:\n    y  =  2\n\n  # tail\n\n# c\nz=1\n") ≡ codes "if a:\n    def = \"\"\"\n# in the text\n\"\"\"\nelse:\n    y  =  2\n\n  # tail\n\n" ∷ codes "# c\nz=1\n" ∷ []
block_with_string = refl

-- an `else` after a `def` is a chunk of its own, and so is a word that only begins like one
no_branches : chunks (codes "def f():\n x\nelse:\nif a:\nelsewhere\n") ≡ codes "def f():\n x\n" ∷ codes "else:\n" ∷ codes "if a:\n" ∷ codes "elsewhere\n" ∷ []
no_branches = refl

-- the head of a block stands in column 1, also after a continued empty line; a string that is broken off ends the block
heads : chunks (codes " if a:\n  b\n\\\nfor f:\n x\ndef f('\n x") ≡ codes " if a:\n" ∷ codes "  b\n" ∷ codes "\\\nfor f:\n x\n" ∷ codes "def f('\n" ∷ codes " x" ∷ []
heads = refl
