-- A block that was kept from a chunk, with a comment put above it.
use Rattle.std.proofs.Common.{◌≡◌, ℕ, List, [], ◌∷◌, true, refl, arith}
use Rattle.std.specs.Prelude.{codes}
use Rattle.std.specs.Prelude.Option.{None}
use Rattle.bz_token.specs.declared.cutter.block.Opener.TheVariants.{If}
use Rattle.bz_token.specs.declared.token.Kind.{Kind}
use Rattle.bz_token.specs.declared.token.Kind.TheVariants.{Identifier, Keyword, Operator, Newline, Kept}
use Rattle.bz_token.specs.Blocks.{goes_on}
use Rattle.bz_token.specs.Chunks.{chunks}
use Rattle.bz_token.specs.Lexical.{keywords, operators}
use Rattle.bz_token.specs.Places.{Placed}
use Rattle.bz_token.specs.Reading.{Piece, tokens_of, AreTokensOf}
use Rattle.bz_layout_laws.proofs.Readable.{laid_tokens}
use Rattle.bz_tree.specs.declared.tree.Class.TheVariants.{Block}
use Rattle.bz_tree.specs.Chunk.{IsReadAs}
use Rattle.bz_tree.specs.Tree.{leaf, Statement}
use Rattle.bz_layout.specs.Layout.{layout_text}
use Rattle.bz_layout_laws.specs.BlockIn.{IsBlockIn}
use Rattle.bz_layout_laws.specs.KeptBlock.{IsKeptBlock}
use Rattle.bz_layout_laws.specs.ReadBack.{IsReadBack}
use Rattle.bz_layout_laws.proofs.KeptReadBack.{kept_read_back}

-- the chunk has white space and an empty line after the block
abbrev chunk : List ℕ
chunk = codes "def f():\n  pass \n\n"

one_chunk : chunks chunk ≡ chunk ∷ []
one_chunk = refl

abbrev after : List ℕ → Kind → List ℕ → Piece
after gap kind text = record { gap = gap; kind = kind; text = text }

abbrev pieces : List Piece
pieces =
    after [] Keyword (codes "def") ∷ after (codes " ") Identifier (codes "f") ∷ after [] Operator (codes "(") ∷ after [] Operator (codes ")") ∷ after [] Operator (codes ":") ∷ after [] Newline (codes "\n")
    ∷ after (codes "  ") Keyword (codes "pass") ∷ after (codes " ") Newline (codes "\n") ∷ after [] Newline (codes "\n") ∷ []

abbrev tokens : List Placed
tokens = tokens_of 1 [] [] pieces

are : AreTokensOf 1 1 chunk tokens
unfolding keywords operators
are = laid_tokens 1 1 pieces [] refl refl refl refl refl

-- from the first token to the end of the last
abbrev kept : List ℕ
kept = codes "def f():\n  pass"

abbrev found : Statement
found = record { before = []; nodes = leaf Kept kept ∷ []; suffix = None; class = Block; start = 1; end = 2 }

reads : IsReadAs 1 chunk tokens found
reads = record {
  upright = refl;
  some = refl;
  chunk = record {
    header = record { kind = Keyword; text = codes "def"; line = 1; col = 1; fresh = true };
    last = record { kind = Keyword; text = codes "pass"; line = 2; col = 3; fresh = true };
    kept = kept;
    is_header = refl;
    is_last = refl;
    is_kept = record {
      before = [];
      front = codes "def f():\n  ";
      after = codes " \n\n";
      kept_is = refl;
      bytes_are = refl;
      begins = record { line = refl; col = refl };
      ends = record { line = refl; col = refl };
    };
    is_block = refl;
    is = refl;
  };
}

block_in : IsBlockIn 1 1 chunk found
block_in = record { tokens = tokens; are = are; reads = reads; begins = refl }

abbrev block : Statement
block = record { before = codes "# c" ∷ []; nodes = leaf Kept kept ∷ []; suffix = None; class = Block; start = 0; end = 0 }

is_kept : IsKeptBlock 1 block
is_kept = record { first = 1; bytes = chunk; found = found; alone = one_chunk; read = block_in; comments = refl; is = refl }

written : layout_text block ≡ codes "# c\ndef f():\n  pass\n"
written = refl

read_back : IsReadBack 1 block
read_back = kept_read_back 1 block is_kept

-- with the empty line after it, where an assignment follows
followed : chunks (codes "# c\ndef f():\n  pass\n\nx = 1\n") ≡ codes "# c\ndef f():\n  pass\n\n" ∷ chunks (codes "x = 1\n")
followed = read_back.gap refl 1 (codes "x = 1\n") (omega arith) refl

-- an indented line is of the block
indented : goes_on If (codes "  x = 1\n") ≡ true
indented = refl

taken : chunks (codes "def f():\n  pass\n\n  x = 1\n") ≡ codes "def f():\n  pass\n\n  x = 1\n" ∷ []
taken = refl
