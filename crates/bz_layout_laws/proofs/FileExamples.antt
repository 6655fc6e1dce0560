-- The text of a file and its chunks, computed.
use Rattle.std.proofs.Common.{◌≡◌, ℕ, List, [], ◌∷◌, true, false, refl, sym, arith}
use Rattle.std.specs.Prelude.{codes}
use Rattle.std.specs.Prelude.Option.{None}
use Rattle.std.specs.List.{AllByRecursion}
use Rattle.std.proofs.lemmas.Bool.{false≢true}
use Rattle.bz_token.specs.declared.cutter.block.Opener.TheVariants.{If}
use Rattle.bz_token.specs.declared.token.Kind.TheVariants.{Identifier, Keyword, Integer, String, Operator, Kept}
use Rattle.bz_token.specs.Blocks.{goes_on}
use Rattle.bz_token.specs.Chunks.{chunks}
use Rattle.bz_tree.specs.declared.tree.Class.{Class}
use Rattle.bz_tree.specs.declared.tree.Class.TheVariants.{Load as LoadClass, Assign, Rule, Comment, Block}
use Rattle.bz_tree.specs.declared.tree.GroupKind.TheVariants.{Load, RuleCall}
use Rattle.bz_tree.specs.Grammar.{none, by_production, former}
use Rattle.bz_tree.specs.Tree.{Item, leaf, group, Segment, Statement, segs_of}
use Rattle.bz_layout_laws.specs.FileRead.{AreStatementsIn}
use Rattle.bz_layout_laws.specs.FileText.{text_from, chunks_from}
use Rattle.bz_layout_laws.specs.ReadBack.{IsReadBack}
use Rattle.bz_layout_laws.specs.WellFormed.{IsWellFormed}
use Rattle.bz_layout_laws.proofs.FileReads.{file_read_again}
use Rattle.bz_layout_laws.proofs.StatementReadBack.{statement_read_back}

abbrev segment : List Item → Segment
segment nodes = record { before = []; nodes = nodes; suffix = None }

abbrev statement : Class → List Item → Statement
statement class nodes = record { before = []; nodes = nodes; suffix = None; class = class; start = 1; end = 1 }

abbrev load : List ℕ → List ℕ → Statement
load file name = statement LoadClass (leaf Keyword (codes "load") ∷ group Load (segs_of (segment (leaf String file ∷ []) ∷ segment (leaf String name ∷ []) ∷ [])) false [] ∷ [])

abbrev lines : Statement
lines = record { before = codes "# c" ∷ []; nodes = []; suffix = None; class = Comment; start = 1; end = 1 }

abbrev rule : Statement
rule = statement Rule (leaf Identifier (codes "r") ∷ group RuleCall (segs_of (segment (leaf Integer (codes "1") ∷ []) ∷ [])) false [] ∷ [])

abbrev block : Statement
block = statement Block (leaf Kept (codes "if x:\n  y") ∷ [])

abbrev assignment : Statement
assignment = statement Assign (leaf Identifier (codes "z") ∷ leaf Operator (codes "=") ∷ leaf Integer (codes "1") ∷ [])

-- two loads, comment lines, a rule, a block and an assignment
abbrev file : List Statement
file = load (codes "'a'") (codes "'b'") ∷ load (codes "\"c\"") (codes "\"d\"") ∷ lines ∷ rule ∷ block ∷ assignment ∷ []

abbrev written : List ℕ
written = codes "load(\"a\", \"b\")\nload(\"c\", \"d\")\n\n# c\n\nr(1)\n\nif x:\n  y\n\nz = 1\n"

text : text_from None file ≡ written
text = refl

-- the empty lines after the comment lines and after the block are of their chunks
abbrev cut : List (List ℕ)
cut = codes "load(\"a\", \"b\")\n" ∷ codes "load(\"c\", \"d\")\n" ∷ codes "\n" ∷ codes "# c\n\n" ∷ codes "r(1)\n" ∷ codes "\n" ∷ codes "if x:\n  y\n\n" ∷ codes "z = 1\n" ∷ []

statement_chunks : chunks_from file ≡ cut
statement_chunks = refl

text_chunks : chunks written ≡ cut
text_chunks = refl

-- a block goes on with a branch, so none may stand after it
branch : goes_on If (codes "else:\n") ≡ true
branch = refl

joined : chunks (codes "if x:\n  y\n\nelse:\n  z\n") ≡ codes "if x:\n  y\n\nelse:\n  z\n" ∷ []
joined = refl

-- comment lines are read back, twice one after another
lines_formed : IsWellFormed 0 lines
lines_formed = record {
  texts = record { some = λ e. absurd (false≢true (sym e)); before = refl; nodes = tt; suffix = refl };
  parsed = record { kinds = tt; rule = refl; class = refl; alone = λ e. refl; lines = λ e. refl };
  grammar = by_production (former none);
  depth_fits = omega arith;
}

read_back : AllByRecursion (IsReadBack 0) (lines ∷ lines ∷ [])
read_back = let one = statement_read_back 0 lines lines_formed in (one, (one, tt))

read : (ts : List Statement) × AreStatementsIn 1 0 (codes "# c\n\n" ∷ codes "# c\n" ∷ []) ts
read = let found = file_read_again 1 0 (lines ∷ lines ∷ []) read_back in (found.0, found.1)
