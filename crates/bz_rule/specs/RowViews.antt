-- The statement that a row is of.
use Rattle.std.specs.Prelude.{◌≡◌, refl, ℕ, List, map}
use Rattle.bz_tree.specs.declared.tree.Class.{Class}
use Rattle.bz_tree.specs.Tree.{Statement}
use Rattle.bz_tree.specs.Rows.{RowPart, part_view, parts_of}
use Rattle.bz_tree.specs.declared.row.Part.{Part}
use Rattle.bz_tree.specs.private.PartSteps.{content_of, last_beside}
use Rattle.bz_tree.proofs.Rows.FromParts.{statement_of_parts}

-- the parts of a statement, its class and its lines
pub record RowValue : Type 0 where
  pub parts : List RowPart
  pub class : Class
  pub start : ℕ
  pub end : ℕ

abbrev pub row_value : List Part → Class → ℕ → ℕ → RowValue
row_value parts class start end = record { parts = map part_view parts; class = class; start = start; end = end }

abbrev pub row_statement : RowValue → Statement
row_statement row = record {
  before = (content_of row.parts).comments;
  nodes = (content_of row.parts).nodes;
  suffix = last_beside row.parts;
  class = row.class;
  start = row.start;
  end = row.end;
}

abbrev pub row_of : Statement → RowValue
row_of s = record { parts = parts_of s; class = s.class; start = s.start; end = s.end }

-- so a statement is stored as its row
pub statement_back : (s : Statement) → row_statement (row_of s) ≡ s
statement_back s = statement_of_parts s (parts_of s) (content_of (parts_of s)) (last_beside (parts_of s)) s.class s.start s.end refl refl refl
