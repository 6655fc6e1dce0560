-- The row of a chunk's statement, and what is known of its name, for private clauses.
use Rattle.std.specs.Prelude.{◌≡◌, ℕ, Bool, List, not, true}
use Rattle.std.specs.List.{list_all}
use Rattle.bz_tree.specs.declared.row.Row.{Row}
use Rattle.bz_tree.specs.Tree.{Statement}
use Rattle.bz_tree.specs.Statement.{class_of}
use Rattle.bz_tree.specs.Chunk.{IsStatementIn}
use Rattle.bz_tree.specs.Rows.{IsRowOf}
use Rattle.bz_label.specs.Labels.{Target}
use Rattle.bz_attribute.specs.Marks.{marks}
use Rattle.bz_passes.specs.declared.index.Key.{Key}
use Rattle.bz_passes.specs.Asked.{asked_by, may_mark}
use Rattle.bz_passes.specs.Passes.{Pass}
use Rattle.bz_rule.specs.Commands.{Command}
use Rattle.bz_engine.specs.Outcome.{Script}

-- a target that marks the statement may mark what has this key
abbrev pub HasKey : Statement → Key → Type 0
HasKey s key = (target : Target) → marks target s ≡ true → may_mark key (asked_by target) ≡ true

-- the target of no pass marks the statement
abbrev pub none_marks : Script → Statement → Bool
none_marks passes s = list_all (λ (p : Pass Target Command). not (marks p.target s)) passes

-- A row of the statement, as it is read of a text: its class is that of its nodes.
pub record IsOfRow (s : Statement) (row : Row) : Type 0 where
  pub class : s.class ≡ class_of s.nodes
  pub parts : IsRowOf s row

-- The row of the statement of a text.
pub record IsStatementRow (line max_depth : ℕ) (text : List ℕ) (row : Row) : Type 0 where
  pub statement : Statement
  pub read : IsStatementIn line max_depth text statement
  pub of_row : IsOfRow statement row
