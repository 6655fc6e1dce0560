-- Where empty lines stand between statements (this project's own rule).
-- Begin with `lines_between` and `gap_text`.
use Rattle.std.specs.Prelude.{ℕ, List, replicate, Option}
use Rattle.std.specs.Prelude.Option.{Some, None}
use Rattle.bz_tree.specs.declared.tree.Class.{Class}
use Rattle.bz_tree.specs.declared.tree.Class.TheVariants.{Load, Assign}

-- how many empty lines stand between statements of two classes: one, but none between two loads and none
-- between two assignments
abbrev pub lines_between : Class → Class → ℕ
lines_between Load Load = 0
lines_between Assign Assign = 0
lines_between _ _ = 1

-- none before the first statement
abbrev pub lines_before : Option Class → Class → ℕ
lines_before None after = 0
lines_before (Some before) after = lines_between before after

-- the text of so many empty lines
abbrev pub gap_text : ℕ → List ℕ
gap_text lines = replicate lines 10
