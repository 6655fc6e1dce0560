-- The text of a new argument of a rule, on lines of its own.
use Rattle.std.specs.Prelude.{ℕ, List, [], ◌∷◌, true, None}
use Rattle.bz_tree.specs.declared.tree.GroupKind.TheVariants.{RuleCall}
use Rattle.bz_tree.specs.Tree.{Segment, segs_of}
use Rattle.bz_layout.specs.declared.broken.Style.TheVariants.{Broken}
use Rattle.bz_layout.specs.Walked.{broken_segs}
use Rattle.bz_layout.specs.Pieces.{bytes_of}
use Rattle.bz_attribute.specs.Effects.{argument}
use Rattle.bz_rule.specs.Set.{new_of, new_value}

abbrev pub argument_lines : Segment → List ℕ
argument_lines arg = bytes_of (broken_segs Broken 1 RuleCall true (segs_of (arg ∷ [])))

-- the argument that `set` adds where none has its name
abbrev pub new_argument : List ℕ → List (List ℕ) → Segment
new_argument attr words = argument attr (new_value (new_of attr words None))
