-- Where the line of a comment goes that is put above an attribute, in what is written of its rule.
-- Begin with `TakesComment`.
use Rattle.std.specs.Prelude.{◌≡◌, ℕ, List, [], ◌∷◌, ◌++◌, true}
use Rattle.bz_tree.specs.Tree.{Segment, Statement}
use Rattle.bz_layout.specs.Layout.{layout_text}
use Rattle.bz_attribute.specs.Effects.{edit_first, has, with_args, with_comment}
use Rattle.bz_attribute.specs.Rules.{is_named}
use Rattle.bz_canonical.specs.Canonical.{first_args}

-- the first argument of the name, with the comment line as the last above it
abbrev pub commented : List ℕ → List ℕ → List Segment → List Segment
commented attr line args = edit_first (is_named attr) (λ a. with_comment line a ∷ []) args

-- Some argument has the name. What is written of the rule with a comment line has this line between the two.
pub record TakesComment (attr : List ℕ) (s : Statement) (above below : List ℕ) : Type 0 where
  pub there : has attr (first_args attr s) ≡ true
  pub takes : (line : List ℕ) → layout_text (with_args (commented attr line) s) ≡ above ++ (line ++ below)
