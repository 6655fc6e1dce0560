-- Where the name of an argument stands in what is written of its rule, for private clauses.
use Rattle.std.specs.Prelude.{◌≡◌, ℕ, List, [], ◌∷◌, ◌++◌, true}
use Rattle.bz_tree.specs.Tree.{Segment, Statement}
use Rattle.bz_layout.specs.Layout.{layout_text}
use Rattle.bz_attribute.specs.Effects.{edit_first, has, with_args}
use Rattle.bz_attribute.specs.Rules.{is_named}
use Rattle.bz_canonical.specs.Canonical.{first_args}
use Rattle.bz_rule.specs.Rename.{rename_to}

-- the first argument of the name under another name
abbrev pub renamed : List ℕ → List ℕ → List Segment → List Segment
renamed attr name args = edit_first (is_named attr) (λ a. rename_to name a ∷ []) args

-- Some argument has the name. What is written of the rule with another name there has this name between the two.
pub record TakesName (attr : List ℕ) (s : Statement) (before after : List ℕ) : Type 0 where
  pub there : has attr (first_args attr s) ≡ true
  pub takes : (name : List ℕ) → layout_text (with_args (renamed attr name) s) ≡ before ++ (name ++ after)
