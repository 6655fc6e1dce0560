-- What is written of a rule without an attribute, for private clauses.
use Rattle.std.specs.Prelude.{◌≡◌, ℕ, List, ◌++◌, filter, not, true}
use Rattle.bz_tree.specs.Tree.{Statement}
use Rattle.bz_layout.specs.Layout.{layout_text}
use Rattle.bz_attribute.specs.Effects.{has, with_args}
use Rattle.bz_attribute.specs.Rules.{is_named, rule_of}
use Rattle.bz_canonical.specs.Canonical.{rule_args}

-- Some argument has the name. What is written of the rule without those that have it stands before the argument and after it.
pub record IsGone (attr : List ℕ) (s : Statement) (before after : List ℕ) : Type 0 where
  pub there : has attr (rule_args (rule_of s.nodes)) ≡ true
  pub written : layout_text (with_args (λ args. filter (λ a. not (is_named attr a)) args) s) ≡ before ++ after
