-- What a script passes by, and a text that stands in another.
use Rattle.std.specs.Prelude.{◌≡◌, ℕ, Bool, not, List, ◌++◌}
use Rattle.std.specs.List.{list_all}
use Rattle.bz_tree.specs.Tree.{Statement}
use Rattle.bz_attribute.specs.Marks.{marks}
use Rattle.bz_engine.specs.Outcome.{Script}

-- no pass of the script marks the statement
abbrev pub is_unmarked : Script → Statement → Bool
is_unmarked passes s = list_all (λ p. not (marks p.target s)) passes

-- the bytes stand in the text, one after another
pub record StandsIn (part text : List ℕ) : Type 0 where
  pub before : List ℕ
  pub after : List ℕ
  pub text_is : text ≡ before ++ (part ++ after)
