-- Lists of strings, each of which is told whether it equals a word, and an argument whose value is one (this project's own rule),
-- for private clauses.
use Rattle.std.specs.Prelude.{◌≡◌, ℕ, List, [], ◌∷◌, codes, bytes_eq, Bool, true, false, Option}
use Rattle.std.specs.List.{list_any}
use Rattle.bz_token.specs.Common.{map_or}
use Rattle.bz_token.specs.declared.token.Kind.TheVariants.{Identifier, Operator}
use Rattle.bz_tree.specs.Tree.{Segment, leaf}
use Rattle.bz_label.specs.Labels.{Package}
use Rattle.bz_label.specs.Values.{value_of}
use Rattle.bz_label.specs.Same.{same}
use Rattle.bz_canonical.specs.Canonical.{AreReadAlone}
use Rattle.bz_canonical.specs.private.Elements.{ArePassed, Element, element_list}

-- the value of a string token is the same label as the value
abbrev pub is_value : Package → List ℕ → List ℕ → Bool
is_value home value token = map_or false (λ text. same home text value) (value_of token)

-- as one of the words
abbrev pub is_word : Package → List (List ℕ) → List ℕ → Bool
is_word home words token = list_any (λ word. is_value home word token) words

abbrev pub have_word : Package → List (List ℕ) → List Element → Bool
have_word home words es = list_any (λ e. is_word home words e.token) es

-- some elements, and whether one of them equals one of the words
pub record AreSought (home : Package) (words : List (List ℕ)) (lines one : Bool) (text rest : List ℕ) (there : Bool) : Type 0 where
  pub written : List ℕ
  pub broken : Bool
  pub passed : ArePassed lines text rest written one broken
  pub there_is : there ≡ have_word home words passed.elements

abbrev pub list_arg : List (List ℕ) → List ℕ → List Element → Option (List ℕ) → Segment
list_arg notes word es suffix = record { before = notes; nodes = leaf Identifier word ∷ leaf Operator (codes "=") ∷ element_list es ∷ []; suffix = suffix }

-- the argument of the name that is read of these lines alone
pub record IsListAlone (depth : ℕ) (attr lines : List ℕ) : Type 0 where
  pub notes : List (List ℕ)
  pub name : List ℕ
  pub elements : List Element
  pub suffix : Option (List ℕ)
  pub named : bytes_eq attr name ≡ true
  pub same : (args : List Segment) → AreReadAlone depth lines args → args ≡ list_arg notes name elements suffix ∷ []
