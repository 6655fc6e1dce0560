-- Lists of strings that are compared with values one by one, and lists of values that are written (this project's own rule), for
-- private clauses.
use Rattle.std.specs.Prelude.{◌≡◌, ◌<◌, ℕ, List, ◌∷◌, ◌++◌, Bool, true, false, if◌then◌else◌, Option, None, Some, map}
use Rattle.std.specs.Cmp.Lexicographic.{pointwise}
use Rattle.bz_token.specs.Common.{is_empty, map_or}
use Rattle.bz_label.specs.Values.{value_of}
use Rattle.bz_layout.specs.Pieces.{bytes_of}
use Rattle.bz_layout.specs.Walked.{item_pieces}
use Rattle.bz_layout.specs.declared.broken.Style.TheVariants.{Broken}
use Rattle.bz_layout.specs.declared.spacing.Gap.TheVariants.{Closed}
use Rattle.bz_attribute.specs.Rules.{is_text}
use Rattle.bz_rule.specs.declared.forms.AttributeValues.{AttributeValues}
use Rattle.bz_canonical.specs.declared.set_list.ComparedList.{ComparedList}
use Rattle.bz_canonical.specs.private.Arguments.{IsHeadRead}
use Rattle.bz_canonical.specs.private.Elements.{ArePassed, AreElementsRead, Element, IsLast, element_list}
use Rattle.bz_canonical.specs.private.NewValues.{new_element}

-- the elements are strings with these values, one for each
abbrev pub have_values : List (List ℕ) → List Element → Bool
have_values values es = pointwise (λ value e. is_text value (value_of e.token)) values es

-- the values that are left after that of a string, where it has the first of them
abbrev pub left_after : Option (List (List ℕ)) → List ℕ → Option (List (List ℕ))
left_after (Some (value ∷ values)) token = if is_text value (value_of token) then Some values else None
left_after _ token = None

abbrev pub none_left : Option (List (List ℕ)) → Bool
none_left left = map_or false is_empty left

-- Some elements were passed. Those that follow are to have the values that are left; where there are none to have, one has not its
-- value.
pub record AreCompared (values : List (List ℕ)) (lines one : Bool) (text rest : List ℕ) (left : Option (List (List ℕ))) : Type 0 where
  pub written : List ℕ
  pub broken : Bool
  pub passed : ArePassed lines text rest written one broken
  pub left_is : (more : List Element) → have_values values (passed.elements ++ more) ≡ map_or false (λ others. have_values others more) left

-- the list that is the value of an argument of the name, whose lines are the text
pub record IsListCompared (depth : ℕ) (new : AttributeValues) (text : List ℕ) (list : ComparedList) : Type 0 where
  pub written : List ℕ
  pub one : Bool
  pub broken : Bool
  pub deep : 1 < depth
  pub head : IsHeadRead new.attr.now text (91 ∷ list.inside.now) true
  pub read : AreElementsRead list.inside.now list.end.now written one broken
  pub last : IsLast list.end.now
  pub same_is : list.same ≡ have_values new.values.now read.elements

-- a list of strings with these values is written, but for its first bracket, and then what follows it
abbrev pub PutsValues : List (List ℕ) → List ℕ → List ℕ → List ℕ → Type 0
PutsValues values end old new = (all : List ℕ) × (bytes_of (item_pieces Broken 1 Closed (element_list (map new_element values))) ≡ 91 ∷ all) × (new ≡ old ++ (all ++ end))
