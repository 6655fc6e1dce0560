-- Values that are put as elements after those of a list (this project's own rule), for private clauses.
use Rattle.std.specs.Prelude.{◌≡◌, ℕ, List, [], ◌∷◌, ◌++◌, Bool, true, false, Option, None, Some, map}
use Rattle.std.specs.List.{list_any}
use Rattle.bz_token.specs.Common.{map_or}
use Rattle.bz_token.specs.declared.token.Kind.TheVariants.{String}
use Rattle.bz_tree.specs.Tree.{Segment}
use Rattle.bz_label.specs.Labels.{Package}
use Rattle.bz_label.specs.Values.{quoted}
use Rattle.bz_layout.specs.Respell.{respell}
use Rattle.bz_label.specs.declared.arguments.Chosen.TheVariants.{Values}
use Rattle.bz_attribute.specs.Effects.{is_chosen}
use Rattle.bz_attribute.specs.Lists.{parts}
use Rattle.bz_attribute.specs.Rules.{first_named, value}
use Rattle.bz_rule.specs.AddByValue.{fresh}
use Rattle.bz_canonical.specs.Added.{AddsToLines}
use Rattle.bz_canonical.specs.Canonical.{AreReadAlone, read_alone}
use Rattle.bz_canonical.specs.declared.added.ListLines.{ListLines}
use Rattle.bz_canonical.specs.declared.added.NewValues.{NewValues}
use Rattle.bz_canonical.specs.declared.edited.EditedList.{EditedList}
use Rattle.bz_canonical.specs.declared.edited.Passed.{Passed}
use Rattle.bz_canonical.specs.declared.edited.PassedList.{PassedList}
use Rattle.bz_canonical.specs.private.Edited.{IsListEdited, keeping, one_more}
use Rattle.bz_canonical.specs.private.Elements.{Element, element_lines}

abbrev pub new_element : List ℕ → Element
new_element value = record { before = []; token = quoted value; suffix = None }

-- the lists of an argument, where there is one
abbrev pub lists_of : Option Segment → List (List Segment)
lists_of arg = map_or [] (λ a. parts (value a)) arg

-- an element of these lists equals the value
abbrev pub stands : Package → List (List Segment) → List ℕ → Bool
stands home lists value = list_any (list_any (is_chosen home (Values (value ∷ [])))) lists

-- the lists in which values are looked for: those of the argument that is read of these lines alone; without lines none
abbrev pub AreSearched : List ℕ → Option ListLines → List (List Segment) → Type 0
AreSearched attr None lists = lists ≡ []
AreSearched attr (Some among) lists = (args : List Segment) × AreReadAlone among.max_depth among.lines.now args × (lists_of (first_named attr args) ≡ lists)

-- elements are passed more, which have no comments
abbrev pub more_passed : Passed → List (List ℕ) → Passed
more_passed p [] = p
more_passed p (value ∷ news) = more_passed (one_more p p.at true false) news

-- Of some values those are put as elements, on lines, that are in none of the lists, each once.
pub record ArePut (new : NewValues) (values : List (List ℕ)) (p : Passed) (old buffer : List ℕ) (more : Passed) : Type 0 where
  pub news : List (List ℕ)
  pub news_are : (lists : List (List Segment)) → AreSearched new.added.attr.now new.among lists → fresh new.env.home.now lists [] values ≡ news
  pub put : buffer ≡ old ++ element_lines (respell String) (map new_element news)
  pub more_is : more ≡ more_passed (record p { meant = false }) news

-- Which values are new to the argument of these lines is told by the lists in which they are looked for.
abbrev pub AreToldOf : NewValues → ℕ → List ℕ → Type 0
AreToldOf new depth text =
    (news : List (List ℕ)) → ((lists : List (List Segment)) → AreSearched new.added.attr.now new.among lists → fresh new.env.home.now lists [] new.added.values.now ≡ news)
    → (args : List Segment) → AreReadAlone depth text args → fresh new.env.home.now (lists_of (first_named new.added.attr.now args)) [] new.added.values.now ≡ news

-- They are put after the elements of a list that stay as they are.
abbrev pub PutsAfter : NewValues → PassedList → List ℕ → List ℕ → EditedList → Type 0
PutsAfter new list buffer after told =
    (depth : ℕ) (text old : List ℕ) → IsListEdited depth new.env.home.now (keeping new.added) text old buffer list → AreToldOf new depth text
    → AddsToLines (read_alone depth new.env.home.now text) new.added old after told
