-- For private clauses alone: whether a label is among those of chosen elements.
use Rattle.std.specs.Prelude.{ℕ, List, [], ◌∷◌, Bool, true, ◌&&◌, if◌then◌else◌, Option, None, Some, option_and_then}
use Rattle.std.specs.List.{list_any}
use Rattle.std.specs.Borrow.{Bor}
use Rattle.bz_tree.specs.Tree.{Segment}
use Rattle.bz_label.specs.Labels.{Package}
use Rattle.bz_label.specs.declared.arguments.Chosen.{Chosen}
use Rattle.bz_label.specs.declared.arguments.Chosen.TheVariants.{All, Values}
use Rattle.bz_attribute.specs.Effects.{is_chosen}
use Rattle.bz_label.specs.Same.{same}
use Rattle.bz_attribute.specs.declared.word_set.WordSet.{WordSet}

-- a chosen element is the same label as the text
abbrev pub is_among : Package → Chosen → List Segment → List ℕ → Bool
is_among home choice ss text = list_any (λ s. is_chosen home choice s && is_chosen home (Values (text ∷ [])) s) ss

-- a chosen element of the lists is the same label as the text
abbrev pub is_in : Package → Chosen → List (List Segment) → List ℕ → Bool
is_in home choice lists text = list_any (λ ss. is_among home choice ss text) lists

-- the elements that words mean: those that equal one of them, and without words all
abbrev pub choice : Option (Bor WordSet) → Chosen
choice None = All
choice (Some set) = Values set.now.words.now

-- a value is chosen
abbrev pub chooses : Package → Chosen → List ℕ → Bool
chooses home All value = true
chooses home (Values words) value = list_any (same home value) words

-- a value, where it is chosen
abbrev pub kept : Package → Chosen → Option (List ℕ) → Option (List ℕ)
kept home choice value = option_and_then (λ v. if chooses home choice v then Some v else None) value
