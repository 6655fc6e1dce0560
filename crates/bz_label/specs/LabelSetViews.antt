-- The labels that a set has.
use Rattle.std.specs.Prelude.{◌≡◌, ℕ, List, Bool, ◌||◌, bytes_eq}
use Rattle.std.specs.List.{list_any}
use Rattle.bz_label.specs.Labels.{Package}
use Rattle.bz_label.specs.Same.{completed}
use Rattle.bz_label.specs.declared.label_set.LabelSet.{LabelSet}

-- one of the labels in full is the same as the text
abbrev pub holds : Package → List (List ℕ) → List ℕ → Bool
holds home labels text = list_any (bytes_eq (completed home text)) labels

-- a label of the set is the same as the text
abbrev pub has : LabelSet → List ℕ → Bool
has set text = holds set.home.now set.few.items text || holds set.home.now set.others.keys text

-- the set has these labels more, and what it had
abbrev pub Gains : (List ℕ → Bool) → LabelSet → LabelSet → Type 0
Gains more old new = (text : List ℕ) → has new text ≡ (more text || has old text)
