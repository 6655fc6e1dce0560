-- For private clauses alone: what becomes of the elements that are strings which a command means, and parts that are written anew,
-- where some places of them make way.
use Rattle.std.specs.Prelude.{ℕ, ◌+◌, List, [], ◌∷◌, Bool, true, false, ◌&&◌, not, if◌then◌else◌, Option, None, Some, ◌≡◌, ◌-◌, ◌≤◌, ◌++◌, take, drop, IfSome}
use Rattle.std.specs.List.{flat_map, list_any}
use Rattle.bz_token.specs.declared.token.Kind.TheVariants.{String}
use Rattle.bz_tree.specs.Tree.{leaf, Segment}
use Rattle.bz_label.specs.Labels.{Package}
use Rattle.bz_label.specs.Values.{quoted, value_of}
use Rattle.bz_attribute.specs.Rules.{is_text, only_text, value}
use Rattle.bz_attribute.specs.Lists.{parts}
use Rattle.bz_label.specs.Same.{same}
use Rattle.bz_attribute.specs.declared.place.Place.{Place}
use Rattle.bz_rule.specs.declared.commands.string_edit.Meant.{Meant}
use Rattle.bz_rule.specs.declared.commands.string_edit.Meant.TheVariants.{Any, Word, Words, Unlike}
use Rattle.bz_rule.specs.declared.commands.string_edit.StringEdit.{StringEdit}
use Rattle.bz_token.specs.Common.{map_or}
use Rattle.bz_tree.specs.Rows.{RowPart, a_token}

-- the text of a string token equals a word, one of some, or `old` and is not exactly `new`
abbrev pub equals_word : Package → List ℕ → List ℕ → Bool
equals_word home word text = map_or false (λ value. same home value word) (value_of text)

abbrev pub equals_one : Package → List (List ℕ) → List ℕ → Bool
equals_one home words text = list_any (λ word. map_or false (λ value. same home value word) (value_of text)) words

abbrev pub is_unlike : Package → List ℕ → List ℕ → List ℕ → Bool
is_unlike home old new text = map_or false (λ value. same home value old) (value_of text) && not (is_text new (value_of text))

-- an element is meant, by its text where it is one string token
abbrev pub means_in : Package → Meant → Option (List ℕ) → Bool
means_in home Any string = true
means_in home (Word word) string = map_or false (equals_word home word.now) string
means_in home (Words set) string = map_or false (equals_one home set.now.words.now) string
means_in home (Unlike old new) string = map_or false (is_unlike home old.now new.now) string

abbrev pub means : StringEdit → Option (List ℕ) → Bool
means e string = means_in e.env.home.now e.meant string

-- the literal of what they become
abbrev pub literal_in : Meant → Option (List ℕ)
literal_in (Unlike old new) = Some (quoted new.now)
literal_in _ = None

abbrev pub literal_of : StringEdit → Option (List ℕ)
literal_of e = literal_in e.meant

-- where an element stands that goes, or the string of one that becomes another
abbrev pub place_in : Option (List ℕ) → ℕ → ℕ → ℕ → Place
place_in None from token to = record { from = from; to = to }
place_in (Some literal) from token to = record { from = token; to = token + 1 }

abbrev pub is_meant : (Option (List ℕ) → Bool) → Segment → Bool
is_meant p s = p (only_text s.nodes)

-- it goes, or it becomes a string of this text; its comments stay
abbrev pub in_place : Option (List ℕ) → Segment → List Segment
in_place None s = []
in_place (Some literal) s = record s { nodes = leaf String literal ∷ [] } ∷ []

abbrev pub become : (Option (List ℕ) → Bool) → Option (List ℕ) → Segment → List Segment
become p literal s = if is_meant p s then in_place literal s else s ∷ []

abbrev pub become_all : (Option (List ℕ) → Bool) → Option (List ℕ) → List Segment → List Segment
become_all p literal ss = flat_map (become p literal) ss

-- an argument is changed
abbrev pub changes : (Option (List ℕ) → Bool) → Segment → Bool
changes p a = list_any (list_any (is_meant p)) (parts (value a))

-- where others stand in place of some parts: it ends at a place, or before it
abbrev pub IsUpTo : Option Place → ℕ → Type 0
IsUpTo written at = IfSome written (λ place. (place.from ≤ place.to) × (place.to ≤ at))

-- what stands before a place of the parts, with `out` where it was written
abbrev pub written_to : Option Place → List RowPart → List RowPart → ℕ → List RowPart
written_to None out ps at = take at ps
written_to (Some place) out ps at = take place.from ps ++ (out ++ take (at - place.to) (drop place.to ps))

-- a place made way after what stood before it
pub record HasMadeWay (before ps out : List RowPart) (place : Place) (written : Option Place) : Type 0 where
  pub from : ℕ
  pub order : from ≤ place.to
  pub is : written ≡ Some (record { from = from; to = place.to })
  pub are : take from ps ++ out ≡ before

abbrev pub literal_parts : Option (List ℕ) → List RowPart
literal_parts None = []
literal_parts (Some literal) = a_token String literal ∷ []
