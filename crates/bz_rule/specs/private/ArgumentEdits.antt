-- For private clauses alone: how far the elements of a value and the arguments of a rule were edited, and the edit of those in a place
-- among its parts.
use Rattle.std.specs.Prelude.{◌≡◌, ℕ, List, ◌∷◌, ◌++◌, Bool, ◌||◌, not, Option, drop, [], ◌&&◌, if◌then◌else◌, None, is_some, codes, take, ◌-◌, true, false}
use Rattle.std.specs.List.{flat_map, list_any}
use Rattle.bz_token.specs.Common.{map_or}
use Rattle.bz_tree.specs.Tree.{Item, items_of, Segment, segs_of}
use Rattle.bz_tree.specs.Rows.{items_parts, RowPart, segment_end, segs_parts}
use Rattle.bz_attribute.specs.Lists.{edit_parts, is_attribute, parts}
use Rattle.bz_attribute.specs.declared.place.Place.{Place}
use Rattle.bz_rule.specs.private.StringEdits.{become_all, changes, is_meant, literal_of, means}
use Rattle.bz_label.specs.declared.arguments.Attributes.{Attributes}
use Rattle.bz_label.specs.declared.arguments.Attributes.TheVariants.{Every, Named}
use Rattle.bz_attribute.specs.Rules.{first_named, is_named, is_text, name_of}
use Rattle.bz_attribute.specs.Effects.{edit_first, filtered}
use Rattle.bz_attribute.specs.Reports.{done}
use Rattle.bz_attribute.specs.RowPlaces.{argument_parts}
use Rattle.bz_rule.specs.declared.commands.argument_edits.ArgumentEdit.{ArgumentEdit}
use Rattle.bz_rule.specs.declared.commands.argument_edits.ArgumentEdit.TheVariants.{Gone, Strings}
use Rattle.bz_attribute.specs.RowEdits.{IsWithin, replaced_at}
use Rattle.bz_attribute.specs.declared.edit.Edit.{Edit}

-- The elements of a value were edited: the parts `left` come next, and before them stands `now`, where `old` stood before the value. `was` and
-- `is` tell whether anything had changed.
pub record HasEditedValue (p : Option (List ℕ) → Bool) (literal : Option (List ℕ)) (nodes : List Item) (after left : List RowPart) (was is : Bool) (old now : List RowPart) : Type 0 where
  pub rest : List RowPart
  pub made : List RowPart
  pub read : left ≡ rest ++ segment_end ∷ after
  pub changed : is ≡ (was || list_any (list_any (is_meant p)) (parts nodes))
  pub total : made ++ rest ≡ items_parts (items_of (edit_parts (become_all p literal) nodes))
  pub written : now ≡ old ++ made

-- an argument of this name goes: each of a name, or each keyword argument but `name`
abbrev pub goes : Attributes → Option (List ℕ) → Bool
goes Every name = is_some name && not (is_text (codes "name") name)
goes (Named attr) name = is_text attr name

abbrev pub goes_by : Attributes → Segment → Bool
goes_by attributes a = goes attributes (name_of a.nodes)

-- what is left of it
abbrev pub kept : Attributes → Segment → List Segment
kept attributes a = if goes_by attributes a then [] else a ∷ []

-- strings in it go or become another
abbrev pub edited : (Option (List ℕ) → Bool) → Option (List ℕ) → Segment → List Segment
edited p literal a = if is_attribute a then filtered (become_all p literal) a else a ∷ []

abbrev pub is_changed : (Option (List ℕ) → Bool) → Segment → Bool
is_changed p a = is_attribute a && changes p a

abbrev pub edit_by : ArgumentEdit → Segment → List Segment
edit_by (Gone attributes) a = kept attributes.now a
edit_by (Strings e) a = edited (means e) (literal_of e) a

abbrev pub changes_by : ArgumentEdit → Segment → Bool
changes_by (Gone attributes) a = goes_by attributes.now a
changes_by (Strings e) a = is_changed (means e) a

-- The argument that stands next was edited, whatever comes after it.
pub record HasEdited (f : Segment → List Segment) (t : Segment → Bool) (a : Segment) (others : List Segment) (left : List RowPart) (was is : Bool) (old now : List RowPart) : Type 0 where
  pub read : left ≡ segs_parts (segs_of others)
  pub changed : is ≡ (was || t a)
  pub written : now ≡ old ++ segs_parts (segs_of (f a))

abbrev pub HasEditedOne : (Segment → List Segment) → (Segment → Bool) → List RowPart → ℕ → ℕ → Bool → Bool → List RowPart → List RowPart → Type 0
HasEditedOne f t ps from at was is old now = (a : Segment) (others : List Segment) → drop from ps ≡ argument_parts a others → HasEdited f t a others (drop at ps) was is old now

-- these arguments stand there
abbrev pub AreThere : Place → List RowPart → List Segment → Type 0
AreThere place ps args = take (place.to - place.from) (drop place.from ps) ≡ segs_parts (segs_of args)

-- each became others, and what is told
pub record IsPlaceEdit (f : Segment → List Segment) (t : Segment → Bool) (place : Place) (ps new : List RowPart) (e : Edit) : Type 0 where
  pub within : IsWithin e.place ps
  pub parts : (args : List Segment) → AreThere place ps args → e.done.changed ≡ true
      → replaced_at e.place new ps ≡ take place.from ps ++ (segs_parts (segs_of (flat_map f args)) ++ drop place.to ps)
  pub done : (args : List Segment) → AreThere place ps args → e.done ≡ done None (list_any t args)

-- strings in the first argument of a name, or in all
abbrev pub edited_in : (Option (List ℕ) → Bool) → Option (List ℕ) → Attributes → List Segment → List Segment
edited_in p literal Every args = flat_map (edited p literal) args
edited_in p literal (Named attr) args = edit_first (is_named attr) (filtered (become_all p literal)) args

abbrev pub changes_in : (Option (List ℕ) → Bool) → Attributes → List Segment → Bool
changes_in p Every args = list_any (is_changed p) args
changes_in p (Named attr) args = map_or false (changes p) (first_named attr args)
