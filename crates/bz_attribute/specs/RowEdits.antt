-- What a command makes of the parts of a rule, and tells.
use Rattle.std.specs.Prelude.{◌≡◌, ◌≤◌, List, ◌++◌, length, take, drop, true}
use Rattle.bz_tree.specs.Tree.{Segment, Statement}
use Rattle.bz_tree.specs.Rows.{RowPart, parts_of}
use Rattle.bz_attribute.specs.Rules.{Rule}
use Rattle.bz_attribute.specs.Effects.{with_args}
use Rattle.bz_attribute.specs.RowPlaces.{IsRuleRow}
use Rattle.bz_attribute.specs.declared.done.Done.{Done}
use Rattle.bz_attribute.specs.declared.edit.Edit.{Edit}
use Rattle.bz_attribute.specs.declared.place.Place.{Place}

-- a range of these parts
abbrev pub IsWithin : Place → List RowPart → Type 0
IsWithin place ps = (place.from ≤ place.to) × (place.to ≤ length ps)

-- the parts with others in a place
abbrev pub replaced_at : Place → List RowPart → List RowPart → List RowPart
replaced_at place new ps = take place.from ps ++ (new ++ drop place.to ps)

-- An edit of arguments: the new parts, in their place, make the rule that it makes, where it changes that. What is told of the arguments.
pub record IsRowEdit (edit : List Segment → List Segment) (told : List Segment → Done) (ps new : List RowPart) (e : Edit) : Type 0 where
  pub within : IsWithin e.place ps
  pub parts : (s : Statement) (r : Rule) → IsRuleRow s r ps → e.done.changed ≡ true → replaced_at e.place new ps ≡ parts_of (with_args edit s)
  pub done : (s : Statement) (r : Rule) → IsRuleRow s r ps → e.done ≡ told r.args
