-- Edits of the parts of a rule.
use Rattle.std.proofs.Common.{◌≡◌, ◌≤◌, ◌∙◌, List, None, false, true, length, map, subst, sym, arith}
use Rattle.std.proofs.lemmas.Bool.{false≢true}
use Rattle.std.proofs.lemmas.List.{length-map}
use Rattle.bz_tree.specs.Tree.{Segment, Statement}
use Rattle.bz_tree.specs.declared.row.Part.{Part}
use Rattle.bz_tree.specs.Rows.{RowPart, part_view, parts_of}
use Rattle.bz_attribute.specs.Rules.{Rule}
use Rattle.bz_attribute.specs.Effects.{with_args}
use Rattle.bz_attribute.specs.Reports.{done}
use Rattle.bz_attribute.specs.RowEdits.{IsRowEdit, IsWithin, replaced_at}
use Rattle.bz_attribute.specs.RowPlaces.{IsRuleRow}
use Rattle.bz_attribute.specs.declared.done.Done.{Done}
use Rattle.bz_attribute.specs.declared.edit.Edit.{Edit}
use Rattle.bz_attribute.specs.declared.place.Place.{Place}

-- a range of some parts, by what they are seen as
pub seen_within : (place : Place) (ps : List Part) → (place.from ≤ place.to) × (place.to ≤ length ps) → IsWithin place (map part_view ps)
seen_within place ps h = (h.0, omega (arith, h.1, length-map ps part_view))

-- where nothing changes
pub unchanged : (edit : List Segment → List Segment) (told : List Segment → Done) (ps new : List RowPart) (d : Done) (e : Edit) → e ≡ record { done = d; place = record { from = 0; to = 0 } }
    → d.changed ≡ false → ((s : Statement) (r : Rule) → IsRuleRow s r ps → d ≡ told r.args) → IsRowEdit edit told ps new e
unchanged edit told ps new d e are quiet is = subst (λ (x : Edit). IsRowEdit edit told ps new x) (sym are) (record {
  within = (omega arith, omega arith);
  parts = λ s r h changed. absurd (false≢true (sym quiet ∙ changed));
  done = is;
})

-- where the new parts make another rule
pub changed : (edit : List Segment → List Segment) (told : List Segment → Done) (ps new : List RowPart) (place : Place) (e : Edit) → e ≡ record { done = done None true; place = place } → IsWithin place ps
    → ((s : Statement) (r : Rule) → IsRuleRow s r ps → replaced_at place new ps ≡ parts_of (with_args edit s)) → ((s : Statement) (r : Rule) → IsRuleRow s r ps → done None true ≡ told r.args)
    → IsRowEdit edit told ps new e
changed edit told ps new place e are within made is = subst (λ (x : Edit). IsRowEdit edit told ps new x) (sym are) (record { within = within; parts = λ s r h c. made s r h; done = is })
