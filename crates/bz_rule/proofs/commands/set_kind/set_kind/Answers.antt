use Rattle.std.proofs.Common.{◌≡◌, ◌∙◌, ◌++◌, ℕ, List, Some, false, ap, drop, map, refl, sym, take}
use Rattle.std.specs.Prelude.{bytes_eq}
use Rattle.bz_tree.specs.Tree.{Item, Statement, items_of}
use Rattle.bz_tree.specs.Rows.{RowPart, items_parts, part_view, parts_of}
use Rattle.bz_attribute.specs.RowEdits.{replaced_at}
use Rattle.bz_attribute.specs.Effects.{nodes_of}
use Rattle.bz_attribute.specs.RowPlaces.{IsKindPlace}
use Rattle.bz_attribute.specs.Rules.{Rule, kind_text, rule_of}
use Rattle.bz_rule.specs.Set.{kind_items, with_kind}
use Rattle.bz_rule.specs.private.Steps.{kind_after}
use Rattle.bz_rule.proofs.commands.set_kind.set_kind.Goals as goal

-- the statement with another kind
kind_written : (kind old : List ℕ) (s : Statement) (r : Rule) (ps : List RowPart) (from to : ℕ) → IsKindPlace s r ps from to → rule_of s.nodes ≡ Some r → kind_text r.kind ≡ old → bytes_eq old kind ≡ false
    → take from ps ++ (items_parts (items_of (kind_items kind)) ++ drop to ps) ≡ parts_of (with_kind kind s)
kind_written kind old s r ps from to place is was differs =
    let nodes : kind_after kind s.nodes (rule_of s.nodes) ≡ nodes_of (record r { kind = kind_items kind }) = rw (is, was, differs) refl in
    place.kind (kind_items kind) ∙ sym (ap (λ (ns : List Item). parts_of (record s { nodes = ns })) nodes)

pub returns-clause-parts : goal.returns-clause-parts
returns-clause-parts c changed s r h was =
    let ps : List RowPart = map part_view c.args.parts.now in
    let tokens : map part_view c.push_kind.new.out.items ≡ items_parts (items_of (kind_items c.args.kind.now)) =
    c.in_ok-push_kind.ensures ∙ (λ i. map part_view (c.clear.ensures.items i) ++ items_parts (items_of (kind_items c.args.kind.now))) in
    (λ i. replaced_at ((c.at.ensures i).place) (tokens i) ps)
    ∙ kind_written c.args.kind.now c.args.old_kind.now s r ps c.kind_place.result.from c.kind_place.result.to (c.kind_place.ensures.place s r h) h.rule was (sym c.eq.ensures ∙ c.if-eq.false)
