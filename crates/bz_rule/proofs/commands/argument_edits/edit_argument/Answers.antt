use Rattle.std.proofs.Common.{◌≡◌, ◌+◌, [], ◌∷◌, Bool, true, false, not, ◌&&◌, if◌then◌else◌, is_some, map, arith, ap, sym, ◌∙◌}
use Rattle.std.proofs.lemmas.List.{length-map}
use Rattle.bz_tree.specs.Rows.{part_view}
use Rattle.bz_attribute.specs.Effects.{filtered}
use Rattle.bz_attribute.specs.Lists.{is_attribute}
use Rattle.bz_attribute.specs.Rules.{value}
use Rattle.bz_attribute.proofs.Slices.{rest_seen}
use Rattle.bz_rule.specs.private.ArgumentEdits.{edited, goes, goes_by, is_changed, kept}
use Rattle.bz_rule.specs.private.StringEdits.{become_all, changes, literal_of, means}
use Rattle.bz_rule.proofs.EachArgument.{after_value, goes_away, left, lost, mapped_some, of_keyword, stays, value_early, value_reads}
use Rattle.bz_rule.proofs.WrittenParts.{later, up_to_made}
use Rattle.bz_rule.proofs.commands.argument_edits.edit_argument.Goals as goal

pub returns-then-not-goes-clause-up_to : goal.returns-then-not-goes-clause-up_to
returns-then-not-goes-clause-up_to c = later c.args.written.now c.args.at _ c.requires.1 (omega arith)

pub returns-then-not-goes-clause-edited : goal.returns-then-not-goes-clause-edited
returns-then-not-goes-clause-edited c =
    rw c.in-Gone.is
    (λ a others are.
    let attributes = c.in-Gone.attributes.now in
    let first = c.first_argument-argument.ensures.argument a others (rest_seen c.args.parts.now c.args.at ∙ are) in
    let none : goes_by attributes a ≡ false = ap (goes attributes) (sym first.named) ∙ sym c.goes.ensures ∙ c.if-not-goes.true in
    stays (kept attributes) (goes_by attributes) a others c.args.at c.first_argument-argument.result.nodes c.first_argument-argument.result.to _ (map part_view c.args.parts.now) c.args.written.now (map part_view c.args.out.now.items) _ c.requires.1 are first
    (ap (λ (b : Bool). if b then [] else a ∷ []) none) none)

pub returns-in_ok-make_way-in-Gone-clause-up_to : goal.returns-in_ok-make_way-in-Gone-clause-up_to
returns-in_ok-make_way-in-Gone-clause-up_to c = up_to_made c.in_ok-make_way-in-Gone.ensures

pub returns-in_ok-make_way-in-Gone-clause-edited : goal.returns-in_ok-make_way-in-Gone-clause-edited
returns-in_ok-make_way-in-Gone-clause-edited c =
    rw c.in-Gone.is
    (λ a others are.
    let attributes = c.in-Gone.attributes.now in
    let first = c.first_argument-argument.ensures.argument a others (rest_seen c.args.parts.now c.args.at ∙ are) in
    let is : goes_by attributes a ≡ true = ap (goes attributes) (sym first.named) ∙ sym c.goes.ensures ∙ c.if-not-goes.false in
    goes_away (kept attributes) (goes_by attributes) a others c.args.at c.first_argument-argument.result.nodes c.first_argument-argument.result.to _ (map part_view c.args.parts.now) c.make_way.new.written (map part_view c.make_way.new.out.items) _ _ c.in_ok-make_way-in-Gone.ensures are first
    (ap (λ (b : Bool). if b then [] else a ∷ []) is) is)

pub returns-then-is_none-clause-up_to : goal.returns-then-is_none-clause-up_to
returns-then-is_none-clause-up_to c = later c.args.written.now c.args.at _ c.requires.1 (omega arith)

pub returns-then-is_none-clause-edited : goal.returns-then-is_none-clause-edited
returns-then-is_none-clause-edited c =
    rw c.in-Strings.is
    (λ a others are.
    let e = c.in-Strings.strings in
    let first = c.first_argument-argument.ensures.argument a others (rest_seen c.args.parts.now c.args.at ∙ are) in
    let none : is_attribute a ≡ false = ap is_some (sym first.named) ∙ mapped_some _ _ ∙ c.is_none.ensures ∙ ap not c.if-is_none.true in
    stays (edited (means e) (literal_of e)) (is_changed (means e)) a others c.args.at c.first_argument-argument.result.nodes c.first_argument-argument.result.to _ (map part_view c.args.parts.now) c.args.written.now (map part_view c.args.out.now.items) _ c.requires.1 are first
    (ap (λ (b : Bool). if b then filtered (become_all (means e) (literal_of e)) a else a ∷ []) none) (ap (λ (b : Bool). b && changes (means e) a) none))

pub returns-then-loses_all-clause-up_to : goal.returns-then-loses_all-clause-up_to
returns-then-loses_all-clause-up_to c = up_to_made c.in_ok-make_way-in-Strings.ensures

pub returns-then-loses_all-clause-edited : goal.returns-then-loses_all-clause-edited
returns-then-loses_all-clause-edited c =
    rw c.in-Strings.is
    (λ a others are.
    let e = c.in-Strings.strings in
    let ps = map part_view c.args.parts.now in
    let nodes = c.first_argument-argument.result.nodes in
    let first = c.first_argument-argument.ensures.argument a others (rest_seen c.args.parts.now c.args.at ∙ are) in
    let is : is_attribute a ≡ true = ap is_some (sym first.named) ∙ mapped_some _ _ ∙ c.is_none.ensures ∙ ap not c.if-is_none.false in
    let v_is : c.min-value.result ≡ c.args.at + nodes + 2 = omega (arith, c.min-value.ensures, c.value_at.ensures, value_early a is nodes c.first_argument-argument.result.to _ first) in
    let own = value_reads a is others ps c.args.at c.min-value.result nodes c.first_argument-argument.result.to _ are first v_is in
    of_keyword (means e) (literal_of e) a others _ _ _ _ _ is
    (lost (means e) (literal_of e) a others c.args.at nodes c.first_argument-argument.result.to _ ps c.make_way-then-loses_all.new.written (map part_view c.make_way-then-loses_all.new.out.items) _ _ c.in_ok-make_way-in-Strings.ensures are first
    (sym (c.loses_all.ensures (value a) (after_value a others) own) ∙ c.if-loses_all.true)))

pub edit_value-requires : goal.edit_value-requires
edit_value-requires c = (omega (arith, c.min-value.ensures, c.first_argument-argument.ensures.within.1), later c.args.written.now c.args.at _ c.requires.1 (omega (arith, c.min-value.ensures)))

pub returns-in_ok-end-in-Strings-clause-up_to : goal.returns-in_ok-end-in-Strings-clause-up_to
returns-in_ok-end-in-Strings-clause-up_to c = later c.edit_value.new.written c.in_ok-end-in-Strings.end _ c.in_ok-end-in-Strings.ensures.up_to (omega (arith, c.max.ensures))

pub returns-in_ok-end-in-Strings-clause-edited : goal.returns-in_ok-end-in-Strings-clause-edited
returns-in_ok-end-in-Strings-clause-edited c =
    rw c.in-Strings.is
    (λ a others are.
    let e = c.in-Strings.strings in
    let ps = map part_view c.args.parts.now in
    let nodes = c.first_argument-argument.result.nodes in
    let to = c.first_argument-argument.result.to in
    let first = c.first_argument-argument.ensures.argument a others (rest_seen c.args.parts.now c.args.at ∙ are) in
    let is : is_attribute a ≡ true = ap is_some (sym first.named) ∙ mapped_some _ _ ∙ c.is_none.ensures ∙ ap not c.if-is_none.false in
    let v_is : c.min-value.result ≡ c.args.at + nodes + 2 = omega (arith, c.min-value.ensures, c.value_at.ensures, value_early a is nodes to _ first) in
    let own = value_reads a is others ps c.args.at c.min-value.result nodes to _ are first v_is in
    let size = length-map c.args.parts.now part_view in
    of_keyword (means e) (literal_of e) a others _ _ _ _ _ is
    (left (means e) (literal_of e) a others c.args.at c.min-value.result c.in_ok-end-in-Strings.end nodes to c.max.result _ ps (map part_view c.args.out.now.items) (map part_view c.edit_value.new.out.items) c.args.written.now c.edit_value.new.written _ _ is
    c.requires.1 c.in_ok-end-in-Strings.ensures.up_to are first v_is
    (omega (arith, c.first_argument-argument.ensures.within.1, c.requires.0, size)) (omega (arith, c.in_ok-end-in-Strings.ensures.within, size)) (λ early. omega (arith, early, c.max.ensures))
    (c.in_ok-end-in-Strings.ensures.edited (value a) (after_value a others) own) (sym (c.loses_all.ensures (value a) (after_value a others) own) ∙ c.if-loses_all.false)))
