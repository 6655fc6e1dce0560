use Rattle.std.proofs.Common.{◌≡◌, ◌-◌, ◌++◌, List, Bool, Some, map, take, drop, string_bytes, subst, sym, ◌∙◌}
use Rattle.std.proofs.lemmas.Result.{on_ok_weaker}
use Rattle.bz_tree.specs.declared.tree.GroupKind.TheVariants.{RuleCall}
use Rattle.bz_tree.specs.Rows.{items_parts, part_view}
use Rattle.bz_tree.specs.Tree.{Item, items_of}
use Rattle.bz_layout.specs.Layout.{flat_text}
use Rattle.bz_attribute.proofs.OnlyLists.{value_slice}
use Rattle.bz_attribute.proofs.Slices.{slice_seen}
use Rattle.bz_rule.specs.private.PrintSteps.{HasStrings}
use Rattle.bz_rule.proofs.commands.print.push_value.Goals as goal

pub returns-then-branch : goal.returns-then-branch
returns-then-branch c = λ nodes after read.
    subst (λ (are : Bool). HasStrings are (string_bytes c.args.text.now) (string_bytes c.push_strings.new.text) nodes) c.if-branch.true (c.in_ok-push_strings.ensures nodes after read)

pub returns : goal.returns
returns c =
    let at = c.args.value in
    let end = c.value_end.result in
    on_ok_weaker c.push_flat.result
    (λ (is : (value : List Item) → map part_view (take (c.value_end.result - c.args.value) (drop c.args.value c.args.parts.now)) ≡ items_parts (items_of value)
    → string_bytes c.push_flat.new.text ≡ string_bytes c.push_strings.new.text ++ flat_text (Some RuleCall) value) nodes after read.
    let none = subst (λ (are : Bool). HasStrings are (string_bytes c.args.text.now) (string_bytes c.push_strings.new.text) nodes) c.if-branch.false (c.in_ok-push_strings.ensures nodes after read) in
    let own = slice_seen c.args.parts.now at (end - at) ∙ value_slice nodes after c.args.parts.now at end read (c.value_end.ensures.end nodes after read) c.value_end.ensures.within in
    is nodes own ∙ (λ i. none.0 i ++ sym none.1 i))
    c.push_flat.ensures
