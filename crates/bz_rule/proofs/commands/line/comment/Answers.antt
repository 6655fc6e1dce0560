use Rattle.std.proofs.Common.{◌∙◌, ◌≤◌, ℕ, List, is_some, length, map, ap, sym, subst, arith}
use Rattle.std.proofs.lemmas.List.{length-map}
use Rattle.std.proofs.lemmas.Result.{IfOk-weaker}
use Rattle.bz_tree.specs.Rows.{RowPart, part_view}
use Rattle.bz_tree.specs.Tree.{Statement}
use Rattle.bz_attribute.specs.RowEdits.{replaced_at}
use Rattle.bz_attribute.specs.RowPlaces.{HasArgument, IsRuleRow}
use Rattle.bz_attribute.specs.Rules.{Rule, value}
use Rattle.bz_attribute.specs.declared.done.Done.{Done}
use Rattle.bz_attribute.proofs.RowEdits.{changed, unchanged}
use Rattle.bz_rule.proofs.NamedArgument.{argument_commented, has_found}
use Rattle.bz_rule.proofs.CommentLines.{argument_told, no_list_told, no_value_told, value_commented, value_told}
use Rattle.bz_rule.proofs.commands.line.comment.Goals as goal

pub returns-in_default : goal.returns-in_default
returns-in_default c =
    let attr : List ℕ = c.as_str.result.now in
    let ps : List RowPart = map part_view c.args.parts.now in
    let told = rw (c.as_str-in_default.ensures ∙ sym c.as_str.ensures) at c.in_ok-no_attribute-in-Attribute.ensures in
    rw (c.in-Attribute.is, sym c.as_str.ensures) (unchanged _ _ ps _ _ _ c.none-in_default.ensures (ap (λ (d : Done). d.changed) told)
    (λ s r h. rw (has_found attr s r ps c.find_argument.result h (c.find_argument.ensures.found s r h) ∙ ap is_some c.in_default.is) told))

pub returns-in-Some : goal.returns-in-Some
returns-in-Some c =
    let attr : List ℕ = c.as_str.result.now in
    let ps : List RowPart = map part_view c.args.parts.now in
    let at : ℕ = c.in-Some.at in
    let within : at ≤ length c.args.parts.now = grind (arith, c.in-Some.is, c.find_argument.ensures.within) in
    rw (c.in-Attribute.is, sym c.as_str.ensures) (IfOk-weaker c.insert_line.result _ _ (λ e told. changed _ _ ps _ _ _ told.0 (omega arith, omega (arith, within, length-map c.args.parts.now part_view))
    (λ s r h. ap (λ (new : List RowPart). replaced_at (record { from = at; to = at }) new ps) told.1
    ∙ argument_commented c.args.text.now attr s r ps at h (subst (HasArgument attr s r) c.in-Some.is (c.find_argument.ensures.found s r h)))
    (λ s r h. argument_told attr r.args (has_found attr s r ps c.find_argument.result h (c.find_argument.ensures.found s r h) ∙ ap is_some c.in-Some.is))) c.insert_line.ensures)

pub returns-in_default-first_list : goal.returns-in_default-first_list
returns-in_default-first_list c =
    let told = c.in_ok-not_a_list-in-Value.ensures in
    rw (c.in-Value.is, sym c.as_str-attr.ensures, sym c.as_str-value.ensures) (unchanged _ _ (map part_view c.args.parts.now) _ _ _ c.none-in_default-first_list.ensures (ap (λ (d : Done). d.changed) told) (λ s r h.
    let v = c.in-Some-value_place.ensures.some s r h in
    told ∙ no_list_told c.args.env.home.now c.as_str-attr.result.now c.as_str-value.result.now r.args v.arg v.first (c.in_default-first_list.ensures.none (value v.arg) v.after v.read).none))

pub returns-in_default-first_equal : goal.returns-in_default-first_equal
returns-in_default-first_equal c =
    let ps = map part_view c.args.parts.now in
    let told = c.in_ok-no_value-in-Value.ensures in
    rw (c.in-Value.is, sym c.as_str-attr.ensures, sym c.as_str-value.ensures) (unchanged _ _ ps _ _ _ c.none-in_default-first_equal.ensures (ap (λ (d : Done). d.changed) told) (λ s r h.
    let v = c.in-Some-value_place.ensures.some s r h in
    let l = c.in-Some-first_list.ensures.some (value v.arg) v.after v.read in
    told ∙ no_value_told c.args.env.home.now c.as_str-attr.result.now c.as_str-value.result.now r.args v.arg v.after ps c.in-Some-value_place.at c.in-Some-first_list.list v.first l (c.in_default-first_equal.ensures.none l.list v.after l.read)))

pub returns-in-Some-first_equal : goal.returns-in-Some-first_equal
returns-in-Some-first_equal c =
    let home = c.args.env.home.now in
    let attr = c.as_str-attr.result.now in
    let word = c.as_str-value.result.now in
    let parts = c.args.parts.now in
    let ps = map part_view parts in
    let at : ℕ = c.in-Some-value_place.at in
    let list : ℕ = c.in-Some-first_list.list in
    let token : ℕ = c.in-Some-first_equal.token in
    let v = λ (s : Statement) (r : Rule) (h : IsRuleRow s r ps). c.in-Some-value_place.ensures.some s r h in
    let l = λ (s : Statement) (r : Rule) (h : IsRuleRow s r ps). c.in-Some-first_list.ensures.some (value (v s r h).arg) (v s r h).after (v s r h).read in
    let e = λ (s : Statement) (r : Rule) (h : IsRuleRow s r ps). c.in-Some-first_equal.ensures.some (l s r h).list (v s r h).after (l s r h).read in
    rw (c.in-Value.is, sym c.as_str-attr.ensures, sym c.as_str-value.ensures) (IfOk-weaker c.insert_line-in-Value.result _ _ (λ edit told. changed _ _ ps _ _ _ told.0 (omega arith, omega (arith, c.in-Some-first_equal.ensures.within, length-map parts part_view))
    (λ s r h. ap (λ (new : List RowPart). replaced_at (record { from = token; to = token }) new ps) told.1 ∙ value_commented home attr word c.args.text.now s r ps at list token h (v s r h) (l s r h) (e s r h))
    (λ s r h. value_told home attr word r.args (v s r h).arg (v s r h).after ps at list (v s r h).first (l s r h) (e s r h).there)) c.insert_line-in-Value.ensures)
