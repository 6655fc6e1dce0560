use Rattle.std.proofs.Common.{◌≡◌, ◌∙◌, ◌++◌, ℕ, List, true, is_some, ap, length, map, subst, sym, arith, rules}
use Rattle.std.specs.List.{splice}
use Rattle.bz_tree.specs.Tree.{Statement}
use Rattle.bz_tree.specs.declared.row.Part.{Part}
use Rattle.bz_tree.specs.declared.tree.Class.{Class}
use Rattle.bz_tree.specs.Rows.{part_view, parts_of}
use Rattle.bz_label.specs.Labels.{Package}
use Rattle.bz_attribute.specs.Heads.{HasHead}
use Rattle.bz_attribute.specs.Rules.{rule_of}
use Rattle.bz_attribute.specs.RowEdits.{replaced_at}
use Rattle.bz_attribute.specs.declared.place.Place.{Place}
use Rattle.bz_label.specs.declared.arguments.Setting.TheVariants.{ToKind}
use Rattle.bz_rule.specs.Commands.{Command}
use Rattle.bz_rule.specs.Set.{with_kind}
use Rattle.bz_rule.specs.declared.command.Action.TheVariants.{Set}
use Rattle.bz_rule.specs.RowViews.{row_statement, row_value}
use Rattle.bz_rule.specs.private.RowEdits.{rule_after}
use Rattle.bz_rule.proofs.RowEdited.{IsNextOf, next_of, some_rule}
use Rattle.bz_rule.proofs.RowStatements.{IsOf, has_head, statement_of}
use Rattle.bz_rule.proofs.Spliced.{of_next}
use Rattle.bz_rule.proofs.statement_row.StatementRow.change.Goals as goal

-- what comes in the place of a rule, and its row
after_edit : (command : Command) (home : Package) (place : Place) (items new list : List Part) (class : Class) (start end : ℕ) (old : Statement) → is_some (rule_of old.nodes) ≡ true
    → row_statement (row_value items class start end) ≡ old → map part_view items ≡ parts_of (row_statement (row_value items class start end)) → list ≡ splice items place.from place.to new
    → replaced_at place (map part_view new) (parts_of old) ≡ parts_of (rule_after command home old)
    → IsNextOf old (map part_view list) (rule_after command home old) × IsOf (rule_after command home old) list class start end
after_edit command home place items new list class start end old rule view are put made =
    let r = some_rule (rule_of old.nodes) rule in
    let next = next_of command home old r.0 (map part_view list) r.1 (of_next place items new list old (rule_after command home old) put (are ∙ ap parts_of view) made) in (
      next,
      record {
        are = next.are;
        is = ap (λ (z : Statement). z.class) view ∙ sym next.same;
        begins = ap (λ (z : Statement). z.start) view ∙ sym next.start;
        ends = ap (λ (z : Statement). z.end) view ∙ sym next.end;
      },
    )

pub invariant_of-self-in-Some : goal.invariant_of-self-in-Some
invariant_of-self-in-Some c =
    let i = c.self.inside in
    let old = c.args.self.now in
    let command = c.args.command.now in
    let home = c.args.env.home.now in
    let r = some_rule (rule_of old.nodes) c.requires.rule in
    let row = after_edit command home c.args.place i.row.parts.items c.args.new.now c.put_in.new.list.items _ _ _ old c.requires.rule c.self.view_is c.self.invariant.are c.in_ok-put_in.ensures.ok c.requires.next in
    has_head (rule_after command home old) c.put_in.new.list.items _ _ _ i.head _ row.1 ((c.in-Some.ensures home old r.0 r.1).head i.head (subst (HasHead i.head) c.self.view_is c.self.invariant.has))
    (grind (arith, c.saturating_add-self-inside.ensures, c.self.invariant.below, ap (λ (z : Statement). length z.before) c.self.view_is, (c.in-Some.ensures home old r.0 r.1).more))

pub returns-in-Some-clause-changed : goal.returns-in-Some-clause-changed
returns-in-Some-clause-changed c =
    let i = c.self.inside in
    let old = c.args.self.now in
    let command = c.args.command.now in
    let home = c.args.env.home.now in
    let row = after_edit command home c.args.place i.row.parts.items c.args.new.now c.put_in.new.list.items _ _ _ old c.requires.rule c.self.view_is c.self.invariant.are c.in_ok-put_in.ensures.ok c.requires.next in
    statement_of (rule_after command home old) c.put_in.new.list.items _ _ _ row.1

pub invariant_of-self-2 : goal.invariant_of-self-2
invariant_of-self-2 c =
    let i = c.self.inside in
    let old = c.args.self.now in
    let command = c.args.command.now in
    let home = c.args.env.home.now in
    let list = c.put_in-2.new.list.items in
    let copied : c.extend_from_slice.new.list.items ≡ i.row.parts.items = c.in_ok-extend_from_slice.ensures.items ∙ ap (λ (ps : List Part). ps ++ c.deref-2.result.now) c.in_ok-list.ensures ∙ c.deref-2.ensures.value in
    let put : list ≡ splice i.row.parts.items c.args.place.from c.args.place.to c.args.new.now = c.in_ok-put_in-3.ensures.ok ∙ ap (λ (ps : List Part). splice ps c.args.place.from c.args.place.to c.args.new.now) copied in
    let row = after_edit command home c.args.place i.row.parts.items c.args.new.now list _ _ _ old c.requires.rule c.self.view_is c.self.invariant.are put c.requires.next in
    has_head (rule_after command home old) list _ _ _ c.in_ok-head.head i.comments row.1
    (c.in_ok-head.ensures (rule_after command home old) row.0.rule (ap (map part_view) c.deref-3.ensures.value ∙ row.0.are) (sym row.1.begins) (sym row.1.ends))
    (omega (arith, c.self.invariant.below, ap (λ (z : Statement). length z.before) c.self.view_is, row.0.before))

pub returns-clause-changed : goal.returns-clause-changed
returns-clause-changed c =
    let i = c.self.inside in
    let old = c.args.self.now in
    let command = c.args.command.now in
    let home = c.args.env.home.now in
    let list = c.put_in-2.new.list.items in
    let copied : c.extend_from_slice.new.list.items ≡ i.row.parts.items = c.in_ok-extend_from_slice.ensures.items ∙ ap (λ (ps : List Part). ps ++ c.deref-2.result.now) c.in_ok-list.ensures ∙ c.deref-2.ensures.value in
    let put : list ≡ splice i.row.parts.items c.args.place.from c.args.place.to c.args.new.now = c.in_ok-put_in-3.ensures.ok ∙ ap (λ (ps : List Part). splice ps c.args.place.from c.args.place.to c.args.new.now) copied in
    let row = after_edit command home c.args.place i.row.parts.items c.args.new.now list _ _ _ old c.requires.rule c.self.view_is c.self.invariant.are put c.requires.next in
    statement_of (rule_after command home old) list _ _ _ row.1

pub invariant_of-self-in-Set-ToKind : goal.invariant_of-self-in-Set-ToKind
invariant_of-self-in-Set-ToKind c =
    let i = c.self.inside in
    let old = c.args.self.now in
    let command = c.args.command.now in
    let home = c.args.env.home.now in
    let list = c.put_in-in-Set-ToKind.new.list.items in
    let row = after_edit command home c.args.place i.row.parts.items c.args.new.now list _ _ _ old c.requires.rule c.self.view_is c.self.invariant.are c.in_ok-put_in-2.ensures.ok c.requires.next in
    let kind = c.in-Set-ToKind.kind in
    let set : command ≡ Set (ToKind kind) = search rules in
    let same : c.in_ok-kind.kind.now ≡ kind = search rules in
    let made : with_kind c.in_ok-kind.kind.now old ≡ rule_after command home old = ap (λ k. with_kind k old) same ∙ sym (ap (λ (x : Command). rule_after x home old) set) in
    let has = c.of_kind-self-inside.ensures old (subst (HasHead i.head) c.self.view_is c.self.invariant.has) in
    has_head (rule_after command home old) list _ _ _ c.of_kind-self-inside.result i.comments row.1 (subst (HasHead c.of_kind-self-inside.result) made has)
    (omega (arith, c.self.invariant.below, ap (λ (z : Statement). length z.before) c.self.view_is, row.0.before))

pub returns-in-Set-ToKind-clause-changed : goal.returns-in-Set-ToKind-clause-changed
returns-in-Set-ToKind-clause-changed c =
    let i = c.self.inside in
    let old = c.args.self.now in
    let command = c.args.command.now in
    let home = c.args.env.home.now in
    let list = c.put_in-in-Set-ToKind.new.list.items in
    let row = after_edit command home c.args.place i.row.parts.items c.args.new.now list _ _ _ old c.requires.rule c.self.view_is c.self.invariant.are c.in_ok-put_in-2.ensures.ok c.requires.next in
    statement_of (rule_after command home old) list _ _ _ row.1
