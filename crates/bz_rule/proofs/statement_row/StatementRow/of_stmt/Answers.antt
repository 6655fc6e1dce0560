use Rattle.std.proofs.Common.{◌≡◌, ◌∙◌, ◌++◌, List, is_some, ap, map, refl, sym}
use Rattle.bz_tree.specs.View.{nodes_view, view}
use Rattle.bz_tree.specs.Rows.{part_view, parts_of}
use Rattle.bz_tree.specs.declared.row.Part.{Part}
use Rattle.bz_tree.specs.declared.tree.Node.{Node}
use Rattle.bz_attribute.specs.Heads.{HasHead}
use Rattle.bz_attribute.specs.Rules.{rule_of}
use Rattle.bz_attribute.proofs.Headed.{rule_class}
use Rattle.bz_rule.proofs.RowEdited.{no_rule, some_rule}
use Rattle.bz_rule.proofs.statement_row.StatementRow.of_stmt.Goals as goal
use Rattle.bz_rule.proofs.statement_row.StatementRow.of_stmt.Goals.{then-is_rule+in_ok-head, else-is_rule}

pub new-requires : goal.new-requires
new-requires c =
    let s = view c.args.stmt.now in
    let are : map part_view c.push_parts.new.parts.items ≡ parts_of s = c.in_ok-push_parts.ensures ∙ ap (λ (ps : List Part). map part_view ps ++ parts_of s) c.new-parts.ensures.items in
    let rule : is_some (rule_of s.nodes) ≡ c.is_rule.result = ap (λ (ns : List Node). is_some (rule_of (nodes_view ns))) (sym c.deref.ensures.value) ∙ sym c.is_rule.ensures in
    let has : HasHead c.if-is_rule.head s = elim c.if-is_rule.branch [
      | then-is_rule+in_ok-head w ↦
          let r = some_rule (rule_of s.nodes) (rule ∙ w.if-is_rule.true) in
          rw w.head-is (w.in_ok-head.ensures s (rule_class s.nodes r.0 r.1) (ap (map part_view) w.deref-then-is_rule.ensures.value ∙ are) refl refl)
      | else-is_rule w ↦ rw w.head-is (no_rule (rule_of s.nodes) (rule ∙ w.if-is_rule.false))
    ] in
    (s, (record { parts = are; class = refl; start = refl; end = refl }, has))

pub returns : goal.returns
returns c =
    let s = view c.args.stmt.now in
    let are : map part_view c.push_parts.new.parts.items ≡ parts_of s = c.in_ok-push_parts.ensures ∙ ap (λ (ps : List Part). map part_view ps ++ parts_of s) c.new-parts.ensures.items in
    c.new.ensures s (record { parts = are; class = refl; start = refl; end = refl })
