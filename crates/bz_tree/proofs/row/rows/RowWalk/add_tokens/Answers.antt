use Rattle.std.proofs.Common.{◌≡◌, true, rules, tests, arith, refl, sym, ap, ◌∙◌}
use Rattle.std.specs.Bool.{then_some}
use Rattle.bz_tree.specs.private.RowSteps.{here_view, row_state}
use Rattle.bz_tree.proofs.Rows.RowElements.{comma_begins}
use Rattle.bz_tree.proofs.row.rows.RowWalk.add_tokens.Goals as goal

pub loop-in_list-init : goal.loop-in_list-init
loop-in_list-init c =
    let before = c.step.new.self in
    let after = c.add_comma.new.self in
    let went : c.in_ok-add_comma.field-0 ≡ true = search (rules, tests) in
    let stepped = sym c.in_ok-add_comma.ensures ∙ ap (λ some. then_some some (row_state after)) went in
    record {
      run = λ others. refl;
      at = λ list. (sym c.is_list-in_list.ensures ∙ list, comma_begins before.top.kind (here_view before.top.here) _ (row_state before) (row_state after) refl stepped);
      shorter = omega arith;
    }
