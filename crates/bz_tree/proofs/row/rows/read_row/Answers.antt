use Rattle.std.proofs.Common.{rules, tests, inl, ◌++◌, [], map, IsSome, arith, sym, ap, ◌∙◌, append-nil}
use Rattle.std.proofs.lemmas.Grind.{common_steps}
use Rattle.bz_token.specs.Places.{placed}
use Rattle.bz_tree.specs.Statement.{first_seen}
use Rattle.bz_tree.specs.private.RowSteps.{row_run, row_start, is_upright}
use Rattle.bz_tree.proofs.Rows.RowFound.{upright_rows}
use Rattle.bz_tree.proofs.Rows.RowNone.{walk_stops, no_row}
use Rattle.bz_tree.proofs.row.rows.read_row.Goals as goal

pub returns : goal.returns
returns c =
    let ts = map placed c.args.tokens.now in
    let seen : IsSome (first_seen (map placed c.args.tokens.now)) = grind (arith, common_steps) in
    let ends = rw c.in-Some.is at c.counted_end_of.ensures.end in
    let run = c.in_ok-add_tokens.ensures.some [] (search rules) ∙ ap (λ s. row_run s (ts ++ [])) c.in_ok-walk.ensures ∙ ap (row_run row_start) (append-nil ts) in
    record { row = upright_rows ts c.start_of.result c.in-Some.end c.finish.result (c.finish.ensures.row ∙ run) c.finish.ensures.lines c.start_of.ensures ends seen (ap is_upright (sym c.first_token.ensures) ∙ sym c.is_upright.ensures ∙ c.if-not-is_upright.false); none = no_row ts _ c.finish.result (c.finish.ensures.row ∙ run) }

pub returns-then-not-branch-clause-none : goal.returns-then-not-branch-clause-none
returns-then-not-branch-clause-none c =
    let ts = map placed c.args.tokens.now in
    inl (walk_stops ts (ap (row_run row_start) (sym (append-nil ts)) ∙ ap (λ s. row_run s (ts ++ [])) (sym c.in_ok-walk.ensures) ∙ c.in_ok-add_tokens.ensures.none [] (search (rules, tests))))
