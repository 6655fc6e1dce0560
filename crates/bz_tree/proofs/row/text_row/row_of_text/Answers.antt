use Rattle.std.proofs.Common.{rules, ◌≡◌, ◌++◌, option_map, sym, ap, ◌∙◌}
use Rattle.std.proofs.lemmas.Bool.{false≢true}
use Rattle.std.specs.Option.{option_or}
use Rattle.bz_token.specs.Batches.{left}
use Rattle.bz_token.specs.Places.{placed}
use Rattle.bz_tree.specs.Statement.{first_seen, first_token, last_seen, last_token}
use Rattle.bz_tree.specs.private.RowSteps.{row_state, row_run, is_upright}
use Rattle.bz_tree.proofs.Rows.RowBatches.{goes_on, last_fits, row_of_batches, faulty, indented, stopped, nothing_first, nothing_last, incomplete, unfinished}
use Rattle.bz_tree.proofs.row.text_row.row_of_text.Goals.{in_default-via-in-Some-Some+else-is_complete, in_default-via-in-Some+in_default, in_default-via-in_default, then-not-is_upright-via-then-not-is_upright, then-not-is_upright-via-else-not-is_upright+in_ok-add_tokens+then-not-branch-2}
use Rattle.bz_tree.proofs.row.text_row.row_of_text.Goals as goal

pub loop-reader-preserved : goal.loop-reader-preserved
loop-reader-preserved c =
    let i = c.loop-reader.invariant in
    let read = c.in_ok-read.ensures.given c.args.first_line c.args.max_depth c.args.text.now i.given i.read c.if-not-branch.false in
    let upright = ap (λ o. is_upright (option_map placed o)) (sym c.or-first.ensures) ∙ sym c.is_upright.ensures ∙ c.if-not-is_upright.false in
    rw (c.or-first.ensures, c.or-last.ensures)
    (goes_on c.args.first_line c.args.max_depth c.args.text.now c.loop-reader.reader c.read.new.self c.loop-reader.walk c.add_tokens.new.self c.loop-reader.first c.loop-reader.last c.loop-reader.top c.loop-reader.bottom c.first_token.result c.last_token.result c.with_first_seen-top.result c.with_last_seen-bottom.result i read
    (λ rest. c.in_ok-add_tokens.ensures.some rest c.if-not-branch-2.false ∙ ap (λ ts. row_run (row_state c.loop-reader.walk) (ts ++ rest)) c.tokens-tokens.ensures)
    (c.first_token.ensures ∙ ap first_token c.tokens-tokens.ensures) (c.last_token.ensures ∙ ap last_token c.tokens-tokens.ensures) (λ none. c.with_first_seen-top.ensures (c.or-first.ensures ∙ none) ∙ ap (λ ts. option_or (option_map placed c.loop-reader.top) (first_seen ts)) c.tokens-tokens.ensures)
    (λ none. c.with_last_seen-bottom.ensures (c.or-first.ensures ∙ none) ∙ ap (λ ts. option_or (last_seen ts) (option_map placed c.loop-reader.bottom)) c.tokens-tokens.ensures) upright)

pub returns-then-not-branch-clause-none : goal.returns-then-not-branch-clause-none
returns-then-not-branch-clause-none c =
    let i = c.loop-reader.invariant in
    faulty c.args.first_line c.args.max_depth c.args.text.now (c.in_ok-read.ensures.fault c.args.first_line c.args.max_depth c.args.text.now i.given i.read c.if-not-branch.true)

pub end_line-requires : goal.end_line-requires
end_line-requires c =
    let i = c.loop-reader.invariant in
    let are = ((c.is_complete.ensures c.args.first_line c.args.max_depth c.args.text.now i.given i.read).0 c.if-is_complete.true).1 in
    last_fits c.args.first_line c.args.max_depth c.args.text.now c.loop-reader.reader c.loop-reader.walk c.loop-reader.first c.loop-reader.last c.loop-reader.top c.loop-reader.bottom c.in-Some-Some.end i are c.requires (sym c.or-2.ensures ∙ c.in-Some-Some.is-1)

pub returns-in-Some-Some-clause-row : goal.returns-in-Some-Some-clause-row
returns-in-Some-Some-clause-row c =
    let i = c.loop-reader.invariant in
    let are = ((c.is_complete.ensures c.args.first_line c.args.max_depth c.args.text.now i.given i.read).0 c.if-is_complete.true).1 in
    row_of_batches c.args.first_line c.args.max_depth c.args.text.now c.loop-reader.reader c.loop-reader.walk c.loop-reader.first c.loop-reader.last c.loop-reader.top c.loop-reader.bottom c.in-Some-Some.begin c.in-Some-Some.end c.finish.result c.end_line.result
    i (sym c.or.ensures ∙ c.in-Some-Some.is-0) (sym c.or-2.ensures ∙ c.in-Some-Some.is-1) are c.finish.ensures.row c.finish.ensures.lines c.end_line.ensures

pub returns-in-Some-Some-clause-none : goal.returns-in-Some-Some-clause-none
returns-in-Some-Some-clause-none c =
    let done : left c.loop-reader.reader ≡ 0 = search rules in
    unfinished c.args.first_line c.args.max_depth c.args.text.now c.loop-reader.reader c.loop-reader.walk c.loop-reader.first c.loop-reader.last c.loop-reader.top c.loop-reader.bottom c.finish.result c.loop-reader.invariant done c.finish.ensures.row

pub returns-clause-none : goal.returns-clause-none
returns-clause-none c =
    let i = c.loop-reader.invariant in
    let done : left c.loop-reader.reader ≡ 0 = search rules in
    elim c.in_default.branch [
      | in_default-via-in-Some-Some+else-is_complete w ↦
          incomplete c.args.first_line c.args.max_depth c.args.text.now c.loop-reader.reader c.loop-reader.walk c.loop-reader.first c.loop-reader.last c.loop-reader.top c.loop-reader.bottom i done (λ are. false≢true (sym w.if-is_complete.false ∙ (w.is_complete.ensures c.args.first_line c.args.max_depth c.args.text.now i.given i.read).1 (done, are)))
      | in_default-via-in-Some+in_default w ↦ nothing_last c.args.first_line c.args.max_depth c.args.text.now c.loop-reader.reader c.loop-reader.walk c.loop-reader.first c.loop-reader.last c.loop-reader.top c.loop-reader.bottom i done (sym c.or-2.ensures ∙ w.in_default.is-1)
      | in_default-via-in_default w ↦ nothing_first c.args.first_line c.args.max_depth c.args.text.now c.loop-reader.reader c.loop-reader.walk c.loop-reader.first c.loop-reader.last c.loop-reader.top c.loop-reader.bottom i done (sym c.or.ensures ∙ w.in_default.is-0)
    ]

pub returns-then-not-is_upright-clause-none : goal.returns-then-not-is_upright-clause-none
returns-then-not-is_upright-clause-none c =
    let i = c.loop-reader.invariant in
    let read = c.in_ok-read.ensures.given c.args.first_line c.args.max_depth c.args.text.now i.given i.read c.if-not-branch.false in
    elim c.then-not-is_upright.branch [
      | then-not-is_upright-via-then-not-is_upright w ↦
          let off = ap (λ o. is_upright (option_map placed o)) (sym c.or-first.ensures) ∙ sym c.is_upright.ensures ∙ w.if-not-is_upright.true in
          indented c.args.first_line c.args.max_depth c.args.text.now c.loop-reader.reader c.read.new.self c.loop-reader.walk c.loop-reader.first c.loop-reader.last c.loop-reader.top c.loop-reader.bottom c.first_token.result i read (c.first_token.ensures ∙ ap first_token c.tokens-tokens.ensures) off
      | then-not-is_upright-via-else-not-is_upright+in_ok-add_tokens+then-not-branch-2 w ↦
          stopped c.args.first_line c.args.max_depth c.args.text.now c.loop-reader.reader c.read.new.self c.loop-reader.walk c.loop-reader.first c.loop-reader.last c.loop-reader.top c.loop-reader.bottom i read
          (λ rest. ap (λ ts. row_run (row_state c.loop-reader.walk) (ts ++ rest)) (sym c.tokens-tokens.ensures) ∙ w.in_ok-add_tokens.ensures.none rest w.if-not-branch-2.true)
    ]
