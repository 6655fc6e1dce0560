use Rattle.std.proofs.Common.{refl, sym, ◌∙◌, arith}
use Rattle.bz_token.proofs.Progress.{places_fit, gap_read, newlines_split, gap_boundary}
use Rattle.bz_token.proofs.lexer.Lexer.pass_gap.Goals as goal

pub after_gap-requires-clause-line_fits : goal.after_gap-requires-clause-line_fits
after_gap-requires-clause-line_fits c =
    let gap = c.requires.gap in
    let fits = places_fit _ _ _ _ _ _ _ _ _ c.requires.read.4 in
    let parts = newlines_split c.args.cursor.rest.now _ _ c.args.gap.len refl refl in
    omega (arith, fits.0, parts.0, gap.lines, c.requires.read.5.0)

pub after_gap-requires-clause-col_fits : goal.after_gap-requires-clause-col_fits
after_gap-requires-clause-col_fits c =
    let gap = c.requires.gap in
    let fits = places_fit _ _ _ _ _ _ _ _ _ c.requires.read.4 in
    omega (arith, fits.1, gap.within, gap.on_line, c.requires.read.5.1)

pub after_gap-requires-clause-col_counts : goal.after_gap-requires-clause-col_counts
after_gap-requires-clause-col_counts c = (places_fit _ _ _ _ _ _ _ _ _ c.requires.read.4).2

pub split_at-requires : goal.split_at-requires
split_at-requires c =
    let gap = c.requires.gap in
    gap_boundary c.args.cursor.rest.now c.args.gap.len c.requires.read.4.utf8 gap.within (λ some. gap.ascii)

pub returns-clause-read : goal.returns-clause-read
returns-clause-read c first depth bytes given before =
    let gap = c.requires.gap in
    let place = c.args.cursor.place in
    gap_read first _ bytes _ _ _ c.args.cursor.rest.now c.split_at.result.1.now place.line place.col _ _ c.args.gap.len before gap.goes_on
    (gap_boundary c.args.cursor.rest.now c.args.gap.len before.utf8 gap.within (λ some. gap.ascii)) c.split_at.ensures.back
    (omega (arith, c.after_gap.ensures.line, gap.lines)) (c.after_gap.ensures.col ∙ sym (gap.column place.col))
