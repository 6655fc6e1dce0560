use Rattle.std.proofs.Common.{◌==◌, true, false, get_or, refl, sym, ◌∙◌}
use Rattle.std.specs.Char.{is_ascii_digit}
use Rattle.bz_token.specs.Lexical.{is_word_byte}
use Rattle.bz_token.specs.declared.table.ByteClass.TheVariants.{Newline, Letter, Prefix, Digit, Quote, Hash, Backslash}
use Rattle.bz_token.proofs.Steps.{solid_gap, token_step, bad_step}
use Rattle.bz_token.proofs.Tables.{fact_at, begins_so, letter_opens, solid_at, single_at, mark_at}
use Rattle.bz_token.proofs.scan_token.step_at.Goals as goal

pub returns-in-Space-clause-step : goal.returns-in-Space-clause-step
returns-in-Space-clause-step c = c.blanks.ensures c.args.inside

pub returns-in-Newline-clause-step : goal.returns-in-Newline-clause-step
returns-in-Newline-clause-step c = c.line_end.ensures

pub line_end-requires-clause-newline : goal.line_end-requires-clause-newline
line_end-requires-clause-newline c = fact_at (get_or c.args.bytes.now 0 0) Newline (sym c.class_at.ensures ∙ c.in-Newline.is)

pub line_goes_on-requires-clause-backslash : goal.line_goes_on-requires-clause-backslash
line_goes_on-requires-clause-backslash c = fact_at (get_or c.args.bytes.now 0 0) Backslash (sym c.class_at.ensures ∙ c.in-Backslash.is)

pub scan_name-requires-clause-unquoted : goal.scan_name-requires-clause-unquoted
scan_name-requires-clause-unquoted c =
    let f = fact_at (get_or c.args.bytes.now 0 0) Letter (sym c.class_at.ensures ∙ c.in-Letter.is) in
    letter_opens c.args.bytes.now c.requires f.0 f.2

pub scan_name-requires-clause-word : goal.scan_name-requires-clause-word
scan_name-requires-clause-word c =
    let f = fact_at (get_or c.args.bytes.now 0 0) Letter (sym c.class_at.ensures ∙ c.in-Letter.is) in
    begins_so is_word_byte true c.args.bytes.now c.requires f.0

pub scan_name-requires-clause-no_digit : goal.scan_name-requires-clause-no_digit
scan_name-requires-clause-no_digit c =
    let f = fact_at (get_or c.args.bytes.now 0 0) Letter (sym c.class_at.ensures ∙ c.in-Letter.is) in
    begins_so is_ascii_digit false c.args.bytes.now c.requires f.1

pub returns-in-Letter-clause-step : goal.returns-in-Letter-clause-step
returns-in-Letter-clause-step c =
    (solid_gap c.args.inside c.args.bytes.now c.requires (solid_at (get_or c.args.bytes.now 0 0) Letter (sym c.class_at.ensures ∙ c.in-Letter.is) refl), c.scan_name.ensures)

pub scan_prefixed-requires-clause-word : goal.scan_prefixed-requires-clause-word
scan_prefixed-requires-clause-word c =
    let f = fact_at (get_or c.args.bytes.now 0 0) Prefix (sym c.class_at.ensures ∙ c.in-Prefix.is) in
    begins_so is_word_byte true c.args.bytes.now c.requires f.0

pub scan_prefixed-requires-clause-no_digit : goal.scan_prefixed-requires-clause-no_digit
scan_prefixed-requires-clause-no_digit c =
    let f = fact_at (get_or c.args.bytes.now 0 0) Prefix (sym c.class_at.ensures ∙ c.in-Prefix.is) in
    begins_so is_ascii_digit false c.args.bytes.now c.requires f.1

pub scan_single-requires-clause-single : goal.scan_single-requires-clause-single
scan_single-requires-clause-single c = (single_at (get_or c.args.bytes.now 0 0) c.class_at.result (sym c.class_at.ensures) c.in-Open.is).0

pub returns-in-Quote-clause-step : goal.returns-in-Quote-clause-step
returns-in-Quote-clause-step c =
    let solid = solid_at (get_or c.args.bytes.now 0 0) Quote (sym c.class_at.ensures ∙ c.in-Quote.is) refl in
    token_step c.args.inside c.args.bytes.now c.scan_string.result (solid_gap c.args.inside c.args.bytes.now c.requires solid) c.scan_string.ensures.token

pub returns-in-Operator-clause-step : goal.returns-in-Operator-clause-step
returns-in-Operator-clause-step c =
    let solid = (mark_at (get_or c.args.bytes.now 0 0) c.class_at.result (sym c.class_at.ensures) c.in-Operator.is).1 in
    token_step c.args.inside c.args.bytes.now c.scan_operator.result (solid_gap c.args.inside c.args.bytes.now c.requires solid) c.scan_operator.ensures.token

pub returns-in-Prefix-clause-step : goal.returns-in-Prefix-clause-step
returns-in-Prefix-clause-step c =
    token_step c.args.inside c.args.bytes.now c.scan_prefixed.result (solid_gap c.args.inside c.args.bytes.now c.requires (solid_at (get_or c.args.bytes.now 0 0) Prefix (sym c.class_at.ensures ∙ c.in-Prefix.is) refl)) c.scan_prefixed.ensures.token

pub returns-in-Prefix-clause-bad : goal.returns-in-Prefix-clause-bad
returns-in-Prefix-clause-bad c =
    bad_step c.args.inside c.args.bytes.now c.scan_prefixed.result (solid_gap c.args.inside c.args.bytes.now c.requires (solid_at (get_or c.args.bytes.now 0 0) Prefix (sym c.class_at.ensures ∙ c.in-Prefix.is) refl)) c.scan_prefixed.ensures.bad

pub returns-in-Digit-clause-step : goal.returns-in-Digit-clause-step
returns-in-Digit-clause-step c =
    token_step c.args.inside c.args.bytes.now c.scan_number.result (solid_gap c.args.inside c.args.bytes.now c.requires (solid_at (get_or c.args.bytes.now 0 0) Digit (sym c.class_at.ensures ∙ c.in-Digit.is) refl)) c.scan_number.ensures.token

pub returns-in-Digit-clause-bad : goal.returns-in-Digit-clause-bad
returns-in-Digit-clause-bad c =
    bad_step c.args.inside c.args.bytes.now c.scan_number.result (solid_gap c.args.inside c.args.bytes.now c.requires (solid_at (get_or c.args.bytes.now 0 0) Digit (sym c.class_at.ensures ∙ c.in-Digit.is) refl)) c.scan_number.ensures.bad

pub returns-in-Quote-clause-bad : goal.returns-in-Quote-clause-bad
returns-in-Quote-clause-bad c =
    bad_step c.args.inside c.args.bytes.now c.scan_string.result (solid_gap c.args.inside c.args.bytes.now c.requires (solid_at (get_or c.args.bytes.now 0 0) Quote (sym c.class_at.ensures ∙ c.in-Quote.is) refl)) c.scan_string.ensures.bad

pub returns-in-Hash-clause-step : goal.returns-in-Hash-clause-step
returns-in-Hash-clause-step c = (solid_gap c.args.inside c.args.bytes.now c.requires (solid_at (get_or c.args.bytes.now 0 0) Hash (sym c.class_at.ensures ∙ c.in-Hash.is) refl), c.scan_comment.ensures.comment)

pub returns-in-Operator-clause-bad : goal.returns-in-Operator-clause-bad
returns-in-Operator-clause-bad c =
    let solid = (mark_at (get_or c.args.bytes.now 0 0) c.class_at.result (sym c.class_at.ensures) c.in-Operator.is).1 in
    bad_step c.args.inside c.args.bytes.now c.scan_operator.result (solid_gap c.args.inside c.args.bytes.now c.requires solid) c.scan_operator.ensures.bad

pub scan_operator-requires-clause-mark : goal.scan_operator-requires-clause-mark
scan_operator-requires-clause-mark c = (mark_at (get_or c.args.bytes.now 0 0) c.class_at.result (sym c.class_at.ensures) c.in-Operator.is).0

pub returns-in-Open-clause-step : goal.returns-in-Open-clause-step
returns-in-Open-clause-step c =
    let solid = (single_at (get_or c.args.bytes.now 0 0) c.class_at.result (sym c.class_at.ensures) c.in-Open.is).1 in
    (solid_gap c.args.inside c.args.bytes.now c.requires solid, c.scan_single.ensures.token)

pub quoted_at-requires-clause-quote : goal.quoted_at-requires-clause-quote
quoted_at-requires-clause-quote c = (fact_at (get_or c.args.bytes.now 0 0) Quote (sym c.class_at.ensures ∙ c.in-Quote.is)).0

pub scan_number-requires : goal.scan_number-requires
scan_number-requires c =
    let f = fact_at (get_or c.args.bytes.now 0 0) Digit (sym c.class_at.ensures ∙ c.in-Digit.is) in
    record { digit = begins_so is_ascii_digit true c.args.bytes.now c.requires f.0 }

pub scan_comment-requires : goal.scan_comment-requires
scan_comment-requires c =
    let f = fact_at (get_or c.args.bytes.now 0 0) Hash (sym c.class_at.ensures ∙ c.in-Hash.is) in
    begins_so (λ b. b == 35) true c.args.bytes.now c.requires f.0
