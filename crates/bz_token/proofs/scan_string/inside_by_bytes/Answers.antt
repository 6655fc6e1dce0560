use Rattle.std.proofs.Common.{◌≡◌, ◌==◌, ◌||◌, ◌∷◌, ◌+◌, ℕ, List, [], get_or, true, false, not, sym, ◌∙◌, arith, rules}
use Rattle.std.proofs.lemmas.List.{take_more}
use Rattle.std.proofs.lemmas.Bool.{eq-eqb}
use Rattle.bz_token.specs.Strings.{quote_count}
use Rattle.bz_token.specs.private.Closing.{is_escaped, closes}
use Rattle.bz_token.proofs.PlainStrings.{quote_no_newline}
use Rattle.bz_token.proofs.Strings.{broken_off, escaped_read, quote_read, last_read, other_read, rest_on, none_on, one_line_on, no_last, next_row}
use Rattle.bz_token.proofs.scan_string.inside_by_bytes.Goals as goal
use Rattle.bz_token.proofs.scan_string.inside_by_bytes.Goals.{then-is_escaped, else-is_escaped+then-b-quotes+else-row-quote_count, else-is_escaped+else-b-quotes+else-b-eq10, else-b-eq10-via-then-b-eq10+else-not-quotes, else-b-eq10-via-else-b-eq10, then-has_newline, else-has_newline}

pub returns-then-not-quotes-clause-none : goal.returns-then-not-quotes-clause-none
returns-then-not-quotes-clause-none c =
    broken_off c.args.quotes c.args.bytes.now c.loop-i.i c.loop-i.row c.loop-i.escape (omega arith) (search rules) (search rules) (search rules) (search rules) c.loop-i.invariant.rest c.loop-i.invariant.none

pub returns-then-row-quote_count-clause-closed : goal.returns-then-row-quote_count-clause-closed
returns-then-row-quote_count-clause-closed c =
    let b = get_or c.args.bytes.now c.loop-i.i 0 in
    let plain : is_escaped c.loop-i.escape b ≡ false = cc in
    let last : c.loop-i.row + 1 ≡ quote_count c.args.quotes.long = cc in
    rw (take_more c.args.bytes.now c.loop-i.i 0 c.loop-i-test.true)
    (c.loop-i.invariant.rest (b ∷ []) ∙ last_read c.args.quotes c.loop-i.row c.loop-i.escape b plain (eq-eqb b c.args.quotes.byte c.if-b-quotes.true) (eq-eqb (c.loop-i.row + 1) (quote_count c.args.quotes.long) last))

pub returns-then-row-quote_count-clause-one_line : goal.returns-then-row-quote_count-clause-one_line
returns-then-row-quote_count-clause-one_line c h =
    one_line_on c.args.bytes.now c.loop-i.i c.loop-i-test.true (c.loop-i.invariant.one_line h) (rw c.if-b-quotes.true (quote_no_newline c.args.quotes.byte c.requires))

pub loop-i-preserved : goal.loop-i-preserved
loop-i-preserved c =
    let b = get_or c.args.bytes.now c.loop-i.i 0 in
    let on : (ys : List ℕ) → closes c.args.quotes c.loop-i.row c.loop-i.escape (b ∷ ys) ≡ closes c.args.quotes c.if-is_escaped.row c.escape_after-escape.result ys = λ ys. elim c.if-is_escaped.branch [
      | then-is_escaped w ↦
          let escaped : is_escaped c.loop-i.escape b ≡ true = cc in
          cc (escaped_read c.args.quotes c.loop-i.row c.loop-i.escape b ys escaped)
      | else-is_escaped+then-b-quotes+else-row-quote_count w ↦
          let plain : is_escaped c.loop-i.escape b ≡ false = cc in
          let more : (c.loop-i.row + 1 == quote_count c.args.quotes.long) ≡ false = no_last c.loop-i.row (quote_count c.args.quotes.long) (λ e. w.if-row-quote_count.false (e ∙ sym w.quote_count.ensures)) in
          cc (quote_read c.args.quotes c.loop-i.row c.loop-i.escape b ys plain (eq-eqb b c.args.quotes.byte w.if-b-quotes.true) more)
      | else-is_escaped+else-b-quotes+else-b-eq10 w ↦
          let plain : is_escaped c.loop-i.escape b ≡ false = cc in
          let other : (b == c.args.quotes.byte) ≡ false = search rules in
          let goes_on : (c.args.quotes.long || not (b == 10)) ≡ true = elim w.else-b-eq10.branch [
            | else-b-eq10-via-then-b-eq10+else-not-quotes w' ↦ search rules
            | else-b-eq10-via-else-b-eq10 w' ↦ search rules
          ] in
          cc (other_read c.args.quotes c.loop-i.row c.loop-i.escape b ys plain other goes_on)
    ] in
    let rest = rest_on c.args.quotes c.args.bytes.now c.loop-i.i c.loop-i.row c.if-is_escaped.row c.loop-i.escape c.escape_after-escape.result c.loop-i-test.true c.loop-i.invariant.rest on in
    record {
      rest = rest;
      none = none_on c.args.quotes c.args.bytes.now c.loop-i.i c.if-is_escaped.row c.escape_after-escape.result rest c.loop-i.invariant.none;
      row = elim c.if-is_escaped.branch [
        | then-is_escaped w ↦ omega arith
        | else-is_escaped+then-b-quotes+else-row-quote_count w ↦ next_row c.loop-i.row c.if-is_escaped.row (quote_count c.args.quotes.long) c.loop-i.invariant.row (λ e. w.if-row-quote_count.false (e ∙ sym w.quote_count.ensures)) w.row-is
        | else-is_escaped+else-b-quotes+else-b-eq10 w ↦ omega arith
      ];
      one_line = λ h. elim c.if-has_newline.branch [
        | then-has_newline w ↦ cc
        | else-has_newline w ↦ one_line_on c.args.bytes.now c.loop-i.i c.loop-i-test.true (c.loop-i.invariant.one_line (cc)) (cc)
      ];
    }
