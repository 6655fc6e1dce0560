use Rattle.std.proofs.Common.{◌≡◌, ◌-◌, ◌∙◌, ℕ, List, length, drop, ap, sym}
use Rattle.bz_canonical.specs.Canonical.{between}
use Rattle.bz_canonical.proofs.CommentedLines.{comment_taken, some_lines}
use Rattle.bz_canonical.proofs.commented.comment_place.Goals as goal

pub returns : goal.returns
returns c = λ depth attr s laid place.
    let begins = c.in_ok-inner.ensures in
    let written : List ℕ = c.args.written.now in
    let line : List ℕ = c.after_comments.result.rest.now in
    let below : c.in_ok-below.below.now ≡ drop (length written - length line) written = c.in_ok-below.ensures.back ∙ ap (λ n. drop n written) c.in_ok-start.ensures.1 in
    comment_taken depth attr s (between c.args.place) written c.as_bytes.result.now line c.in_ok-inner.inner.now c.in_ok-above.above.now c.in_ok-below.below.now begins.1 begins.0 c.after_comments.result.some
    (some_lines c.args.place.lines.now (sym c.is_empty.ensures ∙ c.if-is_empty.false)) (c.as_bytes.ensures.value ∙ c.in_ok-from.ensures.back) c.after_comments.ensures begins.2 begins.3 begins.4 c.in_ok-above.ensures below laid place
