use Rattle.std.proofs.Common.{◌≡◌, [], ◌∷◌, ◌++◌, ℕ, List, true, false, string_bytes, string_len, ap, sym, ◌∙◌, arith}
use Rattle.bz_rule.specs.Comment.{trimmed}
use Rattle.bz_rule.specs.private.CommentTexts.{ends_blank}
use Rattle.bz_rule.proofs.CommentLines.{trim_step, trim_end}
use Rattle.bz_rule.proofs.commands.comment.comment_line.Goals as goal

pub loop-line-preserved : goal.loop-line-preserved
loop-line-preserved c =
    let blank : ends_blank (string_bytes c.loop-line.line) ≡ true = ap ends_blank (sym c.as_bytes.ensures.value) ∙ sym c.ends_blank.ensures ∙ c.loop-line-test.true in
    trim_step (string_bytes c.loop-line.line) (string_bytes c.pop.new.self) (string_len c.loop-line.line) (omega arith) blank c.pop.ensures.ascii_bytes ∙ c.loop-line.invariant

pub returns : goal.returns
returns c =
    let other : ends_blank (string_bytes c.loop-line.line) ≡ false = ap ends_blank (sym c.as_bytes.ensures.value) ∙ sym c.ends_blank.ensures ∙ c.loop-line-test.false in
    let mark : string_bytes c.push_str.new.string ≡ 35 ∷ 32 ∷ [] = c.in_ok-push_str.ensures.bytes ∙ ap (λ (z : List ℕ). z ++ 35 ∷ 32 ∷ []) c.in_ok-line.ensures.bytes in
    let begun : string_bytes c.push_str-2.new.string ≡ 35 ∷ 32 ∷ c.args.text.now = c.in_ok-push_str-2.ensures.bytes ∙ ap (λ (z : List ℕ). z ++ c.args.text.now) mark in
    sym (trim_end (string_bytes c.loop-line.line) other) ∙ c.loop-line.invariant ∙ ap trimmed begun
