use Rattle.std.proofs.Common.{◌∙◌, ap, not, string_bytes, sym}
use Rattle.bz_canonical.specs.Spans.{is_asked}
use Rattle.bz_canonical.proofs.AskedLines.{lines_told, lines_untold}
use Rattle.bz_canonical.proofs.asked.put_lines.Goals as goal

pub returns : goal.returns
returns c = λ put lines is. c.in_ok-push_str.ensures.bytes ∙ lines_told (is_asked c.args.span) _ (string_bytes c.args.text.now) lines (c.in-Some.ensures ∙ is) (ap not (sym c.is_asked.ensures ∙ c.if-not-is_asked.false))

pub returns-then-not-is_asked : goal.returns-then-not-is_asked
returns-then-not-is_asked c = λ put lines is. lines_untold (is_asked c.args.span) (string_bytes c.args.text.now) lines (ap not (sym c.is_asked.ensures ∙ c.if-not-is_asked.true))
