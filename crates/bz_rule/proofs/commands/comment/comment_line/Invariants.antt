use Rattle.std.proofs.Common.{◌≡◌, string_bytes, string_len}
use Rattle.bz_rule.specs.Comment.{trimmed}
use Rattle.bz_rule.proofs.commands.comment.comment_line.Given as goal

abbrev pub invariant-loop-line : goal.invariant-loop-line
invariant-loop-line l = trimmed (string_bytes l.line) ≡ trimmed (string_bytes l.initial.line)

abbrev pub decreases-loop-line : goal.decreases-loop-line
decreases-loop-line l = string_len l.line
