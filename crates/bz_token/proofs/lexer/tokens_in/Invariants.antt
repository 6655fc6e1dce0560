use Rattle.std.proofs.Common.{length, []}
use Rattle.bz_token.specs.private.Progress.{HasRead}
use Rattle.bz_token.proofs.lexer.tokens_in.Given as goal

abbrev pub invariant-loop-cursor : goal.invariant-loop-cursor
invariant-loop-cursor l = HasRead l.first_line l.max_depth l.fn.text [] l.lexer l.cursor

abbrev pub decreases-loop-cursor : goal.decreases-loop-cursor
decreases-loop-cursor l = length l.cursor.rest.now
