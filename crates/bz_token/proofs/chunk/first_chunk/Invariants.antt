use Rattle.std.proofs.Common.{length}
use Rattle.bz_token.specs.private.LinesRead.{IsInLine}
use Rattle.bz_token.proofs.chunk.first_chunk.Given as goal

abbrev pub invariant-loop-cursor : goal.invariant-loop-cursor
invariant-loop-cursor l = IsInLine l.first_line l.max_depth l.fn.text l.lexer l.cursor l.line_start

abbrev pub decreases-loop-cursor : goal.decreases-loop-cursor
decreases-loop-cursor l = length l.cursor.rest.now
