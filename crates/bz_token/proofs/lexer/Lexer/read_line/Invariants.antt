use Rattle.std.proofs.Common.{length, ◌≤◌, ◌<◌, ◌⊎◌}
use Rattle.bz_token.specs.private.Progress.{ReadsOn}
use Rattle.bz_token.specs.private.LinesRead.{StaysInLine}
use Rattle.bz_token.proofs.lexer.Lexer.read_line.Given as goal

abbrev pub invariant-loop-self : goal.invariant-loop-self
invariant-loop-self l = record {
  read : ReadsOn l.max_depth l.initial.self l.initial.cursor l.self l.cursor;
  line : StaysInLine l.max_depth l.initial.self l.initial.cursor l.self l.cursor;
  few : (length l.self.tokens.items ≤ length l.initial.self.tokens.items) ⊎ (length l.self.tokens.items < l.most);
  shorter : length l.cursor.rest.now ≤ length l.initial.cursor.rest.now;
}

abbrev pub decreases-loop-self : goal.decreases-loop-self
decreases-loop-self l = length l.cursor.rest.now
