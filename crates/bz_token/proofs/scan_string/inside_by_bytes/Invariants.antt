use Rattle.std.proofs.Common.{◌≡◌, ◌≤◌, ◌<◌, ℕ, List, ◌++◌, false, take}
use Rattle.std.specs.List.{list_any}
use Rattle.bz_token.specs.Common.{is_newline}
use Rattle.bz_token.specs.private.Closing.{closes}
use Rattle.bz_token.specs.declared.scan_string.Escape.TheVariants.{Unescaped}
use Rattle.bz_token.proofs.scan_string.inside_by_bytes.Given as goal
use Rattle.bz_token.specs.Strings.{quote_count}

abbrev pub invariant-loop-i : goal.invariant-loop-i
invariant-loop-i l = record {
  rest : (ys : List ℕ) → closes l.quotes 0 Unescaped (take l.i l.bytes ++ ys) ≡ closes l.quotes l.row l.escape ys;
  none : (n : ℕ) → n ≤ l.i → closes l.quotes 0 Unescaped (take n l.bytes) ≡ false;
  row : l.row < quote_count l.quotes.long;
  one_line : l.has_newline ≡ false → list_any is_newline (take l.i l.bytes) ≡ false;
}
