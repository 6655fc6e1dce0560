use Rattle.std.proofs.Common.{◌≡◌, ◌-◌, ◌++◌}
use Rattle.bz_layout.specs.Pieces.{indent}
use Rattle.bz_layout.specs.private.RowLayout.{IsBegunBy}
use Rattle.bz_layout.proofs.write.put_indent.Given as goal

abbrev pub invariant-loop : goal.invariant-loop
invariant-loop g l = record {
  put : g.T.Append.bytes l.out ++ indent (l.level - l.counter) ≡ g.T.Append.bytes l.initial.out ++ indent l.level;
  begun : IsBegunBy (g.T.Append.bytes l.initial.out) (g.T.Append.bytes l.out);
}
