use Rattle.std.proofs.Common.{◌≡◌, true, length, map}
use Rattle.bz_tree.specs.Rows.{part_view}
use Rattle.bz_layout.specs.declared.spacing.Edge.TheVariants.{Start}
use Rattle.bz_layout.specs.private.RowLayout.{IsBegunBy, laid}
use Rattle.bz_layout.proofs.RowWalks.{IsLaidUpTo}
use Rattle.bz_layout.proofs.walk.RowWriter.segments.Given as goal

abbrev pub invariant-loop-rest : goal.invariant-loop-rest
invariant-loop-rest g l = record {
  laid : IsLaidUpTo (map part_view l.parts) (map part_view l.rest) (laid l.initial.self (g.T.Append.bytes l.initial.out)) (laid l.self (g.T.Append.bytes l.out));
  begun : IsBegunBy (g.T.Append.bytes l.initial.out) (g.T.Append.bytes l.out);
  start : l.self.left ≡ Start;
  broken : l.self.here.mark.broken ≡ true;
  comma : l.self.here.mark.comma ≡ true;
}

abbrev pub decreases-loop-rest : goal.decreases-loop-rest
decreases-loop-rest g l = length l.rest
