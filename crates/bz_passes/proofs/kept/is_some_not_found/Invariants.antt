use Rattle.std.proofs.Common.{◌≡◌, drop, length}
use Rattle.bz_passes.specs.Exchange.{some_not_found}
use Rattle.bz_passes.proofs.kept.is_some_not_found.Given as goal

abbrev pub invariant-loop-i : goal.invariant-loop-i
invariant-loop-i g l = record {
  size : length l.kept ≡ length l.passes;
  rest : some_not_found (g.L.Language.meaning l.language) (drop l.i l.passes) (drop l.i l.kept) ≡ some_not_found (g.L.Language.meaning l.language) l.passes l.kept;
}
