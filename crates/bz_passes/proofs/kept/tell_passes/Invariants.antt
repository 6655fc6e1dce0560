use Rattle.std.proofs.Common.{◌≡◌, ◌++◌, drop, length}
use Rattle.bz_passes.specs.Exchange.{told}
use Rattle.bz_passes.proofs.kept.tell_passes.Given as goal

abbrev pub invariant-loop-i : goal.invariant-loop-i
invariant-loop-i g l = record {
  size : length l.kept ≡ length l.passes;
  log : l.log ++ told (g.L.Language.meaning l.language) (drop l.i l.passes) (drop l.i l.kept) ≡ l.initial.log ++ told (g.L.Language.meaning l.language) l.passes l.initial.kept;
}
