use Rattle.std.specs.Prelude.{option_map}
use Rattle.bz_canonical.specs.private.SetList.{AreCompared}
use Rattle.bz_canonical.proofs.set_list.compare_list.Given as goal

abbrev pub invariant-loop : goal.invariant-loop
invariant-loop l = AreCompared l.new.values.now l.on_lines l.one l.initial.rest l.rest (option_map (λ values. values.now) l.left)
