use Rattle.bz_canonical.specs.private.Added.{AreSought}
use Rattle.bz_canonical.proofs.found_value.are_in.Given as goal

abbrev pub invariant-loop : goal.invariant-loop
invariant-loop l = AreSought l.home l.sought.values.now l.on_lines l.one l.initial.rest l.rest l.there
