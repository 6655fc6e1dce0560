use Rattle.bz_canonical.specs.private.Arguments.{AreRead}
use Rattle.bz_canonical.specs.private.Pendings.{Reads, pending}
use Rattle.bz_canonical.proofs.arguments.pass_named.Given as goal

abbrev pub invariant-loop : goal.invariant-loop
invariant-loop l = Reads l.fn.written.items (pending l.from) l.written.items (pending l.at) (λ begun w. AreRead l.depth l.from.rest.now l.at.rest.now w l.one)
