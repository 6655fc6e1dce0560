use Rattle.std.proofs.Common.{subst}
use Rattle.std.specs.Prelude.{Option, IfSome}
use Rattle.std.proofs.lemmas.Option.{IfSome_then}
use Rattle.bz_canonical.specs.private.Arguments.{AreRead}
use Rattle.bz_canonical.specs.private.Pendings.{Reads, pending}
use Rattle.bz_canonical.specs.declared.arguments.NamedArguments.{NamedArguments}
use Rattle.bz_canonical.proofs.ReadArguments.{arguments_ended}
use Rattle.bz_canonical.proofs.arguments.pass_arguments.Goals as goal

pub returns : goal.returns
returns c =
    let depth = c.args.depth in
    let start = c.args.from in
    let named = c.in-Some.named in
    let buffer = c.pass_named.new.written.items in
    let passed = subst (λ (o : Option NamedArguments). IfSome o (λ read. Reads c.args.written.now.items (pending start) buffer (pending read.at)
    (λ begun w. AreRead depth start.rest.now read.at.rest.now w read.one))) c.in-Some.is c.in_ok-named.ensures in
    IfSome_then c.pass_last.result c.pass_last.ensures (λ read ended text begun p.
    let got = passed text begun p in
    let all = arguments_ended depth text start.rest.now buffer begun got.0 named read got.1 got.2 ended in
    (all.0, all.1, all.2))
