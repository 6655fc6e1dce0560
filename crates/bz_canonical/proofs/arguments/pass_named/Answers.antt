use Rattle.std.proofs.Common.{◌++◌, ℕ, List, [], append-nil, append_assoc, sym, subst, bytes_eq}
use Rattle.std.specs.Prelude.{IfSome}
use Rattle.bz_canonical.specs.private.Arguments.{ReadsOtherwise}
use Rattle.bz_canonical.proofs.Pendings.{pend_more, pend_same}
use Rattle.bz_canonical.proofs.ReadArguments.{none_read, one_more, value_read}
use Rattle.bz_canonical.proofs.arguments.pass_named.Goals as goal

pub loop-init : goal.loop-init
loop-init c = λ text begun p. (
  [],
  pend_same text c.args.written.now.items begun c.args.from.from.now c.args.from.rest.now (begun ++ []) p (sym (append-nil begun)),
  none_read c.args.depth c.args.from.rest.now,
)

pub loop-preserved : goal.loop-preserved
loop-preserved c = λ text begun p.
    let at = c.loop.at in
    let next = c.in-Some-2.next in
    let name : List ℕ = c.in-Some.head.name.now in
    let i = c.loop.invariant text begun p in
    let puts = subst (λ o. IfSome o (λ next. ReadsOtherwise c.args.depth at c.in-Some.head.value.now c.loop.written.items c.put_otherwise.new.written.items next)) c.in-Some-2.is c.in_ok-next.ensures in
    let one = puts name (bytes_eq name name) (c.in-Some.ensures name).0 text (begun ++ i.0) i.1 in (
      i.0 ++ one.0,
      pend_same text c.put_otherwise.new.written.items ((begun ++ i.0) ++ one.0) next.from.now next.rest.now (begun ++ (i.0 ++ one.0)) one.1 (append_assoc begun i.0 one.0),
      one_more c.args.depth name c.args.from.rest.now at.rest.now next.rest.now i.0 one.0 c.loop.one (bytes_eq name name) i.2 one.2.0,
    )

pub loop-preserved-in-Some-after_argument_value : goal.loop-preserved-in-Some-after_argument_value
loop-preserved-in-Some-after_argument_value c = λ text begun p.
    let depth = c.args.depth in
    let at = c.loop.at in
    let name : List ℕ = c.in-Some.head.name.now in
    let rest = c.in-Some-after_argument_value.rest.now in
    let buffer = c.loop.written.items in
    let i = c.loop.invariant text begun p in
    let end = c.in-Some-after_argument_value.ensures in
    let one = value_read depth name at.rest.now c.in-Some.head.value.now end.0 rest (bytes_eq name name) (c.in-Some.ensures name).0 end.1 in
    let passed = pend_more text buffer (begun ++ i.0) at.from.now at.rest.now one.0 rest i.1 one.1 in (
      i.0 ++ one.0,
      pend_same text buffer ((begun ++ i.0) ++ one.0) at.from.now rest (begun ++ (i.0 ++ one.0)) passed (append_assoc begun i.0 one.0),
      one_more depth name c.args.from.rest.now at.rest.now rest i.0 one.0 c.loop.one (bytes_eq name name) i.2 one.2,
    )
