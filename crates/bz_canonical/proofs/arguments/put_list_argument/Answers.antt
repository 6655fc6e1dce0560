use Rattle.std.proofs.Common.{◌≡◌, ◌<◌, ◌++◌, ◌∙◌, ℕ, List, ap, arith, subst}
use Rattle.std.specs.Prelude.{IfSome}
use Rattle.bz_canonical.specs.private.Elements.{IsListRead}
use Rattle.bz_canonical.proofs.Pendings.{pend_value}
use Rattle.bz_canonical.proofs.ReadArguments.{list_read}
use Rattle.bz_canonical.proofs.arguments.put_list_argument.Goals as goal

pub returns-clause-reads : goal.returns-clause-reads
returns-clause-reads c = λ attr named head text begun p.
    let at = c.args.at in
    let value = c.args.value.now in
    let end = c.in-Some-2.end.now in
    let side = c.in-Some-after_comma.ensures in
    let next = c.in-Some-after_comma.side.rest.now in
    let deep : 0 < c.args.depth = omega (arith, c.if-depth-eq0.false) in
    let got = subst (λ o. IfSome o (λ rest. (x : List ℕ) × (c.put_list.new.written.items ≡ c.extend_from_slice.new.list.items ++ x) × IsListRead value rest.now x)) c.in-Some-2.is c.in_ok-end.ensures.reads in
    let read = list_read c.args.depth attr at.rest.now value end side.0 next got.0 c.in-Some-after_comma.side.some named deep head got.2 side.1 side.2 in (
      read.0 ++ (got.0 ++ read.1),
      pend_value text c.args.written.now.items c.put_list.new.written.items begun at.from.now at.rest.now value end next read.0 read.1 got.0 c.in-Some.front.now p read.2 read.3 read.4 c.in-Some.ensures
          (got.1 ∙ ap (λ (t : List ℕ). t ++ got.0) c.in_ok-extend_from_slice.ensures.items),
      (read.5, read.6),
    )
