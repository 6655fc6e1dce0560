use Rattle.std.proofs.Common.{◌++◌, ◌∙◌, List, ℕ, ap}
use Rattle.bz_canonical.proofs.OtherwiseArguments.{otherwise_read}
use Rattle.bz_canonical.proofs.OtherwiseForms.{got}
use Rattle.bz_canonical.proofs.Pendings.{pend_value}
use Rattle.bz_canonical.proofs.arguments.put_value_argument.Goals as goal

pub returns : goal.returns
returns c = λ attr named head text begun p.
    let at = c.args.at in
    let value = c.args.value.now in
    let end = c.in-Some-2.read in
    let side = c.in-Some-after_comma.ensures in
    let next = c.in-Some-after_comma.side.rest.now in
    let nodes = got _ c.in-Some-2.is c.in_ok-read.ensures in
    let read = otherwise_read c.args.depth attr at.rest.now value end.rest.now side.0 next nodes.0 c.in-Some-after_comma.side.some named end.holds head nodes.2 side.1 side.2 in (
      read.0 ++ (nodes.0 ++ read.1),
      pend_value text c.args.written.now.items c.put_nodes.new.written.items begun at.from.now at.rest.now value end.rest.now next read.0 read.1 nodes.0 c.in-Some.front.now p read.2 read.3 read.4 c.in-Some.ensures
          (nodes.1 ∙ ap (λ (t : List ℕ). t ++ nodes.0) c.in_ok-extend_from_slice.ensures.items),
      (read.5, read.6),
    )
