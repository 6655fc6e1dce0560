use Rattle.std.proofs.Common.{◌≡◌, ◌++◌, ℕ, List, true, false}
use Rattle.std.specs.Prelude.{Bool, IfSome}
use Rattle.std.specs.Bool.{then_some}
use Rattle.bz_canonical.specs.private.Elements.{AreElementsRead, element_written}
use Rattle.bz_canonical.proofs.ElementLists.{elements_read, passed_first, passed_others, put_two}
use Rattle.bz_canonical.proofs.lists.put_elements.Goals as goal

pub loop-init : goal.loop-init
loop-init c = (element_written c.args.first, c.in_ok-put_element.ensures, passed_first c.args.lines c.args.inside.now c.args.first c.requires)

pub loop-preserved : goal.loop-preserved
loop-preserved c =
    let i = c.loop.invariant in
    let next = c.in-Some-read_element.next in (
      i.0 ++ element_written next,
      put_two c.args.written.now.items c.loop.written.items c.put_element-in-loop.new.written.items i.0 (element_written next) i.1 c.in_ok-put_element-2.ensures,
      passed_others c.args.lines c.loop.broken c.args.inside.now c.loop.rest.now i.0 next i.2 c.in-Some-read_element.ensures,
    )

pub returns-in-Some-clause-reads : goal.returns-in-Some-clause-reads
returns-in-Some-clause-reads c =
    let i = c.loop.invariant in
    rw c.then_some.ensures (told c.loop.broken i.0 i.1 (elements_read c.args.lines true c.loop.broken c.args.inside.now c.loop.rest.now c.in-Some.end.now i.0 i.2 c.in-Some.ensures))
  where
    told : (broken : Bool) (w : List ℕ) → c.loop.written.items ≡ c.args.written.now.items ++ w → AreElementsRead c.args.inside.now c.in-Some.end.now w true broken
        → IfSome (then_some broken c.in-Some.end) (λ rest. (w : List ℕ) × (c.loop.written.items ≡ c.args.written.now.items ++ w) × AreElementsRead c.args.inside.now rest.now w true true)
    told true w is read = (w, is, read)
    told false w is read = tt
