use Rattle.std.proofs.Common.{rules}
use Rattle.bz_label.proofs.LastBytes.{end_differs, end_more, no_end}
use Rattle.bz_label.proofs.label.are_apart.Goals as goal

pub loop-a-init : goal.loop-a-init
loop-a-init c = no_end c.args.a.now c.args.b.now

pub returns-then-byte-other : goal.returns-then-byte-other
returns-then-byte-other c is =
    end_differs c.args.a.now c.args.b.now c.loop-a.a.now c.loop-a.b.now _ c.loop-a.invariant (search rules) (search rules) (search rules) (search rules) c.if-byte-other.true

pub loop-a-preserved : goal.loop-a-preserved
loop-a-preserved c =
    end_more c.args.a.now c.args.b.now c.loop-a.a.now c.loop-a.b.now _ c.loop-a.invariant (search rules) (search rules) (search rules) c.if-byte-other.false
