use Rattle.std.proofs.Common.{◌∙◌, arith, ap}
use Rattle.bz_label.specs.Values.{quoted}
use Rattle.bz_canonical.proofs.NewValues.{line_put, put_kept, put_none, put_one}
use Rattle.bz_canonical.proofs.added.NewValues.put_missing.Goals as goal
use Rattle.bz_canonical.proofs.added.NewValues.put_missing.Goals.{then-missing+in_ok-put_line, else-missing}

pub loop-i-init : goal.loop-i-init
loop-i-init c = put_none c.args.self c.args.from c.args.written.now.items

pub loop-i-preserved : goal.loop-i-preserved
loop-i-preserved c =
    let new = c.args.self in
    let v = c.index-values-i.result in
    let literal = c.in_ok-literal.ensures ∙ ap quoted c.as_str.ensures in
    let told = c.in-Some.ensures (c.as_str-in-loop-i.ensures.value ∙ literal) in
    elim c.if-missing.branch [
      | then-missing+in_ok-put_line w ↦
          put_one new new.added.values.now c.loop-i.i v c.args.from c.args.written.now.items c.loop-i.written.items c.if-missing.written.items c.loop-i.passed c.if-missing.passed c.in-Some.missing c.loop-i.invariant (omega arith) c.index-values-i.is
          w.if-missing.true told (line_put c.loop-i.written.items w.put_line.new.written.items c.if-missing.written.items w.as_bytes.result.now v w.in_ok-put_line.ensures (w.as_bytes.ensures.value ∙ literal) (ap (λ x. x.items) w.written-is)) (w.passed-is ∙ w.with_one-passed.ensures)
      | else-missing w ↦
          put_kept new new.added.values.now c.loop-i.i v c.args.from c.args.written.now.items c.loop-i.written.items c.if-missing.written.items c.loop-i.passed c.if-missing.passed c.in-Some.missing c.loop-i.invariant (omega arith) c.index-values-i.is
          w.if-missing.false told (ap (λ x. x.items) w.written-is) w.passed-is
    ]
