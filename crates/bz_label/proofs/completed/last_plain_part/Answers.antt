use Rattle.std.proofs.Common.{◌-◌, length, drop, refl, rules, arith, ◌∙◌, take_all, length-drop}
use Rattle.bz_label.proofs.LastBytes.{end_more, last_after, no_end, whole_part}
use Rattle.bz_label.proofs.completed.last_plain_part.Goals as goal

pub loop-rest-init : goal.loop-rest-init
loop-rest-init c = no_end c.args.path.now c.args.path.now

pub loop-rest-preserved : goal.loop-rest-preserved
loop-rest-preserved c = end_more c.args.path.now c.args.path.now c.loop-rest.rest.now c.loop-rest.rest.now 0 c.loop-rest.invariant (search rules) (search rules) (search rules) refl

pub returns-then-byte-eq47 : goal.returns-then-byte-eq47
returns-then-byte-eq47 c =
    let path = c.args.path.now in
    let rest = c.loop-rest.rest.now in
    take_all (length path - length rest) (drop (length rest) path) (omega (arith, length-drop (length rest) path))
    ∙ last_after path rest 0 c.loop-rest.invariant c.in-len1-up.len_at_least c.if-byte-eq47.true

pub returns : goal.returns
returns c = whole_part c.args.path.now c.loop-rest.rest.now c.loop-rest.invariant c.in_default.len_below
