use Rattle.bz_token.proofs.Operators.{IsOperatorAt, operator_from}
use Rattle.bz_token.proofs.scan.operator_after.Goals as goal

pub returns : goal.returns
returns c =
    let s = c.operator_of.ensures in
    let at : IsOperatorAt c.args.bytes.now c.operator_of.result =
    operator_from c.args.bytes.now c.args.first c.byte_at.result c.byte_at-2.result c.operator_of.result c.requires c.byte_at.ensures c.byte_at-2.ensures
    (record { at_most = s.at_most; operator = s.operator; longer_1 = s.longer_1; longer_2 = s.longer_2; longer_3 = s.longer_3 }) in
    record { in_range = at.in_range; operator = at.operator; stops = at.stops; none = at.none }
