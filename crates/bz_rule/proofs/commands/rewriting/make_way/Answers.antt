use Rattle.std.proofs.Common.{Option, map, ap, subst, arith, refl}
use Rattle.bz_tree.specs.Rows.{part_view}
use Rattle.bz_attribute.specs.declared.place.Place.{Place}
use Rattle.bz_rule.specs.private.StringEdits.{IsUpTo}
use Rattle.bz_rule.proofs.WrittenParts.{made_first, made_more}
use Rattle.bz_rule.proofs.commands.rewriting.make_way.Goals as goal

pub returns-in_default : goal.returns-in_default
returns-in_default c = rw c.in_default.is (made_first (map part_view c.args.parts.now) _ c.args.place _ refl c.requires.order.0 (ap (map part_view) c.clear.ensures.items))

pub returns : goal.returns
returns c =
    let before = subst (λ (w : Option Place). IsUpTo w c.args.place.from) c.in-Some.is c.requires.later in
    rw c.in-Some.is (made_more c.args.parts.now c.args.out.now.items c.extend_from_slice.new.list.items c.in-Some.before c.args.place _ refl (omega (arith, before.0, before.1, c.requires.order.0)) c.in_ok-extend_from_slice.ensures.items)
