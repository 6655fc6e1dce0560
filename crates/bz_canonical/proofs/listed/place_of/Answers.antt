use Rattle.std.proofs.Common.{refl, arith}
use Rattle.bz_canonical.proofs.ListedArguments.{place_is}
use Rattle.bz_canonical.proofs.listed.place_of.Goals as goal

pub returns : goal.returns
returns c = place_is c.args.on_lines c.args.one c.args.text.now c.in_ok-element.element.now c.in_ok-above.others.now c.args.read _ c.in_ok-len.len c.gap_len.result _ (omega (arith, c.in_ok-len.ensures)) c.in_ok-element.ensures.front c.in_ok-element.ensures.back
    c.gap_len.ensures c.in_ok-above.ensures.front c.in_ok-above.ensures.back refl c.in_ok-token.ensures.front c.in_ok-token.ensures.back refl
