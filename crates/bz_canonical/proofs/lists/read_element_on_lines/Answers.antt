use Rattle.std.proofs.Common.{refl}
use Rattle.bz_canonical.proofs.ElementLists.{element_read}
use Rattle.bz_canonical.proofs.lists.read_element_on_lines.Goals as goal

pub returns : goal.returns
returns c =
    let side = c.in_ok-side.ensures in
    element_read c.args.text.now c.after_comments-above.result.rest.now c.in_ok-inner.inner.now side.0 c.after_comments-above.result.some c.in_ok-side.side.some _ c.after_comments-above.ensures c.in_ok-inner.ensures c.in_ok-front.ensures
    c.in_ok-string.ensures side.1 side.2 c.in_ok-back.ensures c.either.ensures refl
