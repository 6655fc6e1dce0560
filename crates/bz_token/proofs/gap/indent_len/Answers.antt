use Rattle.std.proofs.Common.{drop, arith, length-drop}
use Rattle.std.proofs.lemmas.List.{take_rest}
use Rattle.std.proofs.lemmas.List.Sums.{prefix_len-le-length}
use Rattle.bz_token.specs.Pieces.{is_blank}
use Rattle.bz_token.proofs.gap.indent_len.Goals as goal

pub overflow_add-result : goal.overflow_add-result
overflow_add-result c =
    let len = c.some_spaces-spaces.result in
    let counted = rw take_rest at c.blank_len.ensures in
    omega (arith, counted, prefix_len-le-length is_blank (drop len c.args.bytes.now), length-drop len c.args.bytes.now, c.some_spaces-spaces.ensures.within)
