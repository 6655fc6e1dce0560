use Rattle.std.proofs.Common.{refl, drop, arith, length-drop}
use Rattle.std.proofs.lemmas.List.{take_rest}
use Rattle.std.proofs.lemmas.List.Sums.{prefix_len-le-length}
use Rattle.bz_token.specs.Pieces.{is_blank}
use Rattle.bz_token.proofs.Steps.{newline_here}
use Rattle.bz_token.proofs.gap.newline.Goals as goal

pub overflow_add-result : goal.overflow_add-result
overflow_add-result c =
    let counted = rw take_rest at c.indent_len-on_line.ensures in
    let within = prefix_len-le-length is_blank (drop 1 c.args.bytes.now) in
    omega (arith, counted, within, length-drop 1 c.args.bytes.now)

pub returns : goal.returns
returns c = newline_here c.args.bytes.now _ c.requires.some c.requires.newline (rw take_rest at c.indent_len-on_line.ensures) refl refl
