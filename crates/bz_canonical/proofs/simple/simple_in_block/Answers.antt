use Rattle.std.proofs.Common.{take, arith}
use Rattle.std.proofs.lemmas.List.{length-take-le}
use Rattle.bz_token.proofs.Blocks.{passes_block}
use Rattle.bz_canonical.specs.private.Fronts.{is_simple}
use Rattle.bz_canonical.proofs.SimpleBlocks.{all_simple, front_fits, in_block, low_halves_fit}
use Rattle.bz_canonical.proofs.simple.simple_in_block.Goals as goal

pub swizzle-not_simple : goal.swizzle-not_simple
swizzle-not_simple c = low_halves_fit (take 16 c.args.bytes.now) (length-take-le 16 c.args.bytes.now c.requires)

pub returns-then-marks-eq0 : goal.returns-then-marks-eq0
returns-then-marks-eq0 c =
    let bytes = c.args.bytes.now in
    (passes_block is_simple bytes 16 c.requires (all_simple (take 16 bytes) (length-take-le 16 bytes c.requires) (front_fits 16 bytes c.type_inv.bytes) c.if-marks-eq0.true) (omega arith)).1

pub returns : goal.returns
returns c = in_block c.args.bytes.now c.requires (front_fits 16 c.args.bytes.now c.type_inv.bytes) c.if-marks-eq0.false
