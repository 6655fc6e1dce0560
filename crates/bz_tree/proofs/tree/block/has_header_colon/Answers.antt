use Rattle.std.proofs.Common.{map, arith}
use Rattle.bz_token.specs.Places.{placed}
use Rattle.bz_tree.proofs.Trees.BlockLines.{colon_found}
use Rattle.bz_tree.proofs.tree.block.has_header_colon.Goals as goal

pub loop-token-init : goal.loop-token-init
loop-token-init c = record { same = colon_found (map placed c.args.tokens.now); small = omega arith }
