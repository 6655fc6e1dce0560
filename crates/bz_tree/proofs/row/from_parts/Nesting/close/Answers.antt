use Rattle.std.proofs.Common.{arith}
use Rattle.std.proofs.lemmas.Grind.{common_steps}
use Rattle.bz_tree.specs.declared.tree.Node.{the_lemmas}
use Rattle.bz_tree.proofs.row.from_parts.Nesting.close.Goals as goal

pub returns : goal.returns
returns c = grind (arith, common_steps, the_lemmas)
