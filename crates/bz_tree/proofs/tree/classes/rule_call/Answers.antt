use Rattle.std.proofs.Common.{arith}
use Rattle.std.proofs.lemmas.Grind.{common_steps}
use Rattle.bz_tree.specs.declared.tree.Node.{the_lemmas}
use Rattle.bz_tree.proofs.Trees.OneBracket.{rule_call-push}
use Rattle.bz_tree.proofs.Trees.Borrowed.{total_append}
use Rattle.bz_tree.proofs.Trees.Placed.{joined_more}
use Rattle.bz_tree.proofs.tree.classes.rule_call.Goals as goal

pub returns-in-Some-Group-clause-value : goal.returns-in-Some-Group-clause-value
returns-in-Some-Group-clause-value c = grind (arith, common_steps, rule_call-push, the_lemmas)

pub returns-in-Some-clause-value : goal.returns-in-Some-clause-value
returns-in-Some-clause-value c = grind (arith, common_steps, rule_call-push, the_lemmas)

pub returns-in-Some-Group-clause-borrowed : goal.returns-in-Some-Group-clause-borrowed
returns-in-Some-Group-clause-borrowed c = grind (arith, common_steps, total_append, the_lemmas)

pub returns-in-Some-clause-borrowed : goal.returns-in-Some-clause-borrowed
returns-in-Some-clause-borrowed c = grind (arith, common_steps, total_append, the_lemmas)

pub returns-in-Some-Group-clause-places : goal.returns-in-Some-Group-clause-places
returns-in-Some-Group-clause-places c = grind (arith, common_steps, joined_more, the_lemmas)

pub returns-in-Some-clause-places : goal.returns-in-Some-clause-places
returns-in-Some-clause-places c = grind (arith, common_steps, joined_more, the_lemmas)
