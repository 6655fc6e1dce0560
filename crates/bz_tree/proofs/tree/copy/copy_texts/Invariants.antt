use Rattle.std.proofs.Common.{◌≡◌, take}
use Rattle.bz_tree.specs.View.{texts}
use Rattle.bz_tree.proofs.tree.copy.copy_texts.Given as goal

abbrev pub invariant-loop-text : goal.invariant-loop-text
invariant-loop-text l = texts l.copies.items ≡ texts (take l.text-index l.comments)
