use Rattle.std.proofs.Common.{◌≡◌, ℕ, ◌<◌, List, [], ◌∷◌, not, length, ap, ◌∙◌, arith}
use Rattle.std.specs.List.{list_any}
use Rattle.bz_rule.specs.Print.{is_plain}
use Rattle.bz_rule.specs.private.PrintSteps.{is_special}
use Rattle.bz_rule.proofs.PrintedWords.{same_special}
use Rattle.bz_rule.proofs.commands.print.is_plain.Goals as goal

not_empty : (word : List ℕ) → 0 < length word → not (list_any (is_special 34) word) ≡ is_plain word
not_empty [] h = absurd (omega (arith, h))
not_empty (b ∷ bs) h = ap not (same_special (b ∷ bs))

pub returns-then-word-gt0 : goal.returns-then-word-gt0
returns-then-word-gt0 c = ap not c.has_special.ensures ∙ not_empty c.args.word.now (omega (arith, c.if-word-gt0.true))
