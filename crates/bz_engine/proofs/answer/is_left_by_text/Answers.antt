use Rattle.std.proofs.Common.{ℕ, List, Bor, false, sym, subst}
use Rattle.std.specs.Prelude.{Option, option_map}
use Rattle.bz_engine.specs.private.Found.{Makes, told_line}
use Rattle.bz_engine.proofs.TextAnswers.{looked_at_stays}
use Rattle.bz_engine.proofs.answer.is_left_by_text.Goals as goal

pub returns-in-Some : goal.returns-in-Some
returns-in-Some c without unchanged none depth s is =
    subst (λ (line : Option (Bor (List ℕ))). Makes c.args.command.now c.args.home.now s s (told_line false (option_map (λ text. text.now) line))) (sym none)
    (looked_at_stays c.args.command.now c.in-Some.attr.now c.args.home.now s c.in-Some.ensures (c.is_without.ensures without depth s is))
