use Rattle.std.proofs.Common.{Bor, ℕ, List}
use Rattle.std.proofs.lemmas.Iterator.Consumers.{YieldsList-from_first, nth_from_yields_List}
use Rattle.bz_passes.proofs.texts.Texts.get.Goals as goal

pub returns : goal.returns
returns c =
    nth_from_yields_List c.nth.result c.nth.new.self c.args.at c.nth.ensures.ran
    (YieldsList-from_first (λ (text : Bor (List ℕ)). text.now) (λ (texts : List (List ℕ)). texts) c.args.self.now c.iter.ensures)
