use Rattle.std.proofs.Common.{List, ℕ, Option, ap, sym, ◌∙◌, false}
use Rattle.std.specs.List.{list_any}
use Rattle.bz_attribute.proofs.LabelSets.{none_same}
use Rattle.bz_attribute.proofs.word_set.WordSet.has_text.Goals as goal
use Rattle.bz_label.specs.Same.{same}
use Rattle.bz_token.specs.Common.{map_or}

pub returns-in-None : goal.returns-in-None
returns-in-None c =
    let words : List (List ℕ) = c.args.self.now.words.now in
    sym (none_same c.args.home.now words) ∙ ap (λ (v : Option (List ℕ)). list_any (λ w. map_or false (λ value. same c.args.home.now value w) v) words) (sym c.in-None.ensures.none)
