use Rattle.std.proofs.Common.{sym, ap, ◌∙◌}
use Rattle.std.specs.Prelude.{bytes_eq}
use Rattle.std.specs.List.{list_any}
use Rattle.std.proofs.lemmas.List.{take_all}
use Rattle.std.proofs.lemmas.List.Sorted.{list_any-IsPermutation}
use Rattle.bz_label.specs.Same.{completed}
use Rattle.bz_label.proofs.sorted_labels.SortedLabels.new.Goals as goal

pub returns-clause-all : goal.returns-clause-all
returns-clause-all c = λ text.
    sym (list_any-IsPermutation (bytes_eq (completed c.args.home.now text)) c.loop-word.labels.items c.sort_unstable.new.self.items c.sort_unstable.ensures.permutation)
    ∙ c.loop-word.invariant (completed c.args.home.now text)
    ∙ ap (list_any (λ word. bytes_eq (completed c.args.home.now text) (completed c.args.home.now word))) (take_all c.loop-word.word-index c.args.words.now c.loop-word-test.false)
