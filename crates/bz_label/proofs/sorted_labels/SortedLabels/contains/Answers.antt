use Rattle.std.proofs.Common.{◌∙◌}
use Rattle.std.specs.List.{list_any}
use Rattle.std.specs.List.Sorted.{IsSorted}
use Rattle.std.specs.Str.{bytes_eq}
use Rattle.bz_label.specs.private.LabelSteps.{label_cmp}
use Rattle.bz_label.proofs.LabelSets.{searched}
use Rattle.bz_label.proofs.sorted_labels.SortedLabels.contains.Goals as goal

pub returns : goal.returns
returns c =
    let sorted : IsSorted label_cmp c.deref.result.now = rw c.deref.ensures.value c.args.self.now.sorted in
    c.is_ok.ensures.value
    ∙ searched c.new.result c.deref.result.now c.binary_search.result sorted c.binary_search.ensures.bound c.binary_search.ensures.position
    ∙ (λ i. list_any (bytes_eq (c.new.ensures i)) (c.deref.ensures.value i))
