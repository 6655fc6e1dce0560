use Rattle.std.proofs.Common.{◌≡◌, ℕ, List, take}
use Rattle.std.specs.Prelude.{bytes_eq}
use Rattle.std.specs.List.{list_any}
use Rattle.bz_label.specs.Same.{completed}
use Rattle.bz_label.proofs.sorted_labels.SortedLabels.new.Given as goal

abbrev pub invariant-loop-word : goal.invariant-loop-word
invariant-loop-word l = (q : List ℕ) → list_any (bytes_eq q) l.labels.items ≡ list_any (λ word. bytes_eq q (completed l.home word)) (take l.word-index l.words)
