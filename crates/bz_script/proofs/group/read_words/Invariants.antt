use Rattle.std.proofs.Common.{◌≡◌, ◌+◌, ◌++◌, map, drop}
use Rattle.bz_script.specs.Groups.{commands_of, labels_of}
use Rattle.bz_script.proofs.GroupSteps.{labels_and}
use Rattle.bz_script.proofs.group.read_words.Given as goal

abbrev pub invariant-loop-index : goal.invariant-loop-index
invariant-loop-index l = record {
  labels : labels_and l.labels.items (labels_of l.line (l.index + 1) (map (λ word. word.now) (drop l.index l.words))) ≡ labels_of l.line 1 (map (λ word. word.now) l.words);
  commands : l.commands.items ++ commands_of (map (λ word. word.now) (drop l.index l.words)) ≡ commands_of (map (λ word. word.now) l.words);
}
