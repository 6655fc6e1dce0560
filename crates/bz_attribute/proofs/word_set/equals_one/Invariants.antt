use Rattle.std.proofs.Common.{◌≡◌, take, false}
use Rattle.std.specs.List.{list_any}
use Rattle.bz_label.specs.Same.{same}
use Rattle.bz_label.specs.Values.{value_of}
use Rattle.bz_token.specs.Common.{map_or}
use Rattle.bz_attribute.proofs.word_set.equals_one.Given as goal

abbrev pub invariant-loop-word : goal.invariant-loop-word
invariant-loop-word l = list_any (λ word. map_or false (λ value. same l.home value word) (value_of l.text)) (take l.word-index l.words) ≡ false
