use Rattle.std.proofs.Common.{◌≡◌, take, false}
use Rattle.bz_canonical.specs.private.Added.{is_word}
use Rattle.bz_canonical.proofs.found_value.is_word.Given as goal

abbrev pub invariant-loop-word : goal.invariant-loop-word
invariant-loop-word l = is_word l.home (take l.word-index l.words) l.token ≡ false
