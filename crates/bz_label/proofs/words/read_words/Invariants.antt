use Rattle.std.proofs.Common.{◌≡◌, ◌++◌, length, string_bytes, true}
use Rattle.std.specs.Prelude.{filter}
use Rattle.std.specs.List.{list_all, slice_split}
use Rattle.std.specs.Str.{IsUtf8, is_utf8}
use Rattle.bz_label.specs.Words.{is_space, is_word, mended, onto_word, words_of}
use Rattle.bz_label.proofs.words.read_words.Given as goal

abbrev pub invariant-loop-part : goal.invariant-loop-part
invariant-loop-part l = record {
  utf8 : IsUtf8 l.left;
  words : list_all is_utf8 l.words.items ≡ true;
  same : l.words.items ++ filter is_word (onto_word (string_bytes l.word) (mended (slice_split is_space l.left))) ≡ words_of l.text;
}

abbrev pub decreases-loop-part : goal.decreases-loop-part
decreases-loop-part l = length l.left
