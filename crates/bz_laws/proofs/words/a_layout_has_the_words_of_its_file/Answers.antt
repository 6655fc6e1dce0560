use Rattle.bz_laws.proofs.FileWords.{file_words, layout_words}
use Rattle.bz_laws.proofs.words.a_layout_has_the_words_of_its_file.Goals as goal

pub returns-clause-file : goal.returns-clause-file
returns-clause-file c = file_words

pub returns-clause-layout : goal.returns-clause-layout
returns-clause-layout c = layout_words
