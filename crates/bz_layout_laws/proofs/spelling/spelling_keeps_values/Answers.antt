use Rattle.bz_layout_laws.proofs.SpelledValues.{respelled_value}
use Rattle.bz_layout_laws.proofs.spelling.spelling_keeps_values.Goals as goal

pub returns : goal.returns
returns c = respelled_value
