use Rattle.bz_layout_laws.proofs.Respelled.{respelled_text, respelled_once, respelled_lines, others_stand}
use Rattle.bz_layout_laws.proofs.spelling.spelling_keeps_tokens.Goals as goal

pub returns-clause-text : goal.returns-clause-text
returns-clause-text c = respelled_text

pub returns-clause-once : goal.returns-clause-once
returns-clause-once c = respelled_once

pub returns-clause-lines : goal.returns-clause-lines
returns-clause-lines c = respelled_lines

pub returns-clause-others : goal.returns-clause-others
returns-clause-others c = others_stand
