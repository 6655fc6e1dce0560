use Rattle.bz_laws.proofs.Commands.Replace.{replace_elements}
use Rattle.bz_laws.proofs.comments.elements_keep_comments.Goals as goal

pub returns-clause-replace : goal.returns-clause-replace
returns-clause-replace c = replace_elements
