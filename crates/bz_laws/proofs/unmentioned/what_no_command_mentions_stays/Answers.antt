use Rattle.bz_laws.proofs.UnmentionedKept.{statement_keeps, text_keeps}
use Rattle.bz_laws.proofs.unmentioned.what_no_command_mentions_stays.Goals as goal

pub returns-clause-statement : goal.returns-clause-statement
returns-clause-statement c = statement_keeps

pub returns-clause-text : goal.returns-clause-text
returns-clause-text c = text_keeps
