use Rattle.bz_laws.proofs.ScriptComments.{comments_left, comments_written}
use Rattle.bz_laws.proofs.comments.a_run_loses_no_comment.Goals as goal

pub returns-clause-left : goal.returns-clause-left
returns-clause-left c = comments_left

pub returns-clause-written : goal.returns-clause-written
returns-clause-written c = comments_written
