use Rattle.bz_token.specs.Chunks.{chunks}
use Rattle.bz_engine.proofs.OneAnswer.{one_answer}
use Rattle.bz_engine.proofs.OneOutcome.{one_give}
use Rattle.bz_engine.proofs.laws.one_list_of_statements.Goals as goal

pub returns-clause-chunk : goal.returns-clause-chunk
returns-clause-chunk c = one_answer

pub returns-clause-file : goal.returns-clause-file
returns-clause-file c max_depth file ss ts f g a b = one_give max_depth 1 (chunks file) ss ts f g a b
