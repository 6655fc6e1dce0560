use Rattle.bz_layout_laws.proofs.SomeAnswer.{some_answer}
use Rattle.bz_layout_laws.proofs.statements.a_chunk_has_an_answer.Goals as goal

pub returns : goal.returns
returns c = some_answer
