use Rattle.std.proofs.Common.{ℕ, List, subst}
use Rattle.std.specs.Prelude.{IfOk, IfSome, IsTrue}
use Rattle.bz_canonical.specs.Spans.{AreSpansOf}
use Rattle.bz_canonical.proofs.chunk.read_canonical.Goals as goal

pub returns-then-not-is_empty-clause-spans : goal.returns-then-not-is_empty-clause-spans
returns-then-not-is_empty-clause-spans g c =
    subst (λ (names : List (List ℕ)). IfOk c.read_noted_chunk.result (λ known. IfSome known (λ found. IsTrue found.noted → AreSpansOf c.args.max_depth names found.chunk.now found.written.now c.read_noted_chunk.new.spans.items)))
    c.names-names.ensures c.read_noted_chunk.ensures.spans
