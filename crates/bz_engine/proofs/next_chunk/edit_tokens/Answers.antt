use Rattle.std.proofs.Common.{map, ap, sym, subst}
use Rattle.bz_token.specs.Places.{placed}
use Rattle.bz_token.specs.Reading.{AreTokensOf}
use Rattle.bz_engine.specs.private.ChunkRead.{IsReadAs}
use Rattle.bz_engine.proofs.RowStatements.{read_by_tokens}
use Rattle.bz_engine.proofs.next_chunk.edit_tokens.Goals as goal

pub edit_chunk-requires-clause-read : goal.edit_chunk-requires-clause-read
edit_chunk-requires-clause-read c =
    let depth = c.args.script.max_depth in
    let chunk = c.args.chunk.now in
    let tokens = map placed c.args.tokens.now in
    let read = c.read_statement-read in
    let line = ap (λ p. p.line) c.progress.view_is in
    subst (λ n. IsReadAs depth n chunk read.result) line
    (read_by_tokens c.progress.inside.line depth chunk tokens read.result (subst (λ n. AreTokensOf n depth chunk tokens) (sym line) c.requires.tokens)
    read.ensures.statement read.ensures.blank read.ensures.fault)
