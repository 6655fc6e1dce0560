use Rattle.std.proofs.Common.{subst}
use Rattle.std.specs.Prelude.{IfSome}
use Rattle.bz_token.specs.FirstChunk.{IsFirstChunk}
use Rattle.bz_engine.specs.private.Edits.{EditsChunk, run_of}
use Rattle.bz_engine.proofs.FirstChunks.{first_is_next, chunk_is}
use Rattle.bz_engine.proofs.next_chunk.edit_first.Goals as goal

pub returns-clause-chunk : goal.returns-clause-chunk
returns-clause-chunk c =
    let run = run_of c.args.script in
    let most = c.args.script.max_statement in
    let ahead = c.args.ahead.now in
    let old = c.args.progress.now in
    let new = c.edit_tokens.new.progress in
    let before = c.args.text.now.items in
    let following = c.edit_tokens.new.text.items in
    let text = c.text-text_ahead.result.now in
    let chunk = c.in-Some.chunk in
    let edited = c.in_ok-edited.edited in
    let front = c.text-text_ahead.ensures.front in
    let found : IsFirstChunk c.progress.inside.line c.args.script.max_depth text chunk =
    subst (λ o. IfSome o (IsFirstChunk c.progress.inside.line c.args.script.max_depth text)) c.in-Some.is c.in_ok-chunk.ensures in
    record {
      chunk = first_is_next most ahead chunk.text.now text c.requires.few front found.some found.within found.front c.if-len-script.false found.ends;
      lines = c.in_ok-edited.ensures.lines;
      edited = subst (λ x. EditsChunk run x old new before following edited) (chunk_is chunk.text.now text ahead.bytes front found.within found.front) c.in_ok-edited.ensures.edited;
    }
