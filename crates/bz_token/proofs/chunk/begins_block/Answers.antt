use Rattle.std.proofs.Common.{◌∙◌, sym, ap}
use Rattle.std.specs.Prelude.{is_some}
use Rattle.bz_token.specs.Blocks.{word_at, opener_of}
use Rattle.bz_token.proofs.LineEnds.{begins_first}
use Rattle.bz_token.proofs.chunk.begins_block.Goals as goal

pub returns-in-len1-up : goal.returns-in-len1-up
returns-in-len1-up c =
    c.is_some.ensures ∙ ap is_some (c.opener_at.ensures ∙ ap (λ x. opener_of (word_at x)) c.as_bytes.ensures.value)
    ∙ sym (begins_first c.args.line.now _ c.in-len1-up.len_at_least)
