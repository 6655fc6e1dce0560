use Rattle.std.proofs.Common.{ℕ, List, ◌∙◌, subst}
use Rattle.memchr.specs.Find.{IsFirstByte, is_byte3}
use Rattle.bz_canonical.proofs.SoughtSpans.{unsure_is}
use Rattle.bz_canonical.proofs.sought.has_unsure.Goals as goal

pub returns : goal.returns
returns c = c.is_some.ensures ∙ unsure_is c.args.text.now c.memchr3.result (subst (λ (text : List ℕ). IsFirstByte (is_byte3 92 13 39) text c.memchr3.result) c.as_bytes.ensures.value c.memchr3.ensures)
