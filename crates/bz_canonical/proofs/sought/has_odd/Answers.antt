use Rattle.std.proofs.Common.{ℕ, List, ◌∙◌, subst}
use Rattle.memchr.specs.Find.{IsFirstByte, is_byte2}
use Rattle.bz_canonical.proofs.SoughtSpans.{odd_is}
use Rattle.bz_canonical.proofs.sought.has_odd.Goals as goal

pub returns : goal.returns
returns c = c.is_some.ensures ∙ odd_is c.args.text.now c.memchr2.result (subst (λ (text : List ℕ). IsFirstByte (is_byte2 92 13) text c.memchr2.result) c.as_bytes.ensures.value c.memchr2.ensures)
