use Rattle.std.proofs.Common.{ℕ, List, ◌∙◌, subst}
use Rattle.memchr.specs.Find.{FindsNeedle}
use Rattle.bz_canonical.proofs.SoughtSpans.{found_is}
use Rattle.bz_canonical.proofs.sought.is_in.Goals as goal

pub returns : goal.returns
returns c =
    let found = subst (λ (text : List ℕ). FindsNeedle text c.args.part.now 0 c.find.result) c.as_bytes.ensures.value c.find.ensures in
    c.is_some.ensures ∙ found_is c.args.part.now c.args.text.now c.find.result found
