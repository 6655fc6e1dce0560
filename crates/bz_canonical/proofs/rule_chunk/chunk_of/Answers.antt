use Rattle.std.proofs.Common.{◌≡◌, ◌-◌, ◌∙◌, ℕ, List, length, take, sym, ap, subst}
use Rattle.std.specs.Prelude.{if◌then◌else◌}
use Rattle.bz_canonical.specs.private.Rules.{IsRuleRead}
use Rattle.bz_canonical.proofs.ReadRules.{rule_chunk}
use Rattle.bz_canonical.proofs.rule_chunk.chunk_of.Goals as goal

pub returns-clause-chunk : goal.returns-clause-chunk
returns-clause-chunk c = λ depth read.
    let r = c.args.read in
    let text = c.args.rule.text.now in
    let chunk = c.in-Some.chunk.now in
    let written = c.in-Some-written_of.written.now in
    let same : (if r.as_is then take (length text - length r.rest.now) text else c.args.buffer.now) ≡ written = ap (λ (t : List ℕ). if r.as_is then t else c.args.buffer.now) (sym c.in-Some.ensures) ∙ sym c.in-Some-written_of.ensures in
    rule_chunk depth c.args.rule.name.now text r.rest.now written chunk (subst (λ (t : List ℕ). IsRuleRead depth c.args.rule.name.now text r.rest.now t) same read) c.in-Some.ensures
