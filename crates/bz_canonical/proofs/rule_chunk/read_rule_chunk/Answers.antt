use Rattle.std.proofs.Common.{◌≡◌, ◌+◌, ◌-◌, ℕ, List, length, take, sym, subst, arith}
use Rattle.std.specs.Prelude.{Option, IfSome, if◌then◌else◌}
use Rattle.std.proofs.lemmas.Option.{IfSome_then}
use Rattle.std.proofs.lemmas.Result.{IfOk-weaker}
use Rattle.bz_canonical.specs.private.Rules.{IsRuleRead}
use Rattle.bz_canonical.specs.private.Statements.{IsChunkOf}
use Rattle.bz_canonical.specs.declared.named_rule.ReadRule.{ReadRule}
use Rattle.bz_canonical.proofs.rule_chunk.read_rule_chunk.Goals as goal

pub returns-clause-chunk : goal.returns-clause-chunk
returns-clause-chunk c =
    let depth : ℕ = c.in-Some.depth + 1 in
    let deep : depth ≡ c.args.max_depth = omega (arith, c.in-Some.ensures) in
    let text = c.args.rule.text.now in
    let name = c.args.rule.name.now in
    let head : List ℕ = c.args.rule.head.name.now in
    let bytes : List ℕ = c.as_bytes.result.now in
    let written : List ℕ = c.read_rule.new.written.items in
    let r = c.in-Some-2.read in
    let read = subst (λ (o : Option ReadRule). IfSome o (λ r. IsRuleRead depth head bytes r.rest.now
    (if r.as_is then take (length bytes - length r.rest.now) bytes else written))) c.in-Some-2.is c.in_ok-read.ensures in
    let named = subst (λ (n : List ℕ). IsRuleRead depth n bytes r.rest.now (if r.as_is then take (length bytes - length r.rest.now) bytes else written)) (sym c.requires.rule.named) read in
    let within = subst (λ (t : List ℕ). IsRuleRead depth name t r.rest.now (if r.as_is then take (length t - length r.rest.now) t else written)) c.as_bytes.ensures.value named in
    let put = subst (λ (b : List ℕ). IsRuleRead depth name text r.rest.now (if r.as_is then take (length text - length r.rest.now) text else b)) (sym c.as_slice.ensures.value) within in
    IfOk-weaker c.chunk_of.result _ _ (λ known some. IfSome_then known some (λ found of. subst (λ (d : ℕ). IsChunkOf d text found) deep (of depth put))) c.chunk_of.ensures.chunk
