use Rattle.std.proofs.Common.{◌≡◌, ◌+◌, ◌-◌, ◌∙◌, ℕ, List, length, take, ap, sym, subst, arith}
use Rattle.std.specs.Prelude.{Option, IfSome, IsTrue, if◌then◌else◌}
use Rattle.bz_canonical.specs.Spans.{AreSpansOf}
use Rattle.bz_canonical.specs.declared.chunk.CanonicalChunk.{CanonicalChunk}
use Rattle.bz_canonical.specs.declared.spans.NotedRule.{NotedRule}
use Rattle.bz_canonical.specs.private.Noted.{NotesRule}
use Rattle.bz_canonical.specs.private.Rules.{IsRuleRead}
use Rattle.bz_canonical.specs.private.Statements.{IsChunkOf}
use Rattle.bz_canonical.proofs.rule_chunk.read_noted_chunk.Goals as goal

pub returns-clause-chunk : goal.returns-clause-chunk
returns-clause-chunk c =
    let depth : ℕ = c.in-Some.depth + 1 in
    let deep : depth ≡ c.args.max_depth = omega (arith, c.in-Some.ensures) in
    let text = c.args.rule.text.now in
    let name = c.args.rule.name.now in
    let head : List ℕ = c.args.rule.head.name.now in
    let bytes : List ℕ = c.as_bytes-text.result.now in
    let written : List ℕ = c.note_rule.new.written.items in
    let r = c.in-Some-2.read.rule in
    let read = subst (λ (o : Option NotedRule). IfSome o (λ n. IsRuleRead depth head bytes n.rule.rest.now
    (if n.rule.as_is then take (length bytes - length n.rule.rest.now) bytes else written))) c.in-Some-2.is c.in_ok-read.ensures.rule in
    let found = subst (λ (o : Option CanonicalChunk). IfSome o (λ found. (depth : ℕ) → IsRuleRead depth name text r.rest.now
    (if r.as_is then take (length text - length r.rest.now) text else c.as_slice.result.now) → IsChunkOf depth text found)) c.in-Some-3.is c.in_ok-chunk.ensures.chunk in
    let named = subst (λ (n : List ℕ). IsRuleRead depth n bytes r.rest.now (if r.as_is then take (length bytes - length r.rest.now) bytes else written)) (sym c.requires.rule.named) read in
    let within = subst (λ (t : List ℕ). IsRuleRead depth name t r.rest.now (if r.as_is then take (length t - length r.rest.now) t else written)) c.as_bytes-text.ensures.value named in
    let put = subst (λ (b : List ℕ). IsRuleRead depth name text r.rest.now (if r.as_is then take (length text - length r.rest.now) text else b)) (sym c.as_slice.ensures.value) within in
    subst (λ (d : ℕ). IsChunkOf d text c.in-Some-3.chunk) deep (found depth put)

pub returns-clause-spans : goal.returns-clause-spans
returns-clause-spans c known =
    let depth : ℕ = c.in-Some.depth + 1 in
    let deep : depth ≡ c.args.max_depth = omega (arith, c.in-Some.ensures) in
    let names : List (List ℕ) = c.args.names.now in
    let text = c.args.rule.text.now in
    let bytes : List ℕ = c.as_bytes-text.result.now in
    let written : List ℕ = c.note_rule.new.written.items in
    let spans = c.note_rule.new.spans.items in
    let r = c.in-Some-2.read.rule in
    let chunk : List ℕ = c.in-Some-3.chunk.chunk.now in
    let noted = subst (λ (o : Option NotedRule). IfSome o (λ n. IsTrue n.known → NotesRule depth names bytes n.rule written spans)) c.in-Some-2.is c.in_ok-read.ensures.spans known in
    let chunk_is = subst (λ (o : Option CanonicalChunk). IfSome o (λ found. found.chunk.now ≡ take (length text - length r.rest.now) text)) c.in-Some-3.is c.in_ok-chunk.ensures.text in
    let written_is = subst (λ (o : Option CanonicalChunk). IfSome o (λ found. found.written.now ≡ (if r.as_is then found.chunk.now else c.as_slice.result.now))) c.in-Some-3.is c.in_ok-chunk.ensures.written in
    let within = subst (λ (t : List ℕ). AreSpansOf depth names (take (length t - length r.rest.now) t) (if r.as_is then take (length t - length r.rest.now) t else written) spans) c.as_bytes-text.ensures.value noted in
    let cut = subst (λ (t : List ℕ). AreSpansOf depth names t (if r.as_is then t else written) spans) (sym chunk_is) within in
    let put = subst (λ (t : List ℕ). AreSpansOf depth names chunk t spans) (ap (λ (b : List ℕ). if r.as_is then chunk else b) (sym c.as_slice.ensures.value) ∙ sym written_is) cut in
    subst (λ (d : ℕ). AreSpansOf d names chunk c.in-Some-3.chunk.written.now spans) deep put
