use Rattle.std.proofs.Common.{◌≡◌, ℕ, List, Bor, Some, ap, rules, subst, sym, ◌∙◌}
use Rattle.std.specs.Prelude.{Option, option_map}
use Rattle.bz_canonical.specs.Canonical.{IsCanonical}
use Rattle.bz_canonical.specs.private.Statements.{IsStatementFront}
use Rattle.bz_canonical.proofs.CanonicalChunks.{canonical_chunk}
use Rattle.bz_canonical.proofs.chunk.read_other_chunk.Goals as goal
use Rattle.bz_canonical.proofs.chunk.read_other_chunk.Goals.{in-None, in-Some+in_ok-ok-in-Some}

abbrev bytes_in : Option (Bor (List ℕ)) → Option (List ℕ)
bytes_in bytes = option_map (λ b. b.now) bytes

pub returns-clause-chunk : goal.returns-clause-chunk
returns-clause-chunk c =
    let r = c.in_ok-read.read in
    let front = subst (λ text. IsStatementFront c.args.max_depth r.class (bytes_in r.name) (bytes_in r.kind) text r.end.now r.rest.now) c.as_bytes.ensures.value c.in_ok-read.ensures in
    let named : bytes_in r.name ≡ bytes_in c.match-read.name = elim c.match-read.branch [
      | in-None w ↦ ap bytes_in w.in-None.is ∙ sym (ap bytes_in w.name-is)
      | in-Some+in_ok-ok-in-Some w ↦ ap bytes_in w.in-Some.is ∙ (let same : w.in-Some.bytes.now ≡ w.in_ok-ok-in-Some.field-0.now = search rules in ap (λ (t : List ℕ). Some t) same) ∙ sym (ap bytes_in w.name-is)
    ] in
    subst (λ name. IsCanonical c.args.max_depth r.class name (bytes_in r.kind) c.in_ok-chunk.chunk.now c.in_ok-written.written.now c.args.text.now) named
    (canonical_chunk c.args.max_depth r.class (bytes_in r.name) (bytes_in r.kind) c.in_ok-chunk.chunk.now c.in_ok-written.written.now c.args.text.now r.end.now r.rest.now front c.in_ok-chunk.ensures c.in_ok-written.ensures)
