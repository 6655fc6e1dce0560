use Rattle.std.proofs.Common.{List, ◌≤◌, ◌∙◌, length, refl, subst, sym}
use Rattle.std.proofs.lemmas.Result.{IfOk-weaker}
use Rattle.std.specs.Prelude.{Option, IfSome}
use Rattle.bz_canonical.specs.declared.chunk.CanonicalChunk.{CanonicalChunk}
use Rattle.bz_canonical.specs.declared.spans.ArgumentSpan.{ArgumentSpan}
use Rattle.bz_engine.specs.private.Edits.{run_of}
use Rattle.bz_engine.proofs.CanonicalChunks.{AreNotedSpans, IsKnownIn, known_edited, spans_read}
use Rattle.bz_engine.proofs.canonical.copy_canonical.Goals as goal

pub copy_known-requires-clause-spans : goal.copy_known-requires-clause-spans
copy_known-requires-clause-spans c =
    let depth = c.args.script.max_depth in
    let passes = c.args.script.passes.now in
    let spans : List ArgumentSpan = c.read_canonical.new.spans.items in
    let told = c.found_with-found.ensures in
    spans_read depth passes c.text.result.now c.in-Some.chunk spans c.found_with-found.result told.chunk told.place (told.spans ∙ c.as_slice.ensures.value)
    (subst (λ (o : Option CanonicalChunk). IfSome o (IsKnownIn depth c.text.result.now)) c.in-Some.is c.in_ok-chunk.ensures.chunk)
    (subst (λ (o : Option CanonicalChunk). IfSome o (AreNotedSpans depth passes spans)) c.in-Some.is c.in_ok-chunk.ensures.spans)

pub returns-in-Some-clause-chunk : goal.returns-in-Some-clause-chunk
returns-in-Some-clause-chunk c =
    let depth = c.args.script.max_depth in
    let passes = c.args.script.passes.now in
    let spans : List ArgumentSpan = c.read_canonical.new.spans.items in
    let found = c.found_with-found.result in
    let told = c.found_with-found.ensures in
    let known = subst (λ (o : Option CanonicalChunk). IfSome o (IsKnownIn depth c.text.result.now)) c.in-Some.is c.in_ok-chunk.ensures.chunk in
    let noted = subst (λ (o : Option CanonicalChunk). IfSome o (AreNotedSpans depth passes spans)) c.in-Some.is c.in_ok-chunk.ensures.spans in
    let its = spans_read depth passes c.text.result.now c.in-Some.chunk spans found told.chunk told.place (told.spans ∙ c.as_slice.ensures.value) known noted in
    let size = subst (λ (k : CanonicalChunk). length k.chunk.now ≤ c.args.script.max_statement) (sym told.chunk) c.if-chunk-script.true in
    let canonical = subst (IsKnownIn depth c.text.result.now) (sym told.chunk) known in
    IfOk-weaker c.copy_known.result _ _ (λ next is.
    known_edited (run_of c.args.script) c.args.script.max_statement c.args.ahead.now found c.text.result.now c.args.progress.now c.is_worth_a_look.new.self c.copy_known.new.progress
    c.copy_known.new.progress c.args.text.now.items c.copy_known.new.text.items next c.requires.few c.text.ensures.front size canonical its c.is_worth_a_look.ensures refl is) c.copy_known.ensures.chunk
