use Rattle.std.proofs.Common.{◌≡◌, List, ◌∙◌, arith, length, refl, subst, sym}
use Rattle.std.specs.Prelude.{Option, IfSome}
use Rattle.bz_canonical.specs.declared.chunk.CanonicalChunk.{CanonicalChunk}
use Rattle.bz_canonical.specs.declared.spans.ArgumentSpan.{ArgumentSpan}
use Rattle.bz_engine.specs.private.Edits.{EditsWhole, run_of}
use Rattle.bz_engine.proofs.CanonicalChunks.{AreNotedSpans, IsKnownIn, spans_read, whole_known}
use Rattle.bz_engine.proofs.canonical.copy_whole.Goals as goal

pub copy_known-requires-clause-spans : goal.copy_known-requires-clause-spans
copy_known-requires-clause-spans c =
    let depth = c.args.script.max_depth in
    let passes = c.args.script.passes.now in
    let spans : List ArgumentSpan = c.read_canonical.new.spans.items in
    let told = c.found_with-found.ensures in
    spans_read depth passes c.args.chunk.now c.in-Some.known spans c.found_with-found.result told.chunk told.place (told.spans ∙ c.as_slice.ensures.value)
    (subst (λ (o : Option CanonicalChunk). IfSome o (IsKnownIn depth c.args.chunk.now)) c.in-Some.is c.in_ok-known.ensures.chunk)
    (subst (λ (o : Option CanonicalChunk). IfSome o (AreNotedSpans depth passes spans)) c.in-Some.is c.in_ok-known.ensures.spans)

pub returns-in_ok-next-in-Some : goal.returns-in_ok-next-in-Some
returns-in_ok-next-in-Some c =
    let depth = c.args.script.max_depth in
    let passes = c.args.script.passes.now in
    let spans : List ArgumentSpan = c.read_canonical.new.spans.items in
    let found = c.found_with-found.result in
    let told = c.found_with-found.ensures in
    let done = c.in_ok-next-in-Some.ensures in
    let known = subst (λ (o : Option CanonicalChunk). IfSome o (IsKnownIn depth c.args.chunk.now)) c.in-Some.is c.in_ok-known.ensures.chunk in
    let noted = subst (λ (o : Option CanonicalChunk). IfSome o (AreNotedSpans depth passes spans)) c.in-Some.is c.in_ok-known.ensures.spans in
    let its = spans_read depth passes c.args.chunk.now c.in-Some.known spans found told.chunk told.place (told.spans ∙ c.as_slice.ensures.value) known noted in
    let whole : length c.in-Some.known.chunk.now ≡ length c.args.chunk.now = grind (arith, c.if-known-chunk.true) in
    let size = subst (λ (k : CanonicalChunk). length k.chunk.now ≡ length c.args.chunk.now) (sym told.chunk) whole in
    let canonical = subst (IsKnownIn depth c.args.chunk.now) (sym told.chunk) known in
    subst (EditsWhole (run_of c.args.script) c.args.chunk.now c.args.progress.now c.copy_known.new.progress c.args.text.now.items c.copy_known.new.text.items) (sym c.edited_in.ensures)
    (whole_known (run_of c.args.script) found c.args.chunk.now c.args.progress.now c.args.progress.now c.copy_known.new.progress c.copy_known.new.progress
    c.args.text.now.items c.copy_known.new.text.items c.in_ok-next-in-Some.next size canonical its refl refl done.fits done.chunk done.none)
