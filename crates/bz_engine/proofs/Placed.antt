-- A chunk with the place of an argument has the statement of the chunk.
use Rattle.std.proofs.Common.{◌≡◌, ℕ, List, sym, ap, subst, ◌∙◌}
use Rattle.std.specs.Prelude.{Bool, IfSome, IsTrue, None, Option, Some, option_map}
use Rattle.bz_tree.specs.Chunk.{IsStatementIn}
use Rattle.bz_tree.specs.Tree.{Statement}
use Rattle.bz_canonical.specs.Canonical.{HasName, HasPlace, IsNameless, between}
use Rattle.bz_canonical.specs.Spans.{AreSpansOf, HasSpans}
use Rattle.bz_canonical.specs.declared.chunk.CanonicalChunk.{CanonicalChunk}
use Rattle.bz_canonical.specs.declared.place.ArgumentPlace.{ArgumentPlace}
use Rattle.bz_canonical.specs.declared.spans.ArgumentSpan.{ArgumentSpan}
use Rattle.bz_engine.specs.Outcome.{Run, Script}
use Rattle.bz_engine.specs.Progress.{Progress}
use Rattle.bz_engine.specs.declared.canonical.Found.{Found}
use Rattle.bz_engine.specs.private.Found.{HasItsSpans, IsFoundOn, IsPlaceIn, IsPlaced, unplaced}
use Rattle.bz_engine.specs.private.NextChunks.{EditsFound}
use Rattle.bz_engine.specs.private.Sealed.{asked_names}

-- the same but for the place
moved : (depth line : ℕ) (from to : Found) (s : Statement) → to.chunk ≡ from.chunk → to.spans.now ≡ from.spans.now → IfSome (option_map between to.place) (HasPlace depth to.attr.now s)
    → IsFoundOn depth line from s → IsFoundOn depth line to s
moved depth line from to s chunk spans has on = record {
  is = record {
    class = on.is.class;
    class_is = on.is.class_is ∙ ap (λ (k : CanonicalChunk). k.class) (sym chunk);
    named = subst (λ (k : CanonicalChunk). HasName (option_map (λ name. name.now) k.name) s) (sym chunk) on.is.named;
    nameless = subst (λ (k : CanonicalChunk). IfSome (option_map (λ kind. kind.now) k.kind) (λ k. IsNameless k s.nodes)) (sym chunk) on.is.nameless;
    written = on.is.written ∙ ap (λ (k : CanonicalChunk). k.written.now) (sym chunk);
    has = has;
    spanned = subst (λ (k : CanonicalChunk). IsTrue k.noted → (first : ℕ) × (names : List (List ℕ)) × HasSpans first depth names s k.chunk.now k.written.now to.spans.now) (sym chunk)
        (subst (λ (spans : List ArgumentSpan). IsTrue from.chunk.noted → (first : ℕ) × (names : List (List ℕ)) × HasSpans first depth names s from.chunk.chunk.now from.chunk.written.now spans) (sym spans) on.is.spanned);
  };
  read = subst (λ (k : CanonicalChunk). IsStatementIn line depth k.chunk.now s) (sym chunk) on.read;
}

pub unplaced_found : (depth line : ℕ) (found : Found) (s : Statement) → IsFoundOn depth line found s → IsFoundOn depth line (unplaced found) s
unplaced_found depth line found s on = record {
  is = record { class = on.is.class; class_is = on.is.class_is; named = on.is.named; nameless = on.is.nameless; written = on.is.written; has = tt; spanned = on.is.spanned };
  read = on.read;
}

pub without_place : (depth line : ℕ) (passes : Script) (found placed : Found) (s : Statement) → IsPlaced passes found placed → IsFoundOn depth line placed s → IsFoundOn depth line (unplaced found) s
without_place depth line passes found placed s is on = moved depth line placed (unplaced found) s (sym is.chunk_is) (sym is.spans_are) tt on

pub with_place : (depth line : ℕ) (passes : Script) (found placed : Found) (s : Statement) → IsPlaced passes found placed → HasItsSpans depth passes found → IsFoundOn depth line found s → IsFoundOn depth line placed s
with_place depth line passes found placed s is its on = moved depth line found placed s is.chunk_is is.spans_are (by placed.place is.place_is) on
  where
    by : (place : Option ArgumentPlace) → IfSome place (IsPlaceIn passes found placed.attr.now) → IfSome (option_map between place) (HasPlace depth placed.attr.now s)
    by None told = tt
    by (Some place) told = told.1 line depth s (its.spans told.0 line s on.read)

pub placed_spans : (depth : ℕ) (passes : Script) (found placed : Found) → IsPlaced passes found placed → HasItsSpans depth passes found → HasItsSpans depth passes placed
placed_spans depth passes found placed is its = record {
  read = λ first.
      let read = its.read first in
      (read.0, with_place depth first passes found placed read.0 is its read.1);
  spans = subst (λ (k : CanonicalChunk). IsTrue k.noted → AreSpansOf depth (asked_names passes) k.chunk.now k.written.now placed.spans.now) (sym is.chunk_is)
      (subst (λ (spans : List ArgumentSpan). IsTrue found.chunk.noted → AreSpansOf depth (asked_names passes) found.chunk.chunk.now found.chunk.written.now spans) (sym is.spans_are) its.spans);
}

-- what was made of it with the place
pub placed_edits : (run : Run) (found placed : Found) (old new : Progress) (before after : List ℕ) (done : Bool) → IsPlaced run.passes found placed → HasItsSpans run.max_depth run.passes found
    → EditsFound run placed old new before after done → EditsFound run found old new before after done
placed_edits run found placed old new before after done is its edits = record {
  fits = edits.fits;
  line = edits.line;
  edited = λ yes s on. edits.edited yes s (with_place run.max_depth old.line run.passes found placed s is its on);
  nothing = edits.nothing;
}
