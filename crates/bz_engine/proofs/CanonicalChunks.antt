-- A chunk of which it is known what would be written is the next chunk.
use Rattle.std.proofs.Common.{◌≡◌, ℕ, true, ◌≤◌, ◌+◌, List, [], ◌∷◌, ◌++◌, length, take, append-nil, refl, sym, ◌∙◌, ap, subst, arith, bytes_eq, rules, Bor, false}
use Rattle.std.proofs.Math.Seq.{take-append_seam}
use Rattle.std.proofs.lemmas.Bool.{false≢true}
use Rattle.std.proofs.lemmas.List.{length-append}
use Rattle.std.proofs.lemmas.List.Sums.{count_by-le-length}
use Rattle.std.proofs.lemmas.Slice.Eq.{bytes_eq-Decides}
use Rattle.std.specs.Prelude.{Option, None, Some, IfSome, IfNone, IsTrue, option_map, ◌==◌}
use Rattle.bz_token.specs.Places.{line_at}
use Rattle.bz_tree.specs.Tree.{Statement}
use Rattle.bz_layout_laws.proofs.ChunkLaws.{chunk_class}
use Rattle.bz_label.specs.Labels.{Name, Pkg, All, Kind as OfKind, Line}
use Rattle.bz_attribute.specs.Rules.{Rule, is_text, rule_of}
use Rattle.bz_canonical.specs.Canonical.{HasName, HasPlace, IsCanonical, IsReadBack, between, rule_name}
use Rattle.bz_canonical.specs.Spans.{AreSpansOf}
use Rattle.bz_canonical.specs.declared.chunk.CanonicalChunk.{CanonicalChunk}
use Rattle.bz_canonical.specs.declared.place.ArgumentPlace.{ArgumentPlace}
use Rattle.bz_canonical.specs.declared.spans.ArgumentSpan.{ArgumentSpan}
use Rattle.bz_devices.specs.Ahead.{Ahead, IsFewAfter, IsNextChunk}
use Rattle.bz_passes.specs.declared.index.Key.TheVariants.{Name as Named, NoName}
use Rattle.bz_passes.specs.Exchange.{Fits}
use Rattle.bz_engine.specs.Outcome.{Run, Script}
use Rattle.bz_engine.specs.Progress.{Progress}
use Rattle.bz_engine.specs.declared.canonical.Found.{Found}
use Rattle.bz_engine.specs.declared.next_chunk.NextChunk.{NextChunk}
use Rattle.bz_engine.specs.private.Edits.{DoesNothing, EditsChunk, EditsWhole}
use Rattle.bz_engine.specs.private.Found.{HasItsSpans, HasNotedSpans, IsFoundOn}
use Rattle.bz_engine.specs.private.NextChunks.{IsFirstEdited, IsKnownEdited}
use Rattle.bz_engine.specs.private.Rows.{HasKey}
use Rattle.bz_engine.specs.private.Sealed.{asked_names}
use Rattle.bz_engine.proofs.ChunkEdits.{scripted_edited}
use Rattle.bz_engine.proofs.FirstChunks.{IsTakenOf, first_is_next, chunk_is}
use Rattle.bz_attribute.specs.Marks.{marks_rule}
use Rattle.bz_token.specs.Common.{map_or}

pub same_bytes : (xs ys : List ℕ) → bytes_eq xs ys ≡ true → xs ≡ ys
same_bytes xs ys h = search (rules, bytes_eq-Decides)

pub bytes_same : (xs : List ℕ) → bytes_eq xs xs ≡ true
bytes_same xs = search (rules, bytes_eq-Decides)

-- a target that asks for a name marks what has this name
asked_is : (asked : List ℕ) (start : ℕ) (rule : Option Rule) → map_or false (marks_rule (Name asked) start) rule ≡ true → is_text asked (rule_name rule) ≡ true
asked_is asked start None met = met
asked_is asked start (Some rule) met = met

-- a statement of this name
pub named_key : (s : Statement) (name : Bor (List ℕ)) → HasName (Some name.now) s → HasKey s (Named name)
named_key s name h (Name asked) met =
    let same : asked ≡ name.now = same_bytes asked name.now (sym (ap (is_text asked) h) ∙ asked_is asked s.start (rule_of s.nodes) met) in
    ap (bytes_eq name.now) same ∙ bytes_same name.now
named_key s name h Pkg met = refl
named_key s name h All met = refl
named_key s name h (OfKind kind) met = refl
named_key s name h (Line line) met = refl

-- a statement of no name
pub nameless_key : (s : Statement) → HasName None s → HasKey s NoName
nameless_key s h (Name asked) met = absurd (false≢true (sym (ap (is_text asked) h) ∙ asked_is asked s.start (rule_of s.nodes) met))
nameless_key s h Pkg met = refl
nameless_key s h All met = refl
nameless_key s h (OfKind kind) met = refl
nameless_key s h (Line line) met = refl

front_size : (chunk rest text : List ℕ) → text ≡ chunk ++ rest → length chunk ≤ length text
front_size chunk rest text is = omega (arith, ap length is, length-append chunk rest)

front_taken : (chunk rest text : List ℕ) → text ≡ chunk ++ rest → chunk ≡ take (length chunk) text
front_taken chunk rest text is = sym (ap (take (length chunk)) is ∙ take-append_seam chunk rest)

-- a chunk has no more newlines than bytes
few_lines : (line : ℕ) (chunk : List ℕ) → line_at line chunk ≤ line + length chunk
few_lines line chunk = omega (arith, count_by-le-length (λ b. b == 10) chunk)

-- the statement that is read of the chunk
pub found_read : (line depth : ℕ) (found : Found) (read : IsReadBack line depth found.chunk.class (option_map (λ name. name.now) found.chunk.name) (option_map (λ kind. kind.now) found.chunk.kind) found.chunk.chunk.now found.chunk.written.now)
    → IfSome (option_map between found.place) (HasPlace depth found.attr.now read.statement) → (IsTrue found.chunk.noted → HasNotedSpans depth found read.statement)
    → IsFoundOn depth line found read.statement
found_read line depth found read has spanned =
    let s = read.statement in
    record {
      is = record { class = chunk_class line found.chunk.chunk.now read.read.tokens s read.read.reads.chunk; class_is = read.class_is; named = read.named; nameless = read.nameless; written = read.written; has = has; spanned = spanned };
      read = read.read;
    }

-- the chunk with the spans of its arguments
pub spans_found : (depth : ℕ) (passes : Script) (found : Found) (text : List ℕ) → found.place ≡ None
    → IsCanonical depth found.chunk.class (option_map (λ name. name.now) found.chunk.name) (option_map (λ kind. kind.now) found.chunk.kind) found.chunk.chunk.now found.chunk.written.now text
    → (IsTrue found.chunk.noted → AreSpansOf depth (asked_names passes) found.chunk.chunk.now found.chunk.written.now found.spans.now) → HasItsSpans depth passes found
spans_found depth passes found text none c noted = record {
  read = λ first.
      let read = c.read first in (
        read.statement,
        found_read first depth found read (subst (λ (o : Option ArgumentPlace). IfSome (option_map between o) (HasPlace depth found.attr.now read.statement)) (sym none) tt)
            (λ known. (first, asked_names passes, noted known first read.statement read.read)),
      );
  spans = noted;
}

-- a chunk that the text begins with, of which it is known what would be written
abbrev pub IsKnownIn : ℕ → List ℕ → CanonicalChunk → Type 0
IsKnownIn depth text chunk =
    IsCanonical depth chunk.class (option_map (λ name. name.now) chunk.name) (option_map (λ kind. kind.now) chunk.kind) chunk.chunk.now chunk.written.now text

-- its arguments have the spans that were noted
abbrev pub AreNotedSpans : ℕ → Script → List ArgumentSpan → CanonicalChunk → Type 0
AreNotedSpans depth passes spans chunk = IsTrue chunk.noted → AreSpansOf depth (asked_names passes) chunk.chunk.now chunk.written.now spans

-- the chunk as it was read, with the spans that were noted
pub spans_read : (depth : ℕ) (passes : Script) (text : List ℕ) (chunk : CanonicalChunk) (spans : List ArgumentSpan) (found : Found)
    → found.chunk ≡ chunk → found.place ≡ None → found.spans.now ≡ spans
    → IsKnownIn depth text chunk → AreNotedSpans depth passes spans chunk → HasItsSpans depth passes found
spans_read depth passes text chunk spans found chunk_is none spans_are known noted =
    spans_found depth passes found text none (subst (IsKnownIn depth text) (sym chunk_is) known)
    (subst (λ (l : List ArgumentSpan). AreNotedSpans depth passes l found.chunk) (sym spans_are) (subst (AreNotedSpans depth passes spans) (sym chunk_is) noted))

all_taken : (chunk rest text : List ℕ) → text ≡ chunk ++ rest → length chunk ≡ length text → chunk ≡ text
all_taken chunk [] text is size = sym (is ∙ append-nil chunk)
all_taken chunk (b ∷ bs) text is size = absurd (omega (arith, ap length is, length-append chunk (b ∷ bs), size))

-- what the script made of the statement is what it made of its chunk
known_answer : (run : Run) (found : Found) (old new : Progress) (before after : List ℕ) (next : NextChunk)
    → HasItsSpans run.max_depth run.passes found → IsKnownEdited run found old new before after next → EditsChunk run found.chunk.chunk.now old new before after next.edited
known_answer run found old new before after next its known cs statements kept =
    let read = its.read old.line in
    scripted_edited run cs statements found.chunk.chunk.now read.0 old known.mid new before after known.scripted next.edited kept (known.utf8, read.1.read) (known.is read.0 read.1) known.passed
    known.edited_is

known_line : (run : Run) (found : Found) (old new : Progress) (before after : List ℕ) (next : NextChunk) → IsKnownEdited run found old new before after next → new.line ≡ line_at old.line found.chunk.chunk.now
known_line run found old new before after next known = ap (λ (p : Progress). p.line) known.passed ∙ ap (λ n. line_at n found.chunk.chunk.now) known.same_line

-- the chunk is the whole text
whole_edited : (run : Run) (found : Found) (text : List ℕ) (old new : Progress) (before after : List ℕ) (next : NextChunk) → length found.chunk.chunk.now ≡ length text
    → IsCanonical run.max_depth found.chunk.class (option_map (λ name. name.now) found.chunk.name) (option_map (λ kind. kind.now) found.chunk.kind) found.chunk.chunk.now found.chunk.written.now text → HasItsSpans run.max_depth run.passes found
    → IsKnownEdited run found old new before after next → EditsChunk run text old new before after next.edited × (new.line ≤ old.line + length text)
whole_edited run found text old new before after next size c its known =
    let chunk : List ℕ = found.chunk.chunk.now in
    let whole : chunk ≡ text = all_taken chunk c.rest text c.front size in
    let at : new.line ≡ line_at old.line chunk = known_line run found old new before after next known in (
      subst (λ bytes. EditsChunk run bytes old new before after next.edited) whole (known_answer run found old new before after next its known),
      omega (arith, at, few_lines old.line chunk, size),
    )

no_line : (n old new : ℕ) → new ≡ old → new ≤ old + n
no_line n old new is = omega arith

-- where a buffer is taken before it, and given back after it
pub whole_known : (run : Run) (found : Found) (text : List ℕ) (start old mid new : Progress) (before after : List ℕ) (next : Option NextChunk) → length found.chunk.chunk.now ≡ length text
    → IsCanonical run.max_depth found.chunk.class (option_map (λ name. name.now) found.chunk.name) (option_map (λ kind. kind.now) found.chunk.kind) found.chunk.chunk.now found.chunk.written.now text → HasItsSpans run.max_depth run.passes found
    → old ≡ start → new ≡ mid → Fits mid.kept run.passes → IfSome next (IsKnownEdited run found old mid before after) → IfNone next (DoesNothing old mid before after)
    → EditsWhole run text start new before after (option_map (λ next. next.edited) next)
whole_known run found text start old mid new before after next size c its first last fits known none =
    subst (λ (p : Progress). EditsWhole run text p new before after (option_map (λ next. next.edited) next)) first
    (subst (λ (p : Progress). EditsWhole run text old p before after (option_map (λ next. next.edited) next)) (sym last) (by next known none))
  where
    by : (next : Option NextChunk) → IfSome next (IsKnownEdited run found old mid before after) → IfNone next (DoesNothing old mid before after)
        → EditsWhole run text old mid before after (option_map (λ next. next.edited) next)
    by None known none = record { fits = fits; lines = no_line (length text) old.line mid.line (ap (λ (p : Progress). p.line) none.0); edited = tt; nothing = none }
    by (Some next) known none =
        let whole = whole_edited run found text old mid before after next size c its known in
        record { fits = fits; lines = whole.1; edited = whole.0; nothing = tt }

canonical_edited : (run : Run) (most : ℕ) (ahead : Ahead) (found : Found) (text : List ℕ) (old new : Progress) (before after : List ℕ) (next : NextChunk)
    → IsFewAfter ahead → IsTakenOf text ahead.bytes → length found.chunk.chunk.now ≤ most
    → IsCanonical run.max_depth found.chunk.class (option_map (λ name. name.now) found.chunk.name) (option_map (λ kind. kind.now) found.chunk.kind) found.chunk.chunk.now found.chunk.written.now text → HasItsSpans run.max_depth run.passes found
    → IsKnownEdited run found old new before after next → IsFirstEdited run most ahead old new before after next
canonical_edited run most ahead found text old new before after next few outer size c its known =
    let chunk : List ℕ = found.chunk.chunk.now in
    let within : length chunk ≤ length text = front_size chunk c.rest text c.front in
    let front : chunk ≡ take (length chunk) text = front_taken chunk c.rest text c.front in
    let edited = subst (λ bytes. EditsChunk run bytes old new before after next.edited) (chunk_is chunk text ahead.bytes outer within front) (known_answer run found old new before after next its known) in
    record {
      chunk = subst (IsNextChunk most ahead) (sym known.len_is) (first_is_next most ahead chunk text few outer c.some within front size c.ends);
      lines = subst (λ n. new.line ≤ old.line + n) (sym known.len_is)
          (subst (λ n. n ≤ old.line + length chunk) (sym (known_line run found old new before after next known)) (few_lines old.line chunk));
      edited = subst (λ n. EditsChunk run (take n ahead.bytes) old new before after next.edited) (sym known.len_is) edited;
    }

-- where a buffer is taken before it, and given back after it
pub known_edited : (run : Run) (most : ℕ) (ahead : Ahead) (found : Found) (text : List ℕ) (start old mid new : Progress) (before after : List ℕ) (next : Option NextChunk)
    → IsFewAfter ahead → IsTakenOf text ahead.bytes → length found.chunk.chunk.now ≤ most
    → IsCanonical run.max_depth found.chunk.class (option_map (λ name. name.now) found.chunk.name) (option_map (λ kind. kind.now) found.chunk.kind) found.chunk.chunk.now found.chunk.written.now text → HasItsSpans run.max_depth run.passes found
    → old ≡ start → new ≡ mid → IfSome next (IsKnownEdited run found old mid before after) → IfSome next (IsFirstEdited run most ahead start new before after)
known_edited run most ahead found text start old mid new before after None few outer size c its first last known = tt
known_edited run most ahead found text start old mid new before after (Some next) few outer size c its first last known =
    subst (λ (p : Progress). IsFirstEdited run most ahead p new before after next) first
    (subst (λ (p : Progress). IsFirstEdited run most ahead old p before after next) (sym last) (canonical_edited run most ahead found text old mid before after next few outer size c its known))
