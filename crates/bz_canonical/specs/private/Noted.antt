-- Arguments that were passed, and what was noted of them, for private clauses.
use Rattle.std.specs.Prelude.{◌≡◌, ◌+◌, ◌-◌, ℕ, List, ◌++◌, length, map, take, Bool, Option, if◌then◌else◌}
use Rattle.bz_canonical.specs.Spans.{AreSpans, AreSpansOf}
use Rattle.bz_canonical.specs.declared.named_rule.ReadRule.{ReadRule}
use Rattle.bz_canonical.specs.declared.spans.ArgumentSpan.{ArgumentSpan}
use Rattle.bz_canonical.specs.declared.spans.NamesSought.{NamesSought}
use Rattle.bz_canonical.specs.declared.spans.Place.{Place}
use Rattle.bz_canonical.specs.private.Arguments.{AreRead}
use Rattle.bz_canonical.specs.private.Placed.{args_of, placed_lines}

-- the span of an argument between two places; so many bytes there are from its comma on, and so many follow the comment beside it
pub record IsSpanBetween (named : Option ℕ) (from : Place) (comma rest : ℕ) (to : Place) (span : ArgumentSpan) : Type 0 where
  pub named_is : span.named ≡ named
  pub from_is : span.from ≡ from.stands
  pub to_is : span.to ≡ to.stands
  pub start_is : span.start ≡ from.written
  pub comma_is : span.comma + comma ≡ to.written + rest
  pub end_is : span.end ≡ to.written

-- the span of the name of a rule in a text: `inside` follows the bracket, `rest` the comma
pub record IsNameSpan (named : Option ℕ) (text inside rest : List ℕ) (span : ArgumentSpan) : Type 0 where
  pub named_is : span.named ≡ named
  pub from_is : span.from + length inside ≡ length text
  pub to_is : span.to + length rest ≡ length text
  pub start_is : span.start ≡ span.from
  pub comma_is : span.comma + 1 ≡ span.to
  pub end_is : span.end ≡ span.to

-- arguments, and the spans that were put after others; `begun` is written before them
pub record AreNoted (notes : NamesSought) (text rest begun written : List ℕ) (old new : List ArgumentSpan) (one : Bool) : Type 0 where
  pub read : AreRead notes.depth text rest written one
  pub more : List ArgumentSpan
  pub all : new ≡ old ++ more
  pub are : (from : ℕ) → from + length text ≡ notes.len → AreSpans notes.names.now from (length begun) (args_of read.placed) (map placed_lines read.placed) more

-- the spans of a rule, which is in the buffer or stands as it is written
abbrev pub NotesRule : ℕ → List (List ℕ) → List ℕ → ReadRule → List ℕ → List ArgumentSpan → Type 0
NotesRule depth names text rule buffer spans =
    AreSpansOf depth names (take (length text - length rule.rest.now) text) (if rule.as_is then take (length text - length rule.rest.now) text else buffer) spans
