-- The span of the first argument of a name, for private clauses.
use Rattle.std.specs.Prelude.{◌==◌, ℕ, List, [], ◌∷◌, if◌then◌else◌, false, None, option_to_list}
use Rattle.bz_token.specs.Common.{map_or}
use Rattle.bz_tree.specs.Tree.{Segment}
use Rattle.bz_attribute.specs.Rules.{first_named}
use Rattle.bz_canonical.specs.declared.spans.ArgumentSpan.{ArgumentSpan}

-- the first argument of a name, alone
abbrev pub alone : List ℕ → List Segment → List Segment
alone attr args = option_to_list (first_named attr args)

-- the span of no argument, at these places in the chunk and in what is written
abbrev pub no_lines : ℕ → ℕ → ArgumentSpan
no_lines at start = record { from = at; to = at; start = start; comma = start; end = start; named = None; sought = false }

-- the first span of this name, or this one
abbrev pub span_named : ℕ → ArgumentSpan → List ArgumentSpan → ArgumentSpan
span_named name after [] = after
span_named name after (span ∷ spans) = if map_or false (λ index. index == name) span.named then span else span_named name (no_lines span.to span.end) spans
