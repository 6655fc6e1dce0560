-- Which arguments may have a value that is sought: those in whose lines its end stands.
-- Begin with `marked`.
use Rattle.std.specs.Prelude.{ℕ, List, [], ◌∷◌, Bool, true, false, ◌||◌, map, if◌then◌else◌}
use Rattle.std.specs.List.{list_any}
use Rattle.bz_label.specs.Endings.{is_in, is_odd, is_unsure}
use Rattle.bz_canonical.specs.SealedRules.{between}
use Rattle.bz_canonical.specs.declared.spans.ArgumentSpan.{ArgumentSpan}

-- One of the ends stands in the text, or a byte of a literal that may not stand for itself.
abbrev pub may_hold : List (List ℕ) → List ℕ → Bool
may_hold [] text = false
may_hold (e ∷ endings) text = list_any is_odd text || list_any (λ part. is_in part text) (e ∷ endings)

-- One of these may end a value in the text: where bytes are unsure, an end, or where none is, an end with the quote that closes
-- its literal.
abbrev pub may_have : Bool → List (List ℕ) → List ℕ → Bool
may_have true parts text = may_hold parts text
may_have false parts text = list_any (λ part. is_in part text) parts

abbrev pub mark : Bool → List (List ℕ) → List ℕ → ArgumentSpan → ArgumentSpan
mark unsure parts chunk span = record span { sought = may_have unsure parts (between span.from span.to chunk) }

-- spans of a chunk, of which those are marked that may have a value with one of these, if the chunk may
abbrev pub marked_by : Bool → List (List ℕ) → List ℕ → List ArgumentSpan → List ArgumentSpan
marked_by unsure parts chunk spans = if may_have unsure parts chunk then map (mark unsure parts chunk) spans else spans

-- by the ends where a byte of the chunk tells nothing of the literal that it is in, else by the ends with their quotes
abbrev pub marked : List (List ℕ) → List (List ℕ) → List ℕ → List ArgumentSpan → List ArgumentSpan
marked endings closings chunk spans =
    if list_any is_unsure chunk then marked_by true endings chunk spans else marked_by false closings chunk spans
