-- The rule of which `seal` makes the row.
use Rattle.std.proofs.Common.{◌≡◌, ◌<◌, ℕ, List, [], ◌∷◌, Bool, true, false, drop, length, map, refl, ap, arith}
use Rattle.std.specs.Prelude.{None, ◌||◌}
use Rattle.bz_tree.specs.Tree.{Segment}
use Rattle.bz_label.specs.Endings.{ending, literal_end}
use Rattle.bz_label.specs.Labels.{Package}
use Rattle.bz_label.specs.declared.arguments.Chosen.TheVariants.{Values}
use Rattle.bz_attribute.specs.Reports.{chooses}
use Rattle.bz_rule.specs.Sealed.{IsSealed, is_asked_for}
use Rattle.bz_canonical.specs.SealedRules.{are_alike, are_shown, count_sealed, sealed_after, sealed_rule}
use Rattle.bz_canonical.specs.Sought.{marked}
use Rattle.bz_canonical.specs.Spans.{AreSpans, IsSpannedIn, NamedRule, front_text, name_argument, statement_of}
use Rattle.bz_canonical.specs.declared.spans.ArgumentSpan.{ArgumentSpan}
use Rattle.bz_canonical.proofs.Sealing.{NeverAsks, Unasked, rule_shown, unnamed}
use Rattle.bz_canonical.proofs.SoughtSpans.{are_marked, marked_unasked}

pub some_spans : (names : List (List ℕ)) (n m : ℕ) (a : Segment) (args : List Segment) (stands : List (List ℕ)) (spans : List ArgumentSpan) → AreSpans names n m (a ∷ args) stands spans → 0 < length spans
some_spans names n m a args [] spans are = absurd are
some_spans names n m a args (l ∷ ls) [] are = absurd are
some_spans names n m a args (l ∷ ls) (span ∷ spans) are = omega arith

pub marked_spanned : (depth : ℕ) (names : List (List ℕ)) (r : NamedRule) (stands : List (List ℕ)) (chunk written : List ℕ) (spans : List ArgumentSpan) (endings closings : List (List ℕ)) → IsSpannedIn depth names r stands chunk written spans
    → IsSpannedIn depth names r stands chunk written (marked endings closings chunk spans)
marked_spanned depth names r stands chunk written spans endings closings is =
    let at = is.spanned in
    let F : List ℕ = front_text r.notes r.kind in
    record {
      spanned = record { notes_are = at.notes_are; kind_is = at.kind_is; end_are = at.end_are; written_is = at.written_is; are = are_marked names (length F) (length F) (name_argument r.name ∷ r.args) stands spans endings closings chunk at.are };
      back = is.back;
      chunk_is = is.chunk_is;
      reads = is.reads;
    }

-- what is sealed shows nothing
never_asked : (names values : List (List ℕ)) (home : Package) → NeverAsks (is_asked_for names values home)
never_asked names values home = λ run a. ap (λ b. b || chooses home (Values values) (sealed_after run a)) (unnamed names run a)

after_first : (asks : Segment → Bool) (a : Segment) (args : List Segment) (spans : List ArgumentSpan) → Unasked asks (a ∷ args) spans → Unasked asks args (drop 1 spans)
after_first asks a [] [] free = tt
after_first asks a (b ∷ args) [] free = tt
after_first asks a args (s ∷ spans) free = free.1

pub rule_sought : (names values : List (List ℕ)) (home : Package) (depth : ℕ) (r : NamedRule) (stands : List (List ℕ)) (chunk written : List ℕ) (spans : List ArgumentSpan) (alone : Bool) → IsSpannedIn depth names r stands chunk written spans
    → IsSealed (λ run t. are_alike run t ≡ true) (is_asked_for names values home) (count_sealed (are_shown alone (drop 1 (marked (map ending values) (map literal_end values) chunk spans)))) (statement_of r) (statement_of (sealed_rule (are_shown alone (drop 1 (marked (map ending values) (map literal_end values) chunk spans))) r))
rule_sought names values home depth r stands chunk written spans alone is =
    let F : List ℕ = front_text r.notes r.kind in
    let all : List ArgumentSpan = marked (map ending values) (map literal_end values) chunk spans in
    let found = marked_spanned depth names r stands chunk written spans (map ending values) (map literal_end values) is in
    let free : Unasked (is_asked_for names values home) (name_argument r.name ∷ r.args) all = marked_unasked names values home (length F) (length F) (name_argument r.name ∷ r.args) stands spans chunk F is.back is.spanned.are is.chunk_is refl in
    rule_shown (is_asked_for names values home) (never_asked names values home) names r stands written all alone (record { from = 0; to = 0; start = 0; comma = 0; end = 0; named = None; sought = false })
    (some_spans names (length F) (length F) (name_argument r.name) r.args stands all found.spanned.are) found.spanned (after_first (is_asked_for names values home) (name_argument r.name) r.args all free)
