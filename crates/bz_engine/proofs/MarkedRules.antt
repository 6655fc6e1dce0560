-- What marks a rule that is not read, by its name, its kind and its lines.
use Rattle.std.proofs.Common.{◌≡◌, ◌≢◌, ℕ, ◌+◌, ◌<◌, ◌≤◌, ◌&&◌, ◌==◌, Bool, List, ◌++◌, true, false, length, get_or, refl, sym, ap, subst, ◌∙◌, arith, tests, append-nil, ltb, ltb-true, ltb-false}
use Rattle.std.proofs.lemmas.Bool.{false≢true}
use Rattle.std.proofs.lemmas.List.Sums.{sum_by-append}
use Rattle.std.specs.List.{concat}
use Rattle.std.specs.Prelude.{Option, None, Some, IsTrue, bytes_eq, codes, count_by, if◌then◌else◌, is_some, nat_le, option_map}
use Rattle.bz_token.specs.Common.{map_or}
use Rattle.bz_tree.specs.Tree.{Statement}
use Rattle.bz_label.specs.Labels.{Package, Target, Name, Pkg, All, Kind, Line}
use Rattle.bz_attribute.specs.Marks.{marks, marks_rule}
use Rattle.bz_attribute.specs.Rules.{is_text}
use Rattle.bz_canonical.specs.Canonical.{rule_name}
use Rattle.bz_canonical.specs.Spans.{HasSpans, IsSpannedIn, NamedRule, front_text}
use Rattle.bz_passes.specs.Asked.{IsFirstFrom, asked_by, may_mark}
use Rattle.bz_passes.specs.Exchange.{IsPassedBy}
use Rattle.bz_passes.specs.Passes.{Pass}
use Rattle.bz_passes.specs.declared.index.Key.TheVariants.{Name as Named}
use Rattle.bz_passes.proofs.PassedBy.{unmarked_passed}
use Rattle.bz_rule.specs.Commands.{Command}
use Rattle.bz_engine.specs.Failing.{changes, fails_on}
use Rattle.bz_engine.specs.Language.{meaning}
use Rattle.bz_engine.specs.Outcome.{Script}
use Rattle.bz_engine.specs.declared.canonical.Found.{Found}
use Rattle.bz_engine.specs.declared.marking.KnownRule.{KnownRule}
use Rattle.bz_engine.specs.declared.rule_passes.OnePass.{OnePass}
use Rattle.bz_engine.specs.private.Found.{HasItsSpans, HasNotedSpans, IsForOne, IsFoundOn, IsOfKind, one_pass, unplaced}
use Rattle.bz_engine.specs.private.Marked.{IsKnownRule, may_mark_rule}
use Rattle.bz_engine.proofs.CanonicalChunks.{bytes_same, same_bytes}
use Rattle.bz_engine.proofs.OnlyPass.{for_one}
use Rattle.bz_engine.proofs.SealedRows.{read_rule, the_rule}

-- the kind that the spans of the arguments show is that of the statement
spanned_kind : (kind : List ℕ) (depth : ℕ) (found : Found) (s : Statement) → HasNotedSpans depth found s
    → ((depth : ℕ) (names : List (List ℕ)) (r : NamedRule) (stands : List (List ℕ)) (written : List ℕ) → IsSpannedIn depth names r stands found.chunk.chunk.now written found.spans.now → kind ≡ r.kind)
    → IsOfKind kind s
spanned_kind kind depth found s (first, names, has) told = subst (IsOfKind kind) (sym has.statement_is) (record {
  rule = the_rule has.rule;
  rule_is = read_rule has.rule;
  kind_is = append-nil has.rule.kind ∙ sym (told depth names has.rule has.stands found.chunk.written.now has.spanned);
})

-- it begins in its chunk
begins_in : (line depth : ℕ) (names : List (List ℕ)) (s : Statement) (chunk written : List ℕ) (spans : List _) → HasSpans line depth names s chunk written spans
    → (line ≤ s.start) × (s.start ≤ line + count_by (λ b. b == 10) chunk)
begins_in line depth names s chunk written spans has =
    let F : List ℕ = front_text has.rule.notes has.rule.kind in
    let rest : List ℕ = concat has.stands ++ has.spanned.back in
    let start : s.start ≡ line + count_by (λ b. b == 10) F = ap (λ (z : Statement). z.start) has.statement_is ∙ has.begins_on in
    let all : count_by (λ b. b == 10) chunk ≡ count_by (λ b. b == 10) F + count_by (λ b. b == 10) rest = ap (count_by (λ b. b == 10)) has.spanned.chunk_is ∙ sum_by-append (λ (b : ℕ). if b == 10 then 1 else 0) F rest in
    (omega (arith, start), omega (arith, start, all))

-- what is known of the rule of a chunk
pub rule_known : (known : KnownRule) (depth line : ℕ) (passes : Script) (found : Found) (s : Statement) → IsTrue found.chunk.noted → HasItsSpans depth passes found
    → option_map (λ name. name.now) found.chunk.name ≡ Some known.name.now
    → ((depth : ℕ) (names : List (List ℕ)) (r : NamedRule) (stands : List (List ℕ)) (written : List ℕ) → IsSpannedIn depth names r stands found.chunk.chunk.now written found.spans.now → known.kind.now ≡ r.kind)
    → known.first ≡ line → known.last ≡ line + count_by (λ b. b == 10) found.chunk.chunk.now → IsFoundOn depth line (unplaced found) s → IsKnownRule known s
rule_known known depth line passes found s noted its name kind first last on =
    let has = its.spans noted line s on.read in
    let of_kind = spanned_kind known.kind.now depth found s (on.is.spanned noted) kind in
    let lines = begins_in line depth _ s found.chunk.chunk.now found.chunk.written.now found.spans.now has in
    record {
      rule = of_kind.rule;
      rule_is = of_kind.rule_is;
      name_is = ap rule_name (sym of_kind.rule_is) ∙ on.is.named ∙ name;
      kind_is = of_kind.kind_is;
      first_is = let l = lines.0 in omega (arith, first, l);
      last_is = let l = lines.1 in omega (arith, last, l);
    }

line_unmarked : (first last start line : ℕ) → first ≤ start → start ≤ last → (nat_le first line && nat_le line last) ≡ false → (start == line) ≡ false
line_unmarked first last start line from to none = grind (arith, tests, from, to, none)

-- what may not mark it does not
pub known_unmarked : (known : KnownRule) (s : Statement) (target : Target) → IsKnownRule known s → may_mark_rule known target ≡ false → marks target s ≡ false
known_unmarked known s (Name name) is none = ap (map_or false (marks_rule (Name name) s.start)) is.rule_is ∙ ap (is_text name) is.name_is ∙ none
known_unmarked known s Pkg is none = ap (map_or false (marks_rule Pkg s.start)) is.rule_is ∙ ap (λ (kind : List ℕ). bytes_eq kind (codes "package")) is.kind_is ∙ none
known_unmarked known s All is none = absurd (false≢true (sym none))
known_unmarked known s (Kind kind) is none = ap (map_or false (marks_rule (Kind kind) s.start)) is.rule_is ∙ ap (λ (its : List ℕ). bytes_eq its kind) is.kind_is ∙ none
known_unmarked known s (Line line) is none = ap (map_or false (marks_rule (Line line) s.start)) is.rule_is ∙ line_unmarked known.first known.last s.start line is.first_is is.last_is none

-- what may mark it does, if it asks for no line
pub known_marked : (known : KnownRule) (s : Statement) (target : Target) → IsKnownRule known s → may_mark_rule known target ≡ true → ((line : ℕ) → target ≡ Line line → ⊥) → marks target s ≡ true
known_marked known s (Name name) is may other = ap (map_or false (marks_rule (Name name) s.start)) is.rule_is ∙ ap (is_text name) is.name_is ∙ may
known_marked known s Pkg is may other = ap (map_or false (marks_rule Pkg s.start)) is.rule_is ∙ ap (λ (kind : List ℕ). bytes_eq kind (codes "package")) is.kind_is ∙ may
known_marked known s All is may other = ap (map_or false (marks_rule All s.start)) is.rule_is
known_marked known s (Kind kind) is may other = ap (map_or false (marks_rule (Kind kind) s.start)) is.rule_is ∙ ap (λ (its : List ℕ). bytes_eq its kind) is.kind_is ∙ may
known_marked known s (Line line) is may other = absurd (other line refl)

-- no pass that may mark it
pub known_passed : (home : Package) (passes : Script) (known : KnownRule) (s : Statement) → IsKnownRule known s → IsFirstFrom (λ (pass : Pass Target Command). may_mark_rule known pass.target) passes 0 None
    → IsPassedBy (meaning home) (changes home) (fails_on home) passes (Some s)
known_passed home passes known s is none = unmarked_passed (meaning home) (changes home) (fails_on home) passes (Some s) (λ i d within. known_unmarked known s (get_or passes i d).target is (none i d (omega arith) within))

-- all but one pass do not mark it
pub others_unmarked : (passes : Script) (known : KnownRule) (s : Statement) (at : ℕ) → IsKnownRule known s → IsFirstFrom (λ (pass : Pass Target Command). may_mark_rule known pass.target) passes 0 (Some at)
    → IsFirstFrom (λ (pass : Pass Target Command). may_mark_rule known pass.target) passes (at + 1) None → (i : ℕ) (d : Pass Target Command) → i < length passes → i ≢ at → marks (get_or passes i d).target s ≡ false
others_unmarked passes known s at is first none i d within other = by (ltb i at) refl
  where
    by : (b : Bool) → ltb i at ≡ b → marks (get_or passes i d).target s ≡ false
    by true less = known_unmarked known s (get_or passes i d).target is (first.3 i d (omega arith) (ltb-true i at less))
    by false more = known_unmarked known s (get_or passes i d).target is (none i d (let from = ltb-false i at more in omega (arith, from, other)) within)

bytes_other : (xs ys : List ℕ) → bytes_eq xs ys ≡ false → bytes_eq ys xs ≡ false
bytes_other xs ys other = by (bytes_eq ys xs) refl
  where
    by : (b : Bool) → bytes_eq ys xs ≡ b → b ≡ false
    by true same = absurd (false≢true (sym other ∙ ap (bytes_eq xs) (same_bytes ys xs same) ∙ bytes_same xs))
    by false same = refl

-- a pass that asks for another name
pub key_unmarked : (known : KnownRule) (target : Target) → may_mark (Named known.name) (asked_by target) ≡ false → may_mark_rule known target ≡ false
key_unmarked known (Name name) other = bytes_other known.name.now name other
key_unmarked known Pkg other = absurd (false≢true (sym other))
key_unmarked known All other = absurd (false≢true (sym other))
key_unmarked known (Kind kind) other = absurd (false≢true (sym other))
key_unmarked known (Line line) other = absurd (false≢true (sym other))

-- the one pass that may mark it, and asks for no line
pub for_rule : (home : Package) (passes : Script) (known : KnownRule) (only : OnePass) (Is : Statement → Type 0) (at : ℕ) → ((s : Statement) → Is s → IsKnownRule known s)
    → IsFirstFrom (λ (pass : Pass Target Command). may_mark_rule known pass.target) passes 0 (Some at) → IsFirstFrom (λ (pass : Pass Target Command). may_mark_rule known pass.target) passes (at + 1) None
    → only.at ≡ at → one_pass only ≡ get_or passes only.at (one_pass only) → (only.at + 1 < length passes → only.last ≡ false) → ((line : ℕ) → only.target.now ≡ Line line → ⊥)
    → IsForOne home passes only Is
for_rule home passes known only Is at knows first none at_is is last other =
    let here : one_pass only ≡ get_or passes at (one_pass only) = is ∙ ap (λ n. get_or passes n (one_pass only)) at_is in
    let may : may_mark_rule known only.target.now ≡ true = ap (λ (p : Pass Target Command). may_mark_rule known p.target) here ∙ first.2 (one_pass only) in
    for_one home passes only Is (subst (λ n. n < length passes) (sym at_is) first.1) is last (λ s on. known_marked known s only.target.now (knows s on) may other)
    (λ s on i d within apart. others_unmarked passes known s at (knows s on) first none i d within (λ same. apart (same ∙ sym at_is)))

-- no later pass may
pub none_found : {X : Type 0} (test : X → Bool) (xs : List X) (from : ℕ) (found : Option ℕ) → is_some found ≡ false → IsFirstFrom test xs from found → IsFirstFrom test xs from None
none_found test xs from None none first = first
none_found test xs from (Some at) none first = absurd cc

pub none_at_end : {X : Type 0} (test : X → Bool) (xs : List X) (from : ℕ) → length xs ≤ from → IsFirstFrom test xs from None
none_at_end test xs from end i d later within = absurd (omega (arith, end, later, within))
