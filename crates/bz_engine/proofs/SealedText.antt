-- A rule of which arguments are sealed is written as the rule is.
use Rattle.std.proofs.Common.{◌≡◌, ◌≤◌, ◌<◌, ◌+◌, ◌⊎◌, ℕ, zero, suc, codes, List, [], ◌∷◌, ◌++◌, Bool, true, false, length, refl, sym, ap, ◌∙◌, arith, inl, inr}
use Rattle.std.specs.Prelude.{◌||◌, Option, bytes_eq, is_some, nat_le}
use Rattle.std.specs.List.{list_any}
use Rattle.std.proofs.lemmas.Bool.{and_parts, false≢true, or_cases}
use Rattle.std.proofs.lemmas.Bool.Decides.{nat_tests}
use Rattle.std.proofs.lemmas.List.{length-append}
use Rattle.bz_token.specs.Common.{is_empty, is_filled, map_or}
use Rattle.bz_tree.specs.Tree.{Segment, Statement, segs_of}
use Rattle.bz_layout.specs.Broken.{has_comment}
use Rattle.bz_layout.specs.Layout.{layout_text}
use Rattle.bz_layout.specs.Walked.{have_comments}
use Rattle.bz_attribute.specs.Lists.{parts}
use Rattle.bz_attribute.specs.Rules.{Rule, is_named, value}
use Rattle.bz_rule.specs.Sealed.{AreSealed, Covers, IsSealed, all_done, same, sealed}
use Rattle.bz_canonical.specs.Canonical.{argument_lines}
use Rattle.bz_canonical.proofs.ArgumentLines.{lines_append}
use Rattle.bz_canonical.proofs.SealedLines.{StayOnLines, comments_stay, rules_same, rules_written_same, two_stay}
use Rattle.bz_engine.specs.private.Sealed.{HasLinesOf, has_plain_name, is_plain_name}
use Rattle.bz_engine.proofs.CanonicalChunks.{same_bytes}

same_lines : (asks : Segment → Bool) (count : ℕ) (args others : List Segment) → AreSealed HasLinesOf asks count args others → argument_lines args ≡ argument_lines others
same_lines asks _ _ _ all_done = refl
same_lines asks _ _ _ (same {args} {others} a rest) = lines_append (a ∷ []) args ∙ ap (λ (t : List ℕ). argument_lines (a ∷ []) ++ t) (same_lines asks _ _ _ rest) ∙ sym (lines_append (a ∷ []) others)
same_lines asks _ _ _ (sealed {args} {others} {run} {a} {t} stands rest) =
    let both = and_parts (bytes_eq (argument_lines (a ∷ run)) (argument_lines (t ∷ []))) (nat_le (length (a ∷ run)) 1 || has_comment t) stands.alike in
    let lines : argument_lines (a ∷ run) ≡ argument_lines (t ∷ []) = same_bytes _ _ both.0 in
    lines_append (a ∷ run) args ∙ ap (λ (t : List ℕ). t ++ argument_lines args) lines ∙ ap (λ (more : List ℕ). argument_lines (t ∷ []) ++ more) (same_lines asks _ _ _ rest) ∙ sym (lines_append (t ∷ []) others)

so_many : (asks : Segment → Bool) (count : ℕ) (args others : List Segment) → AreSealed HasLinesOf asks count args others → count ≤ length args
so_many asks _ _ _ all_done = omega arith
so_many asks _ _ _ (same a rest) = let k = so_many asks _ _ _ rest in omega (arith, k)
so_many asks _ _ _ (sealed {args} {run} stands rest) = let k = so_many asks _ _ _ rest in omega (arith, k, length-append run args)

-- a comment of the first, or of those after it
here : (above beside more : Bool) → (above || beside) ≡ true → (above || beside || more) ≡ true
here true beside more is = refl
here false true more is = refl
here false false more is = absurd (false≢true is)

later : (above beside more : Bool) → more ≡ true → (above || beside || more) ≡ true
later true beside more is = refl
later false true more is = refl
later false false more is = is

-- what is sealed has a comment, or stands alone for each of so many
kept_on_lines : (asks : Segment → Bool) (count : ℕ) (args others : List Segment) → AreSealed HasLinesOf asks count args others → (have_comments (segs_of others) ≡ true) ⊎ (count ≤ length others)
kept_on_lines asks _ _ _ all_done = inr (omega arith)
kept_on_lines asks _ _ _ (same {others} a rest) =
    elim (kept_on_lines asks _ _ _ rest) [
      | inl are ↦ inl (later (is_filled a.before) (is_some a.suffix) (have_comments (segs_of others)) are)
      | inr many ↦ inr (omega (arith, many))
    ]
kept_on_lines asks _ _ _ (sealed {count} {args} {others} {run} {a} {t} stands rest) =
    by (kept_on_lines asks _ _ _ rest) (nat_le (length (a ∷ run)) 1) refl (and_parts (bytes_eq (argument_lines (a ∷ run)) (argument_lines (t ∷ []))) (nat_le (length (a ∷ run)) 1 || has_comment t) stands.alike).1
  where
    by : (have_comments (segs_of others) ≡ true) ⊎ (count ≤ length others) → (few : Bool) → nat_le (length (a ∷ run)) 1 ≡ few → (few || has_comment t) ≡ true → (have_comments (segs_of (t ∷ others)) ≡ true) ⊎ (suc (length run + count) ≤ length (t ∷ others))
    by after true few is =
        let none : length run < 1 = grind (arith, nat_tests, few) in
        elim after [
          | inl are ↦ inl (later (is_filled t.before) (is_some t.suffix) (have_comments (segs_of others)) are)
          | inr many ↦ inr (omega (arith, many, none))
        ]
    by after false few is = inl (here (is_filled t.before) (is_some t.suffix) (have_comments (segs_of others)) is)

none_sealed : (asks : Segment → Bool) (count : ℕ) (args others : List Segment) → count ≡ 0 → AreSealed HasLinesOf asks count args others → args ≡ others
none_sealed asks _ _ _ none all_done = refl
none_sealed asks _ _ _ none (same a rest) = ap (λ (xs : List Segment). a ∷ xs) (none_sealed asks _ _ _ none rest)
none_sealed asks _ _ _ none (sealed stands rest) = absurd (omega (arith, none))

pub sealed_written : (asks : Segment → Bool) (count : ℕ) (s t : Statement) → IsSealed HasLinesOf asks count s t → 2 ≤ count → layout_text s ≡ layout_text t
sealed_written asks count s t is two =
    let many : count ≤ length is.rule.args = so_many asks count is.rule.args is.args is.are_sealed in
    let stay : StayOnLines is.args =
    elim (kept_on_lines asks count is.rule.args is.args is.are_sealed) [ inl are ↦ comments_stay is.args are | inr enough ↦ two_stay is.args (omega (arith, enough, two)) ] in
    rules_written_same s t is.rule is.args is.read is.read_sealed is.rest (same_lines asks count is.rule.args is.args is.are_sealed) (two_stay is.rule.args (omega (arith, many, two))) stay

pub unsealed_same : (asks : Segment → Bool) (s t : Statement) → IsSealed HasLinesOf asks 0 s t → s ≡ t
unsealed_same asks s t is = rules_same s t is.rule is.args is.read is.read_sealed is.rest (none_sealed asks 0 is.rule.args is.args refl is.are_sealed)

-- one alone, beside a name that stays

some_there : (asks : Segment → Bool) (count : ℕ) (args others : List Segment) → AreSealed HasLinesOf asks count args others → 0 < count → 0 < length others
some_there asks _ _ _ all_done some = absurd (omega (arith, some))
some_there asks _ _ _ (same a rest) some = omega arith
some_there asks _ _ _ (sealed stands rest) some = omega arith

none_alone : (asks : Segment → Bool) (count : ℕ) (args others : List Segment) → AreSealed HasLinesOf asks count args others → 0 < length others → 0 < length args
none_alone asks _ _ _ all_done some = absurd (omega (arith, some))
none_alone asks _ _ _ (same a rest) some = omega arith
none_alone asks _ _ _ (sealed stands rest) some = omega arith

any_there : (q : Segment → Bool) (xs : List Segment) → list_any q xs ≡ true → 0 < length xs
any_there q [] is = absurd (false≢true is)
any_there q (x ∷ xs) is = omega arith

two_there : (asks : Segment → Bool) → Covers asks (is_named (codes "name")) → (count : ℕ) (args others : List Segment) → AreSealed HasLinesOf asks count args others → 0 < count → list_any is_plain_name others ≡ true
    → (2 ≤ length args) × (2 ≤ length others)
two_there asks seen _ _ _ all_done some named = absurd (omega (arith, some))
two_there asks seen _ _ _ (same {count} {args} {others} a rest) some named = elim (or_cases (is_plain_name a) (list_any is_plain_name others) named) [
  | inl here ↦
      let there = some_there asks count args others rest some in
      let beside = none_alone asks count args others rest there in
      (omega (arith, beside), omega (arith, there))
  | inr later ↦ let two = two_there asks seen count args others rest some later in (omega (arith, two.0), omega (arith, two.1))
]
two_there asks seen _ _ _ (sealed {count} {args} {others} {run} {a} {t} stands rest) some named = elim (or_cases (is_plain_name t) (list_any is_plain_name others) named) [
  | inl here ↦ absurd (false≢true (sym (seen t stands.unnamed) ∙ (and_parts (is_named (codes "name") t) (is_empty (parts (value t))) here).0))
  | inr later ↦
      let there = any_there is_plain_name others later in
      let beside = none_alone asks count args others rest there in
      (omega (arith, beside, length-append run args), omega (arith, there))
]

pub named_written : (asks : Segment → Bool) → Covers asks (is_named (codes "name")) → (count : ℕ) (s t : Statement) → IsSealed HasLinesOf asks count s t → has_plain_name t ≡ true → layout_text s ≡ layout_text t
named_written asks seen zero s t is named = ap layout_text (unsealed_same asks s t is)
named_written asks seen (suc n) s t is named =
    let here : list_any is_plain_name is.args ≡ true = sym (ap (λ (o : Option Rule). map_or false (λ r. list_any is_plain_name r.args) o) is.read_sealed) ∙ named in
    let two = two_there asks seen (suc n) is.rule.args is.args is.are_sealed (omega arith) here in
    rules_written_same s t is.rule is.args is.read is.read_sealed is.rest (same_lines asks (suc n) is.rule.args is.args is.are_sealed) (two_stay is.rule.args two.0) (two_stay is.args two.1)
