-- The place of an argument, by the spans of all arguments of a rule.
use Rattle.std.proofs.Common.{◌≡◌, ◌≤◌, ◌==◌, ℕ, suc, ◌+◌, List, [], ◌∷◌, ◌++◌, Bool, true, false, ◌||◌, cond, count_by, filter, length, take, drop, refl, sym, ap, ◌∙◌, arith, append_assoc, append-nil, subst, bytes_eq}
use Rattle.std.proofs.Math.Seq.{take-append_seam, drop-append_seam}
use Rattle.std.proofs.lemmas.Bool.{false≢true}
use Rattle.std.proofs.lemmas.Bool.Decides.{nat_tests}
use Rattle.std.proofs.lemmas.Iterator.Adapters.{position_from-zero}
use Rattle.std.proofs.lemmas.List.{length-append}
use Rattle.std.proofs.lemmas.List.Sums.{length-filter}
use Rattle.std.specs.List.{concat, position, position_from}
use Rattle.std.specs.Prelude.{codes, nat_le, Option, Some, None, if◌then◌else◌, option_to_list, unwrap_or}
use Rattle.bz_token.proofs.Classes.{same_bytes}
use Rattle.bz_token.specs.Common.{is_empty, is_filled, map_or}
use Rattle.bz_token.specs.declared.token.Kind.TheVariants.{Operator}
use Rattle.bz_tree.specs.declared.tree.GroupKind.TheVariants.{RuleCall}
use Rattle.bz_tree.specs.Tree.{Segs, Segment, Statement, group, segments, segs_of}
use Rattle.bz_layout.specs.declared.broken.Style.TheVariants.{Broken}
use Rattle.bz_layout.specs.declared.spacing.Gap.TheVariants.{Closed, Line}
use Rattle.bz_layout.specs.Layout.{breaks}
use Rattle.bz_layout.specs.Pieces.{Piece, piece, bytes_of, comment_lines, comments, suffix_piece}
use Rattle.bz_layout.specs.Walked.{broken_segs, count, have_comments, is_broken, item_pieces, segs_hold}
use Rattle.bz_layout.proofs.Pieces.{bytes_append}
use Rattle.bz_layout.proofs.SameLayout.{layout_text_is}
use Rattle.bz_layout_laws.specs.TextsOfKinds.{SegsHaveTexts}
use Rattle.bz_attribute.specs.Effects.{edit_first, has, with_args}
use Rattle.bz_attribute.specs.RowPlaces.{IsLocal}
use Rattle.bz_attribute.specs.Rules.{first_named, is_named, is_text as is_text_of, name_of}
use Rattle.bz_attribute.proofs.Views.{segments_of}
use Rattle.bz_canonical.specs.Canonical.{AreReadAlone, Between, HasOnce, HasPlace, argument_lines, first_args}
use Rattle.bz_canonical.specs.SealedRules.{between}
use Rattle.bz_canonical.specs.Spans.{AreSpans, HasSpans, IsSpannedIn, NamedRule, back_text, front_text, kept, name_argument, statement_of}
use Rattle.bz_canonical.specs.declared.spans.ArgumentSpan.{ArgumentSpan}
use Rattle.bz_canonical.specs.private.Places.{alone, no_lines, span_named}
use Rattle.bz_canonical.proofs.ArgumentLines.{counted, lines_append}
use Rattle.bz_canonical.proofs.CutTexts.{cut_at}
use Rattle.bz_canonical.proofs.ReadRules.{with_group}
use Rattle.bz_canonical.proofs.SingleStrings.{bytes_same}

none_has : (attr : List ℕ) (args : List Segment) → first_named attr args ≡ None → has attr args ≡ false
none_has attr [] is = refl
none_has attr (a ∷ args) is = by (is_named attr a) (none_has attr args) is
  where
    by : (b : Bool) → (first_named attr args ≡ None → has attr args ≡ false) → (if b then Some a else first_named attr args) ≡ None → (b || has attr args) ≡ false
    by true others is = absurd cc
    by false others is = others is

-- an edit that looks at the first argument of a name leaves one of another name
local_past : (attr : List ℕ) (f : List Segment → List Segment) → IsLocal attr f → (n : Segment) → is_named attr n ≡ false → (args : List Segment) → f (n ∷ args) ≡ n ∷ f args
local_past attr f local n other args = by (first_named attr args) refl
  where
    by : (o : Option Segment) → first_named attr args ≡ o → f (n ∷ args) ≡ n ∷ f args
    by None is =
        let none : has attr args ≡ false = none_has attr args is in
        local.absent (n ∷ args) (ap (λ b. b || has attr args) other ∙ none) ∙ ap (λ (xs : List Segment). n ∷ xs) (sym (local.absent args none))
    by (Some a) is =
        local.there (n ∷ args) a (ap (λ b. if b then Some n else first_named attr args) other ∙ is)
        ∙ ap (λ b. if b then f (a ∷ []) ++ args else n ∷ edit_first (is_named attr) (λ x. f (a ∷ [])) args) other
        ∙ ap (λ (xs : List Segment). n ∷ xs) (sym (local.there args a is))

some_counted : (xs : List Segment) → is_empty xs ≡ false → 1 ≤ count (segs_of xs)
some_counted [] is = absurd (false≢true (sym is))
some_counted (x ∷ xs) is = omega arith

pub some_or : (e c t x : Bool) → t ≡ true → (e || c || t || x) ≡ true
some_or true c t x is = refl
some_or false true t x is = refl
some_or false false t x is = rw is refl

-- the first of the names that an argument has

told : {A : Type 0} (x : A) → (let r : Option A = None in r) ≡ Some x → ⊥
told x is = cc

-- it is not before the first
from_first : {X : Type 0} (p : X → Bool) (k i : ℕ) (xs : List X) → position_from p k xs ≡ Some i → k ≤ i
from_first p k i [] at = absurd (told i at)
from_first p k i (x ∷ xs) at = by (p x) (from_first p (k + 1) i xs) at
  where
    by : (b : Bool) → (position_from p (k + 1) xs ≡ Some i → k + 1 ≤ i) → (if b then Some k else position_from p (k + 1) xs) ≡ Some i → k ≤ i
    by true later at = omega (arith, ap (λ (o : Option ℕ). unwrap_or o 0) at)
    by false later at = omega (arith, later at)

-- what has one first name is one
both_at : (names : List (List ℕ)) (a b : List ℕ) (k i : ℕ) → position_from (λ name. bytes_eq name a) k names ≡ Some i → position_from (λ name. bytes_eq name b) k names ≡ Some i → a ≡ b
both_at [] a b k i one two = absurd (told i one)
both_at (n ∷ ns) a b k i one two = by (both_at ns a b (k + 1) i) (bytes_eq n a) refl (bytes_eq n b) refl one two
  where
    by : (position_from (λ name. bytes_eq name a) (k + 1) ns ≡ Some i → position_from (λ name. bytes_eq name b) (k + 1) ns ≡ Some i → a ≡ b) → (x : Bool) → bytes_eq n a ≡ x → (y : Bool) → bytes_eq n b ≡ y → (if x then Some k else position_from (λ name. bytes_eq name a) (k + 1) ns) ≡ Some i
        → (if y then Some k else position_from (λ name. bytes_eq name b) (k + 1) ns) ≡ Some i → a ≡ b
    by later true is_a true is_b one two = sym (same_bytes n a is_a) ∙ same_bytes n b is_b
    by later true is_a false is_b one two = absurd (omega (arith, ap (λ (o : Option ℕ). unwrap_or o 0) one, from_first (λ name. bytes_eq name b) (k + 1) i ns two))
    by later false is_a true is_b one two = absurd (omega (arith, ap (λ (o : Option ℕ). unwrap_or o 0) two, from_first (λ name. bytes_eq name a) (k + 1) i ns one))
    by later false is_a false is_b one two = later one two

nowhere : (k : ℕ) (names : List (List ℕ)) → position_from (λ (name : List ℕ). false) k names ≡ None
nowhere k [] = refl
nowhere k (n ∷ ns) = nowhere (k + 1) ns

same_number : (n : ℕ) → (n == n) ≡ true
same_number n = grind (arith, nat_tests)

equal_numbers : (m n : ℕ) → (m == n) ≡ true → m ≡ n
equal_numbers m n is = grind (arith, nat_tests, is)

abbrev is_at : ℕ → Option ℕ → Bool
is_at i index = map_or false (λ index. index == i) index

-- an argument has a name exactly if that is the first name that it has
named_at : (names : List (List ℕ)) (attr : List ℕ) (i : ℕ) (a : Segment) → position (λ name. bytes_eq name attr) names ≡ Some i
    → is_at i (position (λ name. is_named name a) names) ≡ is_named attr a
named_at names attr i a at = by (name_of a.nodes)
  where
    attr_at : position_from (λ name. bytes_eq name attr) 0 names ≡ Some i
    attr_at = sym (position_from-zero (λ name. bytes_eq name attr) names) ∙ at

    each : (word : List ℕ) (b : Bool) → bytes_eq attr word ≡ b → is_at i (position_from (λ name. bytes_eq name word) 0 names) ≡ b
    each word true is = ap (λ (w : List ℕ). is_at i (position_from (λ name. bytes_eq name w) 0 names)) (sym (same_bytes attr word is)) ∙ ap (is_at i) attr_at ∙ same_number i
    each word false is = other (position_from (λ name. bytes_eq name word) 0 names) refl
      where
        other : (o : Option ℕ) → position_from (λ name. bytes_eq name word) 0 names ≡ o → is_at i o ≡ false
        other None found = refl
        other (Some j) found = equal (j == i) refl
          where
            equal : (b : Bool) → (j == i) ≡ b → b ≡ false
            equal false differ = refl
            equal true same =
                let word_is : attr ≡ word = both_at names attr word 0 i attr_at (found ∙ ap Some (equal_numbers j i same)) in
                absurd (false≢true (sym is ∙ ap (bytes_eq attr) (sym word_is) ∙ bytes_same attr))

    by : (o : Option (List ℕ)) → is_at i (position (λ name. is_text_of name o) names) ≡ is_text_of attr o
    by None = ap (is_at i) (position_from-zero (λ (name : List ℕ). false) names ∙ nowhere 0 names)
    by (Some word) = ap (is_at i) (position_from-zero (λ name. bytes_eq name word) names) ∙ each word (bytes_eq attr word) refl

-- as many spans have a name as arguments
as_many : (names : List (List ℕ)) (attr : List ℕ) (i : ℕ) → position (λ name. bytes_eq name attr) names ≡ Some i
    → (from start : ℕ) (args : List Segment) (stands : List (List ℕ)) (spans : List ArgumentSpan) → AreSpans names from start args stands spans
    → length (filter (λ (span : ArgumentSpan). is_at i span.named) spans) ≡ length (filter (is_named attr) args)
as_many names attr i at from start [] [] [] are = refl
as_many names attr i at from start [] [] (s ∷ ss) are = absurd are
as_many names attr i at from start [] (l ∷ ls) ss are = absurd are
as_many names attr i at from start (a ∷ args) [] ss are = absurd are
as_many names attr i at from start (a ∷ args) (l ∷ ls) [] are = absurd are
as_many names attr i at from start (a ∷ args) (l ∷ ls) (s ∷ ss) are =
    let same : is_at i s.named ≡ is_named attr a = ap (is_at i) are.0.named ∙ named_at names attr i a at in
    ap (λ (b : Bool). length (cond b (s ∷ found) found)) same ∙ by (is_named attr a) (as_many names attr i at s.to s.end args ls ss are.1)
  where
    found : List ArgumentSpan
    found = filter (λ (span : ArgumentSpan). is_at i span.named) ss

    named : List Segment
    named = filter (is_named attr) args

    by : (b : Bool) → length found ≡ length named → length (cond b (s ∷ found) found) ≡ length (cond b (a ∷ named) named)
    by true same = ap suc same
    by false same = same

pub has_once : (first depth : ℕ) (names : List (List ℕ)) (attr : List ℕ) (i : ℕ) (s : Statement) (chunk written : List ℕ) (spans : List ArgumentSpan) → position (λ name. bytes_eq name attr) names ≡ Some i
    → count_by (λ (span : ArgumentSpan). is_at i span.named) spans ≤ 1 → HasSpans first depth names s chunk written spans → HasOnce attr s
has_once first depth names attr i s chunk written spans at few has =
    let front : ℕ = length (front_text has.rule.notes has.rule.kind) in
    let args : List Segment = name_argument has.rule.name ∷ has.rule.args in
    let many = as_many names attr i at front front args has.stands spans has.spanned.spanned.are in
    let counted_is = length-filter (λ (span : ArgumentSpan). is_at i span.named) spans in
    let once : length (filter (is_named attr) args) ≤ 1 = omega (arith, few, many, counted_is) in
    subst (λ (z : Statement). HasOnce attr z) (sym has.statement_is) (subst (λ xs. length (filter (is_named attr) xs) ≤ 1) (sym (segments_of args)) once)

-- The first argument of a name, or none, has this span among others, and is all that is kept of them.
record IsPlaceAt (attr : List ℕ) (from start : ℕ) (args : List Segment) (stands : List (List ℕ)) (span : ArgumentSpan) : Type 0 where
  before : List Segment
  one : List Segment
  after : List Segment
  all : args ≡ before ++ (one ++ after)
  alone_is : alone attr args ≡ one
  splits : (f : List Segment → List Segment) → IsLocal attr f → f args ≡ before ++ (f one ++ after)
  keep : List Bool
  one_is : kept keep args ≡ one
  stood : List ℕ
  rest : List ℕ
  stands_are : concat stands ≡ stood ++ (concat (kept keep stands) ++ rest)
  none : is_empty (concat (kept keep stands)) ≡ is_empty one
  from_is : span.from ≡ from + length stood
  to_is : span.to ≡ span.from + length (concat (kept keep stands))
  start_is : span.start ≡ start + length (argument_lines before)
  end_is : span.end ≡ span.start + length (argument_lines one)

place_at : (names : List (List ℕ)) (attr : List ℕ) (i : ℕ) → position (λ name. bytes_eq name attr) names ≡ Some i
    → (from start : ℕ) (args : List Segment) (stands : List (List ℕ)) (spans : List ArgumentSpan) → AreSpans names from start args stands spans → IsPlaceAt attr from start args stands (span_named i (no_lines from start) spans)
place_at names attr i at from start [] [] [] are = record {
  before = [];
  one = [];
  after = [];
  all = refl;
  alone_is = refl;
  splits = λ f local. sym (append-nil (f []));
  keep = [];
  one_is = refl;
  stood = [];
  rest = [];
  stands_are = refl;
  none = refl;
  from_is = omega arith;
  to_is = omega arith;
  start_is = omega arith;
  end_is = omega arith;
}
place_at names attr i at from start [] [] (s ∷ ss) are = absurd are
place_at names attr i at from start [] (l ∷ ls) ss are = absurd are
place_at names attr i at from start (a ∷ args) [] ss are = absurd are
place_at names attr i at from start (a ∷ args) (l ∷ ls) [] are = absurd are
place_at names attr i at from start (a ∷ args) (l ∷ ls) (s ∷ ss) are = by (place_at names attr i at s.to s.end args ls ss are.1) (is_at i s.named) (ap (is_at i) are.0.named ∙ named_at names attr i a at)
  where
    by : IsPlaceAt attr s.to s.end args ls (span_named i (no_lines s.to s.end) ss) → (b : Bool) → b ≡ is_named attr a → IsPlaceAt attr from start (a ∷ args) (l ∷ ls) (if b then s else span_named i (no_lines s.to s.end) ss)
    by r true is = record {
      before = [];
      one = a ∷ [];
      after = args;
      all = refl;
      alone_is = ap (λ b. option_to_list (if b then Some a else first_named attr args)) (sym is);
      splits = λ f local. local.there (a ∷ args) a (ap (λ b. if b then Some a else first_named attr args) (sym is))
          ∙ ap (λ b. if b then f (a ∷ []) ++ args else a ∷ edit_first (is_named attr) (λ x. f (a ∷ [])) args) (sym is);
      keep = true ∷ [];
      one_is = refl;
      stood = [];
      rest = concat ls;
      stands_are = ap (λ (t : List ℕ). t ++ concat ls) (sym (append-nil l));
      none = ap is_empty (append-nil l) ∙ are.0.some;
      from_is = omega (arith, are.0.from_is);
      to_is = omega (arith, are.0.to_is, are.0.from_is, ap length (append-nil l));
      start_is = omega (arith, are.0.start_is);
      end_is = omega (arith, are.0.end_is, are.0.start_is);
    }
    by r false is = record {
      before = a ∷ r.before;
      one = r.one;
      after = r.after;
      all = ap (λ (xs : List Segment). a ∷ xs) r.all;
      alone_is = ap (λ b. option_to_list (if b then Some a else first_named attr args)) (sym is) ∙ r.alone_is;
      splits = λ f local. local_past attr f local a (sym is) args ∙ ap (λ (xs : List Segment). a ∷ xs) (r.splits f local);
      keep = false ∷ r.keep;
      one_is = r.one_is;
      stood = l ++ r.stood;
      rest = r.rest;
      stands_are = ap (λ (t : List ℕ). l ++ t) r.stands_are ∙ sym (append_assoc l r.stood (concat (kept r.keep ls) ++ r.rest));
      none = r.none;
      from_is = omega (arith, r.from_is, are.0.to_is, length-append l r.stood);
      to_is = r.to_is;
      start_is = omega (arith, r.start_is, are.0.end_is, ap length (lines_append (a ∷ []) r.before), length-append (argument_lines (a ∷ [])) (argument_lines r.before));
      end_is = r.end_is;
    }

-- how many

spans_count : (names : List (List ℕ)) (from start : ℕ) (args : List Segment) (stands : List (List ℕ)) (spans : List ArgumentSpan) → AreSpans names from start args stands spans → length spans ≡ count (segs_of args)
spans_count names from start [] [] [] are = refl
spans_count names from start [] [] (s ∷ ss) are = absurd are
spans_count names from start [] (l ∷ ls) ss are = absurd are
spans_count names from start (a ∷ args) [] ss are = absurd are
spans_count names from start (a ∷ args) (l ∷ ls) [] are = absurd are
spans_count names from start (a ∷ args) (l ∷ ls) (s ∷ ss) are = ap suc (spans_count names s.to s.end args ls ss are.1)

one_at_most : (o : Option Segment) → count (segs_of (option_to_list o)) ≤ 1
one_at_most None = omega arith
one_at_most (Some a) = omega arith

two : (n : ℕ) → 2 ≤ n → nat_le 2 n ≡ true
two n many = grind (arith, nat_tests, many)

texts_of_kept : (keep : List Bool) (args : List Segment) → SegsHaveTexts (segs_of args) → SegsHaveTexts (segs_of (kept keep args))
texts_of_kept [] args texts = tt
texts_of_kept (b ∷ keep) [] texts = tt
texts_of_kept (true ∷ keep) (a ∷ args) texts = (texts.0, texts.1, texts.2, texts.3, texts_of_kept keep args texts.4)
texts_of_kept (false ∷ keep) (a ∷ args) texts = texts_of_kept keep args texts.4

-- at least two are left, where one becomes others, or goes beside two
two_left : (before one after new : List Segment) (n : ℕ) (may_go : Bool) → count (segs_of one) ≤ 1 → 2 ≤ n → n ≡ count (segs_of (before ++ (one ++ after))) → (may_go ≡ true → 3 ≤ n) → (is_empty new ≡ true → may_go ≡ true)
    → 2 ≤ count (segs_of (before ++ (new ++ after)))
two_left before one after [] n may_go few many is three goes = omega (arith, three (goes refl), is, few, counted before (one ++ after), counted one after, counted before after)
two_left before one after (x ∷ xs) n may_go few many is three goes =
    omega (arith, many, is, few, some_counted (x ∷ xs) refl, counted before (one ++ after), counted one after, counted before ((x ∷ xs) ++ after), counted (x ∷ xs) after)

-- a call of several arguments, on lines
call_lines : (before new after : List Segment) (end : List (List ℕ)) → nat_le 2 (count (segs_of (before ++ (new ++ after)))) ≡ true
    → bytes_of (item_pieces Broken 0 Closed (group RuleCall (segs_of (before ++ (new ++ after))) false end))
    ≡ (40 ∷ argument_lines before) ++ (argument_lines new ++ (argument_lines after ++ (bytes_of (comments 1 end) ++ 10 ∷ 41 ∷ [])))
call_lines before new after end many =
    let all : List Segment = before ++ (new ++ after) in
    whole (segs_of all) (is_broken RuleCall (segs_of all) end (segs_hold (segs_of all))) (some_or (is_filled end) (have_comments (segs_of all)) (nat_le 2 (count (segs_of all))) _ many) _
    (lines_append before (new ++ after) ∙ ap (λ (t : List ℕ). argument_lines before ++ t) (lines_append new after))
  where
    whole : (ss : Segs) (b : Bool) → b ≡ true → (A : List Piece) → bytes_of (broken_segs Broken 1 RuleCall true ss) ≡ argument_lines before ++ (argument_lines new ++ argument_lines after)
        → 40 ∷ bytes_of (if breaks Broken b then broken_segs Broken 1 RuleCall true ss ++ (comments 1 end ++ piece (Line 0) Operator (codes ")") ∷ []) else A)
        ≡ (40 ∷ argument_lines before) ++ (argument_lines new ++ (argument_lines after ++ (bytes_of (comments 1 end) ++ 10 ∷ 41 ∷ [])))
    whole ss b on A same =
        rw (on, bytes_append (broken_segs Broken 1 RuleCall true ss) (comments 1 end ++ piece (Line 0) Operator (codes ")") ∷ []), bytes_append (comments 1 end) (piece (Line 0) Operator (codes ")") ∷ []), same) (simp append_assoc)

-- the place that a span of the rule tells
abbrev place_by : ArgumentSpan → Bool → List ℕ → List ℕ → Between
place_by span may_go chunk written = record { before = take span.start written; lines = between span.from span.to chunk; after = drop span.end written; may_go = may_go }

named_place : (depth : ℕ) (names : List (List ℕ)) (attr : List ℕ) (i : ℕ) (r : NamedRule) (stands : List (List ℕ)) (chunk written : List ℕ) (spans : List ArgumentSpan) (may_go : Bool) → position (λ name. bytes_eq name attr) names ≡ Some i → 2 ≤ length spans → (may_go ≡ true → 3 ≤ length spans)
    → IsSpannedIn depth names r stands chunk written spans → SegsHaveTexts (segs_of (name_argument r.name ∷ r.args))
    → HasPlace depth attr (statement_of r) (place_by (span_named i (no_lines (length (front_text r.notes r.kind)) (length (front_text r.notes r.kind))) spans) may_go chunk written)
named_place depth names attr i r stands chunk written spans may_go at many three is texts =
    let F : List ℕ = front_text r.notes r.kind in
    let args : List Segment = name_argument r.name ∷ r.args in
    let p = place_at names attr i at (length F) (length F) args stands spans is.spanned.are in
    let span : ArgumentSpan = span_named i (no_lines (length F) (length F)) spans in
    let lines : List ℕ = concat (kept p.keep stands) in
    let before : List ℕ = argument_lines p.before in
    let one : List ℕ = argument_lines p.one in
    let after : List ℕ = argument_lines p.after in
    let back : List ℕ = back_text r.end r.suffix in
    let first_is : first_args attr (statement_of r) ≡ p.one = ap (λ xs. alone attr xs) (segments_of args) ∙ p.alone_is in
    let stood : chunk ≡ (F ++ p.stood) ++ (lines ++ (p.rest ++ is.back)) = is.chunk_is ∙ ap (λ (t : List ℕ). F ++ (t ++ is.back)) p.stands_are ∙ joined F p.stood lines p.rest is.back in
    let all_lines : argument_lines args ≡ before ++ (one ++ after) = ap argument_lines p.all ∙ lines_append p.before (p.one ++ p.after) ∙ ap (λ (t : List ℕ). before ++ t) (lines_append p.one p.after) in
    let wrote : written ≡ (F ++ before) ++ (one ++ (after ++ back)) = is.spanned.written_is ∙ ap (λ (t : List ℕ). F ++ (t ++ back)) all_lines ∙ joined F before one after back in
    let lines_are : between span.from span.to chunk ≡ lines = cut_at (F ++ p.stood) lines (p.rest ++ is.back) chunk span.from span.to stood (omega (arith, p.from_is, length-append F p.stood)) p.to_is in
    let start_is : span.start ≡ length (F ++ before) = omega (arith, p.start_is, length-append F before) in
    let end_is : span.end ≡ length ((F ++ before) ++ one) = omega (arith, p.end_is, start_is, length-append (F ++ before) one) in
    let before_is : take span.start written ≡ F ++ before = (λ j. take (start_is j) (wrote j)) ∙ take-append_seam (F ++ before) (one ++ (after ++ back)) in
    let after_is : drop span.end written ≡ after ++ back = (λ j. drop (end_is j) ((wrote ∙ sym (append_assoc (F ++ before) one (after ++ back))) j)) ∙ drop-append_seam ((F ++ before) ++ one) (after ++ back) in
    record {
      rule = _;
      rule_is = refl;
      none = ap is_empty lines_are ∙ p.none ∙ ap is_empty (sym first_is);
      reads = subst (λ (t : List ℕ). AreReadAlone depth t (first_args attr (statement_of r))) (sym lines_are) (subst (AreReadAlone depth lines) (p.one_is ∙ sym first_is) (is.reads p.keep));
      texts = subst (λ xs. SegsHaveTexts (segs_of xs)) (p.one_is ∙ sym first_is) (texts_of_kept p.keep args texts);
      takes = λ f local goes.
          let new : List Segment = f p.one in
          let all_is : f (segments (segs_of args)) ≡ p.before ++ (new ++ p.after) = ap f (segments_of args) ∙ p.splits f local in
          let few : count (segs_of p.one) ≤ 1 = subst (λ xs. count (segs_of xs) ≤ 1) p.alone_is (one_at_most (first_named attr args)) in
          let others : 2 ≤ count (segs_of (p.before ++ (new ++ p.after))) =
          two_left p.before p.one p.after new (length spans) may_go few many (spans_count names (length F) (length F) args stands spans is.spanned.are ∙ ap (λ xs. count (segs_of xs)) p.all) three
          (λ none. goes (ap (λ xs. is_empty (f xs)) first_is ∙ none)) in
          layout_text_is (with_args f (statement_of r))
          ∙ with_group (comment_lines r.notes) (item_pieces Broken 0 Closed (group RuleCall (segs_of (f (segments (segs_of args)))) false r.end)) (suffix_piece r.suffix) r.kind _
          (ap (λ xs. bytes_of (item_pieces Broken 0 Closed (group RuleCall (segs_of xs) false r.end))) all_is ∙ call_lines p.before new p.after r.end (two _ others))
          ∙ shown (bytes_of (comment_lines r.notes)) before (argument_lines new) after (bytes_of (comments 1 r.end)) (bytes_of (suffix_piece r.suffix))
          ∙ ap (λ xs. (F ++ before) ++ (argument_lines (f xs) ++ (after ++ back))) (sym first_is)
          ∙ (λ j. sym before_is j ++ (argument_lines (f (first_args attr (statement_of r))) ++ sym after_is j));
    }
  where
    joined : (F x y z back : List ℕ) → F ++ ((x ++ (y ++ z)) ++ back) ≡ (F ++ x) ++ (y ++ (z ++ back))
    joined F x y z back = simp append_assoc

    shown : (N before new after ends S : List ℕ) → N ++ (r.kind ++ (((40 ∷ before) ++ (new ++ (after ++ (ends ++ 10 ∷ 41 ∷ [])))) ++ (S ++ 10 ∷ [])))
        ≡ ((N ++ (r.kind ++ 40 ∷ [])) ++ before) ++ (new ++ (after ++ (ends ++ (10 ∷ 41 ∷ (S ++ 10 ∷ [])))))
    shown N before new after ends S = simp append_assoc

-- the span is the same, whatever stands for none
same_span : (i : ℕ) (x y : ArgumentSpan) (spans : List ArgumentSpan) → 2 ≤ length spans → span_named i x spans ≡ span_named i y spans
same_span i x y [] many = absurd (omega (arith, many))
same_span i x y (s ∷ ss) many = refl

pub spans_place : (first depth : ℕ) (names : List (List ℕ)) (attr : List ℕ) (i : ℕ) (s : Statement) (chunk written : List ℕ) (spans : List ArgumentSpan) (span : ArgumentSpan) (may_go : Bool) → position (λ name. bytes_eq name attr) names ≡ Some i → 2 ≤ length spans → (may_go ≡ true → 3 ≤ length spans)
    → span ≡ span_named i (no_lines 0 0) spans → HasSpans first depth names s chunk written spans → HasPlace depth attr s (place_by span may_go chunk written)
spans_place first depth names attr i s chunk written spans span may_go at many three span_is has =
    let F : List ℕ = front_text has.rule.notes has.rule.kind in
    let none : ArgumentSpan = no_lines (length F) (length F) in
    subst (λ (z : Statement). HasPlace depth attr z (place_by span may_go chunk written)) (sym has.statement_is)
    (subst (λ (x : ArgumentSpan). HasPlace depth attr (statement_of has.rule) (place_by x may_go chunk written)) (same_span i none (no_lines 0 0) spans many ∙ sym span_is)
    (named_place depth names attr i has.rule has.stands chunk written spans may_go at many three has.spanned has.texts))
