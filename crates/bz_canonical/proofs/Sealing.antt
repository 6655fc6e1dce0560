-- A rule some of whose arguments are sealed.
use Rattle.std.proofs.Common.{◌≡◌, ◌==◌, ℕ, suc, ◌+◌, List, [], ◌∷◌, ◌++◌, Bool, true, false, drop, get_or, length, refl, subst, ap, sym, ◌∙◌, append_assoc, append-nil, bytes_eq, if◌then◌else◌, ◌<◌, arith}
use Rattle.std.specs.Prelude.{Some, is_some, nat_le, ◌&&◌, ◌||◌}
use Rattle.std.specs.List.{list_any, position_from}
use Rattle.std.proofs.lemmas.Iterator.Adapters.{position_from-zero}
use Rattle.std.proofs.lemmas.Bool.{false≢true}
use Rattle.std.proofs.lemmas.List.{length-append}
use Rattle.std.proofs.lemmas.List.Folds.{list_any-append}
use Rattle.bz_token.specs.Common.{is_filled}
use Rattle.bz_token.specs.declared.token.Kind.TheVariants.{Identifier}
use Rattle.bz_tree.specs.declared.tree.GroupKind.TheVariants.{RuleCall}
use Rattle.bz_tree.specs.Tree.{Segment, leaf, segs_of}
use Rattle.bz_layout.specs.declared.broken.Style.TheVariants.{Broken}
use Rattle.bz_layout.specs.Broken.{has_comment}
use Rattle.bz_layout.specs.Walked.{broken_segs}
use Rattle.bz_layout.specs.Pieces.{bytes_of, comments, suffix_piece}
use Rattle.bz_layout.proofs.Pieces.{bytes_append}
use Rattle.bz_attribute.specs.Rules.{is_named}
use Rattle.bz_attribute.proofs.Views.{segments_of}
use Rattle.bz_rule.specs.Sealed.{AreSealed, IsSealed, StandsFor, is_among}
use Rattle.bz_rule.specs.Sealed.AreSealed.{all_done, same, sealed as sealed_more}
use Rattle.bz_canonical.specs.Canonical.{argument_lines}
use Rattle.bz_canonical.specs.SealedRules.{are_alike, are_asked, as_comment, count_sealed, ends_run, inner_text, is_exposed, sealed, sealed_after, sealed_args, sealed_from, sealed_rule, are_shown, shown}
use Rattle.bz_canonical.specs.Spans.{AreSpans, IsSpan, IsSpanned, NamedRule, is_asked, front_text, name_argument, statement_of}
use Rattle.bz_canonical.specs.declared.spans.ArgumentSpan.{ArgumentSpan}
use Rattle.bz_canonical.proofs.ArgumentLines.{lines_append}
use Rattle.bz_canonical.proofs.ArgumentParts.{inner_is}
use Rattle.bz_canonical.proofs.RuleParts.{all_stay, first_span, headed}
use Rattle.bz_canonical.proofs.SealedRuns.{AreAbove, Waits, comment_above, goes_on, more_wait, none_waits, nothing_waits}
use Rattle.bz_canonical.proofs.SingleStrings.{bytes_same}

-- An argument and what stands for it are alike where their lines are the same.
pub same_lines : (a : Segment) (inner : List ℕ) → argument_lines (a ∷ []) ≡ 10 ∷ 32 ∷ 32 ∷ 32 ∷ 32 ∷ (inner ++ 44 ∷ bytes_of (suffix_piece a.suffix)) → argument_lines (sealed a ∷ []) ≡ argument_lines (a ∷ [])
same_lines a inner is =
    ap (λ t. 10 ∷ 32 ∷ 32 ∷ 32 ∷ 32 ∷ (inner_text a ++ 44 ∷ bytes_of t)) (append-nil (suffix_piece a.suffix))
    ∙ ap (λ t. 10 ∷ 32 ∷ 32 ∷ 32 ∷ 32 ∷ (t ++ 44 ∷ bytes_of (suffix_piece a.suffix))) (inner_is inner (bytes_of (suffix_piece a.suffix)) (argument_lines (a ∷ [])) is) ∙ sym is

lines_after : (run : List Segment) (a : Segment) (inner : List ℕ) → AreAbove run → argument_lines (a ∷ []) ≡ 10 ∷ 32 ∷ 32 ∷ 32 ∷ 32 ∷ (inner ++ 44 ∷ bytes_of (suffix_piece a.suffix))
    → argument_lines (run ++ a ∷ []) ≡ argument_lines (sealed_after run a ∷ [])
lines_after run a inner above is =
    lines_append run (a ∷ []) ∙ ap (λ t. t ++ argument_lines (a ∷ [])) (sym above) ∙ ap (λ t. bytes_of (comments 1 (as_comment (argument_lines run))) ++ t) (sym (same_lines a inner is))
    ∙ sym (bytes_append (comments 1 (as_comment (argument_lines run))) (broken_segs Broken 1 RuleCall true (segs_of (sealed a ∷ []))))

equal_bytes : (xs ys : List ℕ) → xs ≡ ys → bytes_eq xs ys ≡ true
equal_bytes xs ys is = ap (bytes_eq xs) (sym is) ∙ bytes_same xs

on_lines : (run : List Segment) (a : Segment) → (nat_le (length (run ++ a ∷ [])) 1 || has_comment (sealed_after run a)) ≡ true
on_lines [] a = refl
on_lines (x ∷ run) a = either (nat_le (length ((x ∷ run) ++ a ∷ [])) 1) (is_filled (as_comment (argument_lines (x ∷ run)))) (is_some a.suffix) (comment_above x run)
  where
    either : (b above beside : Bool) → above ≡ true → (b || (above || beside)) ≡ true
    either true above beside is = refl
    either false true beside is = refl
    either false false beside is = absurd (false≢true is)

pub unnamed : (names : List (List ℕ)) (run : List Segment) (a : Segment) → is_among names (sealed_after run a) ≡ false
unnamed [] run a = refl
unnamed (n ∷ ns) run a = unnamed ns run a

more_unasked : (asks : Segment → Bool) (run : List Segment) (a : Segment) → list_any asks run ≡ false → asks a ≡ false → list_any asks (run ++ a ∷ []) ≡ false
more_unasked asks run a h is = list_any-append asks run (a ∷ []) ∙ (λ i. h i || (is i || false))

abbrev Alike : List Segment → Segment → Type 0
Alike run t = are_alike run t ≡ true

-- nothing that is sealed is asked for
abbrev pub NeverAsks : (Segment → Bool) → Type 0
NeverAsks asks = (run : List Segment) (a : Segment) → asks (sealed_after run a) ≡ false

-- the run and the argument after it are sealed as one
stands_for : (asks : Segment → Bool) → NeverAsks asks → (run : List Segment) (a : Segment) (inner : List ℕ) → AreAbove run → argument_lines (a ∷ []) ≡ 10 ∷ 32 ∷ 32 ∷ 32 ∷ 32 ∷ (inner ++ 44 ∷ bytes_of (suffix_piece a.suffix))
    → list_any asks run ≡ false → asks a ≡ false → StandsFor Alike asks (run ++ a ∷ []) (sealed_after run a)
stands_for asks never run a inner above lines unasked is =
    let bytes : bytes_eq (argument_lines (run ++ a ∷ [])) (argument_lines (sealed_after run a ∷ [])) ≡ true = equal_bytes _ _ (lines_after run a inner above lines) in
    let stays : (nat_le (length (run ++ a ∷ [])) 1 || has_comment (sealed_after run a)) ≡ true = on_lines run a in
    record {
      unasked = more_unasked asks run a unasked is;
      unnamed = never run a;
      alike = λ i. bytes i && stays i;
    }

some_from : {X : Type 0} (p : X → Bool) (i : ℕ) (xs : List X) → is_some (position_from p i xs) ≡ list_any p xs
some_from p i [] = refl
some_from p i (x ∷ xs) = by (p x) (some_from p (i + 1) xs)
  where
    by : (b : Bool) → is_some (position_from p (i + 1) xs) ≡ list_any p xs → is_some (if b then Some i else position_from p (i + 1) xs) ≡ (b || list_any p xs)
    by true more = refl
    by false more = more

-- an argument has one of the names
pub named_among : (names : List (List ℕ)) (from start : ℕ) (a : Segment) (lines : List ℕ) (span : ArgumentSpan) → IsSpan names from start a lines span → is_some span.named ≡ is_among names a
named_among names from start a lines span is =
    let named : List ℕ → Bool = λ name. is_named name a in
    ap is_some (is.named ∙ position_from-zero named names) ∙ some_from named 0 names

counted : (asks : Segment → Bool) {n m : ℕ} {xs ys : List Segment} → n ≡ m → AreSealed Alike asks n xs ys → AreSealed Alike asks m xs ys
counted asks {xs = xs} {ys = ys} is are = subst (λ (n : ℕ). AreSealed Alike asks n xs ys) is are

one_run : (asks : Segment → Bool) (count : ℕ) (run : List Segment) (a t : Segment) (args others : List Segment) → StandsFor Alike asks (run ++ a ∷ []) t → AreSealed Alike asks count args others
    → AreSealed Alike asks (length run + suc count) (run ++ a ∷ args) (t ∷ others)
one_run asks count [] a t args others stands rest =
    let many : suc (0 + count) ≡ 0 + suc count = omega arith in
    counted asks many (sealed_more stands rest)
one_run asks count (x ∷ run) a t args others stands rest =
    let many : suc (length (run ++ a ∷ []) + count) ≡ length (x ∷ run) + suc count = omega (arith, length-append run (a ∷ [])) in
    counted asks many
    (subst (λ (xs : List Segment). AreSealed Alike asks (suc (length (run ++ a ∷ []) + count)) (x ∷ xs) (t ∷ others)) (append_assoc run (a ∷ []) args) (sealed_more stands rest))

-- what is not asked for by its span is none of those that are asked for
abbrev pub Unasked : (Segment → Bool) → List Segment → List ArgumentSpan → Type 0
Unasked asks (a ∷ args) (s ∷ spans) = (is_asked s ≡ false → asks a ≡ false) × Unasked asks args spans
Unasked asks _ _ = Unit {0}

pub are_sealed : (asks : Segment → Bool) → NeverAsks asks → (names : List (List ℕ)) (from start : ℕ) (run args : List Segment) (stands : List (List ℕ)) (spans : List ArgumentSpan) → list_any asks run ≡ false → Waits run (are_asked spans) → AreSpans names from start args stands spans → Unasked asks args spans
    → AreSealed Alike asks (length run + count_sealed (are_asked spans)) (run ++ args) (sealed_from run (are_asked spans) args)
are_sealed asks never names from start run [] [] [] unasked waits are free = subst (λ (xs : List Segment). AreSealed Alike asks (length xs + 0) (xs ++ []) []) (sym (none_waits run [] refl waits)) all_done
are_sealed asks never names from start run [] [] (s ∷ ss) unasked waits are free = absurd are
are_sealed asks never names from start run [] (l ∷ ls) ss unasked waits are free = absurd are
are_sealed asks never names from start run (a ∷ args) [] ss unasked waits are free = absurd are
are_sealed asks never names from start run (a ∷ args) (l ∷ ls) [] unasked waits are free = absurd are
are_sealed asks never names from start run (a ∷ args) (l ∷ ls) (s ∷ ss) unasked waits are free =
    by (λ others unasked waits. are_sealed asks never names s.to s.end others args ls ss unasked waits are.1 free.1) (is_asked s) free.0 waits (ends_run (is_asked s) (are_asked ss)) refl
  where
    by : ((others : List Segment) → list_any asks others ≡ false → Waits others (are_asked ss) → AreSealed Alike asks (length others + count_sealed (are_asked ss)) (others ++ args) (sealed_from others (are_asked ss) args))
        → (b : Bool) → (b ≡ false → asks a ≡ false) → Waits run (b ∷ are_asked ss) → (e : Bool) → ends_run b (are_asked ss) ≡ e
        → AreSealed Alike asks (length run + count_sealed (b ∷ are_asked ss)) (run ++ a ∷ args) (if e then (if b then a else sealed_after run a) ∷ sealed_from [] (are_asked ss) args else sealed_from (run ++ a ∷ []) (are_asked ss) args)
    by more true is w true last =
        let rest : AreSealed Alike asks (0 + count_sealed (are_asked ss)) args (sealed_from [] (are_asked ss) args) = more [] refl (nothing_waits (are_asked ss)) in
        subst (λ (xs : List Segment). AreSealed Alike asks (length xs + count_sealed (are_asked ss)) (xs ++ a ∷ args) (a ∷ sealed_from [] (are_asked ss) args)) (sym (none_waits run (true ∷ are_asked ss) refl w)) (same a rest)
    by more true is w false on = absurd (false≢true (sym (goes_on true (are_asked ss) on).0))
    by more false is w true last =
        let none : 0 + count_sealed (are_asked ss) ≡ count_sealed (are_asked ss) = omega arith in
        let rest : AreSealed Alike asks (count_sealed (are_asked ss)) args (sealed_from [] (are_asked ss) args) = counted asks none (more [] refl (nothing_waits (are_asked ss))) in
        one_run asks (count_sealed (are_asked ss)) run a (sealed_after run a) args (sealed_from [] (are_asked ss) args) (stands_for asks never run a are.0.inner w.above are.0.lines unasked (is refl)) rest
    by more false is w false on =
        let many : length (run ++ a ∷ []) + count_sealed (are_asked ss) ≡ length run + suc (count_sealed (are_asked ss)) = omega (arith, length-append run (a ∷ [])) in
        counted asks many
        (subst (λ (xs : List Segment). AreSealed Alike asks (length (run ++ a ∷ []) + count_sealed (are_asked ss)) xs (sealed_from (run ++ a ∷ []) (are_asked ss) args)) (append_assoc run (a ∷ []) args)
        (more (run ++ a ∷ []) (more_unasked asks run a unasked (is refl)) (more_wait run a are.0.inner (are_asked ss) w.above are.0.lines (goes_on false (are_asked ss) on).1)))

pub rule_sealed : (asks : Segment → Bool) → NeverAsks asks → (names : List (List ℕ)) (r : NamedRule) (stands : List (List ℕ)) (written : List ℕ) (spans : List ArgumentSpan) (d : ArgumentSpan) → 0 < length spans → IsSpanned names r stands written spans → Unasked asks r.args (drop 1 spans)
    → IsSealed (λ run t. are_alike run t ≡ true) asks (count_sealed (are_asked (drop 1 spans))) (statement_of r) (statement_of (sealed_rule (are_asked (drop 1 spans)) r))
rule_sealed asks never names r stands written spans d some is free = record {
  rule = record { kind = leaf Identifier r.kind ∷ []; args = name_argument r.name ∷ r.args; one_comma = false; end = r.end };
  args = name_argument r.name ∷ sealed_args (are_asked (drop 1 spans)) r.args;
  read = ap (λ (all : List Segment). Some (record { kind = leaf Identifier r.kind ∷ []; args = all; one_comma = false; end = r.end })) (segments_of (name_argument r.name ∷ r.args));
  read_sealed = ap (λ (all : List Segment). Some (record { kind = leaf Identifier r.kind ∷ []; args = all; one_comma = false; end = r.end })) (segments_of (name_argument r.name ∷ sealed_args (are_asked (drop 1 spans)) r.args));
  are_sealed = by stands (subst (λ ss. AreSpans names (length (front_text r.notes r.kind)) (length (front_text r.notes r.kind)) (name_argument r.name ∷ r.args) stands ss) (first_span spans d some) is.are);
  rest = refl;
}
  where
    by : (ls : List (List ℕ)) → AreSpans names (length (front_text r.notes r.kind)) (length (front_text r.notes r.kind)) (name_argument r.name ∷ r.args) ls (get_or spans 0 d ∷ drop 1 spans)
        → AreSealed (λ run t. are_alike run t ≡ true) asks (count_sealed (are_asked (drop 1 spans))) (name_argument r.name ∷ r.args) (name_argument r.name ∷ sealed_args (are_asked (drop 1 spans)) r.args)
    by [] are = absurd are
    by (l ∷ ls) are =
        let none : 0 + count_sealed (are_asked (drop 1 spans)) ≡ count_sealed (are_asked (drop 1 spans)) = omega arith in
        same (name_argument r.name) (counted asks none (are_sealed asks never names (get_or spans 0 d).to (get_or spans 0 d).end [] r.args ls (drop 1 spans) refl (nothing_waits (are_asked (drop 1 spans))) are.1 free))

-- all stay, or those that are asked for

trues_none : (spans : List ArgumentSpan) → count_sealed (shown true spans) ≡ 0
trues_none [] = refl
trues_none (s ∷ ss) = trues_none ss

-- never is one alone sealed that might be left alone
pub never_one : (spans : List ArgumentSpan) → count_sealed (are_shown false spans) ≡ 1 → ⊥
never_one spans = by (count_sealed (are_asked spans) == 1) refl
  where
    by : (all : Bool) → (count_sealed (are_asked spans) == 1) ≡ all → count_sealed (shown all spans) ≡ 1 → ⊥
    by true is one = omega (arith, trues_none spans, one)
    by false is one = false≢true (sym is ∙ ap (λ (n : ℕ). n == 1) one)

all_same : (asks : Segment → Bool) (args : List Segment) → AreSealed Alike asks 0 args args
all_same asks [] = all_done
all_same asks (a ∷ args) = same a (all_same asks args)

pub rule_shown : (asks : Segment → Bool) → NeverAsks asks → (names : List (List ℕ)) (r : NamedRule) (stands : List (List ℕ)) (written : List ℕ) (spans : List ArgumentSpan) (alone : Bool) (d : ArgumentSpan) → 0 < length spans → IsSpanned names r stands written spans → Unasked asks r.args (drop 1 spans)
    → IsSealed (λ run t. are_alike run t ≡ true) asks (count_sealed (are_shown alone (drop 1 spans))) (statement_of r) (statement_of (sealed_rule (are_shown alone (drop 1 spans)) r))
rule_shown asks never names r stands written spans alone d some is free = by (is_exposed alone (drop 1 spans))
  where
    by : (all : Bool) → IsSealed (λ run t. are_alike run t ≡ true) asks (count_sealed (shown all (drop 1 spans))) (statement_of r) (statement_of (sealed_rule (shown all (drop 1 spans)) r))
    by false = rule_sealed asks never names r stands written spans d some is free
    by true = let at = headed names r stands written spans d some is in record {
      rule = record { kind = leaf Identifier r.kind ∷ []; args = name_argument r.name ∷ r.args; one_comma = false; end = r.end };
      args = name_argument r.name ∷ sealed_args (shown true (drop 1 spans)) r.args;
      read = ap (λ (all : List Segment). Some (record { kind = leaf Identifier r.kind ∷ []; args = all; one_comma = false; end = r.end })) (segments_of (name_argument r.name ∷ r.args));
      read_sealed = ap (λ (all : List Segment). Some (record { kind = leaf Identifier r.kind ∷ []; args = all; one_comma = false; end = r.end })) (segments_of (name_argument r.name ∷ sealed_args (shown true (drop 1 spans)) r.args));
      are_sealed = same (name_argument r.name) (counted asks (sym (trues_none (drop 1 spans)))
          (subst (λ (xs : List Segment). AreSealed Alike asks 0 r.args xs) (sym (all_stay names _ _ r.args at.stands (drop 1 spans) at.are).1) (all_same asks r.args)));
      rest = refl;
    }
