-- The parts of a rule with sealed arguments, and the places of its arguments.
use Rattle.std.proofs.Common.{◌≡◌, ◌<◌, ◌-◌, ℕ, ◌+◌, List, [], ◌∷◌, ◌++◌, Bool, true, refl, length, map, drop, take, get_or, ap, sym, ◌∙◌, arith, subst, append_assoc, append-nil}
use Rattle.std.specs.Prelude.{codes}
use Rattle.std.proofs.Math.Seq.{drop-append_seam}
use Rattle.std.proofs.lemmas.List.{drop-drop, drop_more, length-append, take_rest}
use Rattle.bz_layout.specs.Pieces.{indent}
use Rattle.bz_tree.specs.Tree.{Segment, segs_of}
use Rattle.bz_tree.specs.Rows.{RowPart, above, beside_part, parts_of, segs_parts}
use Rattle.bz_canonical.specs.Canonical.{argument_lines}
use Rattle.bz_canonical.specs.SealedRules.{back_parts, front_parts, last_end, name_line, sealed_args, sealed_rule, shown}
use Rattle.bz_canonical.specs.Spans.{AreSpans, IsSpanned, NamedRule, back_text, front_text, kept, name_argument, statement_of}
use Rattle.bz_canonical.specs.declared.spans.ArgumentSpan.{ArgumentSpan}
use Rattle.bz_canonical.proofs.CutTexts.{rest_at}
use Rattle.bz_canonical.proofs.ArgumentLines.{lines_append}

joined : (O N S E B : List RowPart) (k o x y z e c : RowPart)
    → ((O ++ ((N ++ (k ∷ o ∷ [])) ++ (x ∷ y ∷ z ∷ e ∷ []))) ++ S) ++ (E ++ (c ∷ B)) ≡ O ++ (N ++ ((k ∷ ((o ∷ (x ∷ y ∷ z ∷ e ∷ (S ++ (E ++ c ∷ [])))) ++ [])) ++ B))
joined O N S E B k o x y z e c = rw (append-nil (S ++ (E ++ c ∷ []))) (simp append_assoc)

pub rule_parts : (r : NamedRule) (asked : List Bool) (old one two three : List RowPart) → one ≡ old ++ (front_parts r.notes r.kind ++ segs_parts (segs_of (name_argument r.name ∷ []))) → two ≡ one ++ segs_parts (segs_of (sealed_args asked r.args))
    → three ≡ two ++ back_parts r.end r.suffix → three ≡ old ++ parts_of (statement_of (sealed_rule asked r))
rule_parts r asked old one two three first mid last =
    last ∙ ap (λ t. t ++ back_parts r.end r.suffix) (mid ∙ ap (λ t. t ++ segs_parts (segs_of (sealed_args asked r.args))) first)
    ∙ joined old (map above r.notes) (segs_parts (segs_of (sealed_args asked r.args))) (map above r.end) (beside_part r.suffix) _ _ _ _ _ _ _

pub last_is : (names : List (List ℕ)) (from start : ℕ) (args : List Segment) (stands : List (List ℕ)) (spans : List ArgumentSpan) → AreSpans names from start args stands spans → last_end start spans ≡ start + length (argument_lines args)
last_is names from start [] [] [] are = omega arith
last_is names from start [] [] (s ∷ ss) are = absurd are
last_is names from start [] (l ∷ ls) ss are = absurd are
last_is names from start (a ∷ args) [] ss are = absurd are
last_is names from start (a ∷ args) (l ∷ ls) [] are = absurd are
last_is names from start (a ∷ args) (l ∷ ls) (s ∷ ss) are =
    omega (arith, last_is names s.to s.end args ls ss are.1, are.0.end_is, ap length (lines_append (a ∷ []) args), length-append (argument_lines (a ∷ [])) (argument_lines args))

-- the first span, and those after it
pub first_span : (spans : List ArgumentSpan) (d : ArgumentSpan) → 0 < length spans → spans ≡ get_or spans 0 d ∷ drop 1 spans
first_span spans d some = drop_more spans 0 d some

in_quotes : (name : List ℕ) → (34 ∷ (name ++ 34 ∷ [])) ++ 44 ∷ [] ≡ 34 ∷ (name ++ 34 ∷ 44 ∷ [])
in_quotes name = ap (λ (t : List ℕ). 34 ∷ t) (append_assoc name (34 ∷ []) (44 ∷ []))

name_lines : (name : List ℕ) → argument_lines (name_argument name ∷ []) ≡ name_line name
name_lines name = ap (λ (t : List ℕ). 10 ∷ (indent 1 ++ (codes "name" ++ (codes " = " ++ t)))) (in_quotes name)

-- where the name stands, and what follows it
pub record IsHeaded (names : List (List ℕ)) (r : NamedRule) (written : List ℕ) (span : ArgumentSpan) (spans : List ArgumentSpan) : Type 0 where
  pub start_is : span.start ≡ length (front_text r.notes r.kind)
  pub end_is : span.end ≡ span.start + length (name_line r.name)
  pub whole : written ≡ front_text r.notes r.kind ++ (name_line r.name ++ (argument_lines r.args ++ back_text r.end r.suffix))
  pub stands : List (List ℕ)
  pub are : AreSpans names span.to span.end r.args stands spans
  pub others : drop span.end written ≡ argument_lines r.args ++ back_text r.end r.suffix
  pub back : drop (last_end span.end spans) written ≡ back_text r.end r.suffix

pub headed : (names : List (List ℕ)) (r : NamedRule) (stands : List (List ℕ)) (written : List ℕ) (spans : List ArgumentSpan) (d : ArgumentSpan) → 0 < length spans → IsSpanned names r stands written spans
    → IsHeaded names r written (get_or spans 0 d) (drop 1 spans)
headed names r stands written spans d some is = by stands (get_or spans 0 d) (drop 1 spans) (subst (λ ss. AreSpans names (length (front_text r.notes r.kind)) (length (front_text r.notes r.kind)) (name_argument r.name ∷ r.args) stands ss) (first_span spans d some) is.are)
  where
    whole : written ≡ (front_text r.notes r.kind) ++ (name_line r.name ++ (argument_lines r.args ++ back_text r.end r.suffix))
    whole = is.written_is ∙ ap (λ t. (front_text r.notes r.kind) ++ (t ++ back_text r.end r.suffix)) (lines_append (name_argument r.name ∷ []) r.args ∙ ap (λ t. t ++ argument_lines r.args) (name_lines r.name))
        ∙ ap (λ t. (front_text r.notes r.kind) ++ t) (append_assoc (name_line r.name) (argument_lines r.args) (back_text r.end r.suffix))

    by : (ls : List (List ℕ)) (span : ArgumentSpan) (ss : List ArgumentSpan) → AreSpans names (length (front_text r.notes r.kind)) (length (front_text r.notes r.kind)) (name_argument r.name ∷ r.args) ls (span ∷ ss) → IsHeaded names r written span ss
    by [] span ss are = absurd are
    by (l ∷ ls) span ss are =
        let ends : span.end ≡ length (front_text r.notes r.kind) + length (name_line r.name) = are.0.end_is ∙ ap (λ t. length (front_text r.notes r.kind) + length t) (name_lines r.name) in
        let others : drop span.end written ≡ argument_lines r.args ++ back_text r.end r.suffix =
        rest_at ((front_text r.notes r.kind) ++ name_line r.name) (argument_lines r.args ++ back_text r.end r.suffix) written span.end (whole ∙ sym (append_assoc (front_text r.notes r.kind) (name_line r.name) (argument_lines r.args ++ back_text r.end r.suffix))) (omega (arith, ends, length-append (front_text r.notes r.kind) (name_line r.name))) in
        let last : last_end span.end ss ≡ span.end + length (argument_lines r.args) = last_is names span.to span.end r.args ls ss are.1 in
        record {
          start_is = are.0.start_is;
          end_is = omega (arith, ends, are.0.start_is);
          whole = whole;
          stands = ls;
          are = are.1;
          others = others;
          back = ap (λ n. drop n written) last ∙ sym (drop-drop (length (argument_lines r.args)) span.end written) ∙ ap (drop (length (argument_lines r.args))) others ∙ drop-append_seam (argument_lines r.args) (back_text r.end r.suffix);
        }

-- the same, by the spans as a slice has them
pub headed_cut : (names : List (List ℕ)) (r : NamedRule) (stands : List (List ℕ)) (written : List ℕ) (spans : List ArgumentSpan) (d : ArgumentSpan) → 0 < length spans → IsSpanned names r stands written spans
    → IsHeaded names r written (get_or spans 0 d) (take (length spans - 1) (drop 1 spans))
headed_cut names r stands written spans d some is = subst (λ ss. IsHeaded names r written (get_or spans 0 d) ss) (sym (take_rest spans 1)) (headed names r stands written spans d some is)

-- where all stay, none is sealed
pub all_stay : (names : List (List ℕ)) (from start : ℕ) (args : List Segment) (stands : List (List ℕ)) (spans : List ArgumentSpan) → AreSpans names from start args stands spans
    → (kept (shown true spans) args ≡ args) × (sealed_args (shown true spans) args ≡ args)
all_stay names from start [] [] [] are = (refl, refl)
all_stay names from start [] [] (s ∷ ss) are = absurd are
all_stay names from start [] (l ∷ ls) ss are = absurd are
all_stay names from start (a ∷ args) [] ss are = absurd are
all_stay names from start (a ∷ args) (l ∷ ls) [] are = absurd are
all_stay names from start (a ∷ args) (l ∷ ls) (s ∷ []) are =
    let more = all_stay names s.to s.end args ls [] are.1 in
    (ap (λ (xs : List Segment). a ∷ xs) more.0, ap (λ (xs : List Segment). a ∷ xs) more.1)
all_stay names from start (a ∷ args) (l ∷ ls) (s ∷ t ∷ ss) are =
    let more = all_stay names s.to s.end args ls (t ∷ ss) are.1 in
    (ap (λ (xs : List Segment). a ∷ xs) more.0, ap (λ (xs : List Segment). a ∷ xs) more.1)

pub kept_all : (names : List (List ℕ)) (from start : ℕ) (args : List Segment) (stands : List (List ℕ)) (spans : List ArgumentSpan) (all : Bool) → AreSpans names from start args stands spans → all ≡ true
    → kept (shown all spans) args ≡ sealed_args (shown all spans) args
kept_all names from start args stands spans all are is =
    let stay = all_stay names from start args stands spans are in
    rw is (stay.0 ∙ sym stay.1)
