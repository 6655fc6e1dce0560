-- The arguments of a found rule that follow its name.
use Rattle.bz_tree.specs.Rows.{segs_parts}
use Rattle.bz_tree.specs.Tree.{Segment, segs_of}
use Rattle.std.proofs.Common.{Bool, true, false, refl, ◌≤◌, ◌≡◌, ◌<◌, ◌-◌, ℕ, List, [], ◌∷◌, ◌++◌, length, take, drop, get_or, subst, ap, sym, ◌∙◌, arith, append_assoc}
use Rattle.std.specs.List.{concat}
use Rattle.std.proofs.lemmas.List.{length-append, length-map, take_rest}
use Rattle.bz_canonical.specs.Canonical.{AreReadAlone}
use Rattle.bz_canonical.specs.SealedRules.{are_asked, are_shown, count_sealed, is_exposed, shown}
use Rattle.bz_canonical.specs.Spans.{AreSpans, IsSpannedIn, NamedRule, front_text, is_asked, kept, name_argument}
use Rattle.bz_canonical.specs.declared.spans.ArgumentSpan.{ArgumentSpan}
use Rattle.bz_canonical.proofs.CutTexts.{rest_at}
use Rattle.bz_canonical.specs.private.Listed.{AreReadEach}
use Rattle.bz_canonical.proofs.ListedArguments.{read_each}
use Rattle.bz_canonical.proofs.RuleParts.{first_span}

pub record HasOthers (depth : ℕ) (names : List (List ℕ)) (r : NamedRule) (chunk : List ℕ) (spans : List ArgumentSpan) : Type 0 where
  pub from : ℕ
  pub start : ℕ
  pub stands : List (List ℕ)
  pub after : List ℕ
  pub are : AreSpans names from start r.args stands spans
  pub text : drop from chunk ≡ concat stands ++ after
  pub reads : AreReadAlone depth (concat (kept (are_asked spans) stands)) (kept (are_asked spans) r.args)
  pub each : AreReadEach depth stands r.args

others_of : (depth : ℕ) (names : List (List ℕ)) (r : NamedRule) (stands : List (List ℕ)) (chunk written : List ℕ) (spans : List ArgumentSpan) (d : ArgumentSpan) → 0 < length spans → IsSpannedIn depth names r stands chunk written spans
    → HasOthers depth names r chunk (drop 1 spans)
others_of depth names r stands chunk written spans d some is =
    by stands (get_or spans 0 d) (drop 1 spans) (subst (λ ss. AreSpans names (length (front_text r.notes r.kind)) (length (front_text r.notes r.kind)) (name_argument r.name ∷ r.args) stands ss) (first_span spans d some) is.spanned.are) is.chunk_is is.reads
  where
    by : (ls : List (List ℕ)) (span : ArgumentSpan) (ss : List ArgumentSpan) → AreSpans names (length (front_text r.notes r.kind)) (length (front_text r.notes r.kind)) (name_argument r.name ∷ r.args) ls (span ∷ ss)
        → chunk ≡ front_text r.notes r.kind ++ (concat ls ++ is.back) → ((keep : List Bool) → AreReadAlone depth (concat (kept keep ls)) (kept keep (name_argument r.name ∷ r.args))) → HasOthers depth names r chunk ss
    by [] span ss are text reads = absurd are
    by (l ∷ ls) span ss are text reads = record {
      from = span.to;
      start = span.end;
      stands = ls;
      after = is.back;
      are = are.1;
      text = rest_at (front_text r.notes r.kind ++ l) (concat ls ++ is.back) chunk span.to (text ∙ ap (λ t. front_text r.notes r.kind ++ t) (append_assoc l (concat ls) is.back) ∙ sym (append_assoc (front_text r.notes r.kind) l (concat ls ++ is.back)))
          (omega (arith, are.0.to_is, length-append (front_text r.notes r.kind) l));
      reads = reads (false ∷ are_asked ss);
      each = read_each depth names span.to span.end r.args ls ss are.1 (λ keep. reads (false ∷ keep));
    }

-- by the spans as a slice has them
pub others_cut : (depth : ℕ) (names : List (List ℕ)) (r : NamedRule) (stands : List (List ℕ)) (chunk written : List ℕ) (spans : List ArgumentSpan) (d : ArgumentSpan) → 0 < length spans → IsSpannedIn depth names r stands chunk written spans
    → HasOthers depth names r chunk (take (length spans - 1) (drop 1 spans))
others_cut depth names r stands chunk written spans d some is = subst (λ ss. HasOthers depth names r chunk ss) (sym (take_rest spans 1)) (others_of depth names r stands chunk written spans d some is)

few_sealed : (bs : List Bool) → count_sealed bs ≤ length bs
few_sealed [] = omega arith
few_sealed (true ∷ bs) = omega (arith, few_sealed bs)
few_sealed (false ∷ bs) = omega (arith, few_sealed bs)

none_kept : (bs : List Bool) (args : List Segment) → count_sealed bs ≡ length bs → kept bs args ≡ []
none_kept [] args is = refl
none_kept (b ∷ bs) [] is = refl
none_kept (true ∷ bs) (a ∷ args) is = absurd (omega (arith, is, few_sealed bs))
none_kept (false ∷ bs) (a ∷ args) is = none_kept bs args (omega (arith, is))

-- none but the name is asked for
pub none_asked : (spans : List ArgumentSpan) (args : List Segment) → count_sealed (are_asked spans) ≡ length spans → [] ≡ segs_parts (segs_of (kept (are_asked spans) args))
none_asked spans args is = sym (ap (λ xs. segs_parts (segs_of xs)) (none_kept (are_asked spans) args (is ∙ sym (length-map spans is_asked))))

-- which arguments stay

pub all_shown : (alone : Bool) (spans : List ArgumentSpan) → is_exposed alone spans ≡ true → shown true spans ≡ are_shown alone spans
all_shown alone spans is = ap (λ b. shown b spans) (sym is)

pub asked_shown : (alone : Bool) (spans : List ArgumentSpan) → is_exposed alone spans ≡ false → shown false spans ≡ are_shown alone spans
asked_shown alone spans is = ap (λ b. shown b spans) (sym is)
