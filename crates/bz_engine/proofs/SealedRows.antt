-- The row that is made of a found rule, and its head, are those of the rule with sealed arguments.
use Rattle.std.proofs.Common.{◌≡◌, ◌≢◌, ◌<◌, ◌⊎◌, Bool, true, ℕ, suc, zero, List, [], ◌∷◌, length, map, take, drop, get_or, refl, sym, ap, subst, ◌∙◌, arith, append-nil, inl, inr}
use Rattle.std.specs.Prelude.{Option, None, Some, IsTrue, false, option_map}
use Rattle.std.specs.List.{list_any}
use Rattle.bz_token.specs.Common.{map_or}
use Rattle.bz_token.specs.declared.token.Kind.TheVariants.{Identifier}
use Rattle.bz_token.specs.Places.{line_at}
use Rattle.bz_tree.specs.declared.row.Row.{Row}
use Rattle.bz_tree.specs.Rows.{IsRowOf}
use Rattle.bz_tree.specs.Tree.{Segment, Statement, leaf}
use Rattle.bz_label.specs.Endings.{ending, literal_end}
use Rattle.bz_label.specs.Labels.{Package}
use Rattle.bz_attribute.specs.Heads.{IsHeadOf}
use Rattle.bz_attribute.specs.Rules.{Rule, name_in, rule_of}
use Rattle.bz_attribute.specs.declared.head.Head.{Head}
use Rattle.bz_attribute.proofs.Views.{segments_of}
use Rattle.bz_canonical.specs.Canonical.{rule_name}
use Rattle.bz_canonical.specs.SealedRules.{are_shown, count_sealed, sealed_rule}
use Rattle.bz_canonical.specs.Sought.{marked}
use Rattle.bz_canonical.specs.Spans.{HasSpans, IsSpannedIn, NamedRule, front_text, name_argument, statement_of}
use Rattle.bz_canonical.specs.declared.spans.ArgumentSpan.{ArgumentSpan}
use Rattle.bz_canonical.proofs.RuleKinds.{front_cut}
use Rattle.bz_canonical.proofs.Sealing.{never_one}
use Rattle.bz_canonical.proofs.SoughtRules.{rule_sought, some_spans}
use Rattle.bz_rule.specs.Sealed.{IsSealed, is_asked_for}
use Rattle.bz_engine.specs.Outcome.{Run}
use Rattle.bz_engine.specs.declared.canonical.Found.{Found}
use Rattle.bz_engine.specs.declared.sealed.HeadedRule.{HeadedRule}
use Rattle.bz_engine.specs.private.Found.{HasItsSpans, IsFoundOn, IsRuleFound}
use Rattle.bz_engine.specs.private.Sealed.{HasLinesOf, IsNoneOrMore, IsSealedRule, asked_names, asked_values, has_plain_name, is_asked_in, is_plain_name, leave_names}

none_or_more : (n : ℕ) → n ≢ 1 → IsNoneOrMore n
none_or_more zero other = inl refl
none_or_more (suc zero) other = absurd (other refl)
none_or_more (suc (suc n)) other = inr (omega arith)

-- the rule that its statement is
abbrev pub the_rule : NamedRule → Rule
the_rule r = record { kind = leaf Identifier r.kind ∷ []; args = name_argument r.name ∷ r.args; one_comma = false; end = r.end }

pub read_rule : (r : NamedRule) → rule_of (statement_of r).nodes ≡ Some (the_rule r)
read_rule r = ap (λ (all : List Segment). Some (record { kind = leaf Identifier r.kind ∷ []; args = all; one_comma = false; end = r.end })) (segments_of (name_argument r.name ∷ r.args))

-- a head of this kind, name and lines
rule_head : (r : NamedRule) (head : Head) → head.kind.now ≡ r.kind → option_map (λ text. text.now) head.name ≡ name_in (the_rule r).args → head.start ≡ r.first_line → head.end ≡ r.last_line → IsHeadOf head (statement_of r)
rule_head r head kind name start end = record {
  rule = the_rule r;
  is = read_rule r;
  kind_is = append-nil r.kind ∙ sym kind;
  name_is = name;
  start_is = sym start;
  end_is = sym end;
}

-- what `seal` ensures of a row
abbrev pub IsMade : Bool → List (List ℕ) → List (List ℕ) → ℕ → HeadedRule → Row → Type 0
IsMade alone endings closings depth noted row = (names : List (List ℕ)) (r : NamedRule) (stands : List (List ℕ)) → IsSpannedIn depth names r stands noted.rule.chunk.now noted.rule.rule.written.now noted.rule.rule.spans.now
    → r.first_line ≡ noted.rule.start → r.last_line ≡ noted.rule.end → IsRowOf (statement_of (sealed_rule (are_shown alone (drop 1 (marked endings closings noted.rule.chunk.now noted.rule.rule.spans.now))) r)) row

-- What is known of the statement of a found rule: its head, and the same rule with sealed arguments, which has this head.
pub record HasSealed (alone : Bool) (depth : ℕ) (values : List (List ℕ)) (asks : Segment → Bool) (s : Statement) (noted : HeadedRule) : Type 0 where
  pub head : IsHeadOf noted.head s
  pub sealed : Statement
  pub sealed_head : IsHeadOf noted.head sealed
  pub row_is : (row : Row) → IsMade alone (map ending values) (map literal_end values) depth noted row → IsRowOf sealed row
  pub is : IsSealedRule asks alone s sealed

no_span : ArgumentSpan
no_span = record { from = 0; to = 0; start = 0; comma = 0; end = 0; named = None; sought = false }

plain_name : (r : NamedRule) → has_plain_name (statement_of r) ≡ true
plain_name r = ap (λ (o : Option Rule). map_or false (λ t. list_any is_plain_name t.args) o) (read_rule r)

-- one alone is sealed only where it may be
one_or_more : (alone : Bool) (spans : List ArgumentSpan) → (alone ≡ true) ⊎ IsNoneOrMore (count_sealed (are_shown alone spans))
one_or_more true spans = inl refl
one_or_more false spans = inr (none_or_more (count_sealed (are_shown false spans)) (never_one spans))

has_sealed : (alone : Bool) (line depth : ℕ) (names values : List (List ℕ)) (home : Package) (s : Statement) (found : Found) (noted : HeadedRule) → HasSpans line depth names s found.chunk.chunk.now found.chunk.written.now found.spans.now → IsFoundOn depth line found s → IsRuleFound line found noted
    → HasSealed alone depth values (is_asked_for names values home) s noted
has_sealed alone line depth names values home s found noted has at is =
    let r : NamedRule = has.rule in
    let chunk : List ℕ = noted.rule.chunk.now in
    let written : List ℕ = noted.rule.rule.written.now in
    let spans : List ArgumentSpan = noted.rule.rule.spans.now in
    let shown : List Bool = are_shown alone (drop 1 (marked (map ending values) (map literal_end values) chunk spans)) in
    let F : List ℕ = front_text r.notes r.kind in
    let spanned : IsSpannedIn depth names r has.stands chunk written spans =
    subst (λ (t : List ArgumentSpan). IsSpannedIn depth names r has.stands chunk written t) (sym is.spans_are)
    (subst (λ (t : List ℕ). IsSpannedIn depth names r has.stands chunk t found.spans.now) (sym is.written_is)
    (subst (λ (t : List ℕ). IsSpannedIn depth names r has.stands t found.chunk.written.now found.spans.now) (sym is.chunk_is) has.spanned)) in
    let some : 0 < length spans = some_spans names (length F) (length F) (name_argument r.name) r.args has.stands spans spanned.spanned.are in
    let front : take (get_or spans 0 no_span).from chunk ≡ F = front_cut names r has.stands chunk spanned.back spans no_span some spanned.spanned.are spanned.chunk_is in
    let first : r.first_line ≡ noted.rule.start = has.begins_on ∙ ap (line_at line) (sym front) ∙ sym (is.start_is no_span) in
    let last : r.last_line ≡ noted.rule.end = omega (arith, has.ends_on ∙ ap (line_at line) (sym is.chunk_is), is.end_is) in
    let kind : noted.head.kind.now ≡ r.kind = is.kind_is depth names r has.stands noted.rule.rule.written.now spanned in
    let name : option_map (λ text. text.now) noted.head.name ≡ name_in (the_rule r).args =
    ap (option_map (λ text. text.now)) is.name_is ∙ sym at.is.named ∙ ap (λ (z : Statement). rule_name (rule_of z.nodes)) has.statement_is ∙ ap rule_name (read_rule r) in
    let start : noted.head.start ≡ r.first_line = is.begins_on ∙ sym first in
    let end : noted.head.end ≡ r.last_line = is.ends_on ∙ sym last in
    record {
      head = subst (IsHeadOf noted.head) (sym has.statement_is) (rule_head r noted.head kind name start end);
      sealed = statement_of (sealed_rule shown r);
      sealed_head = rule_head (sealed_rule shown r) noted.head kind name start end;
      row_is = λ row made. made names r has.stands spanned first last;
      is = record {
        count = count_sealed shown;
        enough = one_or_more alone (drop 1 (marked (map ending values) (map literal_end values) chunk spans));
        named = plain_name (sealed_rule shown r);
        sealed = subst (λ (z : Statement). IsSealed HasLinesOf (is_asked_for names values home) (count_sealed shown) z (statement_of (sealed_rule shown r))) (sym has.statement_is) (rule_sought names values home depth r has.stands chunk written spans alone spanned);
      };
    }

pub sealed_of : (line : ℕ) (run : Run) (found : Found) (noted : HeadedRule) → HasItsSpans run.max_depth run.passes found → IsTrue found.chunk.noted → IsRuleFound line found noted → (s : Statement) → IsFoundOn run.max_depth line found s
    → HasSealed (leave_names run.passes) run.max_depth (asked_values run.passes) (is_asked_in run) s noted
sealed_of line run found noted spans known is s at = has_sealed (leave_names run.passes) line run.max_depth (asked_names run.passes) (asked_values run.passes) run.home s found noted (spans.spans known line s at.read) at is
