use Rattle.std.proofs.Common.{rules, true, false, ℕ, List, ◌≡◌, ◌+◌, ◌-◌, arith, ◌∙◌, ◌||◌, ◌∷◌, ◌++◌, refl, sym, subst, ap}
use Rattle.bz_tree.specs.declared.tree.GroupKind.TheVariants.{Dict}
use Rattle.std.specs.Prelude.{codes}
use Rattle.bz_canonical.specs.private.Values.{AreNodesFront}
use Rattle.bz_canonical.specs.private.Segments.{Continues, ContinuesFlat, IsGroupFront, IsSegmentFront}
use Rattle.bz_canonical.proofs.GroupSegments.{begin, more, finish, begin_flat, more_flat, finish_flat, none_flat, element_segment, positional_segment, keyword_segment, entry_segment, first_of_more, second_of_more, four_or}
use Rattle.bz_canonical.proofs.Operands.{list_value, dict_value, number_value, broken_group, flat_group}
use Rattle.bz_canonical.specs.private.Chains.{Chains, IsPrimaryFront}
use Rattle.bz_canonical.proofs.Chained.{begin_chain, call_primary, finish_chain, member_primary, more_chain, value_term}
use Rattle.bz_canonical.proofs.+values.Goals as goal

pub segments::after_segments-loop-count-init : goal.segments::after_segments-loop-count-init
segments::after_segments-loop-count-init m c = begin c.args.kind c.args.level c.args.depth c.args.text.now

pub value::after_first-returns-in-None : goal.value::after_first-returns-in-None
value::after_first-returns-in-None m c = λ all t.
    let first = c.args.first in
    finish_chain c.args.level c.args.depth all first.rest.now first.holds (begin_chain c.args.level c.args.depth all first.rest.now first.holds t)

pub value::after_first-returns-in_ok-rest-in-Some : goal.value::after_first-returns-in_ok-rest-in-Some
value::after_first-returns-in_ok-rest-in-Some m c = λ all t.
    let first = c.args.first in
    c.in_ok-rest-in-Some.ensures all (λ rest k last. more_chain c.args.level c.args.depth all first.rest.now c.in-Some.operand.now rest first.holds k
    (begin_chain c.args.level c.args.depth all first.rest.now first.holds t) c.in-Some.ensures last)

pub value::after_nodes-returns-in_ok-rest-in-Some : goal.value::after_nodes-returns-in_ok-rest-in-Some
value::after_nodes-returns-in_ok-rest-in-Some m c = c.in_ok-rest-in-Some.ensures c.args.text.now (c.in-Some.ensures c.args.level)

pub value::after_operands-loop-init : goal.value::after_operands-loop-init
value::after_operands-loop-init m c = λ all so. so

pub value::after_operands-returns-in_default : goal.value::after_operands-returns-in_default
value::after_operands-returns-in_default m c = λ all so.
    subst (λ h. AreNodesFront c.args.level c.args.depth all c.in_ok-read.read.rest.now h) (sym c.either-holds.ensures)
    (finish_chain c.args.level c.args.depth all c.in_ok-read.read.rest.now _ (c.loop.invariant all so c.in_ok-read.read.rest.now c.in_ok-read.read.holds c.in_ok-read.ensures))

pub value::after_operands-loop-preserved : goal.value::after_operands-loop-preserved
value::after_operands-loop-preserved m c = λ all so rest k t.
    let holds = c.loop.holds || c.in_ok-read.read.holds in
    subst (λ h. Chains c.args.level c.args.depth all rest (h || k)) (sym c.either-holds.ensures)
    (more_chain c.args.level c.args.depth all c.in_ok-read.read.rest.now c.in-Some.operand.now rest holds k
    (c.loop.invariant all so c.in_ok-read.read.rest.now c.in_ok-read.read.holds c.in_ok-read.ensures) c.in-Some.ensures t)

pub segments::after_segments-loop-count-preserved : goal.segments::after_segments-loop-count-preserved
segments::after_segments-loop-count-preserved m c =
    let l = c.loop-count in
    let on = more c.args.kind c.args.level c.args.depth c.args.text.now l.rest.now c.after_comments-above.result.rest.now c.in-Some.inner.now c.in_ok-read.read.rest.now c.in_ok-comma.comma.now c.in_ok-side.side.rest.now
    l.count l.holds c.in_ok-read.read.holds l.noted c.after_comments-above.result.some c.in_ok-side.side.some l.invariant c.after_comments-above.ensures c.in-Some.ensures c.in_ok-read.ensures c.in_ok-comma.ensures c.in_ok-side.ensures in
    subst (λ b. Continues c.args.kind c.args.level c.args.depth c.args.text.now c.in_ok-side.side.rest.now (l.count + 1) b c.either-noted.result) (sym c.either-holds.ensures)
    (subst (λ b. Continues c.args.kind c.args.level c.args.depth c.args.text.now c.in_ok-side.side.rest.now (l.count + 1) (l.holds || c.in_ok-read.read.holds) b)
    (sym (c.either-noted.ensures ∙ ap (λ b. l.noted || b) c.either-about.ensures)) on)

pub segments::after_segments-returns-in_default : goal.segments::after_segments-returns-in_default
segments::after_segments-returns-in_default m c =
    let l = c.loop-count in
    (l.rest.now, finish c.args.kind c.args.level c.args.depth c.args.text.now l.rest.now l.count l.holds l.noted l.invariant, c.after_comments-above.ensures)

pub segments::after_flat_segments-loop-init : goal.segments::after_flat_segments-loop-init
segments::after_flat_segments-loop-init m c = (1, refl, refl, begin_flat c.args.kind c.args.level c.args.depth c.args.text.now c.in_ok-first.first.rest.now c.in_ok-first.first.holds c.in_ok-first.ensures)

pub segments::after_flat_segments-loop-preserved : goal.segments::after_flat_segments-loop-preserved
segments::after_flat_segments-loop-preserved m c =
    let i = c.loop.invariant in
    let on = more_flat c.args.kind true c.args.level c.args.depth c.args.text.now c.loop.rest.now c.in-Some.next.now c.in_ok-read.read.rest.now i.0 c.loop.holds c.in_ok-read.read.holds i.3 c.in-Some.ensures c.in_ok-read.ensures in (
      i.0 + 1,
      first_of_more i.0,
      i.1 ∙ second_of_more i.0,
      subst (λ b. ContinuesFlat c.args.kind true c.args.level c.args.depth c.args.text.now c.in_ok-read.read.rest.now (i.0 + 1) b) (sym c.either-holds.ensures) on,
    )

pub group::after_broken_group-returns : goal.group::after_broken_group-returns
group::after_broken_group-returns m c =
    let read = c.in_ok-read.ensures in
    let many = four_or c.in_ok-read.read.ended c.in_ok-read.read.noted _ _ ∙ sym (c.either-broken.ensures ∙ ap (λ b. c.in_ok-read.read.ended || b) (c.either-noted.ensures ∙ ap (λ b. c.in_ok-read.read.noted || b) (c.breaks-many.ensures c.in_ok-read.read.count refl refl))) ∙ c.if-not-broken.false in
    broken_group c.args.kind c.args.level (c.args.depth + 1) c.args.depth c.args.inside.now read.0 c.in_ok-read.read.rest.now c.in_ok-end.end.now c.in_ok-rest.rest.now c.brackets.result.1 c.in_ok-read.read.count c.in_ok-read.read.holds c.in_ok-read.read.noted c.in_ok-read.read.ended
    (omega arith) c.brackets.ensures.1 c.requires.commas read.1 read.2 many c.in_ok-end.ensures c.in_ok-rest.ensures

pub group::after_flat_group-returns : goal.group::after_flat_group-returns
group::after_flat_group-returns m c =
    let read = c.in_ok-read.ensures in
    flat_group c.args.kind c.args.level (c.args.depth + 1) c.args.depth c.args.inside.now c.in_ok-read.read.rest.now c.in_ok-rest.rest.now c.brackets.result.1 read.0 c.in_ok-read.read.holds
    (omega arith) c.brackets.ensures.1 read.3 (sym (c.breaks-broken.ensures read.0 read.1 read.2) ∙ c.if-broken.false) c.in_ok-rest.ensures

pub segments::after_flat_segments-returns-then-is_some : goal.segments::after_flat_segments-returns-then-is_some
segments::after_flat_segments-returns-then-is_some m c = (0, refl, refl, none_flat c.args.kind c.args.level c.args.depth c.args.text.now)

pub segments::after_flat_segments-returns-in_default : goal.segments::after_flat_segments-returns-in_default
segments::after_flat_segments-returns-in_default m c =
    let i = c.loop.invariant in
    (i.0, i.1, i.2, finish_flat c.args.kind true c.args.level c.args.depth c.args.text.now c.loop.rest.now i.0 c.loop.holds i.3)

pub segments::after_segment-returns-in_ok-rest-in-List : goal.segments::after_segment-returns-in_ok-rest-in-List
segments::after_segment-returns-in_ok-rest-in-List m c =
    subst (λ k. IsSegmentFront k c.args.level c.args.depth c.args.text.now c.in_ok-rest-in-List.field-0.rest.now c.in_ok-rest-in-List.field-0.holds) (sym c.in-List.is)
    (element_segment c.args.level c.args.depth c.args.text.now c.in_ok-rest-in-List.field-0.rest.now c.in_ok-rest-in-List.field-0.holds c.in_ok-rest-in-List.ensures)

pub segments::after_segment-returns-in_ok-rest-in-Dict : goal.segments::after_segment-returns-in_ok-rest-in-Dict
segments::after_segment-returns-in_ok-rest-in-Dict m c =
    subst (λ k. IsSegmentFront k c.args.level c.args.depth c.args.text.now c.in_ok-rest-in-Dict.field-0.rest.now c.in_ok-rest-in-Dict.field-0.holds) (sym c.in-Dict.is)
    (entry_segment c.args.level c.args.depth c.args.text.now c.in_ok-colon-in-Dict.colon.now c.in_ok-rest-in-Dict.field-0.rest.now c.in_ok-value-in-Dict.value.now c.in_ok-rest-in-Dict.field-0.holds
    (c.in_ok-colon-in-Dict.ensures.front c.args.level c.args.depth) c.in_ok-value-in-Dict.ensures c.in_ok-rest-in-Dict.ensures)

pub segments::after_segment-returns-in_ok-rest-in-123 : goal.segments::after_segment-returns-in_ok-rest-in-123
segments::after_segment-returns-in_ok-rest-in-123 m c =
    positional_segment c.args.kind c.args.level c.args.depth c.args.text.now c.in_ok-rest-in-123.field-0.rest.now c.in_ok-rest-in-123.field-0.holds
    (search rules) c.in_ok-rest-in-123.ensures

pub segments::after_broken_dict-returns : goal.segments::after_broken_dict-returns
segments::after_broken_dict-returns m c =
    let text : List ℕ = c.args.text.now in
    let first = c.in_ok-first.first in
    let deeper : c.args.depth - 1 + 1 ≡ c.args.depth = omega (arith, c.if-depth-eq0.false) in
    let group : IsGroupFront Dict c.args.level c.args.depth text first.rest.now first.holds =
    subst (λ (t : List ℕ). IsGroupFront Dict c.args.level c.args.depth t first.rest.now first.holds) (sym c.in_ok-inside.ensures)
    (subst (λ d. IsGroupFront Dict c.args.level d (123 ∷ c.in_ok-inside.inside.now) first.rest.now first.holds) deeper c.in_ok-first.ensures) in
    c.in_ok-rest.ensures text (value_term c.args.level c.args.depth text first.rest.now first.holds (dict_value c.args.level c.args.depth text first.rest.now first.holds group))

pub segments::after_argument-returns-in_ok-rest-in-Some : goal.segments::after_argument-returns-in_ok-rest-in-Some
segments::after_argument-returns-in_ok-rest-in-Some m c =
    keyword_segment c.args.kind c.args.level c.args.depth c.args.text.now (codes " = " ++ c.in-Some.value.now) c.in_ok-rest-in-Some.field-0.rest.now c.in-Some.value.now c.in_ok-rest-in-Some.field-0.holds
    c.requires.call c.in-Some.ensures refl c.in_ok-rest-in-Some.ensures

pub segments::after_argument-returns-in_ok-rest-in-None : goal.segments::after_argument-returns-in_ok-rest-in-None
segments::after_argument-returns-in_ok-rest-in-None m c =
    positional_segment c.args.kind c.args.level c.args.depth c.args.text.now c.in_ok-rest-in-None.field-0.rest.now c.in_ok-rest-in-None.field-0.holds
    c.requires.call c.in_ok-rest-in-None.ensures

pub value::after_term-returns-in_ok-rest-in-91 : goal.value::after_term-returns-in_ok-rest-in-91
value::after_term-returns-in_ok-rest-in-91 m c =
    let read = c.in_ok-rest-in-91.field-0 in
    value_term c.args.level c.args.depth c.args.text.now read.rest.now read.holds (list_value c.args.level c.args.depth c.args.text.now read.rest.now read.holds c.in_ok-rest-in-91.ensures)

pub value::after_term-returns-in_ok-rest-in-123 : goal.value::after_term-returns-in_ok-rest-in-123
value::after_term-returns-in_ok-rest-in-123 m c =
    let read = c.in_ok-rest-in-123.field-0 in
    value_term c.args.level c.args.depth c.args.text.now read.rest.now read.holds (dict_value c.args.level c.args.depth c.args.text.now read.rest.now read.holds c.in_ok-rest-in-123.ensures)

pub value::after_term-returns-in_ok-rest-in-48-to-57 : goal.value::after_term-returns-in_ok-rest-in-48-to-57
value::after_term-returns-in_ok-rest-in-48-to-57 m c =
    let rest = c.in_ok-rest-in-48-to-57.rest.now in
    value_term c.args.level c.args.depth c.args.text.now rest false (number_value c.args.text.now rest c.in_ok-rest-in-48-to-57.ensures c.args.level c.args.depth)

pub value::after_name_or_call-returns-in_default : goal.value::after_name_or_call-returns-in_default
value::after_name_or_call-returns-in_default m c = (c.in_ok-end.ensures.front c.args.level c.args.depth).0

pub value::after_name_or_call-returns-in_ok-rest-in-40 : goal.value::after_name_or_call-returns-in_ok-rest-in-40
value::after_name_or_call-returns-in_ok-rest-in-40 m c =
    let read = c.in_ok-rest-in-40.field-0 in
    (call_primary c.args.level c.args.depth c.args.text.now c.in_ok-end.end.now read.rest.now false read.holds (c.in_ok-end.ensures.front c.args.level c.args.depth) c.in_ok-rest-in-40.ensures).0

pub value::after_name_or_call-returns-in_ok-rest-in-46 : goal.value::after_name_or_call-returns-in_ok-rest-in-46
value::after_name_or_call-returns-in_ok-rest-in-46 m c = (c.in_ok-rest-in-46.ensures c.args.text.now (c.in_ok-end.ensures.front c.args.level c.args.depth)).0

pub value::after_suffixes-loop-preserved-in-Some : goal.value::after_suffixes-loop-preserved-in-Some
value::after_suffixes-loop-preserved-in-Some m c = λ text p.
    member_primary c.args.level c.args.depth text c.loop.rest.now c.in-Some.member.now c.in_ok-rest.rest.now c.loop.holds (c.loop.invariant text p) c.in-Some.ensures c.in_ok-rest.ensures

pub value::after_suffixes-loop-preserved : goal.value::after_suffixes-loop-preserved
value::after_suffixes-loop-preserved m c = λ text p.
    let call = c.in_ok-call.call in
    subst (λ h. IsPrimaryFront c.args.level c.args.depth text call.rest.now h) (sym c.either-holds.ensures)
    (call_primary c.args.level c.args.depth text c.loop.rest.now call.rest.now c.loop.holds call.holds (c.loop.invariant text p) c.in_ok-call.ensures)
