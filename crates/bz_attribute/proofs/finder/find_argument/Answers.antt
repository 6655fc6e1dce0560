use Rattle.std.proofs.Common.{ℕ, ◌+◌, List, map, ap, sym, ◌∙◌, arith, rules}
use Rattle.bz_tree.specs.Rows.{RowPart, part_view}
use Rattle.bz_attribute.specs.RowPlaces.{before_args}
use Rattle.bz_attribute.specs.Rules.{is_text}
use Rattle.bz_attribute.specs.private.Parts.{above_len, ends_list, flat_name, segment_len}
use Rattle.bz_attribute.proofs.ArgumentWalk.{never_past, none_named, none_passed, one_named, one_unnamed, rule_arguments}
use Rattle.bz_attribute.proofs.Slices.{rest_seen}
use Rattle.std.proofs.lemmas.List.{length-map}
use Rattle.bz_attribute.proofs.finder.find_argument.Goals as goal

pub loop-at-init : goal.loop-at-init
loop-at-init c = record {
  within = c.arguments_begin-at.ensures.within;
  begun = search rules;
  unnamed = none_passed c.args.name.now (map part_view c.args.parts.now) c.arguments_begin-at.result c.arguments_begin-at.ensures.begin;
}

pub returns-then-ends_list-clause-first : goal.returns-then-ends_list-clause-first
returns-then-ends_list-clause-first c =
    let at : ℕ = c.loop-at.at in
    none_named c.args.name.now _ at (at + c.comments_len.result) c.loop-at.invariant.unnamed
    (ap (λ (n : ℕ). at + n) (c.comments_len.ensures.len ∙ ap above_len (rest_seen c.args.parts.now at)))
    (ap ends_list (sym (rest_seen c.args.parts.now (at + c.comments_len.result))) ∙ sym c.ends_list.ensures ∙ c.if-ends_list.true)

pub returns-then-begins_with-clause-first : goal.returns-then-begins_with-clause-first
returns-then-begins_with-clause-first c =
    let ps : List RowPart = map part_view c.args.parts.now in
    let at : ℕ = c.loop-at.at in
    let seen = rest_seen c.args.parts.now (at + c.comments_len.result) in
    one_named c.args.name.now ps at (at + c.comments_len.result) c.loop-at.invariant.unnamed
    (ap (λ (n : ℕ). at + n) (c.comments_len.ensures.len ∙ ap above_len (rest_seen c.args.parts.now at)))
    (ap ends_list (sym seen) ∙ sym c.ends_list.ensures ∙ c.if-ends_list.false)
    (ap (λ (qs : List RowPart). is_text c.args.name.now (flat_name qs)) (sym seen) ∙ sym c.begins_with.ensures ∙ c.if-begins_with.true)

pub loop-at-preserved : goal.loop-at-preserved
loop-at-preserved c =
    let ps : List RowPart = map part_view c.args.parts.now in
    let at : ℕ = c.loop-at.at in
    let token : ℕ = at + c.comments_len.result in
    let seen = rest_seen c.args.parts.now token in
    record {
      within = omega (arith, c.comments_len.ensures.within, c.segment_len.ensures.within, c.loop-at.invariant.within);
      begun = search rules;
      unnamed = one_unnamed c.args.name.now ps at token (token + c.segment_len.result) c.loop-at.invariant.unnamed
          (ap (λ (n : ℕ). at + n) (c.comments_len.ensures.len ∙ ap above_len (rest_seen c.args.parts.now at)))
          (ap ends_list (sym seen) ∙ sym c.ends_list.ensures ∙ c.if-ends_list.false)
          (ap (λ (qs : List RowPart). is_text c.args.name.now (flat_name qs)) (sym seen) ∙ sym c.begins_with.ensures ∙ c.if-begins_with.false)
          (ap (λ (n : ℕ). token + n) (c.segment_len.ensures.len ∙ ap segment_len seen));
    }

pub returns-clause-first : goal.returns-clause-first
returns-clause-first c =
    never_past c.args.name.now (map part_view c.args.parts.now) c.loop-at.at c.loop-at.invariant.unnamed (omega (arith, c.loop-at-test.false, length-map c.args.parts.now part_view))

pub returns-then-ends_list-clause-found : goal.returns-then-ends_list-clause-found
returns-then-ends_list-clause-found c = λ s r h. returns-then-ends_list-clause-first c (before_args s r) r.args (rule_arguments s r (map part_view c.args.parts.now) h)

pub returns-then-begins_with-clause-found : goal.returns-then-begins_with-clause-found
returns-then-begins_with-clause-found c = λ s r h. returns-then-begins_with-clause-first c (before_args s r) r.args (rule_arguments s r (map part_view c.args.parts.now) h)

pub returns-clause-found : goal.returns-clause-found
returns-clause-found c = λ s r h. returns-clause-first c (before_args s r) r.args (rule_arguments s r (map part_view c.args.parts.now) h)
