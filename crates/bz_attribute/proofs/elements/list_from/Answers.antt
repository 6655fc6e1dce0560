use Rattle.std.proofs.Common.{rules, refl, ℕ, ◌&&◌, Bool, ap, drop, map, sym, ◌∙◌}
use Rattle.bz_tree.specs.Rows.{part_view}
use Rattle.bz_attribute.specs.private.Parts.{ends_piece}
use Rattle.bz_attribute.proofs.ListWalk.{list_here, no_walk_after, walk_ends, walk_passes}
use Rattle.bz_attribute.proofs.Slices.{rest_seen}
use Rattle.bz_attribute.proofs.elements.list_from.Goals as goal
use Rattle.bz_attribute.proofs.elements.list_from.Goals.{else-starts-via-then-starts+then-opens_list+else-ends_piece, else-starts-via-then-starts+else-opens_list, else-starts-via-else-starts}

pub returns-then-ends_piece-clause-some : goal.returns-then-ends_piece-clause-some
returns-then-ends_piece-clause-some c = λ nodes after read joined.
    let at : ℕ = c.loop-at.at in
    let end : ℕ = c.item_end-end.result in
    list_here c.args.whole c.loop-at.starts c.args.parts.now c.args.from at end _ nodes after c.loop-at.invariant.walked c.loop-at-test.true (sym c.is_end.ensures ∙ c.if-not-is_end.true)
    c.if-starts.true (sym c.opens_list.ensures ∙ c.if-opens_list.true) (sym (c.ends_piece.ensures ∙ ap ends_piece (rest_seen c.args.parts.now end)) ∙ c.if-ends_piece.true)
    c.item_end-end.ensures.end read joined

pub loop-at-preserved : goal.loop-at-preserved
loop-at-preserved c =
    let at : ℕ = c.loop-at.at in
    let end : ℕ = c.item_end-end.result in
    let piece : Bool = ends_piece (drop end (map part_view c.args.parts.now)) in
    record {
      within = search rules;
      after = search rules;
      walked =
          walk_passes c.args.whole c.loop-at.starts c.is_plus-starts.result c.args.parts.now c.args.from at end _ c.loop-at.invariant.walked c.loop-at-test.true (sym c.is_end.ensures ∙ c.if-not-is_end.true) (
          elim c.else-starts.branch [
            | else-starts-via-then-starts+then-opens_list+else-ends_piece w ↦ (λ i. w.if-starts.true i && (sym w.opens_list.ensures ∙ w.if-opens_list.true) i && (sym (w.ends_piece.ensures ∙ ap ends_piece (rest_seen c.args.parts.now end)) ∙ w.if-ends_piece.false) i)
            | else-starts-via-then-starts+else-opens_list w ↦ (λ i. w.if-starts.true i && (sym w.opens_list.ensures ∙ w.if-opens_list.false) i && piece)
            | else-starts-via-else-starts w ↦ rw w.if-starts.false refl
          ]
          ) c.is_plus-starts.ensures c.item_end-end.ensures.end;
    }

pub returns-else-not-is_end-clause-none : goal.returns-else-not-is_end-clause-none
returns-else-not-is_end-clause-none c = λ nodes after read joined.
    walk_ends c.args.whole c.loop-at.starts c.args.parts.now c.args.from c.loop-at.at _ nodes after c.loop-at.invariant.walked c.loop-at-test.true (sym c.is_end.ensures ∙ c.if-not-is_end.false) read joined

pub returns-after-loop-at-clause-none : goal.returns-after-loop-at-clause-none
returns-after-loop-at-clause-none c = λ nodes after read joined.
    no_walk_after c.args.whole c.loop-at.starts c.args.parts.now c.args.from c.loop-at.at nodes after c.loop-at.invariant.walked c.loop-at-test.false read
