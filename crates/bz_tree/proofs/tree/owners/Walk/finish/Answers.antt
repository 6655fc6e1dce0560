use Rattle.std.proofs.Common.{arith, ◌≡◌, List, [], ◌∷◌, ◌++◌, map, cond, Some, None, option_map, refl, ap, sym, ◌∙◌}
use Rattle.std.proofs.lemmas.List.{map-append}
use Rattle.std.proofs.lemmas.Result.{IfOk-from_err}
use Rattle.bz_tree.specs.declared.tree.Node.{Node}
use Rattle.bz_tree.specs.declared.tree.owners.Walk.{Walk}
use Rattle.bz_tree.specs.Tree.{Segment}
use Rattle.bz_tree.specs.View.{seg_view, texts}
use Rattle.bz_tree.specs.Owners.{Inside}
use Rattle.bz_tree.specs.private.Steps.{done, walked}
use Rattle.bz_tree.proofs.Trees.Views.{view-seg}
use Rattle.bz_tree.proofs.Trees.Walking.{none_in, some_in}
use Rattle.bz_tree.proofs.tree.owners.Walk.finish.Goals.{then-not-is_empty+in_ok-push, else-not-is_empty}
use Rattle.bz_tree.specs.private.BorrowedSteps.{segs_owned}
use Rattle.bz_tree.proofs.Trees.Borrowed.{seg_push}
use Rattle.bz_tree.specs.Places.{seg_spelling}
use Rattle.bz_tree.specs.private.PlacedSteps.{nodes_spelling, segs_spelling}
use Rattle.bz_tree.proofs.Trees.Placed.{ends_here, joined_push, spelled_seg}
use Rattle.bz_tree.proofs.tree.owners.Walk.finish.Goals as goal

abbrev ended : Walk → List Segment → Inside
ended w ss = record { segs = ss; trailing = w.trailing; end = texts w.after.items }

no_nodes : (w : Walk) → w.here.nodes.items ≡ [] → done (walked w) ≡ ended w (map seg_view w.segs.items)
no_nodes w e = rw e refl

nodes : (w : Walk) (x : Node) (xs : List Node) → w.here.nodes.items ≡ x ∷ xs → done (walked w) ≡ ended w (map seg_view w.segs.items ++ seg_view w.here ∷ [])
nodes w x xs e = rw (view-seg w.here, e) refl

pub returns-then-not-self-clause-value : goal.returns-then-not-self-clause-value
returns-then-not-self-clause-value c = ap (λ b. option_map done (cond b (Some (walked c.args.self)) None)) (sym c.if-not-self.true)

pub returns-in_err-push-clause-value : goal.returns-in_err-push-clause-value
returns-in_err-push-clause-value c = IfOk-from_err _ _ c.from_residual.ensures.0

pub returns-clause-value : goal.returns-clause-value
returns-clause-value c =
    let self = c.args.self in
    let inside : ended self (map seg_view c.if-not-is_empty.segs.items) ≡ done (walked self) = elim c.if-not-is_empty.branch [
      | then-not-is_empty+in_ok-push w ↦
          let some = some_in self.here.nodes.items _ c.is_empty.result (omega (arith, self.here.nodes.ok.0)) c.is_empty.ensures w.if-not-is_empty.true in
          ap (λ v. ended self (map seg_view v.items)) w.segs-is
          ∙ (ap (λ ss. ended self ss) (ap (map seg_view) w.in_ok-push.ensures.items ∙ map-append seg_view self.segs.items (self.here ∷ [])) ∙ sym (nodes self some.0 some.1 some.2))
      | else-not-is_empty w ↦
          ap (λ v. ended self (map seg_view v.items)) w.segs-is ∙ sym (no_nodes self (none_in _ _ c.is_empty.result (omega (arith, self.here.nodes.ok.0)) c.is_empty.ensures w.if-not-is_empty.false))
    ] in
    ap Some inside ∙ ap (λ b. option_map done (cond b (Some (walked self)) None)) (sym c.if-not-self.false)

pub returns-clause-borrowed : goal.returns-clause-borrowed
returns-clause-borrowed c = elim c.if-not-is_empty.branch [
  | then-not-is_empty+in_ok-push w ↦
      omega (arith, ap (λ s. segs_owned s.items) w.segs-is, ap segs_owned w.in_ok-push.ensures.items, seg_push c.args.self.segs.items c.args.self.here)
  | else-not-is_empty w ↦ omega (arith, ap (λ s. segs_owned s.items) w.segs-is)
]

pub returns-clause-places : goal.returns-clause-places
returns-clause-places c =
    let self = c.args.self in
    let segs = segs_spelling self.segs.items in
    elim c.if-not-is_empty.branch [
      | then-not-is_empty+in_ok-push w ↦
          ap (λ s. segs_spelling s.items) w.segs-is
          ∙ (ap segs_spelling w.in_ok-push.ensures.items ∙ (joined_push seg_spelling self.segs.items self.here ∙ ap (λ ps. segs ++ ps) (spelled_seg self.here)))
      | else-not-is_empty w ↦
          let none = none_in _ _ c.is_empty.result (omega (arith, self.here.nodes.ok.0)) c.is_empty.ensures w.if-not-is_empty.false in
          ap (λ s. segs_spelling s.items) w.segs-is ∙ sym (ends_here segs _ _ refl (ap nodes_spelling none))
    ]
