use Rattle.std.proofs.Common.{arith, ◌≡◌, ℕ, List, ◌++◌, get_or, length, map, Option, option_map, refl, ap, sym, ◌∙◌}
use Rattle.std.proofs.lemmas.List.{map-append}
use Rattle.std.proofs.lemmas.Result.{IfOk-from_err}
use Rattle.bz_tree.specs.declared.tree.Seg.{Seg, roll-Seg}
use Rattle.bz_tree.specs.Elements.{one_segment}
use Rattle.bz_tree.specs.Tree.{Item, Segment}
use Rattle.bz_tree.specs.View.{seg_view, text_of, texts, nodes_view}
use Rattle.bz_tree.proofs.Trees.Views.{view-seg}
use Rattle.bz_tree.proofs.Trees.Walking.{made-seg, none_in, some_in}
use Rattle.bz_tree.specs.Borrowed.{owned, owned_in, owned_of, seg_owned}
use Rattle.bz_tree.specs.private.BorrowedSteps.{nodes_owned}
use Rattle.bz_tree.proofs.Trees.Borrowed.{owned_more, owned_seg, owned_first, seg_at_most}
use Rattle.bz_tree.specs.private.PlacedSteps.{nodes_spelling, segs_spelling}
use Rattle.bz_tree.proofs.Trees.Placed.{only_first}
use Rattle.bz_tree.proofs.Trees.Placed as placed_seg
use Rattle.bz_tree.proofs.tree.build.one_segment.Goals.{then-is_empty, else-is_empty}
use Rattle.bz_tree.proofs.tree.build.one_segment.Goals as goal

abbrev segment : List (List ℕ) → List Item → Option (List ℕ) → Segment
segment before nodes suffix = record { before = before; nodes = nodes; suffix = suffix }

segment_is : (b b2 : List (List ℕ)) (n n2 : List Item) (s s2 : Option (List ℕ)) → b ≡ b2 → n ≡ n2 → s ≡ s2 → segment b n s ≡ segment b2 n2 s2
segment_is b b2 n n2 s s2 e f g = rw (e, f, g) refl

pub returns-in_err-append-clause-value : goal.returns-in_err-append-clause-value
returns-in_err-append-clause-value c = IfOk-from_err _ _ c.from_residual.ensures.0

pub returns-clause-value : goal.returns-clause-value
returns-clause-value c =
    let seg = c.if-is_empty.seg in
    let segs = c.args.inside.segs.items in
    let end = c.args.inside.end.items in
    let made = made-seg (record { before = c.append.new.list; nodes = seg.nodes; suffix = seg.suffix }) in
    let here : seg_view (roll-Seg (record { before = c.append.new.list; nodes = seg.nodes; suffix = seg.suffix })) ≡ one_segment (map seg_view segs) (texts end) = elim c.if-is_empty.branch [
      | then-is_empty w ↦
          let none = none_in segs _ c.is_empty.result (omega (arith, c.args.inside.segs.ok.0)) c.is_empty.ensures w.if-is_empty.true in
          let new = w.empty_segment-seg in
          let before = c.in_ok-append.ensures.items ∙ (ap (λ xs. xs ++ c.if-is_empty.inside.end.items) (ap (λ s. s.before.items) w.seg-is ∙ new.ensures.before) ∙ ap (λ i. i.end.items) w.inside-is) in
          made ∙ (segment_is _ _ _ _ _ _ (ap texts before) (ap (λ s. nodes_view s.nodes.items) w.seg-is ∙ ap nodes_view new.ensures.nodes) (ap (λ s. option_map text_of s.suffix) w.seg-is ∙ ap (option_map text_of) new.ensures.suffix)
          ∙ ap (λ ss. one_segment (map seg_view ss) (texts end)) (sym none))
      | else-is_empty w ↦
          let some = some_in segs _ c.is_empty.result (omega (arith, c.args.inside.segs.ok.0)) c.is_empty.ensures w.if-is_empty.false in
          let first = w.seg-is ∙ (w.remove-seg.ensures.value ∙ ap (λ ss. get_or ss 0 w.remove-seg.result) some.2) in
          let before = c.in_ok-append.ensures.items ∙ ap (λ i. seg.before.items ++ i.end.items) w.inside-is in
          made ∙ (segment_is _ _ _ _ _ _ (ap texts before ∙ map-append text_of seg.before.items end) refl refl
          ∙ (ap (λ (s : Seg). segment (texts s.before.items ++ texts end) (nodes_view s.nodes.items) (option_map text_of s.suffix)) first
          ∙ (sym (ap (λ (s : Segment). segment (s.before ++ texts end) s.nodes s.suffix) (view-seg some.0)) ∙ ap (λ ss. one_segment (map seg_view ss) (texts end)) (sym some.2))))
    ] in
    here

pub returns-clause-borrowed : goal.returns-clause-borrowed
returns-clause-borrowed c =
    let seg = c.if-is_empty.seg in
    let segs = c.args.inside.segs.items in
    let before = ap owned_in c.in_ok-append.ensures.items ∙ owned_more owned seg.before.items c.if-is_empty.inside.end.items in
    elim c.if-is_empty.branch [
      | then-is_empty w ↦
          let new = w.empty_segment-seg.ensures in
          let no_before = ap (λ s. owned_in s.before.items) w.seg-is ∙ ap owned_in new.before in
          let no_nodes = ap (λ s. nodes_owned s.nodes.items) w.seg-is ∙ ap nodes_owned new.nodes in
          let no_suffix = ap (λ s. owned_of s.suffix) w.seg-is ∙ ap owned_of new.suffix in
          seg_at_most _ _ (omega (arith, before, no_before, no_nodes, no_suffix, ap (λ i. owned_in i.end.items) w.inside-is))
      | else-is_empty w ↦
          let some = some_in segs _ c.is_empty.result (omega (arith, c.args.inside.segs.ok.0)) c.is_empty.ensures w.if-is_empty.false in
          let first = owned_first seg_owned segs w.remove-seg.result (omega (arith, ap length some.2)) w.remove-seg.ensures.value in
          seg_at_most _ _ (omega (arith, before, ap seg_owned w.seg-is, owned_seg seg, first, ap (λ i. owned_in i.end.items) w.inside-is))
    ]

pub returns-clause-places : goal.returns-clause-places
returns-clause-places c = λ short.
    let seg = c.if-is_empty.seg in
    let segs = c.args.inside.segs.items in
    let here : nodes_spelling seg.nodes.items ≡ segs_spelling segs = elim c.if-is_empty.branch [
      | then-is_empty w ↦
          let none = none_in segs _ c.is_empty.result (omega (arith, c.args.inside.segs.ok.0)) c.is_empty.ensures w.if-is_empty.true in
          ap (λ s. nodes_spelling s.nodes.items) w.seg-is ∙ (ap nodes_spelling w.empty_segment-seg.ensures.nodes ∙ sym (ap segs_spelling none))
      | else-is_empty w ↦
          let some = some_in segs _ c.is_empty.result (omega (arith, c.args.inside.segs.ok.0)) c.is_empty.ensures w.if-is_empty.false in
          ap (λ s. nodes_spelling s.nodes.items) w.seg-is ∙ only_first segs w.remove-seg.result (omega (arith, ap length some.2)) w.remove-seg.ensures.value short
    ] in
    placed_seg.made_seg (record { before = c.append.new.list; nodes = seg.nodes; suffix = seg.suffix }) ∙ here
