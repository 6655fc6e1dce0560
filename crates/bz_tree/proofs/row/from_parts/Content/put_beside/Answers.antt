use Rattle.std.proofs.Common.{◌≡◌, ◌-◌, List, Some, suc, length, refl, ap, sym, ◌∙◌, arith}
use Rattle.std.specs.Vec.{vec_len}
use Rattle.std.specs.declared.borrow.CowStr.TheVariants.{Borrowed}
use Rattle.bz_tree.specs.declared.tree.Seg.{roll-Seg}
use Rattle.bz_tree.specs.Tree.{Segment}
use Rattle.bz_tree.specs.View.{texts, nodes_view}
use Rattle.bz_tree.proofs.Trees.Views.{view-seg}
use Rattle.bz_tree.proofs.Rows.FromParts.{segment, last_written}
use Rattle.bz_tree.proofs.row.from_parts.Content.put_beside.Goals as goal

pub returns-in-Some : goal.returns-in-Some
returns-in-Some c =
    let content = c.args.self.now in
    let text = c.args.text in
    let s = c.in-Some.seg.now in
    let new = roll-Seg (record { before = s.before; nodes = s.nodes; suffix = Some (Borrowed text) }) in
    let last : suc (vec_len content.segs - 1) ≡ length content.segs.items = omega (arith, c.in-Some.ensures.variant.0 refl, content.segs.ok.0) in
    ap (λ (ss : List Segment). record { segs = ss; comments = texts content.comments.items; nodes = nodes_view content.nodes.items })
    (last_written text.now content.segs.items (vec_len content.segs - 1) s new last c.in-Some.ensures.value (view-seg new ∙ sym (ap (λ (z : Segment). segment z.before z.nodes (Some text.now)) (view-seg s))))
