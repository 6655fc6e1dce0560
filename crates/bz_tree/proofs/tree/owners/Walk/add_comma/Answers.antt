use Rattle.std.proofs.Common.{arith, ◌≡◌, ℕ, List, [], ◌∷◌, ◌++◌, map, Bool, true, false, cond, Option, Some, None, option_map, option_and_then, refl, ap, sym, ◌∙◌}
use Rattle.std.proofs.lemmas.List.{map-append}
use Rattle.std.proofs.lemmas.Result.{IfOk-from_err}
use Rattle.bz_tree.specs.declared.tree.Node.{Node}
use Rattle.bz_tree.specs.declared.tree.owners.Walk.{Walk}
use Rattle.bz_tree.specs.Tree.{Item, Segment}
use Rattle.bz_tree.specs.View.{text_of, texts, nodes_view, seg_view}
use Rattle.bz_tree.specs.Cells.{end_of_comma}
use Rattle.bz_tree.specs.private.Steps.{Walked, walked, after_comma}
use Rattle.bz_tree.proofs.Trees.Walking.{made-seg, none_in, some_in}
use Rattle.bz_tree.specs.declared.tree.Seg.{Seg}
use Rattle.bz_tree.specs.Borrowed.{owned, owned_in, owned_of}
use Rattle.bz_tree.specs.private.BorrowedSteps.{nodes_owned, segs_owned}
use Rattle.bz_tree.proofs.Trees.Borrowed.{owned_more, seg_push}
use Rattle.bz_tree.specs.Places.{seg_spelling}
use Rattle.bz_tree.specs.private.PlacedSteps.{nodes_spelling, segs_spelling}
use Rattle.bz_tree.proofs.Trees.Placed.{ends_here, joined_push, spelled_seg}
use Rattle.bz_tree.proofs.tree.owners.Walk.add_comma.Goals as goal

abbrev after : ℕ → List Segment → List (List ℕ) → List Item → Option (List ℕ) → List (List ℕ) → Walked
after line segs before nodes suffix more = record { segs = segs; before = before; nodes = nodes; suffix = suffix; after = more; last = end_of_comma line; trailing = true }

abbrev done : Walk → Segment
done w = record { before = texts w.here.before.items ++ texts w.after.items; nodes = nodes_view w.here.nodes.items; suffix = option_map text_of w.here.suffix }

empty : (line : ℕ) (w : Walk) → w.here.nodes.items ≡ [] → after_comma line (walked w) ≡ None
empty line w e = rw e refl

full : (line : ℕ) (w : Walk) (x : Node) (xs : List Node) (s : Segment) (segs : List Segment) (before : List (List ℕ)) (nodes : List Item) (suffix : Option (List ℕ)) (more : List (List ℕ)) → w.here.nodes.items ≡ x ∷ xs
    → segs ≡ map seg_view w.segs.items ++ s ∷ [] → s ≡ done w → before ≡ [] → nodes ≡ [] → suffix ≡ None → more ≡ [] → Some (after line segs before nodes suffix more) ≡ after_comma line (walked w)
full line w x xs s segs before nodes suffix more some on_segs on_s on_before on_nodes on_suffix on_more = rw (on_segs, on_s, on_before, on_nodes, on_suffix, on_more, some) refl

-- whether or not a segment is empty
refused : (whole : Bool) (w : Walked) (f : Walked → Option Walked) → f w ≡ None → None ≡ option_and_then f (cond whole (Some w) None)
refused true w f e = sym e
refused false w f e = refl

stepped : (whole : Bool) (w v : Walked) (f : Walked → Option Walked) → Some v ≡ f w → cond whole (Some v) None ≡ option_and_then f (cond whole (Some w) None)
stepped true w v f e = e
stepped false w v f e = refl

pub returns-then-is_empty-clause-value : goal.returns-then-is_empty-clause-value
returns-then-is_empty-clause-value c =
    let self = c.args.self.now in
    let none = none_in self.here.nodes.items _ c.is_empty.result (omega (arith, self.here.nodes.ok.0)) c.is_empty.ensures c.if-is_empty.true in
    refused self.whole (walked self) (after_comma c.args.line) (empty c.args.line self none)

pub returns-in_err-append-clause-value : goal.returns-in_err-append-clause-value
returns-in_err-append-clause-value c = IfOk-from_err _ _ c.from_residual.ensures.0

pub returns-in_err-push-clause-value : goal.returns-in_err-push-clause-value
returns-in_err-push-clause-value c = IfOk-from_err _ _ c.from_residual-in_err-push.ensures.0

pub returns-clause-value : goal.returns-clause-value
returns-clause-value c =
    let self = c.args.self.now in
    let new = c.empty_segment.ensures in
    let here = c.replace-seg.ensures.after in
    let some = some_in self.here.nodes.items _ c.is_empty.result (omega (arith, self.here.nodes.ok.0)) c.is_empty.ensures c.if-is_empty.false in
    let segs = ap (map seg_view) c.in_ok-push.ensures.items ∙ map-append seg_view self.segs.items (c.replace-seg.result ∷ []) in
    let seg = ap seg_view c.replace-seg.ensures.value
    ∙ (made-seg (record { before = c.append.new.list; nodes = self.here.nodes; suffix = self.here.suffix })
    ∙ ap (λ ts. record (done self) { before = ts }) (ap texts c.in_ok-append.ensures.items ∙ map-append text_of self.here.before.items self.after.items)) in
    let next = full c.args.line self some.0 some.1 _ _ _ _ _ _ some.2 segs seg (ap (λ s. texts s.before.items) here ∙ ap texts new.before) (ap (λ s. nodes_view s.nodes.items) here ∙ ap nodes_view new.nodes)
    (ap (λ s. option_map text_of s.suffix) here ∙ ap (option_map text_of) new.suffix) (ap texts c.in_ok-append.ensures.other_items) in
    stepped self.whole (walked self) _ (after_comma c.args.line) next

pub returns-clause-borrowed : goal.returns-clause-borrowed
returns-clause-borrowed c =
    let w = c.args.self.now in
    let before = ap owned_in c.in_ok-append.ensures.items ∙ owned_more owned w.here.before.items w.after.items in
    let after = ap owned_in c.in_ok-append.ensures.other_items in
    let before_moved = ap (λ (s : Seg). owned_in s.before.items) c.replace-seg.ensures.value in
    let nodes_moved = ap (λ (s : Seg). nodes_owned s.nodes.items) c.replace-seg.ensures.value in
    let suffix_moved = ap (λ (s : Seg). owned_of s.suffix) c.replace-seg.ensures.value in
    let before_left = ap (λ (s : Seg). owned_in s.before.items) c.replace-seg.ensures.after ∙ ap owned_in c.empty_segment.ensures.before in
    let nodes_left = ap (λ (s : Seg). nodes_owned s.nodes.items) c.replace-seg.ensures.after ∙ ap nodes_owned c.empty_segment.ensures.nodes in
    let suffix_left = ap (λ (s : Seg). owned_of s.suffix) c.replace-seg.ensures.after ∙ ap owned_of c.empty_segment.ensures.suffix in
    let segs = ap segs_owned c.in_ok-push.ensures.items ∙ seg_push w.segs.items c.replace-seg.result in
    omega (arith, before, after, before_moved, before_left, nodes_moved, nodes_left, suffix_moved, suffix_left, segs)

pub returns-clause-places : goal.returns-clause-places
returns-clause-places c =
    let w = c.args.self.now in
    let moved = ap (λ (s : Seg). nodes_spelling s.nodes.items) c.replace-seg.ensures.value in
    let left = ap (λ (s : Seg). nodes_spelling s.nodes.items) c.replace-seg.ensures.after ∙ ap nodes_spelling c.empty_segment.ensures.nodes in
    let segs = ap segs_spelling c.in_ok-push.ensures.items ∙ joined_push seg_spelling w.segs.items c.replace-seg.result in
    ends_here _ _ _ (segs ∙ ap (λ ps. segs_spelling w.segs.items ++ ps) (spelled_seg c.replace-seg.result ∙ moved)) left
