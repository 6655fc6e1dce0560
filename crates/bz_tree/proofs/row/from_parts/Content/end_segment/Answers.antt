use Rattle.std.proofs.Common.{◌≡◌, ℕ, List, [], ◌∷◌, ◌++◌, map, cond, None, Result, Ok, Err, refl, ap, ◌∙◌}
use Rattle.std.proofs.lemmas.List.{map-append}
use Rattle.std.specs.Result.{OnOk, is_ok}
use Rattle.bz_memory.specs.declared.no_memory.NoMemory.{NoMemory}
use Rattle.bz_tree.specs.declared.tree.Seg.{Seg}
use Rattle.bz_tree.specs.Tree.{Item, Segment}
use Rattle.bz_tree.specs.View.{texts, nodes_view, seg_view}
use Rattle.bz_tree.specs.FromParts.{Content}
use Rattle.bz_tree.proofs.Trees.Walking.{made-seg}
use Rattle.bz_tree.proofs.row.from_parts.Content.end_segment.Goals as goal

pushed : (r : Result (Unit {0}) NoMemory) (new old : List Seg) (s : Seg) (P : Type 0) → new ≡ cond (is_ok r) (old ++ s ∷ []) old → (new ≡ old ++ s ∷ [] → P) → OnOk r P
pushed (Ok _) new old s P e made = made e
pushed (Err _) new old s P e made = tt

abbrev the_content : List Segment → List (List ℕ) → List Item → Content
the_content segs comments nodes = record { segs = segs; comments = comments; nodes = nodes }

abbrev the_segment : List (List ℕ) → List Item → Segment
the_segment before nodes = record { before = before; nodes = nodes; suffix = None }

ended : (segs segs2 : List Segment) (comments comments2 : List (List ℕ)) (nodes nodes2 : List Item) → segs ≡ segs2 → comments ≡ comments2 → nodes ≡ nodes2
    → the_content segs comments nodes ≡ the_content segs2 comments2 nodes2
ended segs segs2 comments comments2 nodes nodes2 e f g = rw (e, f, g) refl

pub returns : goal.returns
returns c =
    let self = c.args.self.now in
    pushed c.push.result c.push.new.list.items self.segs.items _ _ c.push.ensures.items (λ e.
    ended _ _ _ _ _ _ (ap (map seg_view) e ∙ (map-append seg_view self.segs.items _ ∙ ap (λ s. map seg_view self.segs.items ++ s ∷ [])
    (made-seg (record { before = c.replace.result; nodes = c.replace-2.result; suffix = None }) ∙ (ap (λ v. the_segment (texts v.items) (nodes_view c.replace-2.result.items)) c.replace.ensures.value ∙ ap (λ v. the_segment (texts self.comments.items) (nodes_view v.items)) c.replace-2.ensures.value))))
    (ap (λ v. texts v.items) c.replace.ensures.after ∙ ap texts c.new.ensures.items) (ap (λ v. nodes_view v.items) c.replace-2.ensures.after ∙ ap nodes_view c.new-2.ensures.items))
