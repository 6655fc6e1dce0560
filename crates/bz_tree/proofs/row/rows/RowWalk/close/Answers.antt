use Rattle.std.proofs.Common.{arith, ◌≡◌, ℕ, ◌+◌, add-zero, List, [], ◌∷◌, ◌++◌, map, reverse, Bool, true, false, cond, Option, Some, None, option_map, option_and_then, refl, ap, sym, ◌∙◌}
use Rattle.std.proofs.lemmas.List.{map-append}
use Rattle.std.specs.Bool.{then_some}
use Rattle.bz_tree.specs.declared.row.spot.Read.{Read}
use Rattle.bz_tree.specs.declared.row.spot.SegmentCount.{SegmentCount}
use Rattle.bz_tree.specs.declared.tree.GroupKind.{GroupKind}
use Rattle.bz_tree.specs.declared.tree.kinds.Shape.{Shape}
use Rattle.bz_tree.specs.private.KindSteps.{same_shape}
use Rattle.bz_tree.specs.Rows.{RowPart, closing, part_view}
use Rattle.bz_tree.specs.private.Steps.{shape_of}
use Rattle.bz_tree.specs.private.RowSteps.{At, a_node, is_ended, read_group, with_node, Stand, stand, RowState, row_state, last_end, is_one_comma, close_below, close_next}
use Rattle.bz_tree.proofs.Trees.Walking.{last_first, none_left}
use Rattle.bz_tree.proofs.row.rows.RowWalk.close.Goals.{then-not-same_shape-via-then-not-same_shape, then-not-same_shape-via-else-not-same_shape+in_ok-end_last+then-not-branch}
use Rattle.bz_tree.proofs.row.rows.RowWalk.close.Goals as goal

-- what ended the last segment
ended_by : (o : Option (List RowPart)) (p q : List RowPart) (b : Bool) → b ≡ true → then_some b q ≡ option_map (λ ps. p ++ ps) o → (ps : List RowPart) × (o ≡ Some ps) × (q ≡ p ++ ps)
ended_by None p q true e h = absurd (cc)
ended_by (Some ps) p q true e h = (ps, refl, cc)
ended_by o p q false e h = absurd (cc)

not_ended : (o : Option (List RowPart)) (p q : List RowPart) (b : Bool) → b ≡ false → then_some b q ≡ option_map (λ ps. p ++ ps) o → o ≡ None
not_ended None p q b e h = refl
not_ended (Some ps) p q true e h = absurd (cc)
not_ended (Some ps) p q false e h = absurd (cc)

refused : (b : Bool) (o : Option (List RowPart)) (f : List RowPart → Option RowState) → ((ps : List RowPart) → f ps ≡ None) → cond b (option_and_then f o) None ≡ None
refused true (Some ps) f h = h ps
refused true None f h = refl
refused false o f h = refl

left : (b : Bool) (o : Option (List RowPart)) (f : List RowPart → Option RowState) → o ≡ None → cond b (option_and_then f o) None ≡ None
left true o f e = rw e
left false o f e = refl

module _ (kind : GroupKind) (shape : Shape) (line : ℕ) (s : RowState) where
  other_shape : same_shape (Some (shape_of kind)) shape ≡ false → close_next (Some kind) shape line s ≡ None
  other_shape e = rw e

  closes : (ps : List RowPart) (below : Stand) (outer : List Stand) → same_shape (Some (shape_of kind)) shape ≡ true → last_end s.top.here s.top.read.stage ≡ Some ps → s.outer ≡ below ∷ outer → is_ended below.here ≡ false
      → close_next (Some kind) shape line s ≡ Some (record { top = with_node line (read_group kind below.read) below; outer = outer; parts = (s.parts ++ ps) ++ closing (is_one_comma kind s.top) ∷ [] })
  closes ps below outer same end around more = rw (same, end, around, more)

below_ended : (kind : GroupKind) (line : ℕ) (ps : List RowPart) (below : Stand) (outer : List Stand) (s : RowState) → is_ended below.here ≡ true → close_below kind line ps (below ∷ outer) s ≡ None
below_ended kind line ps below outer s e = rw e

abbrev state : Option GroupKind → SegmentCount → At → Read → List Stand → List RowPart → RowState
state kind done here read outer parts = record { top = record { kind = kind; done = done; here = here; read = read }; outer = outer; parts = parts }

made : (top : Stand) (here : At) (read : Read) (outer : List Stand) (p q : List RowPart) → here ≡ top.here → read ≡ top.read → p ≡ q → state top.kind top.done here read outer p ≡ state top.kind top.done top.here top.read outer q
made top here read outer p q e f g = rw (e, f, g) refl

pub returns-in_default : goal.returns-in_default
returns-in_default c = ap (λ k. close_next k c.args.shape c.args.line (row_state c.args.self.now)) (sym c.in_default.is)

pub returns-then-not-same_shape : goal.returns-then-not-same_shape
returns-then-not-same_shape c =
    let s = row_state c.args.self.now in
    let kind = c.in-Some.kind in
    let none : close_next (Some kind) c.args.shape c.args.line s ≡ None = elim c.then-not-same_shape.branch [
      | then-not-same_shape-via-then-not-same_shape w ↦ other_shape kind c.args.shape c.args.line s (ap (λ x. same_shape (Some x) c.args.shape) (sym c.shape_of.ensures) ∙ (sym c.same_shape.ensures ∙ w.if-not-same_shape.true))
      | then-not-same_shape-via-else-not-same_shape+in_ok-end_last+then-not-branch w ↦ left _ _ _ (not_ended _ s.parts _ w.in_ok-end_last.field-0 w.if-not-branch.true w.in_ok-end_last.ensures.parts)
    ] in
    sym (ap (λ k. close_next k c.args.shape c.args.line s) c.in-Some.is ∙ none)

pub returns-in_default-pop : goal.returns-in_default-pop
returns-in_default-pop c =
    let s = row_state c.args.self.now in
    let kind = c.in-Some.kind in
    let none = none_left c.end_last.new.self.outer.items (omega (arith, c.in_default-pop.ensures.cases.0, c.end_last.new.self.outer.ok.0)) in
    let around = ap (λ xs. reverse (map stand xs)) (ap (λ v. v.items) (sym c.in_ok-end_last.ensures.outer) ∙ none) in
    sym (ap (λ k. close_next k c.args.shape c.args.line s) c.in-Some.is ∙ refused _ _ (λ ps. close_below kind c.args.line ps s.outer s) (λ ps. ap (λ o. close_below kind c.args.line ps o s) around))

pub returns-then-is_ended : goal.returns-then-is_ended
returns-then-is_ended c =
    let s = row_state c.args.self.now in
    let kind = c.in-Some.kind in
    let below = c.in-Some-pop.below in
    let outer = c.pop.new.self.items in
    let around = last_first stand c.args.self.now.outer.items outer below (ap (λ v. v.items) (sym c.in_ok-end_last.ensures.outer) ∙ c.in-Some-pop.ensures.items) in
    let none = λ (ps : List RowPart). ap (λ o. close_below kind c.args.line ps o s) around ∙ below_ended kind c.args.line ps (stand below) (reverse (map stand outer)) s (sym c.is_ended.ensures ∙ c.if-is_ended.true) in
    sym (ap (λ k. close_next k c.args.shape c.args.line s) c.in-Some.is ∙ refused _ _ (λ ps. close_below kind c.args.line ps s.outer s) none)

pub returns : goal.returns
returns c =
    let s = row_state c.args.self.now in
    let kind = c.in-Some.kind in
    let below = c.in-Some-pop.below in
    let outer = c.pop.new.self.items in
    let around = last_first stand c.args.self.now.outer.items outer below (ap (λ v. v.items) (sym c.in_ok-end_last.ensures.outer) ∙ c.in-Some-pop.ensures.items) in
    let same = ap (λ x. same_shape (Some x) c.args.shape) (sym c.shape_of.ensures) ∙ (sym c.same_shape.ensures ∙ c.if-not-same_shape.false) in
    let end = ended_by (last_end s.top.here s.top.read.stage) s.parts (map part_view c.end_last.new.self.parts.items) c.in_ok-end_last.field-0 c.if-not-branch.false c.in_ok-end_last.ensures.parts in
    let one = c.is_one_comma-one_comma.ensures ∙ ap (λ t. is_one_comma kind (stand t)) c.in_ok-end_last.ensures.top in
    let pushed = ap (map part_view) c.in_ok-push.ensures.items ∙ (map-append part_view c.end_last.new.self.parts.items _ ∙ (ap (λ p. p ++ closing c.is_one_comma-one_comma.result ∷ []) end.2 ∙ ap (λ b. (s.parts ++ end.0) ++ closing b ∷ []) one)) in
    let new = made (with_node c.args.line (read_group kind below.read) (stand below)) (a_node (c.args.line + 0)) c.add_group.new.self (reverse (map stand outer)) (map part_view c.push.new.list.items) _ (ap a_node (add-zero c.args.line)) c.add_group.ensures pushed in
    ap Some new ∙ sym (ap (λ k. close_next k c.args.shape c.args.line s) c.in-Some.is ∙ closes kind c.args.shape c.args.line s end.0 (stand below) (reverse (map stand outer)) same end.1 around (sym c.is_ended.ensures ∙ c.if-is_ended.false))
