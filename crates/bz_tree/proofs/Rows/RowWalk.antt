-- The walk that reads a row goes along with the walk that builds the tree.
use Rattle.std.proofs.Common.{◌≡◌, ℕ, ◌==◌, List, [], ◌∷◌, ◌++◌, suc, length, map, Bool, true, false, cond, ◌&&◌, Option, Some, None, option_and_then, arith, refl, sym, ap, ◌∙◌, append_assoc, append-nil}
use Rattle.std.proofs.lemmas.List.{map-append}
use Rattle.std.proofs.lemmas.Bool.{false≢true, or_parts}
use Rattle.std.proofs.lemmas.Bool.Decides.{nat_tests}
use Rattle.std.specs.Prelude.{codes, count_by}
use Rattle.std.specs.Str.{bytes_eq}
use Rattle.std.proofs.lemmas.Slice.Eq.{bytes_eq-Decides}
use Rattle.bz_token.specs.declared.token.Kind.{Kind}
use Rattle.bz_token.specs.declared.token.Kind.TheVariants.{Operator}
use Rattle.bz_token.specs.Places.{Placed}
use Rattle.bz_tree.specs.declared.tree.GroupKind.{GroupKind}
use Rattle.bz_tree.specs.declared.tree.kinds.Shape.{Shape}
use Rattle.bz_tree.specs.declared.tree.kinds.Shape.TheVariants.{Round, Square, Curly}
use Rattle.bz_tree.specs.declared.tree.kinds.Mark.{Mark}
use Rattle.bz_tree.specs.declared.tree.kinds.Mark.TheVariants.{Open, Close, Comma, Comment, Newline, Plain}
use Rattle.bz_tree.specs.declared.tree.kinds.Preceding.{Preceding}
use Rattle.bz_tree.specs.declared.tree.kinds.Preceding.TheVariants.{Operand, Other}
use Rattle.bz_tree.specs.declared.row.spot.Read.{Read}
use Rattle.bz_tree.specs.Tree.{Item, Segment, no_segs, segs_of}
use Rattle.bz_tree.specs.Kinds.{kind_mark, mark_of, group_kind, is_one}
use Rattle.bz_tree.specs.private.KindSteps.{kind_after, is_for_at, same_shape}
use Rattle.bz_tree.specs.Owners.{node, comma, comment, Inside}
use Rattle.bz_tree.specs.Cells.{no_token, end_of_node, end_of_comma}
use Rattle.bz_tree.specs.Brackets.{leaf_of, is_for_item, is_paren, group_with, end_line}
use Rattle.bz_tree.specs.Rows.{RowPart, opening, closing, segment_end, above, beside, beside_part, item_parts}
use Rattle.bz_tree.specs.private.Machine.{next, may_end, begin, later, is_whole, each, role_of, group_role}
use Rattle.bz_tree.specs.private.Steps.{Walked, after_own, commented, to_last, done, has_one, is_in_first, as_comprehension, shape_of, Level, Levels, with_own, next_at}
use Rattle.bz_tree.specs.private.RowSteps.{is_ended, called, shown_kind, start, read_group, is_text, Stand, with_node, RowState, step_to, is_refused, comment_part, after_comment_next, last_end, is_single, is_one_comma, close_below, row_next_at}
use Rattle.bz_tree.proofs.Trees.Complete.{same_itself}
use Rattle.bz_tree.proofs.Trees.InPlace.{filled_push, filled_last}
use Rattle.bz_tree.proofs.Trees.Sound.{none_is_some, some_injective, same_shape_is}
use Rattle.bz_tree.proofs.Rows.RowParts.{Place, none, fresh, some, over, Bracket, bracket, nodes_of, read_item, read_items, stage_after, begun, after_push, after_last, read_of, at_place, done_of, stand_of, shown_item, shown, nodes_parts, all_segs_parts, place_parts, bracket_parts, all_parts, all_push, read_push, shown_push, nodes_more, item_at, accepts_read, never_shown, segs_push, each_push, done_push, is_open, open_push, beside_last, each_last, done_last}
use Rattle.bz_token.specs.Common.{is_filled}
use Rattle.bz_tree.proofs.Trees.Walking.{level_is}
use Rattle.std.proofs.lemmas.Option.{cond_some}

-- the same bracket in the walk that builds the tree
abbrev walked_of : List Segment → Place → Walked
walked_of segs (none after) = record { segs = segs; before = []; nodes = []; suffix = None; after = after; last = no_token; trailing = is_filled segs }
walked_of segs (fresh line) = record { segs = segs; before = []; nodes = []; suffix = None; after = []; last = end_of_comma line; trailing = is_filled segs }
walked_of segs (some before x xs line) = record { segs = segs; before = before; nodes = x ∷ xs; suffix = None; after = []; last = end_of_node line; trailing = false }
walked_of segs (over before x xs suffix after) = record { segs = segs; before = before; nodes = x ∷ xs; suffix = suffix; after = after; last = no_token; trailing = false }

abbrev is_comma : Mark → Bool
is_comma Comma = true
is_comma _ = false

abbrev pub level_of : Bracket → Level
level_of g = record { kind = g.kind; walked = Some (walked_of g.segs g.place); at = (read_of g).at }

abbrev pub image : Bracket → List Bracket → RowState
image g gs = record { top = stand_of g; outer = map stand_of gs; parts = all_parts g gs }

-- at the top there is one segment, and no comment after its suffix
abbrev pub is_top : Place → Bool
is_top (none after) = true
is_top (fresh line) = false
is_top (some before x xs line) = true
is_top (over before x xs suffix []) = true
is_top (over before x xs suffix (text ∷ texts)) = false

abbrev IsOpenAt : Place → List Segment → Type 0
IsOpenAt (fresh line) segs = is_open segs ≡ true
IsOpenAt _ segs = Unit {0}

-- the segments that are done are in the grammar
abbrev pub IsGoodAt : Option GroupKind → List Segment → Place → Type 0
IsGoodAt None segs place = (segs ≡ []) × (is_top place ≡ true)
IsGoodAt (Some kind) segs place = (is_one kind ≡ false) × (each (begin kind) (segs_of segs) ≡ true) × IsOpenAt place segs

abbrev pub IsGood : Bracket → Type 0
IsGood g = IsGoodAt g.kind g.segs g.place

abbrev pub AreGood : List Bracket → Type 0
AreGood [] = Unit {0}
AreGood (g ∷ gs) = IsGood g × AreGood gs

-- a step of the one walk, beside a step of the other
pub record Leads (step : Option Levels) (new : RowState) : Type 0 where
  pub to : Bracket
  pub around : List Bracket
  pub state_is : new ≡ image to around
  pub step_is : step ≡ Some (level_of to, map level_of around)
  pub good : IsGood to
  pub goods : AreGood around

passed : {A : Type 0} (b : Bool) (x y : A) → cond b None (Some x) ≡ Some y → (b ≡ false) × (x ≡ y)
passed false x y h = (refl, some_injective x y h)
passed true x y h = absurd (none_is_some y h)

abbrev leveled : Option GroupKind → Option Walked → Preceding → Level
leveled kind w at = record { kind = kind; walked = w; at = at }

-- a step that stays in its bracket
stays : (kind : Option GroupKind) (ss rr : List Segment) (p q : Place) (gs : List Bracket) (ps : List RowPart) (top : Stand) (step : Option Levels) (new : RowState)
    → step_to top ps (image (bracket kind ss p) gs) ≡ new → top ≡ stand_of (bracket kind rr q) → bracket_parts (bracket kind rr q) ≡ bracket_parts (bracket kind ss p) ++ ps
    → step ≡ Some (level_of (bracket kind rr q), map level_of gs) → IsGoodAt kind rr q → AreGood gs → Leads step new
stays kind ss rr p q gs ps top step new is top_is parts_are step_is good goods = record {
  to = bracket kind rr q;
  around = gs;
  state_is = sym is ∙ (ap (λ s. step_to s ps (image (bracket kind ss p) gs)) top_is ∙ ap (λ xs. record { top = stand_of (bracket kind rr q); outer = map stand_of gs; parts = xs }) (sym (all_push kind ss rr p q gs ps parts_are)));
  step_is = step_is;
  good = good;
  goods = goods;
}

-- one more node
abbrev add_node : Item → ℕ → Place → Place
add_node x line (none after) = some after x [] line
add_node x line (fresh end) = some [] x [] line
add_node x line (some before y ys end) = some before y (ys ++ x ∷ []) line
add_node x line (over before y ys suffix after) = over before y ys suffix after

node_walked : (one : Bool) (x : Item) (line : ℕ) (segs : List Segment) (place : Place) → is_ended (at_place place) ≡ false → after_own one (node line x) (Some (walked_of segs place)) ≡ Some (walked_of segs (add_node x line place))
node_walked one x line segs (none after) h = refl
node_walked one x line segs (fresh end) h = refl
node_walked one x line segs (some before y ys end) h = ap (λ bs. Some (record { segs = segs; before = bs; nodes = y ∷ (ys ++ x ∷ []); suffix = None; after = []; last = end_of_node line; trailing = false })) (append-nil before)
node_walked one x line segs (over before y ys suffix after) h = absurd (false≢true (sym h))

nodes_added : (x : Item) (line : ℕ) (place : Place) → is_ended (at_place place) ≡ false → nodes_of (add_node x line place) ≡ nodes_of place ++ x ∷ []
nodes_added va vb vc vd = grind arith

read_added : (r : Read) (x : Item) (line : ℕ) (place : Place) → is_ended (at_place place) ≡ false → read_items r (nodes_of (add_node x line place)) ≡ read_item x (read_items r (nodes_of place))
read_added r x line place h = ap (read_items r) (nodes_added x line place h) ∙ read_push (nodes_of place) r x

parts_added : (r : Read) (kind : Option GroupKind) (x : Item) (line : ℕ) (place : Place) → is_ended (at_place place) ≡ false
    → place_parts r kind (add_node x line place) ≡ place_parts r kind place ++ item_parts (shown_item (read_items r (nodes_of place)).naming x)
parts_added r kind x line (none after) h = ap (λ ps. map above after ++ ps) (append-nil (item_parts (shown_item r.naming x)))
parts_added r kind x line (fresh end) h = append-nil (item_parts (shown_item r.naming x))
parts_added r kind x line (some before y ys end) h =
    let shown_x = shown_item (read_items r (y ∷ ys)).naming x in
    let more : nodes_parts (shown r ((y ∷ ys) ++ x ∷ [])) ≡ nodes_parts (shown r (y ∷ ys)) ++ item_parts shown_x =
    ap nodes_parts (shown_push (y ∷ ys) r x) ∙ (nodes_more (shown r (y ∷ ys)) (shown_x ∷ []) ∙ ap (λ ps. nodes_parts (shown r (y ∷ ys)) ++ ps) (append-nil (item_parts shown_x))) in
    ap (λ ps. map above before ++ ps) more ∙ sym (append_assoc (map above before) (nodes_parts (shown r (y ∷ ys))) (item_parts shown_x))
parts_added r kind x line (over before y ys suffix after) h = absurd (false≢true (sym h))

here_added : (x : Item) (line : ℕ) (place : Place) → is_ended (at_place place) ≡ false → at_place (add_node x line place) ≡ at_place (some [] x [] line)
here_added va vb vc vd = grind arith

good_added : (kind : Option GroupKind) (segs : List Segment) (x : Item) (line : ℕ) (place : Place) → is_ended (at_place place) ≡ false → IsGoodAt kind segs place → IsGoodAt kind segs (add_node x line place)
good_added None segs x line (over before y ys suffix after) h good = absurd (false≢true (sym h))
good_added None segs x line _ h good = (good.0, refl)
good_added (Some kind) segs x line (over before y ys suffix after) h good = absurd (false≢true (sym h))
good_added (Some kind) segs x line _ h good = (good.0, good.1, tt)

node_level : (kind : Option GroupKind) (segs : List Segment) (place : Place) (x : Item) (line : ℕ) → is_for_item x ≡ false → is_ended (at_place place) ≡ false
    → with_own (level_of (bracket kind segs place)) (node line x) ≡ level_of (bracket kind segs (add_node x line place))
node_level kind segs place x line no_for h =
    level_is _ kind _ _ _ _ (ap (λ b. cond (b && is_in_first (Some (walked_of segs place))) (as_comprehension kind) kind) no_for) (node_walked (has_one kind) x line segs place h)
    (sym (ap (λ (r : Read). r.at) (read_added (begun kind segs) x line place h) ∙ item_at x (read_items (begun kind segs) (nodes_of place))))

node_leads : (g : Bracket) (gs : List Bracket) (x : Item) (line : ℕ) (read : Read) (ps : List RowPart) (step : Option Levels) (new : RowState) → is_for_item x ≡ false → is_ended (at_place g.place) ≡ false
    → read ≡ read_item x (read_of g) → ps ≡ item_parts (shown_item (read_of g).naming x) → step_to (with_node line read (stand_of g)) ps (image g gs) ≡ new
    → step ≡ Some (with_own (level_of g) (node line x), map level_of gs) → IsGood g → AreGood gs → Leads step new
node_leads g gs x line read ps step new no_for h read_is parts_are is step_is good goods =
    let to = add_node x line g.place in
    let top_is : with_node line read (stand_of g) ≡ stand_of (bracket g.kind g.segs to) =
    ap (λ r. with_node line r (stand_of g)) (read_is ∙ sym (read_added (begun g.kind g.segs) x line g.place h)) ∙ ap (λ a. record { kind = g.kind; done = done_of g.segs; here = a; read = read_items (begun g.kind g.segs) (nodes_of to) }) (sym (here_added x line g.place h)) in
    let more : bracket_parts (bracket g.kind g.segs to) ≡ bracket_parts g ++ ps =
    ap (λ qs. all_segs_parts g.segs ++ qs) (parts_added (begun g.kind g.segs) g.kind x line g.place h) ∙ (sym (append_assoc (all_segs_parts g.segs) (place_parts (begun g.kind g.segs) g.kind g.place) _) ∙ ap (λ qs. bracket_parts g ++ qs) (sym parts_are)) in
    stays g.kind g.segs g.segs g.place to gs ps _ step new is top_is more (step_is ∙ ap (λ l. Some (l, map level_of gs)) (node_level g.kind g.segs g.place x line no_for h)) (good_added g.kind g.segs x line g.place h good) goods

leaf_leads : (t : Placed) (g : Bracket) (gs : List Bracket) (new : RowState) → row_next_at Plain t (image g gs) ≡ Some new → IsGood g → AreGood gs → Leads (next_at Plain t (level_of g) (map level_of gs)) new
leaf_leads t g gs new same good goods =
    let p = passed (is_refused t (at_place g.place)) _ new same in
    let q = or_parts _ _ p.0 in
    let r = or_parts (is_for_at t.kind t.text) _ q.1 in
    node_leads g gs (leaf_of t) (end_line t) _ _ _ new r.0 r.1 refl refl p.1 refl good goods

-- a comma at the top
comma_operator : (kind : Kind) (text : List ℕ) → kind_mark kind text ≡ Comma → (is_for_at kind text ≡ false) × (kind_after kind text ≡ Other)
comma_operator va vb vc = grind arith

comma_chain : (a b c d e f g : Bool) → cond a (Open Round) (cond b (Open Square) (cond c (Open Curly) (cond d (Close Round) (cond e (Close Square) (cond f (Close Curly) (cond g Comma Plain)))))) ≡ Comma → g ≡ true
comma_chain va vb vc vd ve vf vg vh = grind arith

-- it has no newline
comma_line : (kind : Kind) (text : List ℕ) → kind_mark kind text ≡ Comma → count_by (λ b. b == 10) text ≡ 0
comma_line Operator text h =
    let is = comma_chain (bytes_eq text (codes "(")) (bytes_eq text (codes "[")) (bytes_eq text (codes "{")) (bytes_eq text (codes ")")) (bytes_eq text (codes "]")) (bytes_eq text (codes "}")) (bytes_eq text (codes ",")) h in
    ap (count_by (λ b. b == 10)) ((bytes_eq-Decides text (codes ",")).0 is)
comma_line _ text h = absurd (false≢true (ap is_comma h))

top_comma_leads : (t : Placed) → mark_of t ≡ Comma → (segs : List Segment) (place : Place) (gs : List Bracket) (new : RowState) → row_next_at Comma t (image (bracket None segs place) gs) ≡ Some new
    → IsGoodAt None segs place → AreGood gs → Leads (next_at Comma t (level_of (bracket None segs place)) (map level_of gs)) new
top_comma_leads t is segs place gs new same good goods =
    let line : t.line ≡ end_line t = omega (arith, comma_line t.kind t.text is) in
    let p = passed (is_refused t (at_place place)) _ new same in
    let r = or_parts (is_for_at t.kind t.text) _ (or_parts _ _ p.0).1 in
    let operator = comma_operator t.kind t.text is in
    node_leads (bracket None segs place) gs (leaf_of t) (end_line t) _ _ _ new operator.0 r.1 refl refl p.1
    (ap (λ l. Some (l, map level_of gs)) (level_is None _ _ _ Other _ (sym (ap (λ b. cond (b && is_in_first (Some (walked_of segs place))) (as_comprehension None) None) operator.0)) refl (sym operator.1))
    ∙ ap (λ n. Some (with_own (level_of (bracket None segs place)) (node n (leaf_of t)), map level_of gs)) line) good goods

-- a comma in a bracket
abbrev with_last : List Segment → List (List ℕ) → List Item → Option (List ℕ) → List Segment
with_last segs before nodes suffix = segs ++ record { before = before; nodes = nodes; suffix = suffix } ∷ []

segment_parts : (kind : GroupKind) (segs : List Segment) (before : List (List ℕ)) (x : Item) (xs : List Item) (line : ℕ)
    → all_segs_parts (with_last segs before (x ∷ xs) None) ≡ bracket_parts (bracket (Some kind) segs (some before x xs line)) ++ segment_end ∷ []
segment_parts kind segs before x xs line =
    segs_push segs _ ∙ ap (λ ys. all_segs_parts segs ++ (map above before ++ (nodes_parts ys ++ segment_end ∷ []))) (sym (never_shown (x ∷ xs) (begun (Some kind) segs) refl)) ∙ simp append_assoc

segment_good : (kind : GroupKind) (segs : List Segment) (before : List (List ℕ)) (nodes : List Item) (suffix : Option (List ℕ)) → each (begin kind) (segs_of segs) ≡ true → may_end (read_items (begun (Some kind) segs) nodes).stage ≡ true
    → each (begin kind) (segs_of (with_last segs before nodes suffix)) ≡ true
segment_good kind segs before nodes suffix all ends = each_push segs _ (begin kind) all (accepts_read nodes (begun (Some kind) segs) ∙ ends)

segment_leads : (t : Placed) (kind : GroupKind) (segs : List Segment) (place : Place) (gs : List Bracket) (new : RowState) → row_next_at Comma t (image (bracket (Some kind) segs place) gs) ≡ Some new
    → IsGoodAt (Some kind) segs place → AreGood gs → Leads (next_at Comma t (level_of (bracket (Some kind) segs place)) (map level_of gs)) new
segment_leads t kind segs (some before x xs end) gs new same good goods =
    let p = cond_some (may_end (read_items (begun (Some kind) segs) (x ∷ xs)).stage) _ new same in
    let rr = with_last segs before (x ∷ xs) None in
    let w = walked_of segs (some before x xs end) in
    let own : after_own (is_one kind) (comma t) (Some w) ≡ Some (walked_of rr (fresh t.line)) =
    ap (λ b. after_own b (comma t) (Some w)) good.0
    ∙ (ap (λ bs. Some (record { segs = with_last segs bs (x ∷ xs) None; before = []; nodes = []; suffix = None; after = []; last = end_of_comma t.line; trailing = true })) (append-nil before)
    ∙ ap (λ b. Some (record { segs = rr; before = []; nodes = []; suffix = None; after = []; last = end_of_comma t.line; trailing = b })) (sym (filled_push segs _))) in
    stays (Some kind) segs rr (some before x xs end) (fresh t.line) gs (segment_end ∷ []) _ _ new p.1
    (ap (λ d. record { kind = Some kind; done = d; here = at_place (fresh t.line); read = record (start (Some kind)) { stage = later (start (Some kind)).stage } }) (sym (done_push segs _))
    ∙ ap (λ s. record { kind = Some kind; done = done_of rr; here = at_place (fresh t.line); read = record (start (Some kind)) { stage = s } }) (sym (after_push segs _ (begin kind))))
    (append-nil (all_segs_parts rr) ∙ segment_parts kind segs before x xs end)
    (ap (λ v. Some (leveled (Some kind) v Other, map level_of gs)) own)
    (good.0, segment_good kind segs before (x ∷ xs) None good.1 p.0, open_push segs before (x ∷ xs)) goods
segment_leads t kind segs _ gs new same good goods = absurd (none_is_some new same)

-- a comment
above_leads : (t : Placed) (kind : Option GroupKind) (segs : List Segment) (after : List (List ℕ)) (gs : List Bracket) (new : RowState) → row_next_at Comment t (image (bracket kind segs (none after)) gs) ≡ Some new
    → IsGoodAt kind segs (none (after ++ t.text ∷ [])) → AreGood gs → Leads (next_at Comment t (level_of (bracket kind segs (none after))) (map level_of gs)) new
above_leads t kind segs after gs new same good goods =
    stays kind segs segs (none after) (none (after ++ t.text ∷ [])) gs (above t.text ∷ []) _ _ new (some_injective _ new same) refl
    (ap (λ ps. all_segs_parts segs ++ ps) (map-append above after (t.text ∷ [])) ∙ simp append_assoc) refl good goods

comma_comment_leads : (t : Placed) (kind : GroupKind) (segs : List Segment) (end : ℕ) (on : Bool) → (end == t.line) ≡ on → (gs : List Bracket) (new : RowState)
    → step_to (record (stand_of (bracket (Some kind) segs (fresh end))) { here = at_place (none []) }) (comment_part on t.text ∷ []) (image (bracket (Some kind) segs (fresh end)) gs) ≡ new
    → IsGoodAt (Some kind) segs (fresh end) → AreGood gs → Leads (next_at Comment t (level_of (bracket (Some kind) segs (fresh end))) (map level_of gs)) new
comma_comment_leads t kind segs end false e gs new is good goods =
    stays (Some kind) segs segs (fresh end) (none (t.text ∷ [])) gs (above t.text ∷ []) _ _ new is refl (ap (λ ps. ps ++ above t.text ∷ []) (sym (append-nil (all_segs_parts segs))))
    (ap (λ b. Some (leveled (Some kind) (Some (commented (end_of_comma end) b t.text (walked_of segs (fresh end)))) Other, map level_of gs)) e) (good.0, good.1, tt) goods
comma_comment_leads t kind segs end true e gs new is good goods =
    let rr = to_last t.text segs in
    stays (Some kind) segs rr (fresh end) (none []) gs (beside t.text ∷ []) _ _ new is
    (ap (λ d. record { kind = Some kind; done = d; here = at_place (none []); read = begun (Some kind) segs }) (sym (done_last segs t.text))
    ∙ ap (λ s. record { kind = Some kind; done = done_of rr; here = at_place (none []); read = record (start (Some kind)) { stage = s } }) (sym (after_last segs t.text (begin kind))))
    (append-nil (all_segs_parts rr) ∙ (beside_last segs t.text good.2 ∙ ap (λ ps. ps ++ beside t.text ∷ []) (sym (append-nil (all_segs_parts segs)))))
    (ap (λ b. Some (leveled (Some kind) (Some (commented (end_of_comma end) b t.text (walked_of segs (fresh end)))) Other, map level_of gs)) e
    ∙ ap (λ b. Some (leveled (Some kind) (Some (record { segs = rr; before = []; nodes = []; suffix = None; after = []; last = no_token; trailing = b })) Other, map level_of gs)) (sym (filled_last t.text segs)))
    (good.0, each_last segs t.text (begin kind) ∙ good.1, tt) goods

-- after the last node of a segment
abbrev ended_place : Bool → List ℕ → List (List ℕ) → Item → List Item → Place
ended_place true text before x xs = over before x xs (Some text) []
ended_place false text before x xs = over before x xs None (text ∷ [])

ended_level : (t : Placed) (kind : Option GroupKind) (segs : List Segment) (before : List (List ℕ)) (x : Item) (xs : List Item) (end : ℕ) (on : Bool) → (end == t.line) ≡ on
    → with_own (level_of (bracket kind segs (some before x xs end))) (comment t.line t.text) ≡ level_of (bracket kind segs (ended_place on t.text before x xs))
ended_level t kind segs before x xs end true e = ap (λ b. leveled kind (Some (commented (end_of_node end) b t.text (walked_of segs (some before x xs end)))) (read_items (begun kind segs) (x ∷ xs)).at) e
ended_level t kind segs before x xs end false e = ap (λ b. leveled kind (Some (commented (end_of_node end) b t.text (walked_of segs (some before x xs end)))) (read_items (begun kind segs) (x ∷ xs)).at) e

node_comment_leads : (t : Placed) (kind : Option GroupKind) (segs : List Segment) (before : List (List ℕ)) (x : Item) (xs : List Item) (end : ℕ) (on : Bool) → (end == t.line) ≡ on → (gs : List Bracket) (new : RowState)
    → after_comment_next kind on t.text (image (bracket kind segs (some before x xs end)) gs) ≡ Some new
    → IsGoodAt kind segs (some before x xs end) → AreGood gs → Leads (next_at Comment t (level_of (bracket kind segs (some before x xs end))) (map level_of gs)) new
node_comment_leads t None segs before x xs end false e gs new same good goods = absurd (none_is_some new same)
node_comment_leads t None segs before x xs end true e gs new same good goods =
    stays None segs segs (some before x xs end) (over before x xs (Some t.text) []) gs (beside t.text ∷ []) _ _ new (some_injective _ new same) refl (simp append_assoc)
    (ap (λ l. Some (l, map level_of gs)) (ended_level t None segs before x xs end true e)) (good.0, refl) goods
node_comment_leads t (Some kind) segs before x xs end true e gs new same good goods =
    stays (Some kind) segs segs (some before x xs end) (over before x xs (Some t.text) []) gs (segment_end ∷ beside t.text ∷ []) _ _ new (some_injective _ new same) refl (simp append_assoc)
    (ap (λ l. Some (l, map level_of gs)) (ended_level t (Some kind) segs before x xs end true e)) (good.0, good.1, tt) goods
node_comment_leads t (Some kind) segs before x xs end false e gs new same good goods =
    stays (Some kind) segs segs (some before x xs end) (over before x xs None (t.text ∷ [])) gs (segment_end ∷ above t.text ∷ []) _ _ new (some_injective _ new same) refl (simp append_assoc)
    (ap (λ l. Some (l, map level_of gs)) (ended_level t (Some kind) segs before x xs end false e)) (good.0, good.1, tt) goods

end_comment_leads : (t : Placed) (kind : GroupKind) (segs : List Segment) (before : List (List ℕ)) (x : Item) (xs : List Item) (suffix : Option (List ℕ)) (after : List (List ℕ)) (gs : List Bracket) (new : RowState)
    → row_next_at Comment t (image (bracket (Some kind) segs (over before x xs suffix after)) gs) ≡ Some new
    → IsGoodAt (Some kind) segs (over before x xs suffix after) → AreGood gs → Leads (next_at Comment t (level_of (bracket (Some kind) segs (over before x xs suffix after))) (map level_of gs)) new
end_comment_leads t kind segs before x xs suffix after gs new same good goods =
    stays (Some kind) segs segs (over before x xs suffix after) (over before x xs suffix (after ++ t.text ∷ [])) gs (above t.text ∷ []) _ _ new (some_injective _ new same) refl (simp (map-append, append_assoc))
    refl (good.0, good.1, tt) goods

comment_leads : (t : Placed) (kind : Option GroupKind) (segs : List Segment) (place : Place) (gs : List Bracket) (new : RowState) → row_next_at Comment t (image (bracket kind segs place) gs) ≡ Some new
    → IsGoodAt kind segs place → AreGood gs → Leads (next_at Comment t (level_of (bracket kind segs place)) (map level_of gs)) new
comment_leads t None segs (none after) gs new same good goods = above_leads t None segs after gs new same (good.0, refl) goods
comment_leads t (Some kind) segs (none after) gs new same good goods = above_leads t (Some kind) segs after gs new same (good.0, good.1, tt) goods
comment_leads t None segs (fresh end) gs new same good goods = absurd (false≢true good.1)
comment_leads t (Some kind) segs (fresh end) gs new same good goods = comma_comment_leads t kind segs end (end == t.line) refl gs new (some_injective _ new same) good goods
comment_leads t kind segs (some before x xs end) gs new same good goods = node_comment_leads t kind segs before x xs end (end == t.line) refl gs new same good goods
comment_leads t None segs (over before x xs suffix after) gs new same good goods = absurd (none_is_some new same)
comment_leads t (Some kind) segs (over before x xs suffix after) gs new same good goods = end_comment_leads t kind segs before x xs suffix after gs new same good goods

open_leads : (shape : Shape) (t : Placed) (g : Bracket) (gs : List Bracket) (new : RowState) → row_next_at (Open shape) t (image g gs) ≡ Some new → IsGood g → AreGood gs
    → Leads (next_at (Open shape) t (level_of g) (map level_of gs)) new
open_leads shape t g gs new same good goods =
    let kind = group_kind shape (read_of g).at false in
    let p = passed (is_one kind) _ new same in
    record { to = bracket (Some kind) [] (none []); around = g ∷ gs; state_is = sym p.1; step_is = refl; good = (p.0, refl, tt); goods = (good, goods) }

-- a bracket that is closed
abbrev group_at : GroupKind → List Segment → Place → Item
group_at kind segs place = group_with kind (done (walked_of segs place))

abbrev IsReadGroup : GroupKind → List Segment → Place → Type 0
IsReadGroup kind segs place = role_of (group_at kind segs place) ≡ group_role kind

group_role_is : (kind : GroupKind) (i : Inside) → is_whole kind (segs_of i.segs) ≡ true → each (begin kind) (segs_of i.segs) ≡ true → role_of (group_with kind i) ≡ group_role kind
group_role_is kind i whole all = rw (whole, all) refl

-- a load has a segment
whole_some : (kind : GroupKind) (s : Segment) (ss : List Segment) → is_one kind ≡ false → is_whole kind (segs_of (s ∷ ss)) ≡ true
whole_some va vb vc vd = grind arith

whole_push : (kind : GroupKind) (ss : List Segment) (s : Segment) → is_one kind ≡ false → is_whole kind (segs_of (ss ++ s ∷ [])) ≡ true
whole_push kind [] s h = whole_some kind s [] h
whole_push kind (r ∷ ss) s h = whole_some kind r (ss ++ s ∷ []) h

whole_open : (kind : GroupKind) (ss : List Segment) → is_one kind ≡ false → is_open ss ≡ true → is_whole kind (segs_of ss) ≡ true
whole_open kind [] h last = absurd (false≢true last)
whole_open kind (s ∷ ss) h last = whole_some kind s ss h

whole_none : (kind : GroupKind) → is_one kind ≡ false → is_text (begin kind) ≡ false → is_whole kind no_segs ≡ true
whole_none va vb vc = grind arith

whole_after : (kind : GroupKind) (ss : List Segment) → is_one kind ≡ false → is_text (stage_after ss (begin kind)) ≡ false → is_whole kind (segs_of ss) ≡ true
whole_after kind [] h no_text = whole_none kind h no_text
whole_after kind (s ∷ ss) h no_text = whole_some kind s ss h

-- `(x,)`
and_false : (a b : Bool) → (a && b && false) ≡ false
and_false va vb = grind arith

long : (n : ℕ) → (suc (suc n) == 1) ≡ false
long n = grind (arith, nat_tests)

single_is : (p : Bool) (segs : List Segment) → (p && is_single (done_of segs)) ≡ (p && (length segs == 1) && is_filled segs)
single_is false segs = refl
single_is true [] = refl
single_is true (s ∷ []) = refl
single_is true (s ∷ r ∷ ss) = ap (λ b. b && true) (sym (long (length ss)))

one_comma_is : (kind : GroupKind) (segs : List Segment) (place : Place)
    → is_one_comma kind (stand_of (bracket (Some kind) segs place))
    ≡ (is_paren kind && (length (done (walked_of segs place)).segs == 1) && (done (walked_of segs place)).trailing)
one_comma_is kind segs (none after) = single_is (is_paren kind) segs
one_comma_is kind segs (fresh line) = single_is (is_paren kind) segs
one_comma_is kind segs (some before x xs line) = sym (and_false (is_paren kind) (length (with_last segs before (x ∷ xs) None) == 1))
one_comma_is kind segs (over before x xs suffix after) = sym (and_false (is_paren kind) (length (with_last segs before (x ∷ xs) suffix) == 1))

-- what the parts of a closed bracket are, and that it is in the grammar
record Closes (kind : GroupKind) (segs : List Segment) (place : Place) (ends : List RowPart) : Type 0 where
  parts_are : (c : Bool) → bracket_parts (bracket (Some kind) segs place) ++ (ends ++ closing c ∷ [])
      ≡ all_segs_parts (done (walked_of segs place)).segs ++ (map above (done (walked_of segs place)).end ++ closing c ∷ [])
  role_is : IsReadGroup kind segs place

closes : (kind : GroupKind) (segs : List Segment) (place : Place) (ends : List RowPart) → last_end (at_place place) (read_items (begun (Some kind) segs) (nodes_of place)).stage ≡ Some ends → IsGoodAt (Some kind) segs place
    → Closes kind segs place ends
closes kind segs (none after) ends same good =
    let p = passed (is_text (stage_after segs (begin kind))) [] ends same in
    record {
      parts_are = λ c. ap (λ ps. bracket_parts (bracket (Some kind) segs (none after)) ++ (ps ++ closing c ∷ [])) (sym p.1) ∙ simp append_assoc;
      role_is = group_role_is kind (done (walked_of segs (none after))) (whole_after kind segs good.0 p.0) good.1;
    }
closes kind segs (fresh line) ends same good = record {
  parts_are = λ c. ap (λ ps. bracket_parts (bracket (Some kind) segs (fresh line)) ++ (ps ++ closing c ∷ [])) (sym (some_injective [] ends same)) ∙ ap (λ ps. ps ++ closing c ∷ []) (append-nil (all_segs_parts segs));
  role_is = group_role_is kind (done (walked_of segs (fresh line))) (whole_open kind segs good.0 good.2) good.1;
}
closes kind segs (some before x xs line) ends same good =
    let p = cond_some (may_end (read_items (begun (Some kind) segs) (x ∷ xs)).stage) _ ends same in
    record {
      parts_are = λ c.
          ap (λ ps. bracket_parts (bracket (Some kind) segs (some before x xs line)) ++ (ps ++ closing c ∷ [])) (sym p.1)
          ∙ (sym (append_assoc (bracket_parts (bracket (Some kind) segs (some before x xs line))) (segment_end ∷ []) (closing c ∷ []))
          ∙ ap (λ ps. ps ++ closing c ∷ []) (sym (segment_parts kind segs before x xs line)));
      role_is = group_role_is kind (done (walked_of segs (some before x xs line))) (whole_push kind segs _ good.0) (segment_good kind segs before (x ∷ xs) None good.1 p.0);
    }
closes kind segs (over before x xs suffix after) ends same good =
    let p = cond_some (may_end (read_items (begun (Some kind) segs) (x ∷ xs)).stage) _ ends same in
    record {
      parts_are = λ c.
          ap (λ ps. bracket_parts (bracket (Some kind) segs (over before x xs suffix after)) ++ (ps ++ closing c ∷ [])) (sym p.1)
          ∙ (ap (λ ys. (all_segs_parts segs ++ (map above before ++ (nodes_parts ys ++ (segment_end ∷ (beside_part suffix ++ map above after))))) ++ closing c ∷ []) (never_shown (x ∷ xs) (begun (Some kind) segs) refl)
          ∙ sym (ap (λ ps. ps ++ (map above after ++ closing c ∷ [])) (segs_push segs (record { before = before; nodes = x ∷ xs; suffix = suffix })) ∙ simp append_assoc));
      role_is = group_role_is kind (done (walked_of segs (over before x xs suffix after))) (whole_push kind segs _ good.0) (segment_good kind segs before (x ∷ xs) suffix good.1 p.0);
    }

read_group_is : (kind : GroupKind) (segs : List Segment) (place : Place) (r : Read) → IsReadGroup kind segs place → read_group kind r ≡ read_item (group_at kind segs place) r
read_group_is kind segs place r is = ap (λ role. record { stage = next r.stage role; at = Operand; naming = called r.naming kind; assigns = r.assigns }) (sym is)

close_leads_at : (shape : Shape) (t : Placed) (kind : GroupKind) (segs : List Segment) (place : Place) (h : Bracket) (hs : List Bracket) (ends : List RowPart) (new : RowState) → shape_of kind ≡ shape
    → last_end (at_place place) (read_items (begun (Some kind) segs) (nodes_of place)).stage ≡ Some ends
    → close_below kind t.line ends (stand_of h ∷ map stand_of hs) (image (bracket (Some kind) segs place) (h ∷ hs)) ≡ Some new
    → IsGoodAt (Some kind) segs place → IsGood h → AreGood hs → Leads (next_at (Close shape) t (level_of (bracket (Some kind) segs place)) (map level_of (h ∷ hs))) new
close_leads_at shape t kind segs place h hs ends new fits ends_are same good good_h goods =
    let p = passed (is_ended (stand_of h).here) _ new same in
    let c = closes kind segs place ends ends_are good in
    let i = done (walked_of segs place) in
    let one = is_one_comma kind (stand_of (bracket (Some kind) segs place)) in
    let g = group_at kind segs place in
    let n = (read_of h).naming in
    let inner = bracket_parts (bracket (Some kind) segs place) in
    let ps : List RowPart = opening (shown_kind n kind) ∷ (all_segs_parts i.segs ++ (map above i.end ++ closing one ∷ [])) in
    let parts_are : ((all_parts h hs ++ (opening (shown_kind n kind) ∷ inner)) ++ ends) ++ closing one ∷ [] ≡ all_parts h hs ++ ps =
    sym (ap (λ qs. all_parts h hs ++ (opening (shown_kind n kind) ∷ qs)) (sym (c.parts_are one)) ∙ simp append_assoc) in
    let step_is : next_at (Close shape) t (level_of (bracket (Some kind) segs place)) (map level_of (h ∷ hs)) ≡ Some (with_own (level_of h) (node t.line g), map level_of hs) =
    ap (λ b. cond b (Some (with_own (level_of h) (node t.line g), map level_of hs)) None) (ap (λ s. same_shape (Some s) shape) fits ∙ same_itself shape) in
    node_leads h hs g t.line (read_group kind (read_of h)) ps _ new refl p.0 (read_group_is kind segs place (read_of h) c.role_is)
    (ap (λ b. opening (shown_kind n kind) ∷ (all_segs_parts i.segs ++ (map above i.end ++ closing b ∷ []))) (one_comma_is kind segs place))
    (ap (λ qs. record { top = with_node t.line (read_group kind (read_of h)) (stand_of h); outer = map stand_of hs; parts = qs }) (sym parts_are) ∙ p.1)
    step_is good_h goods

close_leads : (shape : Shape) (t : Placed) (kind : Option GroupKind) (segs : List Segment) (place : Place) (gs : List Bracket) (new : RowState) → row_next_at (Close shape) t (image (bracket kind segs place) gs) ≡ Some new
    → IsGoodAt kind segs place → AreGood gs → Leads (next_at (Close shape) t (level_of (bracket kind segs place)) (map level_of gs)) new
close_leads shape t None segs place gs new same good goods = absurd (none_is_some new same)
close_leads shape t (Some kind) segs place gs new same good goods = at_shape (same_shape (Some (shape_of kind)) shape) refl same
  where
    s : RowState
    s = image (bracket (Some kind) segs place) gs

    at_outer : (hs : List Bracket) (ends : List RowPart) → shape_of kind ≡ shape → last_end (at_place place) (read_items (begun (Some kind) segs) (nodes_of place)).stage ≡ Some ends
        → close_below kind t.line ends (map stand_of hs) (image (bracket (Some kind) segs place) hs) ≡ Some new → AreGood hs
        → Leads (next_at (Close shape) t (level_of (bracket (Some kind) segs place)) (map level_of hs)) new
    at_outer [] ends fits ends_are same goods = absurd (none_is_some new same)
    at_outer (h ∷ hs) ends fits ends_are same goods = close_leads_at shape t kind segs place h hs ends new fits ends_are same good goods.0 goods.1

    at_ends : (o : Option (List RowPart)) → last_end (at_place place) (read_items (begun (Some kind) segs) (nodes_of place)).stage ≡ o → shape_of kind ≡ shape
        → option_and_then (λ parts. close_below kind t.line parts s.outer s) o ≡ Some new → Leads (next_at (Close shape) t (level_of (bracket (Some kind) segs place)) (map level_of gs)) new
    at_ends None ends_are fits same = absurd (none_is_some new same)
    at_ends (Some ends) ends_are fits same = at_outer gs ends fits ends_are same goods

    at_shape : (b : Bool) → same_shape (Some (shape_of kind)) shape ≡ b
        → cond b (option_and_then (λ parts. close_below kind t.line parts s.outer s) (last_end (at_place place) (read_items (begun (Some kind) segs) (nodes_of place)).stage)) None ≡ Some new
        → Leads (next_at (Close shape) t (level_of (bracket (Some kind) segs place)) (map level_of gs)) new
    at_shape false fits same = absurd (none_is_some new same)
    at_shape true fits same = at_ends _ refl (some_injective _ _ (same_shape_is (Some (shape_of kind)) shape fits)) same

-- a step, here and there
pub next_leads : (m : Mark) (t : Placed) → mark_of t ≡ m → (g : Bracket) (gs : List Bracket) (new : RowState) → row_next_at m t (image g gs) ≡ Some new → IsGood g → AreGood gs
    → Leads (next_at m t (level_of g) (map level_of gs)) new
next_leads Newline t is g gs new same good goods = record { to = g; around = gs; state_is = sym (some_injective (image g gs) new same); step_is = refl; good = good; goods = goods }
next_leads Plain t is g gs new same good goods = leaf_leads t g gs new same good goods
next_leads Comma t is g gs new same good goods = at_kind g.kind g.segs g.place new same good
  where
    at_kind : (kind : Option GroupKind) (segs : List Segment) (place : Place) (new : RowState) → row_next_at Comma t (image (bracket kind segs place) gs) ≡ Some new → IsGoodAt kind segs place
        → Leads (next_at Comma t (level_of (bracket kind segs place)) (map level_of gs)) new
    at_kind None segs place new same good = top_comma_leads t is segs place gs new same good goods
    at_kind (Some kind) segs place new same good = segment_leads t kind segs place gs new same good goods
next_leads Comment t is g gs new same good goods = comment_leads t g.kind g.segs g.place gs new same good goods
next_leads (Open shape) t is g gs new same good goods = open_leads shape t g gs new same good goods
next_leads (Close shape) t is g gs new same good goods = close_leads shape t g.kind g.segs g.place gs new same good goods
