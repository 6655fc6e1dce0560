-- Brackets that are walked over while they are open have the inside that they have where they are walked over when they are closed.
use Rattle.std.proofs.Common.{arith, ◌≡◌, ℕ, List, [], ◌∷◌, ◌++◌, Bool, true, false, not, cond, ◌&&◌, ◌||◌, Option, Some, None, option_map, option_and_then, refl, sym, ap, ◌∙◌}
use Rattle.std.proofs.lemmas.Bool.{false≢true}
use Rattle.std.proofs.Math.Bool.{or-false}
use Rattle.bz_tree.specs.declared.tree.GroupKind.{GroupKind}
use Rattle.bz_tree.specs.declared.tree.kinds.Shape.{Shape}
use Rattle.bz_tree.specs.declared.tree.kinds.Shape.TheVariants.{Round, Square, Curly}
use Rattle.bz_tree.specs.declared.tree.kinds.Mark.{Mark}
use Rattle.bz_tree.specs.declared.tree.kinds.Mark.TheVariants.{Open, Close, Newline}
use Rattle.bz_tree.specs.declared.tree.kinds.Preceding.{Preceding}
use Rattle.bz_tree.specs.declared.tree.kinds.Preceding.TheVariants.{Operand, LoadWord, Other}
use Rattle.bz_token.specs.Places.{Placed}
use Rattle.bz_tree.specs.Tree.{Item, Segment}
use Rattle.bz_tree.specs.Kinds.{mark_of, group_kind, is_one}
use Rattle.bz_tree.specs.private.KindSteps.{own_item, same_shape}
use Rattle.bz_tree.specs.Owners.{Inner, node, comma, comment}
use Rattle.bz_tree.specs.Cells.{Last, end_of_comma, is_on}
use Rattle.bz_tree.specs.Brackets.{with_comma_nodes, preceding, is_for_item, group_with}
use Rattle.bz_tree.specs.Elements.{has_for}
use Rattle.bz_tree.specs.Elements.{own_of}
use Rattle.bz_tree.specs.Elements.{segment_with}
use Rattle.bz_tree.specs.private.Steps.{Walked, at_start, after_own, after_node, after_comma, after_comment, commented, to_last, done, Level, Levels, is_for, is_in_first, has_one, as_comprehension, shape_of, with_own, new_level, closed, next_at, finish, run}
use Rattle.bz_tree.proofs.Trees.ByOwns.{after, walk, content}
use Rattle.bz_tree.proofs.Trees.ByOwns as by_owns
use Rattle.bz_tree.proofs.Trees.Sound.{some_injective, same_shape_is}
use Rattle.bz_token.specs.Common.{is_filled}

-- the steps of a walk, without its end
abbrev steps : Walked → List Inner → Option Walked
steps w [] = Some w
steps w (o ∷ os) = option_and_then (λ v. steps v os) (after o w)

same_some : {A : Type 0} (o : Option A) → option_and_then (λ x. Some x) o ≡ o
same_some None = refl
same_some (Some x) = refl

walk_is_steps : (os : List Inner) (w : Walked) → walk w os ≡ option_map done (steps w os)
walk_is_steps [] w = refl
walk_is_steps (o ∷ os) w = at_next (λ v. walk_is_steps os v) (after o w)
  where
    at_next : ((v : Walked) → walk v os ≡ option_map done (steps v os)) → (p : Option Walked) → option_and_then (λ v. walk v os) p ≡ option_map done (option_and_then (λ v. steps v os) p)
    at_next more None = refl
    at_next more (Some v) = more v

steps_push : (os : List Inner) (w : Walked) (o : Inner) → steps w (os ++ o ∷ []) ≡ option_and_then (after o) (steps w os)
steps_push [] w o = same_some (after o w)
steps_push (p ∷ os) w o = at_next (λ v. steps_push os v o) (after p w)
  where
    at_next : ((v : Walked) → steps v (os ++ o ∷ []) ≡ option_and_then (after o) (steps v os)) → (q : Option Walked)
        → option_and_then (λ v. steps v (os ++ o ∷ [])) q ≡ option_and_then (after o) (option_and_then (λ v. steps v os) q)
    at_next more None = refl
    at_next more (Some v) = more v

items_push : (one : Bool) (os : List Inner) (o : Inner) → with_comma_nodes one (os ++ o ∷ []) ≡ with_comma_nodes one os ++ own_item one o ∷ []
items_push one [] o = refl
items_push one (p ∷ os) o = ap (λ ps. own_item one p ∷ ps) (items_push one os o)

abbrev walked_by : Bool → List Inner → Option Walked
walked_by one owns = steps at_start (with_comma_nodes one owns)

after_item : (one : Bool) (o : Inner) (p : Option Walked) → option_and_then (after (own_item one o)) p ≡ after_own one o p
after_item va vb vc = grind arith

walked_push : (one : Bool) (os : List Inner) (o : Inner) → walked_by one (os ++ o ∷ []) ≡ after_own one o (walked_by one os)
walked_push one os o = ap (steps at_start) (items_push one os o) ∙ (steps_push (with_comma_nodes one os) at_start (own_item one o) ∙ after_item one o (walked_by one os))

abbrev has_comma : List Inner → Bool
has_comma [] = false
has_comma (node line x ∷ os) = has_comma os
has_comma (comma t ∷ os) = true
has_comma (comment line text ∷ os) = has_comma os

same_items : (os : List Inner) → has_comma os ≡ false → with_comma_nodes true os ≡ with_comma_nodes false os
same_items [] none = refl
same_items (node line x ∷ os) none = ap (λ ps. node line x ∷ ps) (same_items os none)
same_items (comma t ∷ os) none = absurd (false≢true (sym none))
same_items (comment line text ∷ os) none = ap (λ ps. comment line text ∷ ps) (same_items os none)

for_push : (os : List Inner) (o : Inner) → has_for (os ++ o ∷ []) ≡ has_for os || (not (has_comma os) && is_for o)
for_push [] (node line x) = or-false (is_for_item x)
for_push [] (comma t) = refl
for_push [] (comment line text) = refl
for_push (node line x ∷ os) o = first (for_push os o) (is_for_item x)
  where
    first : has_for (os ++ o ∷ []) ≡ has_for os || (not (has_comma os) && is_for o) → (b : Bool) → b || has_for (os ++ o ∷ []) ≡ (b || has_for os) || (not (has_comma os) && is_for o)
    first more true = refl
    first more false = more
for_push (comma t ∷ os) o = refl
for_push (comment line text ∷ os) o = for_push os o

pub filled_push : (ss : List Segment) (s : Segment) → is_filled (ss ++ s ∷ []) ≡ true
filled_push [] s = refl
filled_push (r ∷ ss) s = refl

pub filled_last : (text : List ℕ) (ss : List Segment) → is_filled (to_last text ss) ≡ is_filled ss
filled_last va vb = grind arith

filled_commented : (last : Last) (on : Bool) (text : List ℕ) (w : Walked) → is_filled (commented last on text w).segs ≡ is_filled w.segs
filled_commented va vb vc vd = grind arith

-- whether a comma was met
not_first : (os : List Inner) (w : Walked) → is_in_first (steps w (with_comma_nodes false os)) ≡ not (is_filled w.segs || has_comma os)
not_first [] w = ap not (sym (or-false (is_filled w.segs)))
not_first (node line x ∷ os) w = not_first os (after_node line x w)
not_first (comment line text ∷ os) w = not_first os (after_comment line text w) ∙ ap (λ b. not (b || has_comma os)) (filled_commented w.last (is_on w.last line) text w)
not_first (comma t ∷ os) w = at_nodes (λ v. not_first os v) w.nodes refl
  where
    or_some : (b : Bool) → false ≡ not (b || true)
    or_some true = refl
    or_some false = refl

    More : Type 0
    More = (v : Walked) → is_in_first (steps v (with_comma_nodes false os)) ≡ not (is_filled v.segs || has_comma os)

    with_nodes : List Item → Walked
    with_nodes nodes = record { segs = w.segs; before = w.before; nodes = nodes; suffix = w.suffix; after = w.after; last = w.last; trailing = w.trailing }

    at_nodes : More → (nodes : List Item) → w ≡ with_nodes nodes → is_in_first (option_and_then (λ v. steps v (with_comma_nodes false os)) (after_comma t.line w)) ≡ not (is_filled w.segs || true)
    at_nodes more [] is = ap (λ u. is_in_first (option_and_then (λ v. steps v (with_comma_nodes false os)) (after_comma t.line u))) is ∙ or_some (is_filled w.segs)
    at_nodes more (x ∷ xs) is =
        let s : Segment = record { before = w.before ++ w.after; nodes = x ∷ xs; suffix = w.suffix } in
        ap (λ u. is_in_first (option_and_then (λ v. steps v (with_comma_nodes false os)) (after_comma t.line u))) is
        ∙ (more (record { segs = w.segs ++ s ∷ []; before = []; nodes = []; suffix = None; after = []; last = end_of_comma t.line; trailing = true })
        ∙ (ap (λ b. not (b || has_comma os)) (filled_push w.segs s) ∙ or_some (is_filled w.segs)))

-- a level with its list, as a level that is walked over; `b` stands before its bracket
abbrev kind_by : Option Shape → Preceding → Bool → Option GroupKind
kind_by None b comp = None
kind_by (Some s) b comp = Some (group_kind s b comp)

abbrev image : Preceding → by_owns.Level → Level
image b l = let kind = kind_by l.shape b (has_for l.owns) in record { kind = kind; walked = walked_by (has_one kind) l.owns; at = l.at }

abbrev before_of : List by_owns.Level → Preceding
before_of [] = Other
before_of (l ∷ ls) = l.at

abbrev images : List by_owns.Level → List Level
images [] = []
images (l ∷ ls) = image (before_of ls) l ∷ images ls

-- a level after one more thing
abbrev leveled : Option GroupKind → Option Walked → Preceding → Level
leveled kind w at = record { kind = kind; walked = w; at = at }

level_is : (k k2 : Option GroupKind) (w w2 : Option Walked) (at : Preceding) → k ≡ k2 → w ≡ w2 → leveled k w at ≡ leveled k2 w2 at
level_is k k2 w w2 at e f = rw (e, f) refl

same_either : {A : Type 0} (b : Bool) (x y : A) → y ≡ x → cond b y x ≡ x
same_either true x y e = e
same_either false x y e = refl

-- a bracket that `for` does not change
stays : (k : Option GroupKind) → as_comprehension k ≡ k → (owns : List Inner) (at : Preceding) (own : Inner)
    → with_own (leveled k (walked_by (has_one k) owns) at) own ≡ leveled k (walked_by (has_one k) (owns ++ own ∷ [])) (preceding at own)
stays k e owns at own =
    level_is _ k _ (walked_by (has_one k) (owns ++ own ∷ [])) (preceding at own) (same_either (is_for own && is_in_first (walked_by (has_one k) owns)) k (as_comprehension k) e) (sym (walked_push (has_one k) owns own))

after_for : (own : Inner) → is_for own ≡ true → (p : Option Walked) → after_own false own p ≡ after_own true own p
after_for va vb vc = grind arith

-- a bracket that `for` makes a comprehension
abbrev pick : GroupKind → GroupKind → Bool → GroupKind
pick k0 k1 h = cond h k1 k0

becomes : (k0 k1 : GroupKind) → as_comprehension (Some k0) ≡ Some k1 → as_comprehension (Some k1) ≡ Some k1 → is_one k0 ≡ false → is_one k1 ≡ true
    → (owns : List Inner) (at : Preceding) (own : Inner) (h c f : Bool) → has_comma owns ≡ c → is_for own ≡ f
    → with_own (leveled (Some (pick k0 k1 h)) (walked_by (is_one (pick k0 k1 h)) owns) at) own
    ≡ leveled (Some (pick k0 k1 (h || (not c && f)))) (walked_by (is_one (pick k0 k1 (h || (not c && f)))) (owns ++ own ∷ [])) (preceding at own)
becomes k0 k1 to one none some owns at own true c f ec ef = stays (Some k1) one owns at own
becomes k0 k1 to one none some owns at own false c f ec ef = at_flags c f ec ef
  where
    first : (c : Bool) → has_comma owns ≡ c → is_in_first (walked_by (is_one k0) owns) ≡ not c
    first c ec = ap (λ o. is_in_first (walked_by o owns)) none ∙ (not_first owns at_start ∙ ap not ec)

    kind_is : (c f : Bool) → has_comma owns ≡ c → is_for own ≡ f
        → cond (is_for own && is_in_first (walked_by (is_one k0) owns)) (as_comprehension (Some k0)) (Some k0) ≡ cond (f && not c) (as_comprehension (Some k0)) (Some k0)
    kind_is c f ec ef = ap (λ i. cond (is_for own && i) (as_comprehension (Some k0)) (Some k0)) (first c ec) ∙ ap (λ g. cond (g && not c) (as_comprehension (Some k0)) (Some k0)) ef

    at_flags : (c f : Bool) → has_comma owns ≡ c → is_for own ≡ f
        → with_own (leveled (Some k0) (walked_by (is_one k0) owns) at) own
        ≡ leveled (Some (pick k0 k1 (not c && f))) (walked_by (is_one (pick k0 k1 (not c && f))) (owns ++ own ∷ [])) (preceding at own)
    at_flags true true ec ef = level_is _ (Some k0) _ _ (preceding at own) (kind_is true true ec ef) (sym (walked_push (is_one k0) owns own))
    at_flags true false ec ef = level_is _ (Some k0) _ _ (preceding at own) (kind_is true false ec ef) (sym (walked_push (is_one k0) owns own))
    at_flags false false ec ef = level_is _ (Some k0) _ _ (preceding at own) (kind_is false false ec ef) (sym (walked_push (is_one k0) owns own))
    at_flags false true ec ef =
        level_is _ (Some k1) _ _ (preceding at own) (kind_is false true ec ef ∙ to)
        (ap (λ o. after_own o own (walked_by o owns)) none
        ∙ (after_for own ef (walked_by false owns)
        ∙ (ap (λ os. after_own true own (steps at_start os)) (sym (same_items owns ec))
        ∙ (sym (walked_push true owns own) ∙ ap (λ o. walked_by o (owns ++ own ∷ [])) (sym some)))))

becomes_one : (k0 k1 : GroupKind) → as_comprehension (Some k0) ≡ Some k1 → as_comprehension (Some k1) ≡ Some k1 → is_one k0 ≡ false → is_one k1 ≡ true
    → (owns : List Inner) (at : Preceding) (own : Inner)
    → with_own (leveled (Some (pick k0 k1 (has_for owns))) (walked_by (is_one (pick k0 k1 (has_for owns))) owns) at) own
    ≡ leveled (Some (pick k0 k1 (has_for (owns ++ own ∷ [])))) (walked_by (is_one (pick k0 k1 (has_for (owns ++ own ∷ [])))) (owns ++ own ∷ [])) (preceding at own)
becomes_one k0 k1 to one none some owns at own =
    becomes k0 k1 to one none some owns at own (has_for owns) (has_comma owns) (is_for own) refl refl
    ∙ ap (λ h. leveled (Some (pick k0 k1 h)) (walked_by (is_one (pick k0 k1 h)) (owns ++ own ∷ [])) (preceding at own)) (sym (for_push owns own))

own_same : (o : Option Shape) (b : Preceding) (owns : List Inner) (at : Preceding) (own : Inner)
    → with_own (image b (record { shape = o; owns = owns; at = at })) own ≡ image b (record { shape = o; owns = owns ++ own ∷ []; at = preceding at own })
own_same None b owns at own = stays None refl owns at own
own_same (Some Round) Operand owns at own = stays (kind_by (Some Round) Operand false) refl owns at own
own_same (Some Round) LoadWord owns at own = stays (kind_by (Some Round) LoadWord false) refl owns at own
own_same (Some Round) Other owns at own = stays (kind_by (Some Round) Other false) refl owns at own
own_same (Some Square) Operand owns at own = stays (kind_by (Some Square) Operand false) refl owns at own
own_same (Some Square) LoadWord owns at own = becomes_one (group_kind Square Other false) (group_kind Square Other true) refl refl refl refl owns at own
own_same (Some Square) Other owns at own = becomes_one (group_kind Square Other false) (group_kind Square Other true) refl refl refl refl owns at own
own_same (Some Curly) b owns at own = becomes_one (group_kind Curly Other false) (group_kind Curly Other true) refl refl refl refl owns at own

abbrev image_of : by_owns.Levels → Levels
image_of ls = (image (before_of ls.1) ls.0, images ls.1)

shapes_stay : (o : Option Shape) (b : Preceding) (h : Bool) → option_map shape_of (kind_by o b h) ≡ o
shapes_stay va vb vc = grind arith

closed_same : (k : GroupKind) (owns : List Inner) → closed (Some k) (walked_by (is_one k) owns) ≡ option_map (group_with k) (content (is_one k) owns)
closed_same k owns = ap (option_map (group_with k)) (sym (walk_is_steps (with_comma_nodes (is_one k) owns) at_start))

-- a step, here and there
close_same : (s : Shape) (t : Placed) (o : Option Shape) (owns : List Inner) (at : Preceding) (below : by_owns.Level) (outer : List by_owns.Level)
    → next_at (Close s) t (image below.at (record { shape = o; owns = owns; at = at })) (images (below ∷ outer))
    ≡ option_map image_of (by_owns.next_at (Close s) t (record { shape = o; owns = owns; at = at }) (below ∷ outer))
close_same s t None owns at below outer = refl
close_same s t (Some r) owns at below outer =
    ap (λ q. cond (same_shape q s) (option_map (λ g. (with_own (image (before_of outer) below) (node t.line g), images outer)) (closed (Some (group_kind r below.at (has_for owns))) (walked_by (is_one (group_kind r below.at (has_for owns))) owns))) None)
    (shapes_stay (Some r) below.at (has_for owns)) ∙ at_shape (same_shape (Some r) s) refl
  where
    at_group : (p : Option Item) → option_map (λ g. (with_own (image (before_of outer) below) (node t.line g), images outer)) p ≡ option_map image_of (option_map (λ g. (by_owns.with_own below (node t.line g), outer)) p)
    at_group None = refl
    at_group (Some g) = ap (λ (l : Level). Some (l, images outer)) (own_same below.shape (before_of outer) below.owns below.at (node t.line g))

    at_shape : (fits : Bool) → same_shape (Some r) s ≡ fits
        → cond fits (option_map (λ g. (with_own (image (before_of outer) below) (node t.line g), images outer)) (closed (Some (group_kind r below.at (has_for owns))) (walked_by (is_one (group_kind r below.at (has_for owns))) owns))) None
        ≡ option_map image_of (cond fits (option_map (λ g. (by_owns.with_own below (node t.line g), outer)) (by_owns.closed s below.at owns)) None)
    at_shape false e = refl
    at_shape true e =
        ap (option_map (λ g. (with_own (image (before_of outer) below) (node t.line g), images outer))) (closed_same (group_kind r below.at (has_for owns)) owns ∙ ap (λ q. by_owns.closed q below.at owns) (some_injective r s (same_shape_is (Some r) s e)))
        ∙ at_group (by_owns.closed s below.at owns)

next_same : (m : Mark) (t : Placed) (top : by_owns.Level) (outer : List by_owns.Level) → next_at m t (image (before_of outer) top) (images outer) ≡ option_map image_of (by_owns.next_at m t top outer)
next_same Newline t top outer = refl
next_same (Open s) t top outer = refl
next_same (Close s) t top [] = refl
next_same (Close s) t top (below ∷ outer) = close_same s t top.shape top.owns top.at below outer
next_same m t top outer = ap (λ (l : Level). Some (l, images outer)) (own_same top.shape (before_of outer) top.owns top.at (own_of m t))

finish_same : (o : Option Shape) (b : Preceding) (owns : List Inner) (outer : List by_owns.Level) → finish (kind_by o b (has_for owns)) (walked_by (has_one (kind_by o b (has_for owns))) owns) (images outer) ≡ by_owns.finish o owns outer
finish_same None b owns [] = ap (option_map segment_with) (sym (walk_is_steps (with_comma_nodes true owns) at_start))
finish_same None b owns (l ∷ outer) = refl
finish_same (Some s) b owns outer = refl

run_same : (ts : List Placed) (top : by_owns.Level) (outer : List by_owns.Level) → run (image (before_of outer) top) (images outer) ts ≡ by_owns.run top outer ts
run_same [] top outer = finish_same top.shape (before_of outer) top.owns outer
run_same (t ∷ ts) top outer = ap (option_and_then (λ (ls : Levels). run ls.0 ls.1 ts)) (next_same (mark_of t) t top outer) ∙ at_next (λ l ls. run_same ts l ls) (by_owns.next t (top, outer))
  where
    at_next : ((l : by_owns.Level) (ls : List by_owns.Level) → run (image (before_of ls) l) (images ls) ts ≡ by_owns.run l ls ts) → (p : Option by_owns.Levels)
        → option_and_then (λ (ls : Levels). run ls.0 ls.1 ts) (option_map image_of p) ≡ option_and_then (λ (ls : by_owns.Levels). by_owns.run ls.0 ls.1 ts) p
    at_next more None = refl
    at_next more (Some ls) = more ls.0 ls.1

-- both walks answer alike
pub one_answer : (ts : List Placed) → run (new_level None) [] ts ≡ by_owns.run (by_owns.new_level None) [] ts
one_answer ts = run_same ts (by_owns.new_level None) []
