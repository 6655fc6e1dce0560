-- The parts of a bracket that is open, one more thing at a time.
use Rattle.std.proofs.Common.{arith, ◌≡◌, ℕ, List, [], ◌∷◌, ◌++◌, map, Bool, true, false, ◌&&◌, Option, Some, None, refl, sym, ap, ◌∙◌, append_assoc, append-nil}
use Rattle.std.proofs.lemmas.Bool.{false≢true, and_parts, and_from}
use Rattle.bz_tree.specs.declared.tree.GroupKind.{GroupKind}
use Rattle.bz_tree.specs.declared.tree.kinds.Preceding.TheVariants.{Operand}
use Rattle.bz_tree.specs.declared.grammar.stage.Stage.{Stage}
use Rattle.bz_tree.specs.declared.tree.classes.Naming.{Naming}
use Rattle.bz_tree.specs.declared.tree.classes.Naming.TheVariants.{Never}
use Rattle.bz_tree.specs.declared.row.spot.SegmentCount.{SegmentCount}
use Rattle.bz_tree.specs.declared.row.spot.SegmentCount.TheVariants.{Zero, One, More}
use Rattle.bz_tree.specs.declared.row.spot.Read.{Read}
use Rattle.bz_tree.specs.Tree.{Item, leaf, group, Segment, items_of, segs_of}
use Rattle.bz_tree.specs.Kinds.{after_item}
use Rattle.bz_tree.specs.Rows.{RowPart, opening, segment_end, above, beside, beside_part, item_parts, items_parts, segs_parts}
use Rattle.bz_tree.specs.private.Machine.{next, may_end, later, accepts, role_of, each}
use Rattle.bz_tree.specs.private.Steps.{to_last}
use Rattle.bz_tree.specs.private.RowSteps.{At, nothing, a_comma, a_node, an_end, called, shown_kind, start, read_leaf, one_more, Stand}

-- where one stands in a bracket: before the first node of a segment, directly after a comma on this line, directly after a node
-- that ends on this line, or after the last segment
pub data Place : Type 0 where
  none : List (List ℕ) → Place
  fresh : ℕ → Place
  some : List (List ℕ) → Item → List Item → ℕ → Place
  over : List (List ℕ) → Item → List Item → Option (List ℕ) → List (List ℕ) → Place

pub record Bracket : Type 0 where
  pub kind : Option GroupKind
  pub segs : List Segment
  pub place : Place

abbrev pub bracket : Option GroupKind → List Segment → Place → Bracket
bracket kind segs place = record { kind = kind; segs = segs; place = place }

abbrev pub nodes_of : Place → List Item
nodes_of (none after) = []
nodes_of (fresh line) = []
nodes_of (some before x xs line) = x ∷ xs
nodes_of (over before x xs suffix after) = x ∷ xs

-- what nodes are to the walk
abbrev pub read_item : Item → Read → Read
read_item (leaf kind text) r = read_leaf kind text r
read_item (group kind segs one_comma end) r = record { stage = next r.stage (role_of (group kind segs one_comma end)); at = Operand; naming = called r.naming kind; assigns = r.assigns }

abbrev pub read_items : Read → List Item → Read
read_items r [] = r
read_items r (x ∷ xs) = read_items (read_item x r) xs

-- the stage in which a segment begins after these, and what its nodes are before the first
abbrev pub stage_after : List Segment → Stage → Stage
stage_after [] stage = stage
stage_after (s ∷ ss) stage = later stage

abbrev pub begun : Option GroupKind → List Segment → Read
begun kind segs = record (start kind) { stage = stage_after segs (start kind).stage }

abbrev pub read_of : Bracket → Read
read_of g = read_items (begun g.kind g.segs) (nodes_of g.place)

abbrev pub at_place : Place → At
at_place (none after) = nothing
at_place (fresh line) = a_comma line
at_place (some before x xs line) = a_node line
at_place (over before x xs suffix after) = an_end

abbrev pub done_of : List Segment → SegmentCount
done_of [] = Zero
done_of (s ∷ []) = One
done_of (s ∷ r ∷ ss) = More

abbrev pub stand_of : Bracket → Stand
stand_of g = record { kind = g.kind; done = done_of g.segs; here = at_place g.place; read = read_of g }

-- nodes with the call of a rule shown
abbrev pub shown_item : Naming → Item → Item
shown_item n (leaf kind text) = leaf kind text
shown_item n (group kind segs one_comma end) = group (shown_kind n kind) segs one_comma end

abbrev pub shown : Read → List Item → List Item
shown r [] = []
shown r (x ∷ xs) = shown_item r.naming x ∷ shown (read_item x r) xs

abbrev pub nodes_parts : List Item → List RowPart
nodes_parts xs = items_parts (items_of xs)

abbrev pub all_segs_parts : List Segment → List RowPart
all_segs_parts ss = segs_parts (segs_of ss)

abbrev pub ending : Option GroupKind → List RowPart
ending None = []
ending (Some kind) = segment_end ∷ []

abbrev pub place_parts : Read → Option GroupKind → Place → List RowPart
place_parts r kind (none after) = map above after
place_parts r kind (fresh line) = []
place_parts r kind (some before x xs line) = map above before ++ nodes_parts (shown r (x ∷ xs))
place_parts r kind (over before x xs suffix after) = map above before ++ (nodes_parts (shown r (x ∷ xs)) ++ (ending kind ++ (beside_part suffix ++ map above after)))

abbrev pub bracket_parts : Bracket → List RowPart
bracket_parts g = all_segs_parts g.segs ++ place_parts (begun g.kind g.segs) g.kind g.place

abbrev pub opening_part : Read → Option GroupKind → List RowPart
opening_part r None = []
opening_part r (Some kind) = opening (shown_kind r.naming kind) ∷ []

abbrev pub all_parts : Bracket → List Bracket → List RowPart
all_parts g [] = bracket_parts g
all_parts g (h ∷ hs) = all_parts h hs ++ (opening_part (read_of h) g.kind ++ bracket_parts g)

-- one more part at the end of the bracket that is open here
pub all_push : (kind : Option GroupKind) (ss rr : List Segment) (p q : Place) (gs : List Bracket) (ps : List RowPart) → bracket_parts (bracket kind rr q) ≡ bracket_parts (bracket kind ss p) ++ ps
    → all_parts (bracket kind rr q) gs ≡ all_parts (bracket kind ss p) gs ++ ps
all_push kind ss rr p q [] ps e = e
all_push kind ss rr p q (h ∷ hs) ps e = ap (λ xs. all_parts h hs ++ (opening_part (read_of h) kind ++ xs)) e ∙ simp append_assoc

-- one more node
pub read_push : (xs : List Item) (r : Read) (x : Item) → read_items r (xs ++ x ∷ []) ≡ read_item x (read_items r xs)
read_push [] r x = refl
read_push (y ∷ xs) r x = read_push xs (read_item y r) x

pub shown_push : (xs : List Item) (r : Read) (x : Item) → shown r (xs ++ x ∷ []) ≡ shown r xs ++ shown_item (read_items r xs).naming x ∷ []
shown_push [] r x = refl
shown_push (y ∷ xs) r x = ap (λ zs. shown_item r.naming y ∷ zs) (shown_push xs (read_item y r) x)

pub nodes_more : (xs ys : List Item) → nodes_parts (xs ++ ys) ≡ nodes_parts xs ++ nodes_parts ys
nodes_more [] ys = refl
nodes_more (x ∷ xs) ys = ap (λ ps. item_parts x ++ ps) (nodes_more xs ys) ∙ sym (append_assoc (item_parts x) (nodes_parts xs) (nodes_parts ys))

pub item_at : (x : Item) (r : Read) → (read_item x r).at ≡ after_item x
item_at va vb = grind arith

pub item_stage : (x : Item) (r : Read) → (read_item x r).stage ≡ next r.stage (role_of x)
item_stage va vb = grind arith

-- what the recognizer says of the nodes
pub accepts_read : (xs : List Item) (r : Read) → accepts r.stage (items_of xs) ≡ may_end (read_items r xs).stage
accepts_read [] r = refl
accepts_read (x ∷ xs) r = ap (λ s. accepts s (items_of xs)) (sym (item_stage x r)) ∙ accepts_read xs (read_item x r)

-- a segment has no rule
never_item : (x : Item) (n : Naming) → n ≡ Never → shown_item n x ≡ x
never_item (leaf kind text) n e = refl
never_item (group kind segs one_comma end) n e = ap (λ m. group (shown_kind m kind) segs one_comma end) e

never_read : (x : Item) (r : Read) → r.naming ≡ Never → (read_item x r).naming ≡ Never
never_read (leaf kind text) r e = rw e refl
never_read (group kind segs one_comma end) r e = rw e refl

pub never_shown : (xs : List Item) (r : Read) → r.naming ≡ Never → shown r xs ≡ xs
never_shown [] r e = refl
never_shown (x ∷ xs) r e = ap (λ y. y ∷ shown (read_item x r) xs) (never_item x r.naming e) ∙ ap (λ ys. x ∷ ys) (never_shown xs (read_item x r) (never_read x r e))

-- one more segment
abbrev pub segment_parts : Segment → List RowPart
segment_parts s = map above s.before ++ (nodes_parts s.nodes ++ (segment_end ∷ beside_part s.suffix))

pub segs_push : (ss : List Segment) (s : Segment) → all_segs_parts (ss ++ s ∷ []) ≡ all_segs_parts ss ++ segment_parts s
segs_push [] s = ap (λ ps. map above s.before ++ (nodes_parts s.nodes ++ (segment_end ∷ ps))) (append-nil (beside_part s.suffix))
segs_push (r ∷ ss) s = ap (λ ps. map above r.before ++ (nodes_parts r.nodes ++ (segment_end ∷ (beside_part r.suffix ++ ps)))) (segs_push ss s) ∙ simp append_assoc

later_twice : (stage : Stage) → later (later stage) ≡ later stage
later_twice va = grind arith

after_later : (ss : List Segment) (stage : Stage) → stage_after ss (later stage) ≡ later stage
after_later [] stage = refl
after_later (s ∷ ss) stage = later_twice stage

pub after_push : (ss : List Segment) (s : Segment) (stage : Stage) → stage_after (ss ++ s ∷ []) stage ≡ later stage
after_push [] s stage = refl
after_push (r ∷ ss) s stage = refl

pub after_last : (ss : List Segment) (text : List ℕ) (stage : Stage) → stage_after (to_last text ss) stage ≡ stage_after ss stage
after_last [] text stage = refl
after_last (s ∷ []) text stage = refl
after_last (s ∷ r ∷ ss) text stage = refl

pub each_push : (ss : List Segment) (s : Segment) (stage : Stage) → each stage (segs_of ss) ≡ true → accepts (stage_after ss stage) (items_of s.nodes) ≡ true → each stage (segs_of (ss ++ s ∷ [])) ≡ true
each_push [] s stage all here = and_from _ _ here refl
each_push (r ∷ ss) s stage all here = let p = and_parts _ _ all in and_from _ _ p.0 (each_push ss s (later stage) p.1 (ap (λ t. accepts t (items_of s.nodes)) (after_later ss stage) ∙ here))

pub done_push : (ss : List Segment) (s : Segment) → done_of (ss ++ s ∷ []) ≡ one_more (done_of ss)
done_push va vb = grind arith

-- a comment beside the last segment, which has none
abbrev pub is_open : List Segment → Bool
is_open [] = false
is_open (s ∷ []) = no_suffix s.suffix
  where
    no_suffix : Option (List ℕ) → Bool
    no_suffix None = true
    no_suffix (Some text) = false
is_open (s ∷ r ∷ ss) = is_open (r ∷ ss)

pub open_push : (ss : List Segment) (before : List (List ℕ)) (nodes : List Item) → is_open (ss ++ record { before = before; nodes = nodes; suffix = None } ∷ []) ≡ true
open_push [] before nodes = refl
open_push (r ∷ []) before nodes = refl
open_push (r ∷ q ∷ ss) before nodes = open_push (q ∷ ss) before nodes

last_parts : (before : List (List ℕ)) (nodes : List Item) (suffix : Option (List ℕ)) (text : List ℕ) → is_open (record { before = before; nodes = nodes; suffix = suffix } ∷ []) ≡ true
    → all_segs_parts (to_last text (record { before = before; nodes = nodes; suffix = suffix } ∷ [])) ≡ all_segs_parts (record { before = before; nodes = nodes; suffix = suffix } ∷ []) ++ beside text ∷ []
last_parts before nodes None text h = simp append_assoc
last_parts before nodes (Some other) text h = absurd (false≢true h)

pub beside_last : (ss : List Segment) (text : List ℕ) → is_open ss ≡ true → all_segs_parts (to_last text ss) ≡ all_segs_parts ss ++ beside text ∷ []
beside_last [] text h = absurd (false≢true h)
beside_last (s ∷ []) text h = last_parts s.before s.nodes s.suffix text h
beside_last (s ∷ r ∷ ss) text h = ap (λ ps. map above s.before ++ (nodes_parts s.nodes ++ (segment_end ∷ (beside_part s.suffix ++ ps)))) (beside_last (r ∷ ss) text h) ∙ simp append_assoc

each_beside : (before : List (List ℕ)) (nodes : List Item) (suffix : Option (List ℕ)) (text : List ℕ) (stage : Stage)
    → each stage (segs_of (to_last text (record { before = before; nodes = nodes; suffix = suffix } ∷ []))) ≡ each stage (segs_of (record { before = before; nodes = nodes; suffix = suffix } ∷ []))
each_beside va vb vc vd ve = grind arith

pub each_last : (ss : List Segment) (text : List ℕ) (stage : Stage) → each stage (segs_of (to_last text ss)) ≡ each stage (segs_of ss)
each_last [] text stage = refl
each_last (s ∷ []) text stage = each_beside s.before s.nodes s.suffix text stage
each_last (s ∷ r ∷ ss) text stage = ap (λ b. accepts stage (items_of s.nodes) && b) (each_last (r ∷ ss) text (later stage))

pub done_last : (ss : List Segment) (text : List ℕ) → done_of (to_last text ss) ≡ done_of ss
done_last va vb = grind arith
