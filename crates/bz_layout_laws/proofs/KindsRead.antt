-- The groups that tokens are read as have the kinds of their brackets.
use Rattle.std.proofs.Common.{◌≡◌, suc, ◌==◌, ◌&&◌, ◌||◌, List, [], ◌∷◌, length, Bool, true, false, refl, sym, ap, subst, ◌∙◌}
use Rattle.std.specs.Prelude.{nat_le, if◌then◌else◌}
use Rattle.std.proofs.lemmas.Bool.{false≢true, and_parts, eqb-true}
use Rattle.bz_token.specs.Places.{Placed}
use Rattle.bz_tree.specs.declared.tree.GroupKind.{GroupKind}
use Rattle.bz_tree.specs.declared.tree.GroupKind.TheVariants.{Paren}
use Rattle.bz_tree.specs.declared.tree.kinds.Mark.{Mark}
use Rattle.bz_tree.specs.declared.tree.kinds.Mark.TheVariants.{Open, Close, Comma, Comment, Newline, Plain}
use Rattle.bz_tree.specs.declared.tree.kinds.Preceding.{Preceding}
use Rattle.bz_tree.specs.declared.tree.kinds.Preceding.TheVariants.{Other}
use Rattle.bz_tree.specs.Brackets.{with_comma_nodes, preceding, is_for_item, is_paren, end_line}
use Rattle.bz_tree.specs.Elements.{has_for}
use Rattle.bz_tree.specs.Elements.{group_of}
use Rattle.bz_tree.specs.Elements.{Elem, single, bracket, Elems, no_elems, elem, own_of, elems_own, is_single, IsWell, AreWell}
use Rattle.bz_tree.specs.Kinds.{mark_of, group_kind, is_one, after_item}
use Rattle.bz_tree.specs.Owners.{Inner, node, comma, comment, Inside}
use Rattle.bz_tree.specs.Cells.{Last, no_token, end_of_node, end_of_comma, Entry, a_node, a_comma, a_comment, first_cell, other_cells, later_lines, same_line, below_last, nodes_in, cell_segment, with_segment, segments_from, no_empty_cell, inside, inside_by_cells, entries_of}
use Rattle.bz_tree.specs.Tree.{Item, Segment, items_of, segs_of}
use Rattle.bz_layout.specs.Walked.{count}
use Rattle.bz_layout_laws.specs.Inside.{HasShape}
use Rattle.bz_layout_laws.specs.Parsed.{is_comma_mark, is_comma, nodes_have_for, have_for, HasKind, HaveKinds, SegsHaveKinds}
use Rattle.bz_layout_laws.proofs.Fors.{entries_have_for, owns_have_for}
use Rattle.bz_layout_laws.proofs.ReadSteps.{comma_leaf}
use Rattle.bz_tree.specs.Elements.{one_segment}
use Rattle.bz_tree.specs.declared.tree.kinds.Shape.{Shape}
use Rattle.bz_token.specs.Common.{is_filled}

-- the kinds along the entries of a bracket
abbrev Along : Bool → Preceding → List Entry → Type 0
Along one b [] = Unit {0}
Along one b (a_node x ∷ es) = (is_comma x ≡ true → one ≡ true) × HasKind b x × Along one (after_item x) es
Along one b (a_comma ∷ es) = Along one Other es
Along one b (a_comment on text ∷ es) = Along one b es

-- so in each cell
abbrev InCells : Bool → List (List Entry) → Type 0
InCells one [] = Unit {0}
InCells one (cell ∷ cells) = HaveKinds one Other (items_of (nodes_in cell)) × InCells one cells

first_kinds : (one : Bool) (b : Preceding) (es : List Entry) → Along one b es → HaveKinds one b (items_of (nodes_in (first_cell es)))
first_kinds one b [] h = tt
first_kinds one b (a_node x ∷ es) h = (h.0, h.1, first_kinds one (after_item x) es h.2)
first_kinds one b (a_comma ∷ es) h = tt
first_kinds one b (a_comment on text ∷ es) h = first_kinds one b es h

other_kinds : (one : Bool) (b : Preceding) (es : List Entry) → Along one b es → InCells one (other_cells es)
other_kinds one b [] h = tt
other_kinds one b (a_node x ∷ es) h = other_kinds one (after_item x) es h.2
other_kinds one b (a_comma ∷ es) h = (first_kinds one Other es h, other_kinds one Other es h)
other_kinds one b (a_comment on text ∷ es) h = other_kinds one b es h

later_nodes : (es : List Entry) → nodes_in (later_lines es) ≡ nodes_in es
later_nodes [] = refl
later_nodes (a_node x ∷ es) = refl
later_nodes (a_comma ∷ es) = refl
later_nodes (a_comment true text ∷ es) = refl
later_nodes (a_comment false text ∷ es) = refl

with_kinds : (one : Bool) (s : Segment) (ss : List Segment) → HaveKinds one Other (items_of s.nodes) → SegsHaveKinds one (segs_of ss) → SegsHaveKinds one (segs_of (with_segment s ss))
with_kinds one s ss h rest = by (is_filled s.nodes)
  where
    by : (b : Bool) → SegsHaveKinds one (segs_of (if b then s ∷ ss else ss))
    by true = (h, rest)
    by false = rest

cells_kinds : (one : Bool) (cell : List Entry) (cells : List (List Entry)) → HaveKinds one Other (items_of (nodes_in cell)) → InCells one cells → SegsHaveKinds one (segs_of (segments_from cell cells))
cells_kinds one cell [] h rest = with_kinds one (cell_segment cell [] []) [] h tt
cells_kinds one cell (next ∷ cells) h rest =
    with_kinds one (cell_segment cell (below_last cell) (same_line next)) (segments_from (later_lines next) cells) h
    (cells_kinds one (later_lines next) cells (subst (λ xs. HaveKinds one Other (items_of xs)) (sym (later_nodes next)) rest.0) rest.1)

pub inside_kinds : (one : Bool) (es : List Entry) → Along one Other es → SegsHaveKinds one (segs_of (inside_by_cells es).segs)
inside_kinds one es h = cells_kinds one (first_cell es) (other_cells es) (first_kinds one Other es h) (other_kinds one Other es h)

-- where no segment is empty, the first one tells whether `for` stands in it
first_for : (es : List Entry) → entries_have_for es ≡ nodes_have_for (items_of (nodes_in (first_cell es)))
first_for [] = refl
first_for (a_node x ∷ es) = ap (λ b. if is_comma x then false else (is_for_item x || b)) (first_for es)
first_for (a_comma ∷ es) = refl
first_for (a_comment on text ∷ es) = first_for es

first_filled : (at : Last) (os : List Inner) → no_empty_cell false os ≡ true → is_filled (nodes_in (first_cell (entries_of at os))) ≡ false → other_cells (entries_of at os) ≡ []
first_filled at [] h none = refl
first_filled at (node line x ∷ os) h none = absurd (false≢true (sym none))
first_filled at (comma t ∷ os) h none = absurd (false≢true h)
first_filled at (comment line text ∷ os) h none = first_filled no_token os h none

segments_for : (cell : List Entry) (cells : List (List Entry)) → (is_filled (nodes_in cell) ≡ false → cells ≡ []) → have_for (segs_of (segments_from cell cells)) ≡ nodes_have_for (items_of (nodes_in cell))
segments_for cell [] h = by (nodes_in cell)
  where
    by : (xs : List Item) → have_for (segs_of (with_segment (record { before = (cell_segment cell [] []).before; nodes = xs; suffix = (cell_segment cell [] []).suffix }) [])) ≡ nodes_have_for (items_of xs)
    by [] = refl
    by (x ∷ xs) = refl
segments_for cell (next ∷ cells) h = by (nodes_in cell) refl
  where
    by : (xs : List Item) → nodes_in cell ≡ xs → have_for (segs_of (with_segment (record { before = (cell_segment cell (below_last cell) (same_line next)).before; nodes = xs; suffix = (cell_segment cell (below_last cell) (same_line next)).suffix }) (segments_from (later_lines next) cells))) ≡ nodes_have_for (items_of xs)
    by [] e = absurd (false≢true (sym (ap is_filled (h (ap is_filled e)))))
    by (x ∷ xs) e = refl

pub inside_for : (one : Bool) (xs : Elems) → AreWell Other xs → no_empty_cell false (with_comma_nodes one (elems_own Other xs)) ≡ true → have_for (segs_of (inside (with_comma_nodes one (elems_own Other xs))).segs) ≡ has_for (elems_own Other xs)
inside_for one xs well filled =
    let os = with_comma_nodes one (elems_own Other xs) in
    let es = entries_of no_token os in
    segments_for (first_cell es) (other_cells es) (first_filled no_token os filled) ∙ sym (first_for es) ∙ sym (owns_have_for one no_token Other xs well)

-- an index or a comprehension has one segment, and so has `(x,)`
pub no_cells : (at : Last) (os : List Inner) → other_cells (entries_of at (with_comma_nodes true os)) ≡ []
no_cells at [] = refl
no_cells at (node line x ∷ os) = no_cells (end_of_node line) os
no_cells at (comma t ∷ os) = no_cells (end_of_node t.line) os
no_cells at (comment line text ∷ os) = no_cells no_token os

one_cell : (s : Segment) → nat_le (count (segs_of (with_segment s []))) 1 ≡ true
one_cell s = by (is_filled s.nodes)
  where
    by : (b : Bool) → nat_le (count (segs_of (if b then s ∷ [] else []))) 1 ≡ true
    by true = refl
    by false = refl

at_most_one : (one : Bool) (os : List Inner) → one ≡ true → nat_le (count (segs_of (inside (with_comma_nodes one os)).segs)) 1 ≡ true
at_most_one false os h = absurd (false≢true h)
at_most_one true os h =
    let es = entries_of no_token (with_comma_nodes true os) in
    ap (λ cells. nat_le (count (segs_of (segments_from (first_cell es) cells))) 1) (no_cells no_token os) ∙ one_cell (cell_segment (first_cell es) [] [])

counted : (ss : List Segment) → count (segs_of ss) ≡ length ss
counted [] = refl
counted (s ∷ ss) = ap suc (counted ss)

paren_kind : (kind : GroupKind) → is_paren kind ≡ true → kind ≡ Paren
paren_kind Paren h = refl
paren_kind _ h = absurd (false≢true h)

shape_read : (kind : GroupKind) (os : List Inner) → HasShape kind (segs_of (inside (with_comma_nodes (is_one kind) os)).segs) (is_paren kind && (length (inside (with_comma_nodes (is_one kind) os)).segs == 1) && (inside (with_comma_nodes (is_one kind) os)).trailing)
shape_read kind os =
    let i = inside (with_comma_nodes (is_one kind) os) in
    record {
      one = at_most_one (is_one kind) os;
      comma = λ e. (let front = and_parts (is_paren kind) (length i.segs == 1) (and_parts (is_paren kind && (length i.segs == 1)) i.trailing e).0 in
          (paren_kind kind front.0, counted i.segs ∙ eqb-true (length i.segs) 1 front.1));
    }

-- one more token
more_along : (one : Bool) (at : Last) (m : Mark) (t : Placed) (b : Preceding) (owns : List Inner) → mark_of t ≡ m → is_single m ≡ true → ((last : Last) → Along one (preceding b (own_of m t)) (entries_of last (with_comma_nodes one owns)))
    → Along one b (entries_of at (with_comma_nodes one (own_of m t ∷ owns)))
more_along true at Comma t b owns e ok rest = (λ is. refl, tt, subst (λ p. Along true p (entries_of (end_of_node t.line) (with_comma_nodes true owns))) (sym (comma_leaf t.kind t.text (ap is_comma_mark e)).0) (rest (end_of_node t.line)))
more_along false at Comma t b owns e ok rest = rest (end_of_comma t.line)
more_along true at Comment t b owns e ok rest = rest no_token
more_along false at Comment t b owns e ok rest = rest no_token
more_along true at Plain t b owns e ok rest = (λ is. refl, tt, rest (end_of_node (end_line t)))
more_along false at Plain t b owns e ok rest = (λ is. absurd (false≢true (sym (ap is_comma_mark e) ∙ is)), tt, rest (end_of_node (end_line t)))
more_along one at (Open shape) t b owns e ok rest = absurd (false≢true ok)
more_along one at (Close shape) t b owns e ok rest = absurd (false≢true ok)
more_along one at Newline t b owns e ok rest = absurd (false≢true ok)

bracket_kind : (b : Preceding) (shape : Shape) (opening : Placed) (inner : Elems) (closing : Placed) → IsWell b (bracket shape opening inner closing) → ((one : Bool) → Along one Other (entries_of no_token (with_comma_nodes one (elems_own Other inner))))
    → HasKind b (group_of (group_kind shape b (has_for (elems_own Other inner))) (elems_own Other inner))
bracket_kind b shape opening inner closing h kinds =
    let owns = elems_own Other inner in
    let kind = group_kind shape b (has_for owns) in
    (shape, ap (group_kind shape b) (sym (inside_for (is_one kind) inner h.2 h.3)), shape_read kind owns, inside_kinds (is_one kind) (entries_of no_token (with_comma_nodes (is_one kind) owns)) (kinds (is_one kind)))

-- what stands in one bracket
abbrev inner_entries : Bool → Elem → List Entry
inner_entries one (single t) = []
inner_entries one (bracket shape opening inner closing) = entries_of no_token (with_comma_nodes one (elems_own Other inner))

mutual
  inner_along : (b : Preceding) (x : Elem) → IsWell b x → (one : Bool) → Along one Other (inner_entries one x)
  inner_along b (single t) h one = tt
  inner_along b (bracket shape opening inner closing) h one = along one no_token Other inner h.2

  pub along : (one : Bool) (at : Last) (b : Preceding) (xs : Elems) → AreWell b xs → Along one b (entries_of at (with_comma_nodes one (elems_own b xs)))
  along one at b no_elems h = tt
  along one at b (elem (single t) xs) h = more_along one at (mark_of t) t b (elems_own (preceding b (own_of (mark_of t) t)) xs) refl h.0 (λ last. along one last (preceding b (own_of (mark_of t) t)) xs h.1)
  along true at b (elem (bracket shape opening inner closing) xs) h = (λ is. refl, bracket_kind b shape opening inner closing h.0 (inner_along b (bracket shape opening inner closing) h.0), along true (end_of_node closing.line) _ xs h.1)
  along false at b (elem (bracket shape opening inner closing) xs) h = (λ is. absurd (false≢true is), bracket_kind b shape opening inner closing h.0 (inner_along b (bracket shape opening inner closing) h.0), along false (end_of_node closing.line) _ xs h.1)

-- the nodes that stand outside brackets, before the call of a rule is told
pub outside_kinds : (xs : Elems) (i : Inside) → i ≡ inside (with_comma_nodes true (elems_own Other xs)) → AreWell Other xs → HaveKinds true Other (items_of (one_segment i.segs i.end).nodes)
outside_kinds xs i e h = first i.segs (subst (λ j. SegsHaveKinds true (segs_of j.segs)) (sym e) (inside_kinds true (entries_of no_token (with_comma_nodes true (elems_own Other xs))) (along true no_token Other xs h)))
  where
    first : (ss : List Segment) → SegsHaveKinds true (segs_of ss) → HaveKinds true Other (items_of (one_segment ss i.end).nodes)
    first [] h = tt
    first (s ∷ ss) h = h.0
