-- The owners of comments by cells of entries (`Cells`) are those of `Owners`.
use Rattle.std.proofs.Common.{arith, ◌≡◌, ℕ, ◌==◌, List, [], ◌∷◌, ◌++◌, Bool, true, false, not, cond, ◌||◌, ◌&&◌, Option, Some, None, refl, sym, ap, subst, ◌∙◌, append_assoc, append-nil, drop, length, ◌⊎◌, inl, inr}
use Rattle.std.specs.Prelude.{map, flat_map}
use Rattle.std.specs.List.{list_any, list_all, filter, last_or, before_last, after_last}
use Rattle.std.proofs.lemmas.Bool.{false≢true, cases_Bool, or_parts}
use Rattle.std.proofs.Math.Bool.{and-false}
use Rattle.std.proofs.Math.Seq.{drop-append_seam}
use Rattle.std.proofs.lemmas.Grind.{flat_map-append}
use Rattle.std.proofs.lemmas.List.Folds.{list_any-append}
use Rattle.bz_token.specs.Common.{first_of, is_filled}
use Rattle.bz_token.specs.Groups.{grouped, grouped_from}
use Rattle.bz_token.specs.Places.{Placed}
use Rattle.bz_tree.specs.Tree.{Item, Segment}
use Rattle.bz_tree.specs.Owners.{Inner, node, comma, comment, Inside, nodes_of, texts_of, is_node, is_comma, is_beside, beside, on_own_lines, cell_goes_on, cells, from_last_node, end_comments}
use Rattle.bz_tree.specs.Owners as owners
use Rattle.bz_tree.specs.Cells.{Last, no_token, end_of_node, end_of_comma, is_on, Entry, a_node, a_comma, a_comment, first_cell, other_cells, same_line, later_lines, nodes_in, has_node, comments_in, above_last, beside_last, below_last, cell_segment, with_segment, segments_from, end_from, has_trailing_comma, inside_by_cells, entries_of, no_empty_cell, inside}
use Rattle.bz_tree.proofs.Trees.LastOf.{before_last_none, after_last_none, before_last_at, after_last_at}

-- the state after these
abbrev after : Last → List Inner → Last
after last [] = last
after last (node line x ∷ os) = after (end_of_node line) os
after last (comma t ∷ os) = after (end_of_comma t.line) os
after last (comment line text ∷ os) = after no_token os

abbrev entries : List Inner → List Entry
entries os = entries_of no_token os

entries_more : (last : Last) (xs ys : List Inner) → entries_of last (xs ++ ys) ≡ entries_of last xs ++ entries_of (after last xs) ys
entries_more last [] ys = refl
entries_more last (node line x ∷ xs) ys = ap (λ es. a_node x ∷ es) (entries_more (end_of_node line) xs ys)
entries_more last (comma t ∷ xs) ys = ap (λ es. a_comma ∷ es) (entries_more (end_of_comma t.line) xs ys)
entries_more last (comment line text ∷ xs) ys = ap (λ es. a_comment (is_on last line) text ∷ es) (entries_more no_token xs ys)

after_more : (last : Last) (xs ys : List Inner) → after last (xs ++ ys) ≡ after (after last xs) ys
after_more last [] ys = refl
after_more last (node line x ∷ xs) ys = after_more (end_of_node line) xs ys
after_more last (comma t ∷ xs) ys = after_more (end_of_comma t.line) xs ys
after_more last (comment line text ∷ xs) ys = after_more no_token xs ys

nodes_are : (last : Last) (os : List Inner) → nodes_in (entries_of last os) ≡ flat_map nodes_of os
nodes_are last [] = refl
nodes_are last (node line x ∷ os) = ap (λ xs. x ∷ xs) (nodes_are (end_of_node line) os)
nodes_are last (comma t ∷ os) = nodes_are (end_of_comma t.line) os
nodes_are last (comment line text ∷ os) = nodes_are no_token os

texts_are : (last : Last) (os : List Inner) → comments_in (entries_of last os) ≡ flat_map texts_of os
texts_are last [] = refl
texts_are last (node line x ∷ os) = texts_are (end_of_node line) os
texts_are last (comma t ∷ os) = texts_are (end_of_comma t.line) os
texts_are last (comment line text ∷ os) = ap (λ ts. text ∷ ts) (texts_are no_token os)

has_is : (last : Last) (os : List Inner) → has_node (entries_of last os) ≡ list_any is_node os
has_is last [] = refl
has_is last (node line x ∷ os) = refl
has_is last (comma t ∷ os) = has_is (end_of_comma t.line) os
has_is last (comment line text ∷ os) = has_is no_token os

pub no_nodes : (os : List Inner) → list_any is_node os ≡ false → flat_map nodes_of os ≡ []
no_nodes [] h = refl
no_nodes (node line x ∷ os) h = absurd (false≢true (sym h))
no_nodes (comma t ∷ os) h = no_nodes os h
no_nodes (comment line text ∷ os) h = no_nodes os h

-- the last node of some entries, and what comes after it
has_at : (es : List Entry) (x : Item) (fs : List Entry) → has_node (es ++ a_node x ∷ fs) ≡ true
has_at [] x fs = refl
has_at (a_node y ∷ es) x fs = refl
has_at (a_comma ∷ es) x fs = has_at es x fs
has_at (a_comment on text ∷ es) x fs = has_at es x fs

above_none : (es : List Entry) → has_node es ≡ false → above_last es ≡ []
above_none [] h = refl
above_none (a_node x ∷ es) h = absurd (false≢true (sym h))
above_none (a_comma ∷ es) h = above_none es h
above_none (a_comment on text ∷ es) h = rw h refl

beside_none : (es : List Entry) → has_node es ≡ false → beside_last es ≡ []
beside_none [] h = refl
beside_none (a_node x ∷ es) h = absurd (false≢true (sym h))
beside_none (a_comma ∷ es) h = beside_none es h
beside_none (a_comment on text ∷ es) h = beside_none es h

above_at : (es : List Entry) (x : Item) (fs : List Entry) → has_node fs ≡ false → above_last (es ++ a_node x ∷ fs) ≡ comments_in es
above_at [] x fs h = above_none fs h
above_at (a_node y ∷ es) x fs h = above_at es x fs h
above_at (a_comma ∷ es) x fs h = above_at es x fs h
above_at (a_comment on text ∷ es) x fs h = rw (has_at es x fs) (ap (λ ts. text ∷ ts) (above_at es x fs h))

beside_at : (es : List Entry) (x : Item) (fs : List Entry) → has_node fs ≡ false → beside_last (es ++ a_node x ∷ fs) ≡ same_line fs
beside_at [] x fs h = rw h refl
beside_at (a_node y ∷ es) x fs h = rw (has_at es x fs) (beside_at es x fs h)
beside_at (a_comma ∷ es) x fs h = beside_at es x fs h
beside_at (a_comment on text ∷ es) x fs h = beside_at es x fs h

below_at : (es : List Entry) (x : Item) (fs : List Entry) → has_node fs ≡ false → below_last (es ++ a_node x ∷ fs) ≡ comments_in (later_lines fs)
below_at [] x fs h = rw h refl
below_at (a_node y ∷ es) x fs h = rw (has_at es x fs) (below_at es x fs h)
below_at (a_comma ∷ es) x fs h = below_at es x fs h
below_at (a_comment on text ∷ es) x fs h = rw (has_at es x fs) (below_at es x fs h)

-- comments alone
abbrev pub AreComments : List Inner → Type 0
AreComments [] = Unit {0}
AreComments (comment line text ∷ os) = AreComments os
AreComments (_ ∷ os) = ⊥

pub comments_alone : (os : List Inner) → list_any is_node os ≡ false → list_any is_comma os ≡ false → AreComments os
comments_alone [] h k = tt
comments_alone (node line x ∷ os) h k = absurd (false≢true (sym h))
comments_alone (comma t ∷ os) h k = absurd (false≢true (sym k))
comments_alone (comment line text ∷ os) h k = comments_alone os h k

below_none : (last : Last) (os : List Inner) → AreComments os → below_last (entries_of last os) ≡ flat_map texts_of os
below_none last [] h = refl
below_none last (comment line text ∷ os) h = rw (has_is no_token os, no_node os h) (ap (λ ts. text ∷ ts) (texts_are no_token os))
  where
    no_node : (os : List Inner) → AreComments os → list_any is_node os ≡ false
    no_node [] h = refl
    no_node (comment line text ∷ os) h = no_node os h
    no_node (node line x ∷ os) h = absurd h
    no_node (comma t ∷ os) h = absurd h
below_none last (node line x ∷ os) h = absurd h
below_none last (comma t ∷ os) h = absurd h

-- what stands directly before these is no node and no comma
abbrev pub IsOff : Option Inner → Type 0
IsOff (Some (node line x)) = ⊥
IsOff (Some (comma t)) = ⊥
IsOff (Some (comment line text)) = Unit {0}
IsOff None = Unit {0}

off : (o : Option Inner) (own : Inner) → IsOff o → is_beside o own ≡ false
off None own h = refl
off (Some (comment line text)) own h = refl
off (Some (node line x)) own h = absurd h
off (Some (comma t)) own h = absurd h

pub off_beside : (o : Option Inner) (os : List Inner) → IsOff o → AreComments os → beside o os ≡ []
off_beside o [] h all = refl
off_beside o (comment line text ∷ os) h all = rw (off o (comment line text) h) (off_beside (Some (comment line text)) os tt all)
off_beside o (node line x ∷ os) h all = absurd all
off_beside o (comma t ∷ os) h all = absurd all

off_lines : (o : Option Inner) (os : List Inner) → IsOff o → AreComments os → on_own_lines o os ≡ flat_map texts_of os
off_lines o [] h all = refl
off_lines o (comment line text ∷ os) h all = rw (off o (comment line text) h) (ap (λ ts. text ∷ ts) (off_lines (Some (comment line text)) os tt all))
off_lines o (node line x ∷ os) h all = absurd all
off_lines o (comma t ∷ os) h all = absurd all

-- after a node
node_beside : (end : ℕ) (x : Item) (os : List Inner) → AreComments os → beside (Some (node end x)) os ≡ same_line (entries_of (end_of_node end) os)
node_beside end x [] all = refl
node_beside end x (comment line text ∷ os) all = at_line (end == line) (off_beside (Some (comment line text)) os tt all)
  where
    at_line : (b : Bool) → beside (Some (comment line text)) os ≡ [] → cond b (text ∷ []) [] ++ beside (Some (comment line text)) os ≡ same_line (a_comment b text ∷ entries_of no_token os)
    at_line true none = ap (λ ts. text ∷ ts) none
    at_line false none = none
node_beside end x (node line y ∷ os) all = absurd all
node_beside end x (comma t ∷ os) all = absurd all

node_lines : (end : ℕ) (x : Item) (os : List Inner) → AreComments os → on_own_lines (Some (node end x)) os ≡ comments_in (later_lines (entries_of (end_of_node end) os))
node_lines end x [] all = refl
node_lines end x (comment line text ∷ os) all = at_line (end == line) (off_lines (Some (comment line text)) os tt all ∙ sym (texts_are no_token os))
  where
    at_line : (b : Bool) → on_own_lines (Some (comment line text)) os ≡ comments_in (entries_of no_token os)
        → cond b [] (text ∷ []) ++ on_own_lines (Some (comment line text)) os ≡ comments_in (later_lines (a_comment b text ∷ entries_of no_token os))
    at_line true more = more
    at_line false more = ap (λ ts. text ∷ ts) more
node_lines end x (node line y ∷ os) all = absurd all
node_lines end x (comma t ∷ os) all = absurd all

-- before a comma
no_text : (b : Bool) (ts : List (List ℕ)) → cond b [] [] ++ ts ≡ ts
no_text true ts = refl
no_text false ts = refl

beside_comma : (o : Option Inner) (xs : List Inner) (t : Placed) (d : List Inner) → beside o (xs ++ comma t ∷ d) ≡ beside o xs ++ beside (Some (comma t)) d
beside_comma o [] t d = no_text (is_beside o (comma t)) (beside (Some (comma t)) d)
beside_comma o (x ∷ xs) t d = ap (λ ts. cond (is_beside o x) (texts_of x) [] ++ ts) (beside_comma (Some x) xs t d) ∙ sym (append_assoc (cond (is_beside o x) (texts_of x) []) (beside (Some x) xs) (beside (Some (comma t)) d))

lines_comma : (o : Option Inner) (xs : List Inner) (t : Placed) (d : List Inner) → on_own_lines o (xs ++ comma t ∷ d) ≡ on_own_lines o xs ++ on_own_lines (Some (comma t)) d
lines_comma o [] t d = no_text (is_beside o (comma t)) (on_own_lines (Some (comma t)) d)
lines_comma o (x ∷ xs) t d = ap (λ ts. cond (is_beside o x) [] (texts_of x) ++ ts) (lines_comma (Some x) xs t d) ∙ sym (append_assoc (cond (is_beside o x) [] (texts_of x)) (on_own_lines (Some x) xs) (on_own_lines (Some (comma t)) d))

-- the last node of a list
record AtLast (os : List Inner) : Type 0 where
  front : List Inner
  line : ℕ
  x : Item
  rest : List Inner
  is : front ++ node line x ∷ rest ≡ os
  none : list_any is_node rest ≡ false

split_last : (os : List Inner) → (list_any is_node os ≡ false) ⊎ AtLast os
split_last [] = inl refl
split_last (own ∷ os) = elim (split_last os) [
  | inr a ↦ inr (record { front = own ∷ a.front; line = a.line; x = a.x; rest = a.rest; is = ap (λ xs. own ∷ xs) a.is; none = a.none })
  | inl none ↦ here own none
]
  where
    here : (own : Inner) → list_any is_node os ≡ false → (list_any is_node (own ∷ os) ≡ false) ⊎ AtLast (own ∷ os)
    here (node line x) none = inr (record { front = []; line = line; x = x; rest = os; is = refl; none = none })
    here (comma t) none = inl none
    here (comment line text) none = inl none

from_at : (front : List Inner) (line : ℕ) (x : Item) (rest : List Inner) → list_any is_node rest ≡ false → from_last_node (front ++ node line x ∷ rest) ≡ node line x ∷ rest
from_at front line x rest none = ap (λ (f : List Inner). drop (length f) (front ++ node line x ∷ rest)) (before_last_at is_node front (node line x) rest refl none) ∙ drop-append_seam front (node line x ∷ rest)

pub from_none : (os : List Inner) → list_any is_node os ≡ false → from_last_node os ≡ os
from_none os none = ap (λ (f : List Inner). drop (length f) os) (before_last_none is_node os none)

any_at : (front : List Inner) (line : ℕ) (x : Item) (rest : List Inner) → list_any is_node (front ++ node line x ∷ rest) ≡ true
any_at [] line x rest = refl
any_at (node l y ∷ front) line x rest = refl
any_at (comma t ∷ front) line x rest = any_at front line x rest
any_at (comment l text ∷ front) line x rest = any_at front line x rest

nodes_at : (front : List Inner) (line : ℕ) (x : Item) (rest : List Inner) → list_any is_node rest ≡ false → flat_map nodes_of (front ++ node line x ∷ rest) ≡ flat_map nodes_of front ++ x ∷ []
nodes_at front line x rest none = flat_map-append nodes_of front (node line x ∷ rest) ∙ ap (λ xs. flat_map nodes_of front ++ (x ∷ xs)) (no_nodes rest none)

-- a segment, as it is made of its parts
abbrev made : List (List ℕ) → List Item → List (List ℕ) → List (List ℕ) → Segment
made above nodes below shown = record { before = above ++ (below ++ drop 1 shown); nodes = nodes; suffix = first_of shown }

abbrev below_of : Bool → List (List ℕ) → List (List ℕ)
below_of b texts = cond b texts []

segment_at : (front : List Inner) (line : ℕ) (x : Item) (rest : List Inner) → list_any is_node rest ≡ false
    → owners.cell_segment (front ++ node line x ∷ rest)
    ≡ made (flat_map texts_of front) (flat_map nodes_of front ++ x ∷ []) (below_of (list_any is_comma (front ++ node line x ∷ rest)) (on_own_lines (Some (node line x)) rest)) (beside (Some (node line x)) rest)
segment_at front line x rest none =
    let cell = front ++ node line x ∷ rest in
    let before : before_last is_node (front ++ node line x ∷ rest) ≡ front = before_last_at is_node front (node line x) rest refl none in
    let from : from_last_node (front ++ node line x ∷ rest) ≡ node line x ∷ rest = from_at front line x rest none in
    let nodes : flat_map nodes_of (front ++ node line x ∷ rest) ≡ flat_map nodes_of front ++ x ∷ [] = nodes_at front line x rest none in
    λ i. made (flat_map texts_of (before i)) (nodes i) (below_of (list_any is_comma (front ++ node line x ∷ rest)) (on_own_lines None (from i))) (beside None (from i))

abbrev segs_of : List (List Inner) → List Segment
segs_of cs = map owners.cell_segment (filter (list_any is_node) cs)

-- cells and entries have the same segments and end comments
record Same (cs : List (List Inner)) (first : List Entry) (others : List (List Entry)) : Type 0 where
  segs : segs_of cs ≡ segments_from first others
  ends : flat_map end_comments cs ≡ end_from first others

segs_with : (c : List Inner) (cs : List (List Inner)) → list_any is_node c ≡ true → segs_of (c ∷ cs) ≡ owners.cell_segment c ∷ segs_of cs
segs_with c cs some = rw some refl

segs_without : (c : List Inner) (cs : List (List Inner)) → list_any is_node c ≡ false → segs_of (c ∷ cs) ≡ segs_of cs
segs_without c cs none = rw none refl

filled : (xs : List Item) (x : Item) → is_filled (xs ++ x ∷ []) ≡ true
filled [] x = refl
filled (y ∷ ys) x = refl

-- the entries at the last node
record EntriesAt (front : List Inner) (line : ℕ) (x : Item) (rest : List Inner) : Type 0 where
  nodes : nodes_in (entries (front ++ node line x ∷ rest)) ≡ flat_map nodes_of front ++ x ∷ []
  above : above_last (entries (front ++ node line x ∷ rest)) ≡ flat_map texts_of front
  beside_is : beside_last (entries (front ++ node line x ∷ rest)) ≡ beside (Some (node line x)) rest
  below : below_last (entries (front ++ node line x ∷ rest)) ≡ on_own_lines (Some (node line x)) rest

entries_at : (front : List Inner) (line : ℕ) (x : Item) (rest : List Inner) → list_any is_node rest ≡ false → AreComments rest → EntriesAt front line x rest
entries_at front line x rest none all =
    let split : entries (front ++ node line x ∷ rest) ≡ entries front ++ a_node x ∷ entries_of (end_of_node line) rest = entries_more no_token front (node line x ∷ rest) in
    let has : has_node (entries_of (end_of_node line) rest) ≡ false = has_is (end_of_node line) rest ∙ none in
    record {
      nodes = nodes_are no_token (front ++ node line x ∷ rest) ∙ nodes_at front line x rest none;
      above = ap above_last split ∙ above_at (entries front) x (entries_of (end_of_node line) rest) has ∙ texts_are no_token front;
      beside_is = ap beside_last split ∙ beside_at (entries front) x (entries_of (end_of_node line) rest) has ∙ sym (node_beside line x rest all);
      below = ap below_last split ∙ below_at (entries front) x (entries_of (end_of_node line) rest) has ∙ sym (node_lines line x rest all);
    }

comma_front : (front : List Inner) (line : ℕ) (x : Item) (rest : List Inner) → list_any is_comma (front ++ node line x ∷ rest) ≡ false → list_any is_comma rest ≡ false
comma_front front line x rest h = (or_parts (list_any is_comma front) (list_any is_comma rest) (sym (list_any-append is_comma front (node line x ∷ rest)) ∙ h)).1

-- the last cell, without a comma
open_cell : (g : List Inner) → list_any is_comma g ≡ false → Same (g ∷ []) (entries g) []
open_cell g free = elim (split_last g) [
  | inl none ↦ without none
  | inr a ↦ subst (λ c. Same (c ∷ []) (entries c) []) a.is (at_node a.front a.line a.x a.rest a.none (ap (list_any is_comma) a.is ∙ free))
]
  where
    without : list_any is_node g ≡ false → Same (g ∷ []) (entries g) []
    without none = record {
      segs = segs_without g [] none ∙ sym (ap (λ (b : Bool). cond b (cell_segment (entries g) [] [] ∷ []) []) (has_is no_token g ∙ none));
      ends = append-nil (end_comments g) ∙ rw free (ap (on_own_lines None) (from_none g none) ∙ off_lines None g tt (comments_alone g none free) ∙ sym (below_none no_token g (comments_alone g none free)));
    }

    at_node : (front : List Inner) (line : ℕ) (x : Item) (rest : List Inner) → list_any is_node rest ≡ false → list_any is_comma (front ++ node line x ∷ rest) ≡ false
        → Same ((front ++ node line x ∷ rest) ∷ []) (entries (front ++ node line x ∷ rest)) []
    at_node front line x rest none free =
        let e = entries_at front line x rest none (comments_alone rest none (comma_front front line x rest free)) in
        let cell = front ++ node line x ∷ rest in
        let has : has_node (entries (front ++ node line x ∷ rest)) ≡ true = has_is no_token (front ++ node line x ∷ rest) ∙ any_at front line x rest in
        let old : cell_segment (entries (front ++ node line x ∷ rest)) [] [] ≡ made (flat_map texts_of front) (flat_map nodes_of front ++ x ∷ []) [] (beside (Some (node line x)) rest) =
        λ i. made (e.above i) (e.nodes i) [] ((append-nil (beside_last (entries (front ++ node line x ∷ rest))) ∙ e.beside_is) i) in
        record {
          segs = segs_with cell [] (any_at front line x rest)
              ∙ ap (λ s. s ∷ []) (segment_at front line x rest none ∙ ap (λ b. made (flat_map texts_of front) (flat_map nodes_of front ++ x ∷ []) (below_of b (on_own_lines (Some (node line x)) rest)) (beside (Some (node line x)) rest)) free ∙ sym old)
              ∙ sym (ap (λ (b : Bool). cond b (cell_segment (entries (front ++ node line x ∷ rest)) [] [] ∷ []) []) has);
          ends = append-nil (end_comments cell) ∙ rw free (ap (on_own_lines None) (from_at front line x rest none) ∙ sym e.below);
        }

any_comma : (g : List Inner) (t : Placed) (d : List Inner) → list_any is_comma (g ++ comma t ∷ d) ≡ true
any_comma [] t d = refl
any_comma (node l y ∷ g) t d = any_comma g t d
any_comma (comma u ∷ g) t d = refl
any_comma (comment l text ∷ g) t d = any_comma g t d

-- a cell with its comma, and what stands beside that
closed_cell : (g : List Inner) (t : Placed) (d : List Inner) (cs : List (List Inner)) (next : List Entry) (others : List (List Entry)) → list_any is_comma g ≡ false
    → list_any is_node d ≡ false → beside (Some (comma t)) d ≡ same_line next → on_own_lines (Some (comma t)) d ≡ [] → Same cs (later_lines next) others
    → Same ((g ++ comma t ∷ d) ∷ cs) (entries g) (next ∷ others)
closed_cell g t d cs next others free bare shown gone more = elim (split_last g) [
  | inl none ↦ without none
  | inr a ↦ subst (λ c. Same ((c ++ comma t ∷ d) ∷ cs) (entries c) (next ∷ others)) a.is (at_node a.front a.line a.x a.rest a.none (ap (list_any is_comma) a.is ∙ free))
]
  where
    closed_ends : (c : List Inner) → flat_map end_comments ((c ++ comma t ∷ d) ∷ cs) ≡ flat_map end_comments cs
    closed_ends c = ap (λ (b : Bool). cond b [] (on_own_lines None (from_last_node (c ++ comma t ∷ d))) ++ flat_map end_comments cs) (any_comma c t d)

    no_node : (c : List Inner) → list_any is_node c ≡ false → list_any is_node (c ++ comma t ∷ d) ≡ false
    no_node c none = list_any-append is_node c (comma t ∷ d) ∙ ap (λ b. b || list_any is_node d) none ∙ bare

    without : list_any is_node g ≡ false → Same ((g ++ comma t ∷ d) ∷ cs) (entries g) (next ∷ others)
    without none = record {
      segs = segs_without (g ++ comma t ∷ d) cs (no_node g none) ∙ more.segs
          ∙ sym (ap (λ (b : Bool). cond b (cell_segment (entries g) (below_last (entries g)) (same_line next) ∷ segments_from (later_lines next) others) (segments_from (later_lines next) others)) (has_is no_token g ∙ none));
      ends = closed_ends g ∙ more.ends;
    }

    at_node : (front : List Inner) (line : ℕ) (x : Item) (rest : List Inner) → list_any is_node rest ≡ false → list_any is_comma (front ++ node line x ∷ rest) ≡ false
        → Same (((front ++ node line x ∷ rest) ++ comma t ∷ d) ∷ cs) (entries (front ++ node line x ∷ rest)) (next ∷ others)
    at_node front line x rest none free =
        let e = entries_at front line x rest none (comments_alone rest none (comma_front front line x rest free)) in
        let cell = front ++ node line x ∷ rest in
        let whole = front ++ node line x ∷ (rest ++ comma t ∷ d) in
        let same : (front ++ node line x ∷ rest) ++ comma t ∷ d ≡ front ++ node line x ∷ (rest ++ comma t ∷ d) = append_assoc front (node line x ∷ rest) (comma t ∷ d) in
        let has : has_node (entries (front ++ node line x ∷ rest)) ≡ true = has_is no_token (front ++ node line x ∷ rest) ∙ any_at front line x rest in
        let comma_here : list_any is_comma (front ++ node line x ∷ (rest ++ comma t ∷ d)) ≡ true = ap (list_any is_comma) (sym same) ∙ any_comma (front ++ node line x ∷ rest) t d in
        let new : owners.cell_segment (front ++ node line x ∷ (rest ++ comma t ∷ d)) ≡ made (flat_map texts_of front) (flat_map nodes_of front ++ x ∷ []) (on_own_lines (Some (node line x)) rest) (beside (Some (node line x)) rest ++ same_line next) =
        segment_at front line x (rest ++ comma t ∷ d) (no_node rest none)
        ∙ λ i. made (flat_map texts_of front) (flat_map nodes_of front ++ x ∷ [])
        (below_of (comma_here i) ((lines_comma (Some (node line x)) rest t d ∙ ap (λ ts. on_own_lines (Some (node line x)) rest ++ ts) gone ∙ append-nil (on_own_lines (Some (node line x)) rest)) i))
        ((beside_comma (Some (node line x)) rest t d ∙ ap (λ ts. beside (Some (node line x)) rest ++ ts) shown) i) in
        let old : cell_segment (entries (front ++ node line x ∷ rest)) (below_last (entries (front ++ node line x ∷ rest))) (same_line next)
        ≡ made (flat_map texts_of front) (flat_map nodes_of front ++ x ∷ []) (on_own_lines (Some (node line x)) rest) (beside (Some (node line x)) rest ++ same_line next) =
        λ i. made (e.above i) (e.nodes i) (e.below i) (e.beside_is i ++ same_line next) in
        record {
          segs = ap (λ c. segs_of (c ∷ cs)) same
              ∙ segs_with whole cs (any_at front line x (rest ++ comma t ∷ d))
              ∙ (λ i. (new ∙ sym old) i ∷ more.segs i)
              ∙ sym (ap (λ (b : Bool). cond b (cell_segment (entries (front ++ node line x ∷ rest)) (below_last (entries (front ++ node line x ∷ rest))) (same_line next) ∷ segments_from (later_lines next) others) (segments_from (later_lines next) others)) has);
          ends = closed_ends cell ∙ more.ends;
        }

-- what a walk over these gives: after an open cell, after a comma, and at the start of a cell
abbrev Open : List Inner → List Inner → Type 0
Open os g = Same (grouped_from cell_goes_on g os) (entries g ++ first_cell (entries_of (after no_token g) os)) (other_cells (entries_of (after no_token g) os))

abbrev Closed : List Inner → List Inner → Placed → Type 0
Closed os g t = Same (grouped_from cell_goes_on (g ++ comma t ∷ []) os) (entries g) (first_cell (entries_of (end_of_comma t.line) os) ∷ other_cells (entries_of (end_of_comma t.line) os))

abbrev Start : List Inner → Type 0
Start os = Same (grouped cell_goes_on os) (first_cell (entries os)) (other_cells (entries os))

record Results (os : List Inner) : Type 0 where
  opened : (g : List Inner) → list_any is_comma g ≡ false → Open os g
  closed : (g : List Inner) (t : Placed) → list_any is_comma g ≡ false → Closed os g t
  start : Start os

pub free_more : (g : List Inner) (own : Inner) → list_any is_comma g ≡ false → is_comma own ≡ false → list_any is_comma (g ++ own ∷ []) ≡ false
free_more g own free other = list_any-append is_comma g (own ∷ []) ∙ ap (λ b. b || (is_comma own || false)) free ∙ ap (λ b. b || false) other

-- an open cell takes what comes next
pub open_takes : (g : List Inner) (own : Inner) (os : List Inner) → list_any is_comma g ≡ false → grouped_from cell_goes_on g (own ∷ os) ≡ grouped_from cell_goes_on (g ++ own ∷ []) os
open_takes g own os free = takes (cell_goes_on g own) (ap (λ b. not b || is_beside (last_or None g) own) free)
  where
    takes : (b : Bool) → b ≡ true → elim b [ true ↦ grouped_from cell_goes_on (g ++ own ∷ []) os | false ↦ g ∷ grouped_from cell_goes_on (own ∷ []) os ] ≡ grouped_from cell_goes_on (g ++ own ∷ []) os
    takes b e = rw e refl

open_more : (g : List Inner) (own : Inner) (os : List Inner) → list_any is_comma g ≡ false → first_cell (entries_of (after no_token g) (own ∷ os)) ≡ entries_of (after no_token g) (own ∷ []) ++ first_cell (entries_of (after (after no_token g) (own ∷ [])) os)
    → other_cells (entries_of (after no_token g) (own ∷ os)) ≡ other_cells (entries_of (after (after no_token g) (own ∷ [])) os) → Open os (g ++ own ∷ []) → Open (own ∷ os) g
open_more g own os free first others more =
    let state : after no_token (g ++ own ∷ []) ≡ after (after no_token g) (own ∷ []) = after_more no_token g (own ∷ []) in
    let front : entries (g ++ own ∷ []) ++ first_cell (entries_of (after no_token (g ++ own ∷ [])) os) ≡ entries g ++ first_cell (entries_of (after no_token g) (own ∷ os)) =
    (λ i. entries_more no_token g (own ∷ []) i ++ first_cell (entries_of (state i) os))
    ∙ append_assoc (entries g) (entries_of (after no_token g) (own ∷ [])) (first_cell (entries_of (after (after no_token g) (own ∷ [])) os))
    ∙ ap (λ es. entries g ++ es) (sym first) in
    let back : other_cells (entries_of (after no_token (g ++ own ∷ [])) os) ≡ other_cells (entries_of (after no_token g) (own ∷ os)) = ap (λ s. other_cells (entries_of s os)) state ∙ sym others in
    subst (λ cs. Same cs (entries g ++ first_cell (entries_of (after no_token g) (own ∷ os))) (other_cells (entries_of (after no_token g) (own ∷ os)))) (sym (open_takes g own os free))
    (subst (λ fs. Same (grouped_from cell_goes_on (g ++ own ∷ []) os) fs (other_cells (entries_of (after no_token g) (own ∷ os)))) front
    (subst (λ os'. Same (grouped_from cell_goes_on (g ++ own ∷ []) os) (entries (g ++ own ∷ []) ++ first_cell (entries_of (after no_token (g ++ own ∷ [])) os)) os') back more))

opened_on : (own : Inner) (os : List Inner) → Results os → (g : List Inner) → list_any is_comma g ≡ false → Open (own ∷ os) g
opened_on (node line x) os r g free = open_more g (node line x) os free refl refl (r.opened (g ++ node line x ∷ []) (free_more g (node line x) free refl))
opened_on (comment line text) os r g free = open_more g (comment line text) os free refl refl (r.opened (g ++ comment line text ∷ []) (free_more g (comment line text) free refl))
opened_on (comma t) os r g free =
    subst (λ cs. Same cs (entries g ++ []) (first_cell (entries_of (end_of_comma t.line) os) ∷ other_cells (entries_of (end_of_comma t.line) os))) (sym (open_takes g (comma t) os free))
    (subst (λ es. Same (grouped_from cell_goes_on (g ++ comma t ∷ []) os) es (first_cell (entries_of (end_of_comma t.line) os) ∷ other_cells (entries_of (end_of_comma t.line) os))) (sym (append-nil (entries g))) (r.closed g t free))

start_on : (own : Inner) (os : List Inner) → Results os → Start (own ∷ os)
start_on (node line x) os r = r.opened (node line x ∷ []) refl
start_on (comment line text) os r = r.opened (comment line text ∷ []) refl
start_on (comma t) os r = r.closed [] t refl

-- a comma ends its cell, but for a comment beside it
last_is : (o : Option Inner) (g : List Inner) (x : Inner) → last_or o (g ++ x ∷ []) ≡ Some x
last_is o [] x = refl
last_is o (y ∷ g) x = last_is (Some y) g x

comma_ends : (g : List Inner) (t : Placed) (own : Inner) (os : List Inner) → is_beside (Some (comma t)) own ≡ false → grouped_from cell_goes_on (g ++ comma t ∷ []) (own ∷ os) ≡ (g ++ comma t ∷ []) ∷ grouped cell_goes_on (own ∷ os)
comma_ends g t own os other = ends (cell_goes_on (g ++ comma t ∷ []) own) (rw (any_comma g t [], last_is None g (comma t)) other)
  where
    ends : (b : Bool) → b ≡ false → elim b [ true ↦ grouped_from cell_goes_on ((g ++ comma t ∷ []) ++ own ∷ []) os | false ↦ (g ++ comma t ∷ []) ∷ grouped_from cell_goes_on (own ∷ []) os ] ≡ (g ++ comma t ∷ []) ∷ grouped cell_goes_on (own ∷ os)
    ends b e = rw e refl

comma_takes : (g : List Inner) (t : Placed) (own : Inner) (os : List Inner) → is_beside (Some (comma t)) own ≡ true → grouped_from cell_goes_on (g ++ comma t ∷ []) (own ∷ os) ≡ grouped_from cell_goes_on ((g ++ comma t ∷ []) ++ own ∷ []) os
comma_takes g t own os on = takes (cell_goes_on (g ++ comma t ∷ []) own) (rw (any_comma g t [], last_is None g (comma t)) on)
  where
    takes : (b : Bool) → b ≡ true → elim b [ true ↦ grouped_from cell_goes_on ((g ++ comma t ∷ []) ++ own ∷ []) os | false ↦ (g ++ comma t ∷ []) ∷ grouped_from cell_goes_on (own ∷ []) os ] ≡ grouped_from cell_goes_on ((g ++ comma t ∷ []) ++ own ∷ []) os
    takes b e = rw e refl

-- and so does the comment
comment_ends : (c : List Inner) (line : ℕ) (text : List ℕ) (os : List Inner) → list_any is_comma (c ++ comment line text ∷ []) ≡ true → grouped_from cell_goes_on (c ++ comment line text ∷ []) os ≡ (c ++ comment line text ∷ []) ∷ grouped cell_goes_on os
comment_ends c line text [] has = refl
comment_ends c line text (own ∷ os) has = ends (cell_goes_on (c ++ comment line text ∷ []) own) (rw (has, last_is None c (comment line text)) refl)
  where
    ends : (b : Bool) → b ≡ false → elim b [ true ↦ grouped_from cell_goes_on ((c ++ comment line text ∷ []) ++ own ∷ []) os | false ↦ (c ++ comment line text ∷ []) ∷ grouped_from cell_goes_on (own ∷ []) os ] ≡ (c ++ comment line text ∷ []) ∷ grouped cell_goes_on (own ∷ os)
    ends b e = rw e refl

-- at the start of a cell no comment is beside what stands before
start_line : (os : List Inner) → same_line (first_cell (entries os)) ≡ []
start_line [] = refl
start_line (node line x ∷ os) = refl
start_line (comma t ∷ os) = refl
start_line (comment line text ∷ os) = refl

start_later : (os : List Inner) → later_lines (first_cell (entries os)) ≡ first_cell (entries os)
start_later [] = refl
start_later (node line x ∷ os) = refl
start_later (comma t ∷ os) = refl
start_later (comment line text ∷ os) = refl

off_comma : (t : Placed) (own : Inner) (os : List Inner) → is_beside (Some (comma t)) own ≡ false → entries_of (end_of_comma t.line) (own ∷ os) ≡ entries (own ∷ os)
off_comma t (node line x) os other = refl
off_comma t (comma u) os other = refl
off_comma t (comment line text) os other = ap (λ b. a_comment b text ∷ entries_of no_token os) other

closed_off : (own : Inner) (os : List Inner) → Start (own ∷ os) → (g : List Inner) (t : Placed) → list_any is_comma g ≡ false → is_beside (Some (comma t)) own ≡ false → Closed (own ∷ os) g t
closed_off own os start g t free other =
    subst (λ cs. Same cs (entries g) (first_cell (entries_of (end_of_comma t.line) (own ∷ os)) ∷ other_cells (entries_of (end_of_comma t.line) (own ∷ os)))) (sym (comma_ends g t own os other))
    (subst (λ fs. Same ((g ++ comma t ∷ []) ∷ grouped cell_goes_on (own ∷ os)) (entries g) (first_cell fs ∷ other_cells fs)) (sym (off_comma t own os other))
    (closed_cell g t [] (grouped cell_goes_on (own ∷ os)) (first_cell (entries (own ∷ os))) (other_cells (entries (own ∷ os))) free refl (sym (start_line (own ∷ os))) refl
    (subst (λ fs. Same (grouped cell_goes_on (own ∷ os)) fs (other_cells (entries (own ∷ os)))) (sym (start_later (own ∷ os))) start)))

closed_on : (line : ℕ) (text : List ℕ) (os : List Inner) → Start os → (g : List Inner) (t : Placed) → list_any is_comma g ≡ false → (t.line == line) ≡ true → Closed (comment line text ∷ os) g t
closed_on line text os start g t free on =
    let joined : (g ++ comma t ∷ []) ++ comment line text ∷ [] ≡ g ++ comma t ∷ comment line text ∷ [] = append_assoc g (comma t ∷ []) (comment line text ∷ []) in
    let groups : grouped_from cell_goes_on (g ++ comma t ∷ []) (comment line text ∷ os) ≡ (g ++ comma t ∷ comment line text ∷ []) ∷ grouped cell_goes_on os =
    comma_takes g t (comment line text) os on
    ∙ comment_ends (g ++ comma t ∷ []) line text os (ap (list_any is_comma) joined ∙ any_comma g t (comment line text ∷ []))
    ∙ ap (λ c. c ∷ grouped cell_goes_on os) joined in
    subst (λ cs. Same cs (entries g) (first_cell (entries_of (end_of_comma t.line) (comment line text ∷ os)) ∷ other_cells (entries_of (end_of_comma t.line) (comment line text ∷ os)))) (sym groups)
    (subst (λ b. Same ((g ++ comma t ∷ comment line text ∷ []) ∷ grouped cell_goes_on os) (entries g) ((a_comment b text ∷ first_cell (entries os)) ∷ other_cells (entries os))) (sym on)
    (closed_cell g t (comment line text ∷ []) (grouped cell_goes_on os) (a_comment true text ∷ first_cell (entries os)) (other_cells (entries os)) free refl
    (ap (λ b. cond b (text ∷ []) [] ++ []) on) (ap (λ b. cond b [] (text ∷ []) ++ []) on) start))

closed_at : (own : Inner) (os : List Inner) → Results os → (g : List Inner) (t : Placed) → list_any is_comma g ≡ false → Closed (own ∷ os) g t
closed_at (node line x) os r g t free = closed_off (node line x) os (start_on (node line x) os r) g t free refl
closed_at (comma u) os r g t free = closed_off (comma u) os (start_on (comma u) os r) g t free refl
closed_at (comment line text) os r g t free = elim (cases_Bool (t.line == line)) [
  | inl on ↦ closed_on line text os r.start g t free on
  | inr other ↦ closed_off (comment line text) os (start_on (comment line text) os r) g t free other
]

nothing : Same [] [] []
nothing = record { segs = refl; ends = refl }

results : (os : List Inner) → Results os
results [] = record {
  opened = λ g free. subst (λ es. Same (g ∷ []) es []) (sym (append-nil (entries g))) (open_cell g free);
  closed = λ g t free. closed_cell g t [] [] [] [] free refl refl refl nothing;
  start = nothing;
}
results (own ∷ os) = let r = results os in record { opened = opened_on own os r; closed = closed_at own os r; start = start_on own os r }

-- a comma after the last node
comma_cells : (last : Last) (os : List Inner) → list_any is_node os ≡ false → has_node (first_cell (entries_of last os)) ≡ false
comma_cells last [] h = refl
comma_cells last (node line x ∷ os) h = absurd (false≢true (sym h))
comma_cells last (comma t ∷ os) h = refl
comma_cells last (comment line text ∷ os) h = comma_cells no_token os h

trailing_true : (last : Last) (os : List Inner) (cell : List Entry) → list_any is_node os ≡ false → has_node cell ≡ false → has_trailing_comma (cell ∷ other_cells (entries_of last os)) ≡ true
trailing_true last [] cell h bare = ap not bare
trailing_true last (node line x ∷ os) cell h bare = absurd (false≢true (sym h))
trailing_true last (comment line text ∷ os) cell h bare = trailing_true no_token os cell h bare
trailing_true last (comma t ∷ os) cell h bare = trailing_true (end_of_comma t.line) os (first_cell (entries_of (end_of_comma t.line) os)) h (comma_cells (end_of_comma t.line) os h)

trailing_none : (last : Last) (os : List Inner) → list_any is_node os ≡ false → list_any is_comma os ≡ has_trailing_comma (other_cells (entries_of last os))
trailing_none last [] h = refl
trailing_none last (node line x ∷ os) h = absurd (false≢true (sym h))
trailing_none last (comment line text ∷ os) h = trailing_none no_token os h
trailing_none last (comma t ∷ os) h = sym (trailing_true (end_of_comma t.line) os (first_cell (entries_of (end_of_comma t.line) os)) h (comma_cells (end_of_comma t.line) os h))

cons_is_some : (cell : List Entry) (cells : List (List Entry)) → cell ∷ cells ≡ [] → ⊥
cons_is_some cell cells e = cc

trailing_at : (last : Last) (front : List Inner) (line : ℕ) (x : Item) (rest : List Inner) → list_any is_node rest ≡ false → has_trailing_comma (other_cells (entries_of last (front ++ node line x ∷ rest))) ≡ list_any is_comma rest
trailing_at last [] line x rest none = sym (trailing_none (end_of_node line) rest none)
trailing_at last (node l y ∷ front) line x rest none = trailing_at (end_of_node l) front line x rest none
trailing_at last (comment l text ∷ front) line x rest none = trailing_at no_token front line x rest none
trailing_at last (comma t ∷ front) line x rest none = at_cells (first_cell (entries_of (end_of_comma t.line) (front ++ node line x ∷ rest))) (other_cells (entries_of (end_of_comma t.line) (front ++ node line x ∷ rest))) refl refl (trailing_at (end_of_comma t.line) front line x rest none)
  where
    alone_has : (last : Last) (front : List Inner) → other_cells (entries_of last (front ++ node line x ∷ rest)) ≡ [] → has_node (first_cell (entries_of last (front ++ node line x ∷ rest))) ≡ true
    alone_has last [] e = refl
    alone_has last (node l y ∷ front) e = refl
    alone_has last (comment l text ∷ front) e = alone_has no_token front e
    alone_has last (comma u ∷ front) e = absurd (cons_is_some (first_cell (entries_of (end_of_comma u.line) (front ++ node line x ∷ rest))) (other_cells (entries_of (end_of_comma u.line) (front ++ node line x ∷ rest))) e)

    at_cells : (cell : List Entry) (cells : List (List Entry)) → first_cell (entries_of (end_of_comma t.line) (front ++ node line x ∷ rest)) ≡ cell → other_cells (entries_of (end_of_comma t.line) (front ++ node line x ∷ rest)) ≡ cells
        → has_trailing_comma (other_cells (entries_of (end_of_comma t.line) (front ++ node line x ∷ rest))) ≡ list_any is_comma rest → has_trailing_comma (cell ∷ cells) ≡ list_any is_comma rest
    at_cells cell [] f o more = ap not (ap has_node (sym f) ∙ alone_has (end_of_comma t.line) front o) ∙ ap has_trailing_comma (sym o) ∙ more
    at_cells cell (next ∷ cells) f o more = ap has_trailing_comma (sym o) ∙ more

trailing_is : (os : List Inner) → list_any is_comma (after_last is_node os) ≡ has_trailing_comma (other_cells (entries os))
trailing_is os = elim (split_last os) [
  | inl none ↦ ap (list_any is_comma) (after_last_none is_node os none) ∙ trailing_none no_token os none
  | inr a ↦ subst (λ os. list_any is_comma (after_last is_node os) ≡ has_trailing_comma (other_cells (entries os))) a.is
      (ap (list_any is_comma) (after_last_at is_node a.front (node a.line a.x) a.rest refl a.none) ∙ sym (trailing_at no_token a.front a.line a.x a.rest a.none))
]

-- both insides are the same
pub inside_is : (owns : List Inner) → owners.inside owns ≡ inside owns
inside_is owns =
    let r = (results owns).start in
    λ i. record { segs = r.segs i; trailing = trailing_is owns i; end = r.ends i }

-- and so is whether a segment is empty
abbrev whole : List Inner → Bool
whole cell = list_any is_node cell || not (list_any is_comma cell)

record Wholes (os : List Inner) : Type 0 where
  opened : (g : List Inner) → list_any is_comma g ≡ false → list_all whole (grouped_from cell_goes_on g os) ≡ no_empty_cell (list_any is_node g) os
  closed : (g : List Inner) (t : Placed) → list_any is_comma g ≡ false → list_all whole (grouped_from cell_goes_on (g ++ comma t ∷ []) os) ≡ (list_any is_node g && no_empty_cell false os)
  start : list_all whole (grouped cell_goes_on os) ≡ no_empty_cell false os

whole_comma : (g : List Inner) (t : Placed) (d : List Inner) → list_any is_node d ≡ false → whole (g ++ comma t ∷ d) ≡ list_any is_node g
whole_comma g t d bare =
    (λ i. (list_any-append is_node g (comma t ∷ d) ∙ ap (λ b. list_any is_node g || b) bare) i || not (any_comma g t d i)) ∙ same (list_any is_node g)
  where
    same : (b : Bool) → ((b || false) || false) ≡ b
    same true = refl
    same false = refl

node_more : (g : List Inner) (own : Inner) → list_any is_node (g ++ own ∷ []) ≡ (is_node own || list_any is_node g)
node_more g own = list_any-append is_node g (own ∷ []) ∙ turned (list_any is_node g) (is_node own)
  where
    turned : (a b : Bool) → (a || (b || false)) ≡ (b || a)
    turned true true = refl
    turned true false = refl
    turned false true = refl
    turned false false = refl

whole_start : (own : Inner) (os : List Inner) → Wholes os → list_all whole (grouped cell_goes_on (own ∷ os)) ≡ no_empty_cell false (own ∷ os)
whole_start (node line x) os w = w.opened (node line x ∷ []) refl
whole_start (comment line text) os w = w.opened (comment line text ∷ []) refl
whole_start (comma t) os w = w.closed [] t refl

wholes : (os : List Inner) → Wholes os
wholes [] = record {
  opened = λ g free. rw free (last_whole (list_any is_node g));
  closed = λ g t free. ap (λ b. b && true) (whole_comma g t [] refl);
  start = refl;
}
  where
    last_whole : (b : Bool) → ((b || true) && true) ≡ true
    last_whole true = refl
    last_whole false = refl
wholes (own ∷ os) = let w = wholes os in record { opened = λ g free. opens own g free w; closed = λ g t free. closes own g t free w; start = whole_start own os w }
  where
    opens : (own : Inner) (g : List Inner) → list_any is_comma g ≡ false → Wholes os → list_all whole (grouped_from cell_goes_on g (own ∷ os)) ≡ no_empty_cell (list_any is_node g) (own ∷ os)
    opens (node line x) g free w = ap (list_all whole) (open_takes g (node line x) os free) ∙ w.opened (g ++ node line x ∷ []) (free_more g (node line x) free refl) ∙ ap (λ b. no_empty_cell b os) (node_more g (node line x))
    opens (comment line text) g free w = ap (list_all whole) (open_takes g (comment line text) os free) ∙ w.opened (g ++ comment line text ∷ []) (free_more g (comment line text) free refl) ∙ ap (λ b. no_empty_cell b os) (node_more g (comment line text))
    opens (comma t) g free w = ap (list_all whole) (open_takes g (comma t) os free) ∙ w.closed g t free

    closes_off : (own : Inner) (g : List Inner) (t : Placed) → is_beside (Some (comma t)) own ≡ false → Wholes os → list_all whole (grouped_from cell_goes_on (g ++ comma t ∷ []) (own ∷ os)) ≡ (list_any is_node g && no_empty_cell false (own ∷ os))
    closes_off own g t other w = ap (list_all whole) (comma_ends g t own os other) ∙ (λ i. whole_comma g t [] refl i && whole_start own os w i)

    closes : (own : Inner) (g : List Inner) (t : Placed) → list_any is_comma g ≡ false → Wholes os → list_all whole (grouped_from cell_goes_on (g ++ comma t ∷ []) (own ∷ os)) ≡ (list_any is_node g && no_empty_cell false (own ∷ os))
    closes (node line x) g t free w = closes_off (node line x) g t refl w
    closes (comma u) g t free w = closes_off (comma u) g t refl w
    closes (comment line text) g t free w = elim (cases_Bool (t.line == line)) [
      | inr other ↦ closes_off (comment line text) g t other w
      | inl on ↦
          let joined : (g ++ comma t ∷ []) ++ comment line text ∷ [] ≡ g ++ comma t ∷ comment line text ∷ [] = append_assoc g (comma t ∷ []) (comment line text ∷ []) in
          ap (list_all whole) (comma_takes g t (comment line text) os on ∙ comment_ends (g ++ comma t ∷ []) line text os (ap (list_any is_comma) joined ∙ any_comma g t (comment line text ∷ [])))
          ∙ (λ i. (ap whole joined ∙ whole_comma g t (comment line text ∷ []) refl) i && w.start i)
    ]

pub no_empty_is : (owns : List Inner) → owners.no_empty_cell owns ≡ no_empty_cell false owns
no_empty_is owns = (wholes owns).start
