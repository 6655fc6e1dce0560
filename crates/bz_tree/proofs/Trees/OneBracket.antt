-- The walk over one bracket finds its inside.
use Rattle.std.proofs.Common.{arith, ◌≡◌, ℕ, ◌==◌, List, [], ◌∷◌, ◌++◌, Bool, true, false, not, cond, ◌&&◌, Option, Some, None, refl, sym, ap, ◌∙◌, append_assoc, append-nil, drop}
use Rattle.std.proofs.lemmas.Bool.{false≢true}
use Rattle.std.proofs.Math.Bool.{and-false}
use Rattle.bz_token.specs.Places.{Placed}
use Rattle.bz_tree.specs.Tree.{Item, Segment}
use Rattle.bz_tree.specs.Owners.{Inner, node, comma, comment, Inside}
use Rattle.bz_tree.specs.Cells.{Last, no_token, end_of_node, end_of_comma, no_empty_cell, inside, Entry, a_node, a_comma, a_comment, first_cell, other_cells, same_line, later_lines, nodes_in, has_node, comments_in, above_last, beside_last, below_last, segments_from, end_from, has_trailing_comma, entries_of}
use Rattle.bz_tree.specs.Brackets.{with_comma_nodes}
use Rattle.bz_tree.specs.Comments.{beside as texts_of}
use Rattle.bz_tree.specs.Statement.{as_rule_call}
use Rattle.bz_tree.specs.Elements.{rule_call}
use Rattle.bz_tree.specs.private.Steps.{Walked, at_start, after_node, add_beside, to_last, commented, done}
use Rattle.bz_tree.proofs.Trees.ByOwns.{walk}
use Rattle.bz_token.specs.Common.{first_of, is_filled}

-- the entries of a cell, and more of them
nodes_more : (es fs : List Entry) → nodes_in (es ++ fs) ≡ nodes_in es ++ nodes_in fs
nodes_more [] fs = refl
nodes_more (a_node x ∷ es) fs = ap (λ xs. x ∷ xs) (nodes_more es fs)
nodes_more (_ ∷ es) fs = nodes_more es fs

comments_more : (es fs : List Entry) → comments_in (es ++ fs) ≡ comments_in es ++ comments_in fs
comments_more [] fs = refl
comments_more (a_comment on text ∷ es) fs = ap (λ ts. text ∷ ts) (comments_more es fs)
comments_more (_ ∷ es) fs = comments_more es fs

-- after one more node all comments stand above it
has_more : (es : List Entry) (x : Item) → has_node (es ++ a_node x ∷ []) ≡ true
has_more [] x = refl
has_more (a_node y ∷ es) x = refl
has_more (_ ∷ es) x = has_more es x

above_all : (es : List Entry) (x : Item) → above_last (es ++ a_node x ∷ []) ≡ comments_in es
above_all [] x = refl
above_all (a_comment on text ∷ es) x = rw (has_more es x) (ap (λ ts. text ∷ ts) (above_all es x))
above_all (_ ∷ es) x = above_all es x

beside_gone : (es : List Entry) (x : Item) → beside_last (es ++ a_node x ∷ []) ≡ []
beside_gone [] x = refl
beside_gone (a_node y ∷ es) x = rw (has_more es x) (beside_gone es x)
beside_gone (_ ∷ es) x = beside_gone es x

below_gone : (es : List Entry) (x : Item) → below_last (es ++ a_node x ∷ []) ≡ []
below_gone [] x = refl
below_gone (a_comma ∷ es) x = below_gone es x
below_gone (_ ∷ es) x = rw (has_more es x) (below_gone es x)

-- where no node follows
above_none : (es : List Entry) → has_node es ≡ false → above_last es ≡ []
above_none [] h = refl
above_none (a_node x ∷ es) h = absurd (false≢true (sym h))
above_none (a_comma ∷ es) h = above_none es h
above_none (a_comment on text ∷ es) h = rw h refl

beside_none : (es : List Entry) → has_node es ≡ false → beside_last es ≡ []
beside_none [] h = refl
beside_none (a_node x ∷ es) h = absurd (false≢true (sym h))
beside_none (_ ∷ es) h = beside_none es h

line_parted : (es : List Entry) → comments_in es ≡ same_line es ++ comments_in (later_lines es)
line_parted va = grind arith

parted : (es : List Entry) → comments_in es ≡ above_last es ++ (beside_last es ++ below_last es)
parted [] = refl
parted (a_comma ∷ es) = parted es
parted (a_node x ∷ es) = at_node (has_node es) refl (parted es)
  where
    at_node : (b : Bool) → has_node es ≡ b → comments_in es ≡ above_last es ++ (beside_last es ++ below_last es)
        → comments_in es ≡ above_last es ++ (cond (has_node es) (beside_last es) (same_line es) ++ cond (has_node es) (below_last es) (comments_in (later_lines es)))
    at_node true e more = rw e more
    at_node false e more = rw (e, above_none es e) (line_parted es)
parted (a_comment on text ∷ es) = at_node (has_node es) refl (parted es)
  where
    at_node : (b : Bool) → has_node es ≡ b → comments_in es ≡ above_last es ++ (beside_last es ++ below_last es)
        → text ∷ comments_in es ≡ cond (has_node es) (text ∷ above_last es) [] ++ (beside_last es ++ cond (has_node es) (below_last es) (text ∷ comments_in es))
    at_node true e more = rw e (ap (λ ts. text ∷ ts) more)
    at_node false e more = rw (e, beside_none es e) refl

-- one text at most
abbrev IsShort : List (List ℕ) → Type 0
IsShort [] = Unit {0}
IsShort (t ∷ ts) = ts ≡ []

short_line : (es : List Entry) → IsShort (same_line es)
short_line [] = tt
short_line (a_comment true text ∷ es) = refl
short_line (a_comment false text ∷ es) = tt
short_line (_ ∷ es) = tt

short_beside : (es : List Entry) → IsShort (beside_last es)
short_beside [] = tt
short_beside (a_node x ∷ es) = at_node (has_node es) (short_beside es)
  where
    at_node : (b : Bool) → IsShort (beside_last es) → IsShort (cond b (beside_last es) (same_line es))
    at_node true more = more
    at_node false more = short_line es
short_beside (_ ∷ es) = short_beside es

short_texts : (ts : List (List ℕ)) → IsShort ts → ts ≡ texts_of (first_of ts)
short_texts [] short = refl
short_texts (t ∷ ts) short = ap (λ us. t ∷ us) short

-- after one more comment
nodes_same : (es : List Entry) (on : Bool) (text : List ℕ) → nodes_in es ≡ nodes_in (es ++ a_comment on text ∷ [])
nodes_same es on text = sym (nodes_more es (a_comment on text ∷ []) ∙ append-nil (nodes_in es))

has_same : (es : List Entry) (on : Bool) (text : List ℕ) → has_node (es ++ a_comment on text ∷ []) ≡ has_node es
has_same es on text = ap (λ xs. is_filled xs) (sym (nodes_same es on text))

above_same : (es : List Entry) (on : Bool) (text : List ℕ) → above_last (es ++ a_comment on text ∷ []) ≡ above_last es
above_same [] on text = refl
above_same (a_comment beside other ∷ es) on text = rw (has_same es on text, above_same es on text) refl
above_same (_ ∷ es) on text = above_same es on text

line_same : (es : List Entry) (text : List ℕ) → same_line (es ++ a_comment false text ∷ []) ≡ same_line es
line_same va vb = grind arith

later_more : (es : List Entry) (text : List ℕ) → later_lines (es ++ a_comment false text ∷ []) ≡ later_lines es ++ a_comment false text ∷ []
later_more va vb = grind arith

beside_same : (es : List Entry) (text : List ℕ) → beside_last (es ++ a_comment false text ∷ []) ≡ beside_last es
beside_same [] text = refl
beside_same (a_node x ∷ es) text = rw (has_same es false text, beside_same es text, line_same es text) refl
beside_same (_ ∷ es) text = beside_same es text

push_either : (b : Bool) (ts us : List (List ℕ)) (text : List ℕ) → cond b (ts ++ text ∷ []) (us ++ text ∷ []) ≡ cond b ts us ++ text ∷ []
push_either va vb vc vd = grind arith

below_more : (es : List Entry) (text : List ℕ) → below_last (es ++ a_comment false text ∷ []) ≡ below_last es ++ text ∷ []
below_more [] text = refl
below_more (a_comma ∷ es) text = below_more es text
below_more (a_node x ∷ es) text =
    rw (has_same es false text, below_more es text, later_more es text, comments_more (later_lines es) (a_comment false text ∷ [])) (push_either (has_node es) (below_last es) (comments_in (later_lines es)) text)
below_more (a_comment on other ∷ es) text =
    rw (has_same es false text, below_more es text, comments_more es (a_comment false text ∷ [])) (push_either (has_node es) (below_last es) (other ∷ comments_in es) text)

-- on the line of the last node
beside_on : (es : List Entry) (x : Item) (text : List ℕ) → beside_last ((es ++ a_node x ∷ []) ++ a_comment true text ∷ []) ≡ text ∷ []
beside_on [] x text = refl
beside_on (a_node y ∷ es) x text = rw (has_same (es ++ a_node x ∷ []) true text, has_more es x) (beside_on es x text)
beside_on (_ ∷ es) x text = beside_on es x text

below_on : (es : List Entry) (x : Item) (text : List ℕ) → below_last ((es ++ a_node x ∷ []) ++ a_comment true text ∷ []) ≡ []
below_on [] x text = refl
below_on (a_comma ∷ es) x text = below_on es x text
below_on (_ ∷ es) x text = rw (has_same (es ++ a_node x ∷ []) true text, has_more es x) (below_on es x text)

-- whether a comma stands after the last node
abbrev pub trails : Bool → List Entry → List (List Entry) → Bool
trails b cell [] = b && not (has_node cell)
trails b cell (next ∷ cells) = has_trailing_comma (next ∷ cells)

pub trails_comma : (cell : List Entry) (cells : List (List Entry)) → trails true cell cells ≡ has_trailing_comma (cell ∷ cells)
trails_comma va vb = grind arith

pub trails_comment : (b on : Bool) (text : List ℕ) (cell : List Entry) (cells : List (List Entry)) → trails b cell cells ≡ trails b (a_comment on text ∷ cell) cells
trails_comment va vb vc vd ve = grind arith

pub trailed_is : (cell : List Entry) (cells : List (List Entry)) → trails false cell cells ≡ has_trailing_comma cells
trailed_is va vb = grind arith

trails_off : (cell : List Entry) (cells : List (List Entry)) → trails true (later_lines cell) cells ≡ has_trailing_comma (cell ∷ cells)
trails_off va vb = grind arith

-- what was walked over: these segments, and this cell so far; whether a comma stands before it
abbrev state : List Segment → Bool → List Entry → Last → Walked
state segs b cell last = record { segs = segs; before = above_last cell; nodes = nodes_in cell; suffix = first_of (beside_last cell); after = below_last cell; last = last; trailing = b && not (has_node cell) }

-- the inside with the whole cell, and the cells after it
abbrev found : List Segment → Bool → List Entry → List (List Entry) → Inside
found segs b cell cells = record { segs = segs ++ segments_from cell cells; trailing = trails b cell cells; end = end_from cell cells }

abbrev whole : List Segment → Bool → List Entry → List Entry → List Inner → Option Inside
whole segs b cell es os = cond (no_empty_cell (has_node cell) os) (Some (found segs b (cell ++ first_cell es) (other_cells es))) None

-- directly after a comma: a comment on its line is that of the segment before
abbrev with_beside : List (List ℕ) → List Segment → List Segment
with_beside [] ss = ss
with_beside (t ∷ ts) ss = to_last t ss

abbrev found_after : List Segment → List Entry → List (List Entry) → Inside
found_after segs cell cells = record { segs = with_beside (same_line cell) segs ++ segments_from (later_lines cell) cells; trailing = trails true (later_lines cell) cells; end = end_from (later_lines cell) cells }

abbrev whole_after : List Segment → List Entry → List Inner → Option Inside
whole_after segs es os = cond (no_empty_cell false os) (Some (found_after segs (first_cell es) (other_cells es))) None

node_step : (line : ℕ) (x : Item) (segs : List Segment) (b : Bool) (cell : List Entry) (last : Last) → after_node line x (state segs b cell last) ≡ state segs b (cell ++ a_node x ∷ []) (end_of_node line)
node_step line x segs b cell last =
    let above : above_last (cell ++ a_node x ∷ []) ≡ above_last cell ++ (texts_of (first_of (beside_last cell)) ++ below_last cell) =
    above_all cell x ∙ (parted cell ∙ ap (λ ts. above_last cell ++ (ts ++ below_last cell)) (short_texts (beside_last cell) (short_beside cell))) in
    let trailing : (b && not (has_node (cell ++ a_node x ∷ []))) ≡ false = ap (λ h. b && not h) (has_more cell x) ∙ and-false b in
    λ i. record {
      segs = segs;
      before = sym above i;
      nodes = sym (nodes_more cell (a_node x ∷ [])) i;
      suffix = first_of (sym (beside_gone cell x) i);
      after = sym (below_gone cell x) i;
      last = end_of_node line;
      trailing = sym trailing i;
    }

node_on : (line : ℕ) (x : Item) (os : List Inner) (segs : List Segment) (b : Bool) (cell : List Entry) (last : Last)
    → walk (state segs b (cell ++ a_node x ∷ []) (end_of_node line)) os ≡ whole segs b (cell ++ a_node x ∷ []) (entries_of (end_of_node line) os) os
    → walk (state segs b cell last) (node line x ∷ os) ≡ whole segs b cell (a_node x ∷ entries_of (end_of_node line) os) (node line x ∷ os)
node_on line x os segs b cell last more =
    let es = entries_of (end_of_node line) os in
    ap (λ w. walk w os) (node_step line x segs b cell last)
    ∙ (more ∙ λ i. cond (no_empty_cell (has_more cell x i) os) (Some (found segs b (append_assoc cell (a_node x ∷ []) (first_cell es) i) (other_cells es))) None)

off_step : (text : List ℕ) (segs : List Segment) (b : Bool) (cell : List Entry) (last : Last) → commented no_token false text (state segs b cell last) ≡ state segs b (cell ++ a_comment false text ∷ []) no_token
off_step text segs b cell last = λ i. record {
  segs = segs;
  before = sym (above_same cell false text) i;
  nodes = nodes_same cell false text i;
  suffix = first_of (sym (beside_same cell text) i);
  after = sym (below_more cell text) i;
  last = no_token;
  trailing = b && not (is_filled (nodes_same cell false text i));
}

on_step : (x : Item) (text : List ℕ) (segs : List Segment) (b : Bool) (cell : List Entry) (last : Last)
    → commented (end_of_node 0) true text (state segs b (cell ++ a_node x ∷ []) last) ≡ state segs b ((cell ++ a_node x ∷ []) ++ a_comment true text ∷ []) no_token
on_step x text segs b cell last = λ i. record {
  segs = segs;
  before = sym (above_same (cell ++ a_node x ∷ []) true text) i;
  nodes = nodes_same (cell ++ a_node x ∷ []) true text i;
  suffix = first_of (sym (beside_on cell x text) i);
  after = (below_gone cell x ∙ sym (below_on cell x text)) i;
  last = no_token;
  trailing = b && not (is_filled (nodes_same (cell ++ a_node x ∷ []) true text i));
}

comment_on : (on : Bool) (line : ℕ) (text : List ℕ) (os : List Inner) (segs : List Segment) (b : Bool) (cell es : List Entry)
    → whole segs b (cell ++ a_comment on text ∷ []) es os ≡ whole segs b cell (a_comment on text ∷ es) (comment line text ∷ os)
comment_on on line text os segs b cell es =
    λ i. cond (no_empty_cell (has_same cell on text i) os) (Some (found segs b (append_assoc cell (a_comment on text ∷ []) (first_cell es) i) (other_cells es))) None

-- a segment is done
abbrev segment : List (List ℕ) → List Item → Option (List ℕ) → Segment
segment before nodes suffix = record { before = before; nodes = nodes; suffix = suffix }

abbrev beside_it : List (List ℕ) → Segment → Segment
beside_it [] s = s
beside_it (t ∷ ts) s = add_beside t s

segment_is : (before under : List (List ℕ)) (nodes : List Item) (shown on : List (List ℕ)) → IsShort shown → IsShort on
    → beside_it on (segment (before ++ under) nodes (first_of shown)) ≡ segment (before ++ (under ++ drop 1 (shown ++ on))) nodes (first_of (shown ++ on))
segment_is before under nodes [] [] short one = ap (λ ts. segment (before ++ ts) nodes None) (sym (append-nil under))
segment_is before under nodes [] (t ∷ ts) short one = rw one (ap (λ us. segment (before ++ us) nodes (Some t)) (sym (append-nil under)))
segment_is before under nodes (t ∷ ts) [] short one = rw short (ap (λ us. segment (before ++ us) nodes (Some t)) (sym (append-nil under)))
segment_is before under nodes (t ∷ ts) (u ∷ us) short one = rw (short, one) (ap (λ vs. segment vs nodes (Some t)) (append_assoc before under (u ∷ [])))

end_step : (segs : List Segment) (b : Bool) (cell : List Entry) (last : Last) → done (state segs b cell last) ≡ found segs b (cell ++ []) []
end_step segs b cell last = at_nodes (nodes_in cell) refl
  where
    at_nodes : (nodes : List Item) → nodes_in cell ≡ nodes → done (state segs b cell last) ≡ found segs b (cell ++ []) []
    at_nodes [] e = rw (append-nil cell, e) (rw (append-nil segs) refl)
    at_nodes (x ∷ xs) e =
        rw (append-nil cell, e)
        (ap (λ s. record { segs = segs ++ s ∷ []; trailing = b && false; end = below_last cell })
        (ap (λ ts. segment ts (x ∷ xs) (first_of (beside_last cell))) (sym (append-nil (above_last cell))) ∙ segment_is (above_last cell) [] (x ∷ xs) (beside_last cell) [] (short_beside cell) tt))

pub to_last-push : (t : List ℕ) (ss : List Segment) (s : Segment) → to_last t (ss ++ s ∷ []) ≡ ss ++ add_beside t s ∷ []
to_last-push t [] s = refl
to_last-push t (r ∷ []) s = refl
to_last-push t (r ∷ q ∷ ss) s = ap (λ xs. r ∷ xs) (to_last-push t (q ∷ ss) s)

beside_push : (on : List (List ℕ)) (ss : List Segment) (s : Segment) → with_beside on (ss ++ s ∷ []) ≡ ss ++ beside_it on s ∷ []
beside_push [] ss s = refl
beside_push (t ∷ ts) ss s = to_last-push t ss s

comma_step : (t : Placed) (os : List Inner) (segs : List Segment) (b : Bool) (cell : List Entry) (last : Last)
    → ((ss : List Segment) → walk (state ss true [] (end_of_comma t.line)) os ≡ whole_after ss (entries_of (end_of_comma t.line) os) os)
    → walk (state segs b cell last) (comma t ∷ os) ≡ whole segs b cell (a_comma ∷ entries_of (end_of_comma t.line) os) (comma t ∷ os)
comma_step t os segs b cell last more = at_nodes (nodes_in cell) refl
  where
    at_nodes : (nodes : List Item) → nodes_in cell ≡ nodes → walk (state segs b cell last) (comma t ∷ os) ≡ whole segs b cell (a_comma ∷ entries_of (end_of_comma t.line) os) (comma t ∷ os)
    at_nodes [] e = rw e refl
    at_nodes (x ∷ xs) e =
        let es = entries_of (end_of_comma t.line) os in
        let next = first_cell es in
        let cells = other_cells es in
        let on = same_line next in
        let s = segment (above_last cell ++ below_last cell) (x ∷ xs) (first_of (beside_last cell)) in
        let rest = segments_from (later_lines next) cells in
        let made = segment (above_last cell ++ (below_last cell ++ drop 1 (beside_last cell ++ on))) (x ∷ xs) (first_of (beside_last cell ++ on)) in
        let segs_are : with_beside on (segs ++ s ∷ []) ++ rest ≡ segs ++ made ∷ rest =
        ap (λ ss. ss ++ rest) (beside_push on segs s ∙ ap (λ r. segs ++ r ∷ []) (segment_is (above_last cell) (below_last cell) (x ∷ xs) (beside_last cell) on (short_beside cell) (short_line next))) ∙ append_assoc segs (made ∷ []) rest in
        rw (append-nil cell, e)
        (more (segs ++ s ∷ []) ∙ λ i. cond (no_empty_cell false os) (Some (record { segs = segs_are i; trailing = trails_off next cells i; end = end_from (later_lines next) cells })) None)

-- the walk from any place on: after a comment or at the start, after a node that ends on a line, after a comma on a line
mutual
  walk_on : (os : List Inner) (segs : List Segment) (b : Bool) (cell : List Entry) → walk (state segs b cell no_token) os ≡ whole segs b cell (entries_of no_token os) os
  walk_on [] segs b cell = ap Some (end_step segs b cell no_token)
  walk_on (node line x ∷ os) segs b cell = node_on line x os segs b cell no_token (walk_node os segs b cell x line)
  walk_on (comma t ∷ os) segs b cell = comma_step t os segs b cell no_token (λ ss. walk_comma os ss t.line)
  walk_on (comment line text ∷ os) segs b cell =
      ap (λ w. walk w os) (off_step text segs b cell no_token) ∙ (walk_on os segs b (cell ++ a_comment false text ∷ []) ∙ comment_on false line text os segs b cell (entries_of no_token os))

  walk_node : (os : List Inner) (segs : List Segment) (b : Bool) (cell : List Entry) (x : Item) (end : ℕ)
      → walk (state segs b (cell ++ a_node x ∷ []) (end_of_node end)) os ≡ whole segs b (cell ++ a_node x ∷ []) (entries_of (end_of_node end) os) os
  walk_node [] segs b cell x end = ap Some (end_step segs b (cell ++ a_node x ∷ []) (end_of_node end))
  walk_node (node line y ∷ os) segs b cell x end = node_on line y os segs b (cell ++ a_node x ∷ []) (end_of_node end) (walk_node os segs b (cell ++ a_node x ∷ []) y line)
  walk_node (comma t ∷ os) segs b cell x end = comma_step t os segs b (cell ++ a_node x ∷ []) (end_of_node end) (λ ss. walk_comma os ss t.line)
  walk_node (comment line text ∷ os) segs b cell x end = at_flag (end == line) (λ c. walk_on os segs b c)
    where
      all : List Entry
      all = cell ++ a_node x ∷ []

      at_flag : (on : Bool) → ((c : List Entry) → walk (state segs b c no_token) os ≡ whole segs b c (entries_of no_token os) os)
          → walk (commented (end_of_node end) on text (state segs b all (end_of_node end))) os ≡ whole segs b all (a_comment on text ∷ entries_of no_token os) (comment line text ∷ os)
      at_flag true more = ap (λ w. walk w os) (on_step x text segs b cell (end_of_node end)) ∙ (more (all ++ a_comment true text ∷ []) ∙ comment_on true line text os segs b all (entries_of no_token os))
      at_flag false more = ap (λ w. walk w os) (off_step text segs b all (end_of_node end)) ∙ (more (all ++ a_comment false text ∷ []) ∙ comment_on false line text os segs b all (entries_of no_token os))

  walk_comma : (os : List Inner) (segs : List Segment) (end : ℕ) → walk (state segs true [] (end_of_comma end)) os ≡ whole_after segs (entries_of (end_of_comma end) os) os
  walk_comma [] segs end = ap (λ ss. Some (record { segs = ss; trailing = true; end = [] })) (sym (append-nil segs))
  walk_comma (node line x ∷ os) segs end = node_on line x os segs true [] (end_of_comma end) (walk_node os segs true [] x line)
  walk_comma (comma t ∷ os) segs end = refl
  walk_comma (comment line text ∷ os) segs end = at_flag (end == line) (λ ss c. walk_on os ss true c)
    where
      at_flag : (on : Bool) → ((ss : List Segment) (c : List Entry) → walk (state ss true c no_token) os ≡ whole ss true c (entries_of no_token os) os)
          → walk (commented (end_of_comma end) on text (state segs true [] (end_of_comma end))) os ≡ whole_after segs (a_comment on text ∷ entries_of no_token os) os
      at_flag true more = more (to_last text segs) []
      at_flag false more = more segs (a_comment false text ∷ [])

pub inside_found : (os : List Inner) → walk at_start os ≡ cond (no_empty_cell false os) (Some (inside os)) None
inside_found os =
    let cell = first_cell (entries_of no_token os) in
    let cells = other_cells (entries_of no_token os) in
    walk_on os [] false [] ∙ λ i. cond (no_empty_cell false os) (Some (record { segs = segments_from cell cells; trailing = trailed_is cell cells i; end = end_from cell cells })) None

-- where no comma stands, no segment is empty
pub nodes_alone : (b : Bool) (os : List Inner) → no_empty_cell b (with_comma_nodes true os) ≡ true
nodes_alone b [] = refl
nodes_alone b (node line x ∷ os) = nodes_alone true os
nodes_alone b (comma t ∷ os) = nodes_alone true os
nodes_alone b (comment line text ∷ os) = nodes_alone b os

pub same_either : {A : Type 0} (b : Bool) (x : A) → cond b x x ≡ x
same_either true x = refl
same_either false x = refl

pub rule_call-push : (xs : List Item) (x : Item) → rule_call (xs ++ x ∷ []) ≡ xs ++ as_rule_call x ∷ []
rule_call-push [] x = refl
rule_call-push (y ∷ []) x = refl
rule_call-push (y ∷ z ∷ xs) x = ap (λ zs. y ∷ zs) (rule_call-push (z ∷ xs) x)
