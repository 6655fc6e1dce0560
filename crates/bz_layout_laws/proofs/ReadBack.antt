-- What is written is read back.
use Rattle.std.proofs.Common.{◌≡◌, ℕ, List, [], ◌∷◌, ◌++◌, map, Bool, true, false, cond, ◌&&◌, ◌||◌, Option, Some, None, refl, sym, ap, ◌∙◌, append-nil, drop}
use Rattle.std.proofs.lemmas.Bool.{false≢true}
use Rattle.bz_tree.specs.Tree.{Item, Segment}
use Rattle.bz_tree.specs.Owners.{Inner, node, comma, comment, Inside}
use Rattle.bz_tree.specs.Cells.{Last, no_token, end_of_node, end_of_comma, is_on, no_empty_cell, inside, Entry, a_node, a_comma, a_comment, first_cell, other_cells, same_line, later_lines, nodes_in, has_node, comments_in, above_last, beside_last, below_last, cell_segment, with_segment, segments_from, end_from, has_trailing_comma, inside_by_cells, entries_of}
use Rattle.bz_layout_laws.specs.Written.{own_lines, suffix_entry, written_entries, HaveNodes}
use Rattle.bz_tree.proofs.Trees.OneBracket.{trails, trails_comma, trails_comment, trailed_is}
use Rattle.bz_token.specs.Common.{first_of, is_filled}

-- each cell but the last has a node
abbrev are_filled : List Entry → List (List Entry) → Bool
are_filled cell [] = true
are_filled cell (next ∷ cells) = has_node cell && are_filled next cells

-- no segment is empty
abbrev filled : Bool → List Entry → List (List Entry) → Bool
filled b cell [] = true
filled b cell (next ∷ cells) = (b || has_node cell) && are_filled next cells

filled_node : (b : Bool) (x : Item) (cell : List Entry) (cells : List (List Entry)) → filled true cell cells ≡ filled b (a_node x ∷ cell) cells
filled_node b x cell [] = refl
filled_node true x cell (next ∷ cells) = refl
filled_node false x cell (next ∷ cells) = refl

filled_comma : (b : Bool) (cell : List Entry) (cells : List (List Entry)) → (b && filled false cell cells) ≡ filled b [] (cell ∷ cells)
filled_comma true cell [] = refl
filled_comma false cell [] = refl
filled_comma true cell (next ∷ cells) = refl
filled_comma false cell (next ∷ cells) = refl

filled_comment : (b on : Bool) (text : List ℕ) (cell : List Entry) (cells : List (List Entry)) → filled b cell cells ≡ filled b (a_comment on text ∷ cell) cells
filled_comment b on text cell [] = refl
filled_comment b on text cell (next ∷ cells) = refl

filled_is : (b : Bool) (last : Last) (os : List Inner) → no_empty_cell b os ≡ filled b (first_cell (entries_of last os)) (other_cells (entries_of last os))
filled_is b last [] = refl
filled_is b last (node line x ∷ os) = filled_is true (end_of_node line) os ∙ filled_node b x (first_cell (entries_of (end_of_node line) os)) (other_cells (entries_of (end_of_node line) os))
filled_is b last (comma t ∷ os) = ap (λ r. b && r) (filled_is false (end_of_comma t.line) os) ∙ filled_comma b (first_cell (entries_of (end_of_comma t.line) os)) (other_cells (entries_of (end_of_comma t.line) os))
filled_is b last (comment line text ∷ os) = filled_is b no_token os ∙ filled_comment b (is_on last line) text (first_cell (entries_of no_token os)) (other_cells (entries_of no_token os))

filled_start : (cell : List Entry) (cells : List (List Entry)) → filled false cell cells ≡ are_filled cell cells
filled_start cell [] = refl
filled_start cell (next ∷ cells) = refl

no_empty_is : (os : List Inner) → no_empty_cell false os ≡ are_filled (first_cell (entries_of no_token os)) (other_cells (entries_of no_token os))
no_empty_is os = filled_is false no_token os ∙ filled_start (first_cell (entries_of no_token os)) (other_cells (entries_of no_token os))

-- comments on lines of their own
alone_first : (ts : List (List ℕ)) (r : List Entry) → first_cell (own_lines ts ++ r) ≡ own_lines ts ++ first_cell r
alone_first [] r = refl
alone_first (t ∷ ts) r = ap (λ l. a_comment false t ∷ l) (alone_first ts r)

alone_others : (ts : List (List ℕ)) (r : List Entry) → other_cells (own_lines ts ++ r) ≡ other_cells r
alone_others [] r = refl
alone_others (t ∷ ts) r = alone_others ts r

alone_nodes : (ts : List (List ℕ)) (r : List Entry) → nodes_in (own_lines ts ++ r) ≡ nodes_in r
alone_nodes [] r = refl
alone_nodes (t ∷ ts) r = alone_nodes ts r

alone_has : (ts : List (List ℕ)) (r : List Entry) → has_node (own_lines ts ++ r) ≡ has_node r
alone_has ts r = ap (λ xs. is_filled xs) (alone_nodes ts r)

alone_above : (ts : List (List ℕ)) (r : List Entry) → has_node r ≡ true → above_last (own_lines ts ++ r) ≡ ts ++ above_last r
alone_above [] r h = refl
alone_above (t ∷ ts) r h = rw (alone_has ts r, h) (ap (λ l. t ∷ l) (alone_above ts r h))

alone_beside : (ts : List (List ℕ)) (r : List Entry) → beside_last (own_lines ts ++ r) ≡ beside_last r
alone_beside [] r = refl
alone_beside (t ∷ ts) r = alone_beside ts r

alone_below : (ts : List (List ℕ)) (r : List Entry) → has_node r ≡ true → below_last (own_lines ts ++ r) ≡ below_last r
alone_below [] r h = refl
alone_below (t ∷ ts) r h = rw (alone_has ts r, h) (alone_below ts r h)

-- end comments
end_first : (ts : List (List ℕ)) → first_cell (own_lines ts) ≡ own_lines ts
end_first [] = refl
end_first (t ∷ ts) = ap (λ l. a_comment false t ∷ l) (end_first ts)

end_others : (ts : List (List ℕ)) → other_cells (own_lines ts) ≡ []
end_others [] = refl
end_others (t ∷ ts) = end_others ts

end_nodes : (ts : List (List ℕ)) → nodes_in (own_lines ts) ≡ []
end_nodes [] = refl
end_nodes (t ∷ ts) = end_nodes ts

end_above : (ts : List (List ℕ)) → above_last (own_lines ts) ≡ []
end_above [] = refl
end_above (t ∷ ts) = rw (end_nodes ts) refl

end_comments : (ts : List (List ℕ)) → comments_in (own_lines ts) ≡ ts
end_comments [] = refl
end_comments (t ∷ ts) = ap (λ l. t ∷ l) (end_comments ts)

end_below : (ts : List (List ℕ)) → below_last (own_lines ts) ≡ ts
end_below [] = refl
end_below (t ∷ ts) = rw (end_nodes ts) (ap (λ l. t ∷ l) (end_comments ts))

end_on : (ts : List (List ℕ)) → same_line (own_lines ts) ≡ []
end_on [] = refl
end_on (t ∷ ts) = refl

end_off : (ts : List (List ℕ)) → later_lines (own_lines ts) ≡ own_lines ts
end_off [] = refl
end_off (t ∷ ts) = refl

-- nodes
nodes_first : (xs : List Item) (r : List Entry) → first_cell (map a_node xs ++ r) ≡ map a_node xs ++ first_cell r
nodes_first [] r = refl
nodes_first (x ∷ xs) r = ap (λ l. a_node x ∷ l) (nodes_first xs r)

nodes_others : (xs : List Item) (r : List Entry) → other_cells (map a_node xs ++ r) ≡ other_cells r
nodes_others [] r = refl
nodes_others (x ∷ xs) r = nodes_others xs r

nodes_nodes : (xs : List Item) (r : List Entry) → nodes_in (map a_node xs ++ r) ≡ xs ++ nodes_in r
nodes_nodes [] r = refl
nodes_nodes (x ∷ xs) r = ap (λ l. x ∷ l) (nodes_nodes xs r)

nodes_above : (xs : List Item) (r : List Entry) → above_last (map a_node xs ++ r) ≡ above_last r
nodes_above [] r = refl
nodes_above (x ∷ xs) r = nodes_above xs r

nodes_beside : (xs : List Item) (r : List Entry) → is_filled xs ≡ true → has_node r ≡ false → beside_last (map a_node xs ++ r) ≡ same_line r
nodes_beside [] r h none = absurd (false≢true h)
nodes_beside (x ∷ []) r h none = rw none refl
nodes_beside (x ∷ y ∷ xs) r h none = nodes_beside (y ∷ xs) r refl none

nodes_below : (xs : List Item) (r : List Entry) → is_filled xs ≡ true → has_node r ≡ false → below_last (map a_node xs ++ r) ≡ comments_in (later_lines r)
nodes_below [] r h none = absurd (false≢true h)
nodes_below (x ∷ []) r h none = rw none refl
nodes_below (x ∷ y ∷ xs) r h none = nodes_below (y ∷ xs) r refl none

nodes_has : (xs : List Item) (r : List Entry) → is_filled xs ≡ true → has_node (map a_node xs ++ r) ≡ true
nodes_has [] r h = absurd (false≢true h)
nodes_has (x ∷ xs) r h = refl

-- what stands of a segment before its comma, or before its suffix where no comma stands
abbrev content : Segment → List Entry → List Entry
content s r = own_lines s.before ++ (map a_node s.nodes ++ r)

content_first : (s : Segment) (r : List Entry) → first_cell (content s r) ≡ content s (first_cell r)
content_first s r = alone_first s.before (map a_node s.nodes ++ r) ∙ ap (λ l. own_lines s.before ++ l) (nodes_first s.nodes r)

content_others : (s : Segment) (r : List Entry) → other_cells (content s r) ≡ other_cells r
content_others s r = alone_others s.before (map a_node s.nodes ++ r) ∙ nodes_others s.nodes r

content_nodes : (s : Segment) (r : List Entry) → nodes_in r ≡ [] → nodes_in (content s r) ≡ s.nodes
content_nodes s r none = alone_nodes s.before (map a_node s.nodes ++ r) ∙ (nodes_nodes s.nodes r ∙ rw none (append-nil s.nodes))

content_has : (s : Segment) (r : List Entry) → is_filled s.nodes ≡ true → has_node (content s r) ≡ true
content_has s r h = alone_has s.before (map a_node s.nodes ++ r) ∙ nodes_has s.nodes r h

content_above : (s : Segment) (r : List Entry) → is_filled s.nodes ≡ true → above_last r ≡ [] → above_last (content s r) ≡ s.before
content_above s r h none = alone_above s.before (map a_node s.nodes ++ r) (nodes_has s.nodes r h) ∙ rw (nodes_above s.nodes r, none) (append-nil s.before)

content_beside : (s : Segment) (r : List Entry) → is_filled s.nodes ≡ true → has_node r ≡ false → beside_last (content s r) ≡ same_line r
content_beside s r h none = alone_beside s.before (map a_node s.nodes ++ r) ∙ nodes_beside s.nodes r h none

content_below : (s : Segment) (r : List Entry) → is_filled s.nodes ≡ true → has_node r ≡ false → below_last (content s r) ≡ comments_in (later_lines r)
content_below s r h none = alone_below s.before (map a_node s.nodes ++ r) (nodes_has s.nodes r h) ∙ nodes_below s.nodes r h none

-- suffixes
abbrev texts_of : Option (List ℕ) → List (List ℕ)
texts_of None = []
texts_of (Some text) = text ∷ []

whole : (before : List (List ℕ)) (nodes : List Item) (suffix : Option (List ℕ)) → (s : Segment) → s ≡ record { before = before ++ drop 1 (texts_of suffix); nodes = nodes; suffix = first_of (texts_of suffix) } → s ≡ record { before = before; nodes = nodes; suffix = suffix }
whole before nodes None s e = e ∙ rw (append-nil before) refl
whole before nodes (Some text) s e = e ∙ rw (append-nil before) refl

directly_first : (suffix : Option (List ℕ)) (r : List Entry) → first_cell (suffix_entry suffix ++ r) ≡ suffix_entry suffix ++ first_cell r
directly_first None r = refl
directly_first (Some text) r = refl

directly_others : (suffix : Option (List ℕ)) (r : List Entry) → other_cells (suffix_entry suffix ++ r) ≡ other_cells r
directly_others None r = refl
directly_others (Some text) r = refl

-- no comment of a comma begins a cell
abbrev Plain : List Entry → Type 0
Plain cell = (same_line cell ≡ []) × (later_lines cell ≡ cell)

directly_comma : (suffix : Option (List ℕ)) (cell : List Entry) → Plain cell → same_line (suffix_entry suffix ++ cell) ≡ texts_of suffix
directly_comma None cell p = p.0
directly_comma (Some text) cell p = refl

directly_own : (suffix : Option (List ℕ)) (cell : List Entry) → Plain cell → later_lines (suffix_entry suffix ++ cell) ≡ cell
directly_own None cell p = p.1
directly_own (Some text) cell p = refl

end_plain : (ts : List (List ℕ)) → Plain (first_cell (own_lines ts))
end_plain [] = (refl, refl)
end_plain (t ∷ ts) = (refl, refl)

content_plain : (before : List (List ℕ)) (xs : List Item) (r : List Entry) → is_filled xs ≡ true → Plain (first_cell (own_lines before ++ (map a_node xs ++ r)))
content_plain [] [] r h = absurd (false≢true h)
content_plain [] (x ∷ xs) r h = (refl, refl)
content_plain (t ∷ ts) xs r h = (refl, refl)

written_plain : (trailing : Bool) (ss : List Segment) (end : List (List ℕ)) → HaveNodes ss → Plain (first_cell (written_entries trailing ss end))
written_plain trailing [] end h = end_plain end
written_plain trailing (s ∷ ss) end h = content_plain s.before s.nodes ((cond (trailing || is_filled ss) (a_comma ∷ []) []) ++ (suffix_entry s.suffix ++ written_entries trailing ss end)) h.0

-- a segment with its comma, and what is after it
abbrev with_comma : Segment → List Entry → List Entry
with_comma s r = content s (a_comma ∷ (suffix_entry s.suffix ++ r))

abbrev segments_in : List Entry → List Segment
segments_in es = segments_from (first_cell es) (other_cells es)

abbrev end_in : List Entry → List (List ℕ)
end_in es = end_from (first_cell es) (other_cells es)

comma_first : (s : Segment) (r : List Entry) → first_cell (with_comma s r) ≡ content s []
comma_first s r = content_first s (a_comma ∷ (suffix_entry s.suffix ++ r))

comma_others : (s : Segment) (r : List Entry) → other_cells (with_comma s r) ≡ (suffix_entry s.suffix ++ first_cell r) ∷ other_cells r
comma_others s r = content_others s (a_comma ∷ (suffix_entry s.suffix ++ r)) ∙ rw (directly_first s.suffix r, directly_others s.suffix r) refl

filled_segment : (s : Segment) (ss : List Segment) → is_filled s.nodes ≡ true → with_segment s ss ≡ s ∷ ss
filled_segment s ss h = rw h refl

comma_segments : (s : Segment) (r : List Entry) → is_filled s.nodes ≡ true → Plain (first_cell r) → segments_in (with_comma s r) ≡ s ∷ segments_in r
comma_segments s r h p =
    let same : cell_segment (content s []) (below_last (content s [])) (texts_of s.suffix) ≡ s =
    whole s.before s.nodes s.suffix (cell_segment (content s []) (below_last (content s [])) (texts_of s.suffix)) (rw (content_above s [] h refl, content_below s [] h refl, content_beside s [] h refl, content_nodes s [] refl) refl) in
    let next = suffix_entry s.suffix ++ first_cell r in
    let step : segments_from (content s []) (next ∷ other_cells r) ≡ s ∷ segments_in r =
    ap (λ on_comma. with_segment (cell_segment (content s []) (below_last (content s [])) on_comma) (segments_from (later_lines next) (other_cells r))) (directly_comma s.suffix (first_cell r) p)
    ∙ (ap (λ cell. with_segment (cell_segment (content s []) (below_last (content s [])) (texts_of s.suffix)) (segments_from cell (other_cells r))) (directly_own s.suffix (first_cell r) p)
    ∙ (ap (λ t. with_segment t (segments_in r)) same ∙ filled_segment s (segments_in r) h)) in
    rw (comma_first s r, comma_others s r) step

comma_end : (s : Segment) (r : List Entry) → Plain (first_cell r) → end_in (with_comma s r) ≡ end_in r
comma_end s r p =
    let step : end_from (later_lines (suffix_entry s.suffix ++ first_cell r)) (other_cells r) ≡ end_in r = ap (λ cell. end_from cell (other_cells r)) (directly_own s.suffix (first_cell r) p) in
    rw (comma_first s r, comma_others s r) step

-- the last segment where no comma stands after it
abbrev last_back : Option (List ℕ) → List (List ℕ) → List Entry
last_back suffix end = suffix_entry suffix ++ own_lines end

back_nodes : (suffix : Option (List ℕ)) (end : List (List ℕ)) → nodes_in (last_back suffix end) ≡ []
back_nodes None end = end_nodes end
back_nodes (Some text) end = end_nodes end

back_above : (suffix : Option (List ℕ)) (end : List (List ℕ)) → above_last (last_back suffix end) ≡ []
back_above None end = end_above end
back_above (Some text) end = rw (end_nodes end) refl

back_has : (suffix : Option (List ℕ)) (end : List (List ℕ)) → has_node (last_back suffix end) ≡ false
back_has suffix end = ap (λ xs. is_filled xs) (back_nodes suffix end)

back_on : (suffix : Option (List ℕ)) (end : List (List ℕ)) → same_line (last_back suffix end) ≡ texts_of suffix
back_on None end = end_on end
back_on (Some text) end = refl

back_off : (suffix : Option (List ℕ)) (end : List (List ℕ)) → comments_in (later_lines (last_back suffix end)) ≡ end
back_off None end = rw (end_off end) (end_comments end)
back_off (Some text) end = end_comments end

last_first : (s : Segment) (end : List (List ℕ)) → first_cell (content s (last_back s.suffix end)) ≡ content s (last_back s.suffix end)
last_first s end = content_first s (last_back s.suffix end) ∙ rw (directly_first s.suffix (own_lines end), end_first end) refl

last_others : (s : Segment) (end : List (List ℕ)) → other_cells (content s (last_back s.suffix end)) ≡ []
last_others s end = content_others s (last_back s.suffix end) ∙ (directly_others s.suffix (own_lines end) ∙ end_others end)

last_segments : (s : Segment) (end : List (List ℕ)) → is_filled s.nodes ≡ true → segments_in (content s (last_back s.suffix end)) ≡ s ∷ []
last_segments s end h =
    let back = last_back s.suffix end in
    let same : cell_segment (content s (last_back s.suffix end)) [] [] ≡ s =
    whole s.before s.nodes s.suffix (cell_segment (content s (last_back s.suffix end)) [] [])
    (rw (content_above s back h (back_above s.suffix end), content_beside s back h (back_has s.suffix end), back_on s.suffix end, content_nodes s back (back_nodes s.suffix end), append-nil (texts_of s.suffix)) refl) in
    rw (last_first s end, last_others s end) (ap (λ t. with_segment t []) same ∙ filled_segment s [] h)

last_end : (s : Segment) (end : List (List ℕ)) → is_filled s.nodes ≡ true → end_in (content s (last_back s.suffix end)) ≡ end
last_end s end h = rw (last_first s end, last_others s end) (content_below s (last_back s.suffix end) h (back_has s.suffix end) ∙ back_off s.suffix end)

-- the segments and the end comments that were written
segments_back : (trailing : Bool) (ss : List Segment) (end : List (List ℕ)) → HaveNodes ss → segments_in (written_entries trailing ss end) ≡ ss
segments_back trailing [] end h = rw (end_first end, end_others end, end_nodes end) refl
segments_back true (s ∷ ss) end h = comma_segments s (written_entries true ss end) h.0 (written_plain true ss end h.1) ∙ ap (λ l. s ∷ l) (segments_back true ss end h.1)
segments_back false (s ∷ t ∷ ss) end h = comma_segments s (written_entries false (t ∷ ss) end) h.0 (written_plain false (t ∷ ss) end h.1) ∙ ap (λ l. s ∷ l) (segments_back false (t ∷ ss) end h.1)
segments_back false (s ∷ []) end h = last_segments s end h.0

end_back : (trailing : Bool) (ss : List Segment) (end : List (List ℕ)) → HaveNodes ss → end_in (written_entries trailing ss end) ≡ end
end_back trailing [] end h = rw (end_first end, end_others end) (end_below end)
end_back true (s ∷ ss) end h = comma_end s (written_entries true ss end) (written_plain true ss end h.1) ∙ end_back true ss end h.1
end_back false (s ∷ t ∷ ss) end h = comma_end s (written_entries false (t ∷ ss) end) (written_plain false (t ∷ ss) end h.1) ∙ end_back false (t ∷ ss) end h.1
end_back false (s ∷ []) end h = last_end s end h.0

-- whether a comma stands after the last segment
abbrev trails_in : Bool → List Entry → Bool
trails_in b es = trails b (first_cell es) (other_cells es)

trails_directly : (suffix : Option (List ℕ)) (cell : List Entry) (cells : List (List Entry)) → trails true (suffix_entry suffix ++ cell) cells ≡ trails true cell cells
trails_directly None cell cells = refl
trails_directly (Some text) cell cells = sym (trails_comment true true text cell cells)

comma_trails : (b : Bool) (s : Segment) (r : List Entry) → trails_in b (with_comma s r) ≡ trails_in true r
comma_trails b s r = rw (comma_first s r, comma_others s r) (sym (trails_comma (suffix_entry s.suffix ++ first_cell r) (other_cells r)) ∙ trails_directly s.suffix (first_cell r) (other_cells r))

last_trails : (b : Bool) (s : Segment) (end : List (List ℕ)) → is_filled s.nodes ≡ true → trails_in b (content s (last_back s.suffix end)) ≡ false
last_trails true s end h = rw (last_first s end, last_others s end, content_has s (last_back s.suffix end) h) refl
last_trails false s end h = rw (last_first s end, last_others s end) refl

and_true : (b : Bool) → (b && true) ≡ b
and_true true = refl
and_true false = refl

-- as the bracket goes on, after a comma or not
abbrev expected : Bool → Bool → List Segment → Bool
expected b trailing [] = b
expected b trailing (s ∷ ss) = trailing

trails_back : (b trailing : Bool) (ss : List Segment) (end : List (List ℕ)) → HaveNodes ss → trails_in b (written_entries trailing ss end) ≡ expected b trailing ss
trails_back b trailing [] end h = rw (end_first end, end_others end, end_nodes end) (and_true b)
trails_back b true (s ∷ []) end h = comma_trails b s (written_entries true [] end) ∙ trails_back true true [] end h.1
trails_back b true (s ∷ t ∷ ss) end h = comma_trails b s (written_entries true (t ∷ ss) end) ∙ trails_back true true (t ∷ ss) end h.1
trails_back b false (s ∷ t ∷ ss) end h = comma_trails b s (written_entries false (t ∷ ss) end) ∙ trails_back true false (t ∷ ss) end h.1
trails_back b false (s ∷ []) end h = last_trails b s end h.0

expected_is : (trailing : Bool) (ss : List Segment) → expected false trailing ss ≡ (trailing && is_filled ss)
expected_is true [] = refl
expected_is false [] = refl
expected_is true (s ∷ ss) = refl
expected_is false (s ∷ ss) = refl

pub read_back : (trailing : Bool) (ss : List Segment) (end : List (List ℕ)) → HaveNodes ss
    → inside_by_cells (written_entries trailing ss end) ≡ record { segs = ss; trailing = trailing && is_filled ss; end = end }
read_back trailing ss end h =
    let es = written_entries trailing ss end in
    let trails : has_trailing_comma (other_cells (written_entries trailing ss end)) ≡ (trailing && is_filled ss) = sym (trailed_is (first_cell es) (other_cells es)) ∙ (trails_back false trailing ss end h ∙ expected_is trailing ss) in
    rw (segments_back trailing ss end h, end_back trailing ss end h, trails) refl

pub lines_read_back : (owns : List Inner) (trailing : Bool) (ss : List Segment) (end : List (List ℕ)) → HaveNodes ss → entries_of no_token owns ≡ written_entries trailing ss end
    → inside owns ≡ record { segs = ss; trailing = trailing && is_filled ss; end = end }
lines_read_back owns trailing ss end h e = ap (λ es. inside_by_cells es) e ∙ read_back trailing ss end h

-- no segment is empty
abbrev filled_in : List Entry → Bool
filled_in es = are_filled (first_cell es) (other_cells es)

directly_has : (suffix : Option (List ℕ)) (cell : List Entry) → has_node (suffix_entry suffix ++ cell) ≡ has_node cell
directly_has None cell = refl
directly_has (Some text) cell = refl

directly_filled : (suffix : Option (List ℕ)) (cell : List Entry) (cells : List (List Entry)) → are_filled (suffix_entry suffix ++ cell) cells ≡ are_filled cell cells
directly_filled suffix cell [] = refl
directly_filled suffix cell (next ∷ cells) = ap (λ b. b && are_filled next cells) (directly_has suffix cell)

comma_filled : (s : Segment) (r : List Entry) → is_filled s.nodes ≡ true → filled_in (with_comma s r) ≡ filled_in r
comma_filled s r h = rw (comma_first s r, comma_others s r, content_has s [] h) (directly_filled s.suffix (first_cell r) (other_cells r))

written_filled : (trailing : Bool) (ss : List Segment) (end : List (List ℕ)) → HaveNodes ss → filled_in (written_entries trailing ss end) ≡ true
written_filled trailing [] end h = rw (end_others end) refl
written_filled true (s ∷ ss) end h = comma_filled s (written_entries true ss end) h.0 ∙ written_filled true ss end h.1
written_filled false (s ∷ t ∷ ss) end h = comma_filled s (written_entries false (t ∷ ss) end) h.0 ∙ written_filled false (t ∷ ss) end h.1
written_filled false (s ∷ []) end h = rw (last_others s end) refl

pub lines_filled : (owns : List Inner) (trailing : Bool) (ss : List Segment) (end : List (List ℕ)) → HaveNodes ss → entries_of no_token owns ≡ written_entries trailing ss end → no_empty_cell false owns ≡ true
lines_filled owns trailing ss end h e = no_empty_is owns ∙ (ap filled_in e ∙ written_filled trailing ss end h)

pub lines_back : (owns : List Inner) (trailing : Bool) (ss : List Segment) (end : List (List ℕ)) → HaveNodes ss → entries_of no_token owns ≡ written_entries trailing ss end
    → (inside owns ≡ record { segs = ss; trailing = trailing && is_filled ss; end = end }) × (no_empty_cell false owns ≡ true)
lines_back owns trailing ss end h e = (lines_read_back owns trailing ss end h e, lines_filled owns trailing ss end h e)

-- the flag of a comment that stands first in its bracket plays no part
pub first_flag : (text : List ℕ) (es : List Entry) → inside_by_cells (a_comment true text ∷ es) ≡ inside_by_cells (a_comment false text ∷ es)
first_flag text es = at_cells (first_cell es) (other_cells es)
  where
    at_cells : (cell : List Entry) (cells : List (List Entry))
        → ◌≡◌ {A = Inside} (record { segs = segments_from (a_comment true text ∷ cell) cells; trailing = has_trailing_comma cells; end = end_from (a_comment true text ∷ cell) cells })
        (record { segs = segments_from (a_comment false text ∷ cell) cells; trailing = has_trailing_comma cells; end = end_from (a_comment false text ∷ cell) cells })
    at_cells cell [] = refl
    at_cells cell (next ∷ cells) = refl
