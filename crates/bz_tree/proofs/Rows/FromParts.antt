-- Nodes are read back from their parts.
use Rattle.std.proofs.Common.{◌≡◌, ℕ, zero, suc, List, [], ◌∷◌, ◌++◌, length, slice_index_or, slice_set, map, Bool, Option, Some, None, refl, ap, sym, ◌∙◌, append_assoc, append-nil, ◌≤◌, ◌-◌, get_or, arith}
use Rattle.bz_tree.specs.declared.row.Part.{Part}
use Rattle.bz_tree.specs.Rows.{part_view}
use Rattle.bz_tree.specs.declared.tree.Seg.{Seg}
use Rattle.bz_tree.specs.Tree.{Item, leaf, group, Items, no_items, item, Segs, no_segs, seg, Segment, Statement, items_of, list_of, segs_of, segments}
use Rattle.bz_tree.specs.View.{seg_view, segs_view}
use Rattle.bz_tree.specs.declared.tree.Class.{Class}
use Rattle.bz_tree.specs.private.PartSteps.{beside_text, content_of, last_beside}
use Rattle.bz_tree.specs.Rows.{RowPart, a_token, opening, closing, segment_end, above, beside, beside_part, item_parts, items_parts, segs_parts, parts_of}
use Rattle.bz_tree.specs.FromParts.{Content, Outer, Nest, beside_last, steps, nodes_of_parts}

-- trees and lists, there and back
pub listed_back : (xs : List Item) → list_of (items_of xs) ≡ xs
listed_back [] = refl
listed_back (x ∷ xs) = ap (λ ys. x ∷ ys) (listed_back xs)

pub items_back : (xs : Items) → items_of (list_of xs) ≡ xs
items_back no_items = refl
items_back (item x xs) = ap (item x) (items_back xs)

pub segs_back : (ss : Segs) → segs_of (segments ss) ≡ ss
segs_back no_segs = refl
segs_back (seg before nodes suffix ss) = λ i. seg before (items_back nodes i) suffix (segs_back ss i)

abbrev pub segment : List (List ℕ) → List Item → Option (List ℕ) → Segment
segment before nodes suffix = record { before = before; nodes = nodes; suffix = suffix }

abbrev nest : List Segment → List (List ℕ) → List Item → List Outer → Nest
nest segs comments nodes outer = record { here = record { segs = segs; comments = comments; nodes = nodes }; outer = outer }

pub beside_push : (text : List ℕ) (ss : List Segment) (s : Segment) → beside_last text (ss ++ s ∷ []) ≡ ss ++ segment s.before s.nodes (Some text) ∷ []
beside_push text [] s = refl
beside_push text (r ∷ []) s = refl
beside_push text (r ∷ q ∷ ss) s = ap (λ rs. r ∷ rs) (beside_push text (q ∷ ss) s)

-- the last segment is written anew
pub last_written : (text : List ℕ) (ss : List Seg) (i : ℕ) (s r : Seg) → suc i ≡ length ss → s ≡ slice_index_or ss i s → seg_view r ≡ segment (seg_view s).before (seg_view s).nodes (Some text)
    → segs_view (slice_set ss i r) ≡ beside_last text (segs_view ss)
last_written text [] i s r last here new = absurd (omega (arith, last))
last_written text (x ∷ []) zero s r last here new = ap (λ z. z ∷ []) (new ∙ ap (λ (z : Seg). segment (seg_view z).before (seg_view z).nodes (Some text)) here)
last_written text (x ∷ []) (suc i) s r last here new = absurd (omega (arith, last))
last_written text (x ∷ y ∷ ss) zero s r last here new = absurd (omega (arith, last))
last_written text (x ∷ y ∷ ss) (suc i) s r last here new = ap (λ zs. seg_view x ∷ zs) (last_written text (y ∷ ss) i s r (omega (arith, last)) here new)

pub segs_joined : (ss : Segs) (end : List (List ℕ)) (one : Bool) (rest : List RowPart) → (segs_parts ss ++ (map above end ++ closing one ∷ [])) ++ rest ≡ segs_parts ss ++ (map above end ++ closing one ∷ rest)
segs_joined ss end one rest = simp append_assoc

pub seg_joined : (before : List (List ℕ)) (nodes : Items) (suffix : Option (List ℕ)) (ss : Segs) (rest : List RowPart) → segs_parts (seg before nodes suffix ss) ++ rest ≡ map above before ++ (items_parts nodes ++ (segment_end ∷ (beside_part suffix ++ (segs_parts ss ++ rest))))
seg_joined before nodes suffix ss rest = simp append_assoc

read_above : (comment_texts : List (List ℕ)) (segs : List Segment) (comments : List (List ℕ)) (nodes : List Item) (outer : List Outer) (rest : List RowPart)
    → steps (map above comment_texts ++ rest) (nest segs comments nodes outer) ≡ steps rest (nest segs (comments ++ comment_texts) nodes outer)
read_above [] segs comments nodes outer rest = ap (λ cs. steps rest (nest segs cs nodes outer)) (sym (append-nil comments))
read_above (comment ∷ comment_texts) segs comments nodes outer rest =
    read_above comment_texts segs (comments ++ comment ∷ []) nodes outer rest ∙ ap (λ cs. steps rest (nest segs cs nodes outer)) (append_assoc comments (comment ∷ []) comment_texts)

read_beside : (suffix : Option (List ℕ)) (segs : List Segment) (before : List (List ℕ)) (nodes : List Item) (outer : List Outer) (rest : List RowPart)
    → steps (beside_part suffix ++ rest) (nest (segs ++ segment before nodes None ∷ []) [] [] outer) ≡ steps rest (nest (segs ++ segment before nodes suffix ∷ []) [] [] outer)
read_beside None segs before nodes outer rest = refl
read_beside (Some text) segs before nodes outer rest = ap (λ ss. steps rest (nest ss [] [] outer)) (beside_push text segs (segment before nodes None))

mutual
  read_item : (x : Item) (segs : List Segment) (comments : List (List ℕ)) (nodes : List Item) (outer : List Outer) (rest : List RowPart)
      → steps (item_parts x ++ rest) (nest segs comments nodes outer) ≡ steps rest (nest segs comments (nodes ++ x ∷ []) outer)
  read_item (leaf kind text) segs comments nodes outer rest = refl
  read_item (group kind ss one_comma end) segs comments nodes outer rest =
      let around = record { kind = kind; content = record { segs = segs; comments = comments; nodes = nodes } } ∷ outer in
      let close = closing one_comma ∷ rest in
      ap (λ ps. steps ps (nest [] [] [] around)) (segs_joined ss end one_comma rest)
      ∙ (read_segs ss [] around (map above end ++ close)
      ∙ (read_above end (segments ss) [] [] around close
      ∙ ap (λ rs. steps rest (nest segs comments (nodes ++ group kind rs one_comma end ∷ []) outer)) (segs_back ss)))

  read_items : (xs : Items) (segs : List Segment) (comments : List (List ℕ)) (nodes : List Item) (outer : List Outer) (rest : List RowPart)
      → steps (items_parts xs ++ rest) (nest segs comments nodes outer) ≡ steps rest (nest segs comments (nodes ++ list_of xs) outer)
  read_items no_items segs comments nodes outer rest = ap (λ ns. steps rest (nest segs comments ns outer)) (sym (append-nil nodes))
  read_items (item x xs) segs comments nodes outer rest =
      ap (λ ps. steps ps (nest segs comments nodes outer)) (append_assoc (item_parts x) (items_parts xs) rest)
      ∙ (read_item x segs comments nodes outer (items_parts xs ++ rest)
      ∙ (read_items xs segs comments (nodes ++ x ∷ []) outer rest
      ∙ ap (λ ns. steps rest (nest segs comments ns outer)) (append_assoc nodes (x ∷ []) (list_of xs))))

  read_segs : (ss : Segs) (segs : List Segment) (outer : List Outer) (rest : List RowPart) → steps (segs_parts ss ++ rest) (nest segs [] [] outer) ≡ steps rest (nest (segs ++ segments ss) [] [] outer)
  read_segs no_segs segs outer rest = ap (λ rs. steps rest (nest rs [] [] outer)) (sym (append-nil segs))
  read_segs (seg before nodes suffix ss) segs outer rest =
      let after = segs_parts ss ++ rest in
      let ended = segment_end ∷ (beside_part suffix ++ after) in
      let s = segment before (list_of nodes) suffix in
      ap (λ ps. steps ps (nest segs [] [] outer)) (seg_joined before nodes suffix ss rest)
      ∙ (read_above before segs [] [] outer (items_parts nodes ++ ended)
      ∙ (read_items nodes segs before [] outer ended
      ∙ (read_beside suffix segs before (list_of nodes) outer after
      ∙ (read_segs ss (segs ++ s ∷ []) outer rest
      ∙ ap (λ rs. steps rest (nest rs [] [] outer)) (append_assoc segs (s ∷ []) (segments ss))))))

abbrev nodes_in : Nest → List Item
nodes_in n = n.here.nodes

pub nodes_back : (xs : Items) → nodes_of_parts (items_parts xs) ≡ list_of xs
nodes_back xs = ap nodes_in (ap (λ ps. steps ps (nest [] [] [] [])) (sym (append-nil (items_parts xs))) ∙ read_items xs [] [] [] [] [])

-- a comment beside a statement is beside no segment
suffix_left : (suffix : Option (List ℕ)) (comments : List (List ℕ)) (nodes : List Item) → steps (beside_part suffix) (nest [] comments nodes []) ≡ nest [] comments nodes []
suffix_left va vb vc = grind arith

content_back : (s : Statement) → content_of (parts_of s) ≡ record { segs = []; comments = s.before; nodes = s.nodes }
content_back s =
    ap (λ (n : Nest). n.here) (read_above s.before [] [] [] [] (items_parts (items_of s.nodes) ++ beside_part s.suffix)
    ∙ (read_items (items_of s.nodes) [] s.before [] [] (beside_part s.suffix) ∙ suffix_left s.suffix s.before (list_of (items_of s.nodes))))
    ∙ ap (λ (nodes : List Item). record { segs = []; comments = s.before; nodes = nodes }) (listed_back s.nodes)

pub statement_back : (s : Statement) → nodes_of_parts (parts_of s) ≡ s.nodes
statement_back s = ap (λ (c : Content). c.nodes) (content_back s)

last_is : (ps : List RowPart) (p : RowPart) → last_beside (ps ++ p ∷ []) ≡ beside_text p
last_is [] p = refl
last_is (q ∷ []) p = refl
last_is (q ∷ r ∷ ps) p = last_is (r ∷ ps) p

last_of_items : (xs : Items) (ps : List RowPart) → last_beside ps ≡ None → last_beside (ps ++ items_parts xs) ≡ None
last_of_items no_items ps h = ap last_beside (append-nil ps) ∙ h
last_of_items (item (leaf kind text) xs) ps h =
    ap last_beside (sym (append_assoc ps (a_token kind text ∷ []) (items_parts xs))) ∙ last_of_items xs (ps ++ a_token kind text ∷ []) (last_is ps (a_token kind text))
last_of_items (item (group kind ss one_comma end) xs) ps h =
    let inner : List RowPart = opening kind ∷ (segs_parts ss ++ map above end) in
    let split : ps ++ items_parts (item (group kind ss one_comma end) xs) ≡ ((ps ++ inner) ++ closing one_comma ∷ []) ++ items_parts xs = simp append_assoc in
    ap last_beside split ∙ last_of_items xs ((ps ++ inner) ++ closing one_comma ∷ []) (last_is (ps ++ inner) (closing one_comma))

last_of_above : (comment_texts : List (List ℕ)) → last_beside (map above comment_texts) ≡ None
last_of_above [] = refl
last_of_above (comment ∷ []) = refl
last_of_above (comment ∷ other ∷ comment_texts) = last_of_above (other ∷ comment_texts)

suffix_back : (s : Statement) → last_beside (parts_of s) ≡ s.suffix
suffix_back s =
    let front : List RowPart = map above s.before ++ items_parts (items_of s.nodes) in
    elim s.suffix as (λ o. last_beside (map above s.before ++ (items_parts (items_of s.nodes) ++ beside_part o)) ≡ o) [
      | None ↦ ap (λ (ps : List RowPart). last_beside (map above s.before ++ ps)) (append-nil (items_parts (items_of s.nodes))) ∙ last_of_items (items_of s.nodes) (map above s.before) (last_of_above s.before)
      | Some text ↦ ap last_beside (sym (append_assoc (map above s.before) (items_parts (items_of s.nodes)) (beside text ∷ []))) ∙ last_is front (beside text)
    ]

abbrev pub made : Content → Option (List ℕ) → Class → ℕ → ℕ → Statement
made c suffix class start end = record { before = c.comments; nodes = c.nodes; suffix = suffix; class = class; start = start; end = end }

-- a statement by its parts
pub statement_of_parts : (s : Statement) (ps : List RowPart) (c : Content) (suffix : Option (List ℕ)) (class : Class) (start end : ℕ) → ps ≡ parts_of s → c ≡ content_of ps → suffix ≡ last_beside ps
    → made c suffix class start end ≡ record s { class = class; start = start; end = end }
statement_of_parts s ps c suffix class start end parts content ends =
    let c_is : c ≡ record { segs = []; comments = s.before; nodes = s.nodes } = content ∙ ap content_of parts ∙ content_back s in
    let suffix_is : suffix ≡ s.suffix = ends ∙ ap last_beside parts ∙ suffix_back s in
    λ i. record { before = (c_is i).comments; nodes = (c_is i).nodes; suffix = suffix_is i; class = class; start = start; end = end }

pub last_view : (ps : List Part) (d : Part) → 1 ≤ length ps → last_beside (map part_view ps) ≡ beside_text (part_view (get_or ps (length ps - 1) d))
last_view [] d h = absurd (omega arith)
last_view (p ∷ []) d h = refl
last_view (p ∷ q ∷ ps) d h =
    let at : length (p ∷ q ∷ ps) - 1 ≡ suc (length (q ∷ ps) - 1) = omega arith in
    last_view (q ∷ ps) d (omega arith) ∙ ap (λ (i : ℕ). beside_text (part_view (get_or (p ∷ q ∷ ps) i d))) (sym at)
