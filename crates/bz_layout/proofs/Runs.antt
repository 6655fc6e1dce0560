-- The walk forwards over parts writes the pieces of their tree.
use Rattle.std.proofs.Common.{◌≡◌, codes, bytes_eq, ℕ, ◌+◌, ◌-◌, List, [], ◌∷◌, ◌++◌, map, drop, get_or, Bool, true, false, not, ◌||◌, if◌then◌else◌, inl, inr, Option, Some, None, refl, ap, ◌∙◌, append_assoc, append-nil, arith}
use Rattle.std.proofs.lemmas.Bool.{cases_Bool}
use Rattle.bz_token.specs.declared.token.Kind.TheVariants.{Operator}
use Rattle.bz_tree.specs.declared.tree.GroupKind.{GroupKind}
use Rattle.bz_tree.specs.Tree.{Item, leaf, group, Items, no_items, item, Segs, no_segs, seg}
use Rattle.bz_tree.specs.Rows.{RowPart, opening, closing, segment_end, above, beside_part, item_parts, items_parts, segs_parts}
use Rattle.bz_layout.specs.declared.marks.BracketForm.{BracketForm}
use Rattle.bz_layout.specs.declared.walk.OpenBracket.{OpenBracket}
use Rattle.bz_layout.specs.declared.spacing.Edge.{Edge}
use Rattle.bz_layout.specs.declared.spacing.Edge.TheVariants.{Start, Operand}
use Rattle.bz_layout.specs.declared.spacing.Gap.{Gap}
use Rattle.bz_layout.specs.declared.spacing.Gap.TheVariants.{Closed, Space, Line}
use Rattle.bz_layout.specs.declared.broken.Style.{Style}
use Rattle.bz_layout.specs.declared.broken.Style.TheVariants.{Flat, Broken}
use Rattle.bz_layout.specs.Walked.{count, is_broken, segs_hold, edge_after, operator_edge, is_prefix, begins_argument, is_index_colon, gap_before, gap_for, item_pieces, items_pieces, broken_segs, flat_segs, opening as opening_text, closing as closing_text}
use Rattle.bz_layout.specs.Spacing.{is_group_without_space}
use Rattle.bz_layout.specs.Pieces.{Piece, piece, gap_bytes, bytes_of, comma_if, comments, suffix_piece}
use Rattle.bz_layout.specs.Layout.{breaks, has_commas}
use Rattle.bz_layout.specs.private.RowLayout.{Laid, run, top, comma_bytes, due, is_start, first_gap}
use Rattle.bz_layout.proofs.Pieces.{bytes_append}
use Rattle.bz_layout.proofs.Scans.{mark_as, item_marks, items_marks, segs_marks}
use Rattle.bz_tree.proofs.Rows.FromParts.{segs_joined, seg_joined}

abbrev pub at : List ℕ → List BracketForm → List OpenBracket → OpenBracket → Edge → ℕ → Laid
at text marks outer here left level = record { text = text; marks = marks; outer = outer; here = here; left = left; level = level }

-- what the nodes leave to the one after them
abbrev pub last_edge : Option GroupKind → Edge → Items → Edge
last_edge within left no_items = left
last_edge within left (item x xs) = last_edge within (edge_after within left x) xs

abbrev broken_frame : GroupKind → Bool → OpenBracket
broken_frame kind comma = record { within = Some kind; mark = record { broken = true; comma = comma }; later = false }

abbrev in_place_frame : Option GroupKind → Bool → Bool → OpenBracket
in_place_frame within later comma = record { within = within; mark = record { broken = false; comma = comma }; later = later }

abbrev flat_frame : GroupKind → Bool → Bool → OpenBracket
flat_frame kind later comma = in_place_frame (Some kind) later comma

-- in flat text the walk has no marks, so that no bracket is broken
abbrev pub supply : Style → List BracketForm → List BracketForm
supply Flat ms = []
supply Broken ms = ms

abbrev mark_in : Style → BracketForm → BracketForm
mark_in Flat m = (top None).mark
mark_in Broken m = m

abbrev level_in : BracketForm → ℕ → ℕ
level_in mark level = if mark.broken then level + 1 else level

down : (n : ℕ) → n + 1 - 1 ≡ n
down n = omega arith

-- comments in a broken bracket are written
run_above : (comment_texts : List (List ℕ)) (rest : List RowPart) (t : List ℕ) (ms : List BracketForm) (o : List OpenBracket) (kind : GroupKind) (comma : Bool) (l : Edge) (n : ℕ) → run (map above comment_texts ++ rest) (at t ms o (broken_frame kind comma) l n) ≡ run rest (at (t ++ bytes_of (comments n comment_texts)) ms o (broken_frame kind comma) l n)
run_above [] rest t ms o kind comma l n = rw (append-nil t) refl
run_above (comment ∷ comment_texts) rest t ms o kind comma l n = run_above comment_texts rest (t ++ (gap_bytes (Line n) ++ comment)) ms o kind comma l n ∙ ap (λ (u : List ℕ). run rest (at u ms o (broken_frame kind comma) l n)) (simp append_assoc)

run_beside : (suffix : Option (List ℕ)) (rest : List RowPart) (t : List ℕ) (ms : List BracketForm) (o : List OpenBracket) (kind : GroupKind) (comma : Bool) (l : Edge) (n : ℕ) → run (beside_part suffix ++ rest) (at t ms o (broken_frame kind comma) l n) ≡ run rest (at (t ++ bytes_of (suffix_piece suffix)) ms o (broken_frame kind comma) l n)
run_beside None rest t ms o kind comma l n = rw (append-nil t) refl
run_beside (Some comment) rest t ms o kind comma l n = rw (append-nil comment) refl

-- in place they are left out
pub skip_above : (comment_texts : List (List ℕ)) (rest : List RowPart) (t : List ℕ) (ms : List BracketForm) (o : List OpenBracket) (within : Option GroupKind) (later comma : Bool) (l : Edge) (n : ℕ) → run (map above comment_texts ++ rest) (at t ms o (in_place_frame within later comma) l n) ≡ run rest (at t ms o (in_place_frame within later comma) l n)
skip_above [] rest t ms o within later comma l n = refl
skip_above (comment ∷ comment_texts) rest t ms o within later comma l n = ap (λ (u : List ℕ). run (map above comment_texts ++ rest) (at u ms o (in_place_frame within later comma) l n)) (append-nil t) ∙ skip_above comment_texts rest t ms o within later comma l n

skip_beside : (suffix : Option (List ℕ)) (rest : List RowPart) (t : List ℕ) (ms : List BracketForm) (o : List OpenBracket) (kind : GroupKind) (later comma : Bool) (l : Edge) (n : ℕ) → run (beside_part suffix ++ rest) (at t ms o (flat_frame kind later comma) l n) ≡ run rest (at t ms o (flat_frame kind later comma) l n)
skip_beside None rest t ms o kind later comma l n = refl
skip_beside (Some comment) rest t ms o kind later comma l n = ap (λ (u : List ℕ). run rest (at u ms o (flat_frame kind later comma) l n)) (append-nil t)

-- what is due before nodes
abbrev due_at : Edge → Items → List ℕ
due_at left no_items = []
due_at left (item x xs) = comma_bytes (is_start left)

abbrev pub due_items : OpenBracket → Edge → Items → List ℕ
due_items f left xs = if f.mark.broken then [] else (if f.later then due_at left xs else [])

nothing_due : (broken later : Bool) (none : List ℕ) → none ≡ [] → (if broken then [] else (if later then none else [])) ≡ []
nothing_due true later none h = refl
nothing_due false true none h = h
nothing_due false false none h = refl

-- nothing is due after a node
operator_leaves : (within : Option GroupKind) (left : Edge) (text : List ℕ) → is_start (operator_edge within left text) ≡ false
operator_leaves within left text = elim (cases_Bool (bytes_eq text (codes "."))) [
  | inl is ↦ rw is refl
  | inr other ↦ elim (cases_Bool (is_prefix left text || begins_argument within left text || is_index_colon within text)) [
    | inl holds ↦ rw (other, holds) refl
    | inr free ↦ rw (other, free) refl
  ]
]

item_leaves : (within : Option GroupKind) (left : Edge) (x : Item) → is_start (edge_after within left x) ≡ false
item_leaves within left (group kind segs one_comma end) = refl
item_leaves within left (leaf Operator text) = operator_leaves within left text
item_leaves within left (leaf _ text) = refl

items_leave : (within : Option GroupKind) (left : Edge) (xs : Items) → is_start left ≡ false → is_start (last_edge within left xs) ≡ false
items_leave within left no_items h = h
items_leave within left (item x xs) h = items_leave within (edge_after within left x) xs (item_leaves within left x)

not_at : (left : Edge) (xs : Items) → is_start left ≡ false → due_at left xs ≡ []
not_at left no_items h = refl
not_at left (item x xs) h = rw h refl

not_due : (f : OpenBracket) (left : Edge) (xs : Items) → is_start left ≡ false → due_items f left xs ≡ []
not_due f left xs h = nothing_due f.mark.broken f.later (due_at left xs) (not_at left xs h)

-- a text that is written in two goes
two : (t d e : List ℕ) (ps qs : List Piece) → e ≡ [] → (t ++ (d ++ bytes_of ps)) ++ (e ++ bytes_of qs) ≡ t ++ (d ++ bytes_of (ps ++ qs))
two t d e ps qs none = rw (none, bytes_append ps qs) (simp append_assoc)

-- a segment in place, its comma before it
abbrev in_place : Style → ℕ → GroupKind → Bool → Items → List Piece
in_place style n kind first nodes =
    if first then items_pieces style n (Some kind) Closed Start nodes else piece Closed Operator (codes ",") ∷ items_pieces style n (Some kind) Space Start nodes

in_place_text : (style : Style) (n : ℕ) (kind : GroupKind) (later comma : Bool) (nodes : Items) (t : List ℕ) →
    (t ++ (due_items (flat_frame kind later comma) Start nodes ++ bytes_of (items_pieces style n (Some kind) (first_gap (flat_frame kind later comma) n) Start nodes))) ++ due (flat_frame kind later comma) (last_edge (Some kind) Start nodes)
    ≡ t ++ bytes_of (in_place style n kind (not later) nodes)
in_place_text style n kind false comma nodes t = append-nil (t ++ bytes_of (items_pieces style n (Some kind) Closed Start nodes))
in_place_text style n kind true comma no_items t = rw (append-nil t) refl
in_place_text style n kind true comma (item x xs) t =
    rw (items_leave (Some kind) (edge_after (Some kind) Start x) xs (item_leaves (Some kind) Start x))
    (append-nil (t ++ (44 ∷ bytes_of (items_pieces style n (Some kind) Space Start (item x xs)))))

next_text : (t : List ℕ) (a b : List Piece) (end : List ℕ) → (t ++ bytes_of a) ++ (bytes_of b ++ end) ≡ t ++ (bytes_of (a ++ b) ++ end)
next_text t a b end = rw (bytes_append a b) (simp append_assoc)

comma_is : (b : Bool) → comma_bytes b ≡ bytes_of (comma_if b)
comma_is true = refl
comma_is false = refl

broken_seg_text : (t : List ℕ) (a b : List Piece) (comma : Bool) (c d : List Piece) → (((((t ++ bytes_of a) ++ bytes_of b) ++ comma_bytes comma) ++ bytes_of c) ++ bytes_of d) ≡ t ++ bytes_of (a ++ (b ++ (comma_if comma ++ (c ++ d))))
broken_seg_text t a b comma c d = rw (comma_is comma, bytes_append a (b ++ (comma_if comma ++ (c ++ d))), bytes_append b (comma_if comma ++ (c ++ d)), bytes_append (comma_if comma) (c ++ d), bytes_append c d) (simp append_assoc)

broken_group_text : (t p : List ℕ) (a b : List Piece) (q : Piece) → (((t ++ p) ++ bytes_of a) ++ bytes_of b) ++ (gap_bytes q.gap ++ q.text) ≡ t ++ (p ++ bytes_of (a ++ (b ++ q ∷ [])))
broken_group_text t p a b q = rw (bytes_append a (b ++ q ∷ []), bytes_append b (q ∷ []), append-nil q.text) (simp append_assoc)

flat_group_text : (t p : List ℕ) (a : List Piece) (comma : Bool) (close : List ℕ) → (t ++ p) ++ (bytes_of a ++ (comma_bytes comma ++ close)) ≡ t ++ (p ++ bytes_of (a ++ (comma_if comma ++ piece Closed Operator close ∷ [])))
flat_group_text t p a comma close = rw (comma_is comma, bytes_append a (comma_if comma ++ piece Closed Operator close ∷ []), bytes_append (comma_if comma) (piece Closed Operator close ∷ []), append-nil close) (simp append_assoc)

-- what is written of a group after its opening bracket
abbrev group_rest : Style → Bool → ℕ → GroupKind → Segs → Bool → List (List ℕ) → List Piece
group_rest style b n kind segs one end =
    if b
    then broken_segs style (n + 1) kind (has_commas kind one (count segs)) segs ++ (comments (n + 1) end ++ piece (Line n) Operator (closing_text kind) ∷ [])
    else flat_segs style n kind true segs ++ (comma_if one ++ piece Closed Operator (closing_text kind) ∷ [])

abbrev opening_bytes : List ℕ → Gap → GroupKind → List ℕ
opening_bytes d gap kind = d ++ (gap_bytes gap ++ opening_text kind)

-- a bracket opens, and its mark is taken
opens : (style : Style) (m : BracketForm) (marks : List BracketForm) (kind : GroupKind) (ps : List RowPart) (t : List ℕ) (o : List OpenBracket) (h : OpenBracket) (l : Edge) (n : ℕ) →
    run (opening kind ∷ ps) (at t (supply style (m ∷ marks)) o h l n)
    ≡ run ps (at (t ++ opening_bytes (due h l) (gap_for (first_gap h n) l (is_group_without_space kind)) kind) (supply style marks) (h ∷ o) (record { within = Some kind; mark = mark_in style m; later = false }) Start (level_in (mark_in style m) n))
opens Flat m marks kind ps t o h l n = refl
opens Broken m marks kind ps t o h l n = refl

-- segments on lines of their own, or in place up to the bracket's end
abbrev BrokenRuns : Style → Segs → List RowPart → List ℕ → List BracketForm → List OpenBracket → GroupKind → Bool → ℕ → Type 0
BrokenRuns style ss rest t ms o kind comma n =
    run (segs_parts ss ++ rest) (at t (supply style (segs_marks ss ++ ms)) o (broken_frame kind comma) Start n) ≡ run rest (at (t ++ bytes_of (broken_segs style n kind comma ss)) (supply style ms) o (broken_frame kind comma) Start n)

abbrev FlatRuns : Style → Segs → List (List ℕ) → List RowPart → List ℕ → List BracketForm → List OpenBracket → GroupKind → Bool → Bool → Bool → ℕ → Type 0
FlatRuns style ss end rest t ms o kind comma one later n =
    run (segs_parts ss ++ (map above end ++ closing one ∷ rest)) (at t (supply style (segs_marks ss ++ ms)) o (flat_frame kind later comma) Start n) ≡ run rest (at (t ++ (bytes_of (flat_segs style n kind (not later) ss) ++ (comma_bytes one ++ closing_text kind))) (supply style ms) (drop 1 o) (get_or o 0 (top None)) Operand n)

-- a group in place, where its mark has any comma
run_in_place : (style : Style) (comma : Bool) (kind : GroupKind) (segs : Segs) (one : Bool) (end : List (List ℕ)) (rest : List RowPart) (t : List ℕ) (ms : List BracketForm) (o : List OpenBracket) (h : OpenBracket) (d : List ℕ) (gap : Gap) (n : ℕ) →
    FlatRuns style segs end rest (t ++ opening_bytes d gap kind) ms (h ∷ o) kind comma one false n →
    run ((segs_parts segs ++ (map above end ++ closing one ∷ [])) ++ rest) (at (t ++ opening_bytes d gap kind) (supply style (segs_marks segs ++ ms)) (h ∷ o) (flat_frame kind false comma) Start n)
    ≡ run rest (at (t ++ (opening_bytes d gap kind ++ bytes_of (group_rest style false n kind segs one end))) (supply style ms) o h Operand n)
run_in_place style comma kind segs one end rest t ms o h d gap n flat =
    let begun = opening_bytes d gap kind in
    let joined = ap (λ (ps : List RowPart). run ps (at (t ++ begun) (supply style (segs_marks segs ++ ms)) (h ∷ o) (flat_frame kind false comma) Start n)) (segs_joined segs end one rest) in
    let text = flat_group_text t begun (flat_segs style n kind true segs) one (closing_text kind) in
    joined ∙ (flat ∙ ap (λ (u : List ℕ). run rest (at u (supply style ms) o h Operand n)) text)

run_group : (style : Style) (b : Bool) (kind : GroupKind) (segs : Segs) (one : Bool) (end : List (List ℕ)) (rest : List RowPart) (t : List ℕ) (ms : List BracketForm) (o : List OpenBracket) (h : OpenBracket) (d : List ℕ) (gap : Gap) (n : ℕ) →
    BrokenRuns style segs (map above end ++ closing one ∷ rest) (t ++ opening_bytes d gap kind) ms (h ∷ o) kind (has_commas kind one (count segs)) (n + 1) →
    ((comma : Bool) → FlatRuns style segs end rest (t ++ opening_bytes d gap kind) ms (h ∷ o) kind comma one false n) →
    run ((segs_parts segs ++ (map above end ++ closing one ∷ [])) ++ rest) (at (t ++ opening_bytes d gap kind) (supply style (segs_marks segs ++ ms)) (h ∷ o) (record { within = Some kind; mark = mark_in style (mark_as b kind segs one); later = false }) Start (level_in (mark_in style (mark_as b kind segs one)) n))
    ≡ run rest (at (t ++ (opening_bytes d gap kind ++ bytes_of (group_rest style (breaks style b) n kind segs one end))) (supply style ms) o h Operand n)
run_group Broken true kind segs one end rest t ms o h d gap n broken flat =
    let c = has_commas kind one (count segs) in
    let begun = opening_bytes d gap kind in
    let a = broken_segs Broken (n + 1) kind c segs in
    let b = comments (n + 1) end in
    let t1 = (t ++ begun) ++ bytes_of a in
    let t2 = t1 ++ bytes_of b in
    let joined = ap (λ (ps : List RowPart). run ps (at (t ++ begun) (segs_marks segs ++ ms) (h ∷ o) (broken_frame kind c) Start (n + 1))) (segs_joined segs end one rest) in
    let comment_texts = run_above end (closing one ∷ rest) t1 ms (h ∷ o) kind c Start (n + 1) in
    let level = ap (λ (k : ℕ). run rest (at (t2 ++ (gap_bytes (Line k) ++ closing_text kind)) ms o h Operand k)) (down n) in
    let text = ap (λ (u : List ℕ). run rest (at u ms o h Operand n)) (broken_group_text t begun a b (piece (Line n) Operator (closing_text kind))) in
    joined ∙ (broken ∙ (comment_texts ∙ (level ∙ text)))
run_group Broken false kind segs one end rest t ms o h d gap n broken flat = let c = has_commas kind one (count segs) in run_in_place Broken c kind segs one end rest t ms o h d gap n (flat c)
run_group Flat b kind segs one end rest t ms o h d gap n broken flat = run_in_place Flat false kind segs one end rest t ms o h d gap n (flat false)

group_text : (t d p : List ℕ) (gap : Gap) (close : List ℕ) → t ++ ((d ++ (gap_bytes gap ++ close)) ++ p) ≡ t ++ (d ++ (gap_bytes gap ++ (close ++ p)))
group_text t d p gap close = simp append_assoc

mutual
  pub run_item : (style : Style) (x : Item) (rest : List RowPart) (t : List ℕ) (ms : List BracketForm) (o : List OpenBracket) (h : OpenBracket) (l : Edge) (n : ℕ) →
      run (item_parts x ++ rest) (at t (supply style (item_marks x ++ ms)) o h l n) ≡ run rest (at (t ++ (due h l ++ bytes_of (item_pieces style n (gap_before (first_gap h n) l x) x))) (supply style ms) o h (edge_after h.within l x) n)
  run_item style (leaf kind text) rest t ms o h l n = rw append-nil refl
  run_item style (group kind segs one end) rest t ms o h l n =
      let b = is_broken kind segs end (segs_hold segs) in
      let gap = gap_for (first_gap h n) l (is_group_without_space kind) in
      let d = due h l in
      let begun = opening_bytes d gap kind in
      let broken = run_broken style segs (map above end ++ closing one ∷ rest) (t ++ begun) ms (h ∷ o) kind (has_commas kind one (count segs)) (n + 1) in
      let flat : (comma : Bool) → FlatRuns style segs end rest (t ++ begun) ms (h ∷ o) kind comma one false n = λ comma. run_flat style segs end rest (t ++ begun) ms (h ∷ o) kind comma one false n in
      let all = run_group style b kind segs one end rest t ms o h d gap n broken flat in
      let begin = opens style (mark_as b kind segs one) (segs_marks segs ++ ms) kind ((segs_parts segs ++ (map above end ++ closing one ∷ [])) ++ rest) t o h l n in
      begin ∙ (all ∙ ap (λ (u : List ℕ). run rest (at u (supply style ms) o h Operand n)) (group_text t d (bytes_of (group_rest style (breaks style b) n kind segs one end)) gap (opening_text kind)))

  pub run_items : (style : Style) (xs : Items) (rest : List RowPart) (t : List ℕ) (ms : List BracketForm) (o : List OpenBracket) (h : OpenBracket) (l : Edge) (n : ℕ) →
      run (items_parts xs ++ rest) (at t (supply style (items_marks xs ++ ms)) o h l n) ≡ run rest (at (t ++ (due_items h l xs ++ bytes_of (items_pieces style n h.within (first_gap h n) l xs))) (supply style ms) o h (last_edge h.within l xs) n)
  run_items style no_items rest t ms o h l n = rw (nothing_due h.mark.broken h.later [] refl, append-nil t) refl
  run_items style (item x xs) rest t ms o h l n =
      let ps = item_pieces style n (gap_before (first_gap h n) l x) x in
      let left = edge_after h.within l x in
      rw (append_assoc (item_parts x) (items_parts xs) rest, append_assoc (item_marks x) (items_marks xs) ms)
      (run_item style x (items_parts xs ++ rest) t (items_marks xs ++ ms) o h l n ∙ (run_items style xs rest (t ++ (due h l ++ bytes_of ps)) ms o h left n ∙
      ap (λ (u : List ℕ). run rest (at u (supply style ms) o h (last_edge h.within left xs) n)) (two t (due h l) (due_items h left xs) ps (items_pieces style n h.within (first_gap h n) left xs) (not_due h left xs (item_leaves h.within l x)))))

  pub run_broken : (style : Style) (ss : Segs) (rest : List RowPart) (t : List ℕ) (ms : List BracketForm) (o : List OpenBracket) (kind : GroupKind) (comma : Bool) (n : ℕ) → BrokenRuns style ss rest t ms o kind comma n
  run_broken style no_segs rest t ms o kind comma n = rw (append-nil t) refl
  run_broken style (seg before nodes suffix ss) rest t ms o kind comma n =
      let frame = broken_frame kind comma in
      let a = comments n before in
      let b = items_pieces style n (Some kind) (Line n) Start nodes in
      let c = suffix_piece suffix in
      let d = broken_segs style n kind comma ss in
      let after = segs_parts ss ++ rest in
      let ending = segment_end ∷ (beside_part suffix ++ after) in
      let later = segs_marks ss ++ ms in
      let t1 = t ++ bytes_of a in
      let t3 = (t1 ++ bytes_of b) ++ comma_bytes comma in
      rw (seg_joined before nodes suffix ss rest, append_assoc (items_marks nodes) (segs_marks ss) ms)
      (run_above before (items_parts nodes ++ ending) t (supply style (items_marks nodes ++ later)) o kind comma Start n ∙ (run_items style nodes ending t1 later o frame Start n ∙ (run_beside suffix after t3 (supply style later) o kind comma Start n ∙
      (run_broken style ss rest (t3 ++ bytes_of c) ms o kind comma n ∙ ap (λ (u : List ℕ). run rest (at u (supply style ms) o frame Start n)) (broken_seg_text t a b comma c d)))))

  pub run_flat : (style : Style) (ss : Segs) (end : List (List ℕ)) (rest : List RowPart) (t : List ℕ) (ms : List BracketForm) (o : List OpenBracket) (kind : GroupKind) (comma one later : Bool) (n : ℕ) → FlatRuns style ss end rest t ms o kind comma one later n
  run_flat style no_segs end rest t ms o kind comma one later n = skip_above end (closing one ∷ rest) t (supply style ms) o (Some kind) later comma Start n
  run_flat style (seg before nodes suffix ss) end rest t ms o kind comma one later n =
      let frame = flat_frame kind later comma in
      let after = segs_parts ss ++ (map above end ++ closing one ∷ rest) in
      let ending = segment_end ∷ (beside_part suffix ++ after) in
      let marks = segs_marks ss ++ ms in
      let a = in_place style n kind (not later) nodes in
      let t1 = t ++ bytes_of a in
      rw (seg_joined before nodes suffix ss (map above end ++ closing one ∷ rest), append_assoc (items_marks nodes) (segs_marks ss) ms)
      (skip_above before (items_parts nodes ++ ending) t (supply style (items_marks nodes ++ marks)) o (Some kind) later comma Start n ∙ (run_items style nodes ending t marks o frame Start n ∙
      (ap (λ (u : List ℕ). run (beside_part suffix ++ after) (at u (supply style marks) o (flat_frame kind true comma) Start n)) (in_place_text style n kind later comma nodes t) ∙
      (skip_beside suffix after t1 (supply style marks) o kind true comma Start n ∙ (run_flat style ss end rest t1 ms o kind comma one true n ∙
      ap (λ (u : List ℕ). run rest (at u (supply style ms) (drop 1 o) (get_or o 0 (top None)) Operand n)) (next_text t a (flat_segs style n kind false ss) (comma_bytes one ++ closing_text kind)))))))
