-- The walk backwards over parts marks each bracket as the tree says.
use Rattle.std.proofs.Common.{◌≡◌, ℕ, suc, ◌+◌, List, [], ◌∷◌, ◌++◌, map, Bool, false, ◌||◌, ◌&&◌, is_some, if◌then◌else◌, nat_le, nat_lt, Option, Some, None, refl, ap, ◌∙◌, append_assoc, arith}
use Rattle.std.proofs.Math.Bool.{or_assoc, or_comm, or-false}
use Rattle.std.proofs.lemmas.Bool.Decides.{nat_tests}
use Rattle.bz_tree.specs.declared.tree.GroupKind.{GroupKind}
use Rattle.bz_tree.specs.declared.tree.GroupKind.TheVariants.{RuleCall, Paren, List as ListKind, Dict}
use Rattle.bz_tree.specs.Tree.{Item, leaf, group, Items, no_items, item, Segs, no_segs, seg}
use Rattle.bz_tree.specs.Rows.{RowPart, closing, segment_end, above, beside_part, item_parts, items_parts, segs_parts}
use Rattle.bz_layout.specs.declared.marks.BracketForm.{BracketForm}
use Rattle.bz_layout.specs.declared.marks.Contents.{Contents}
use Rattle.bz_layout.specs.Broken.{breaks_by_count}
use Rattle.bz_layout.specs.Walked.{count, have_comments, is_broken, holds_broken, items_hold, segs_hold}
use Rattle.bz_layout.specs.Layout.{has_commas}
use Rattle.bz_layout.specs.private.RowLayout.{Scan, closed, mark_of, below, opened_back, scan}
use Rattle.bz_token.specs.Common.{is_filled}
use Rattle.bz_tree.proofs.Rows.FromParts.{segs_joined, seg_joined}

-- the mark of a group, and those in an item
abbrev pub mark_as : Bool → GroupKind → Segs → Bool → BracketForm
mark_as broken kind segs one_comma = record { broken = broken; comma = has_commas kind one_comma (count segs) }

abbrev mutual
  pub item_marks : Item → List BracketForm
  item_marks (leaf kind text) = []
  item_marks (group kind segs one_comma end) = mark_as (is_broken kind segs end (segs_hold segs)) kind segs one_comma ∷ segs_marks segs

  pub items_marks : Items → List BracketForm
  items_marks no_items = []
  items_marks (item x xs) = item_marks x ++ items_marks xs

  pub segs_marks : Segs → List BracketForm
  segs_marks no_segs = []
  segs_marks (seg before nodes suffix ss) = items_marks nodes ++ segs_marks ss

-- what an item adds to what stands after it, and what segments add
abbrev found : List BracketForm → Bool → Scan → Scan
found ms b s = record { marks = ms ++ s.marks; here = record s.here { holds = b || s.here.holds }; outer = s.outer }

abbrev one_more : ℕ → ℕ
one_more n = if nat_lt n 2 then n + 1 else n

abbrev add : Segs → ℕ → ℕ
add no_segs n = n
add (seg before nodes suffix ss) n = one_more (add ss n)

abbrev in_segs : Bool → Bool → ℕ → Contents → Contents
in_segs comments holds n i = record { one_comma = i.one_comma; comments = comments || i.comments; holds = holds || i.holds; segs = n }

abbrev seen : Segs → Scan → Scan
seen ss s = record { marks = segs_marks ss ++ s.marks; here = in_segs (have_comments ss) (segs_hold ss) (add ss s.here.segs) s.here; outer = s.outer }

-- at most two segments are counted, which is enough
two_more : (m n : ℕ) → nat_le 2 (one_more (one_more m)) ≡ nat_le 2 (suc (suc n))
two_more m n = grind (arith, nat_tests)

add_two : (ss : Segs) → nat_le 2 (add ss 0) ≡ nat_le 2 (count ss)
add_two no_segs = refl
add_two (seg before nodes suffix no_segs) = refl
add_two (seg before nodes suffix (seg before2 nodes2 suffix2 ss)) = two_more (add ss 0) (count ss)

one_is_more : (m n : ℕ) → nat_le 1 (one_more m) ≡ nat_le 1 (suc n)
one_is_more m n = grind (arith, nat_tests)

add_one : (ss : Segs) → nat_le 1 (add ss 0) ≡ nat_le 1 (count ss)
add_one no_segs = refl
add_one (seg before nodes suffix ss) = one_is_more (add ss 0) (count ss)

counts : (kind : GroupKind) (ss : Segs) → breaks_by_count kind (add ss 0) ≡ breaks_by_count kind (count ss)
counts RuleCall ss = add_two ss
counts ListKind ss = add_two ss
counts Dict ss = add_one ss
counts _ ss = refl

commas : (kind : GroupKind) (one : Bool) (ss : Segs) → has_commas kind one (add ss 0) ≡ has_commas kind one (count ss)
commas Paren one ss = rw (add_two ss) refl
commas _ one ss = refl

breaks_as : (kind : GroupKind) (ss : Segs) (end : List (List ℕ)) → (have_comments ss || (is_filled end || false)) || breaks_by_count kind (add ss 0) || (nat_le 2 (add ss 0) && (segs_hold ss || false)) ≡ is_broken kind ss end (segs_hold ss)
breaks_as kind ss end = rw (or-false (is_filled end), or_comm (have_comments ss) (is_filled end), or-false (segs_hold ss), counts kind ss, add_two ss) refl

abbrev pub inside_of : Bool → Segs → List (List ℕ) → Contents
inside_of one ss end = in_segs (have_comments ss) (segs_hold ss) (add ss 0) (in_segs (is_filled end) false 0 (closed one))

marked : (kind : GroupKind) (ss : Segs) (end : List (List ℕ)) (one : Bool) → mark_of kind (inside_of one ss end) ≡ mark_as (is_broken kind ss end (segs_hold ss)) kind ss one
marked kind ss end one = rw (breaks_as kind ss end, commas kind one ss) refl

-- one after the other
found_both : (a c : List BracketForm) (b d : Bool) (s : Scan) → found a b (found c d s) ≡ found (a ++ c) (b || d) s
found_both a c b d s = rw (append_assoc a c s.marks, ← or_assoc b d s.here.holds) refl

pub scan_above : (comments : List (List ℕ)) (rest : List RowPart) → scan (map above comments ++ rest) ≡ record { marks = (scan rest).marks; here = in_segs (is_filled comments) false (scan rest).here.segs (scan rest).here; outer = (scan rest).outer }
scan_above [] rest = refl
scan_above (comment ∷ comments) rest = rw (scan_above comments rest) refl

scan_beside : (suffix : Option (List ℕ)) (rest : List RowPart) → scan (beside_part suffix ++ rest) ≡ record { marks = (scan rest).marks; here = in_segs (is_some suffix) false (scan rest).here.segs (scan rest).here; outer = (scan rest).outer }
scan_beside None rest = refl
scan_beside (Some comment) rest = refl

-- a bracket with what stands in it
group_found : (kind : GroupKind) (segs : Segs) (one : Bool) (end : List (List ℕ)) (s : Scan) → opened_back kind (record { marks = segs_marks segs ++ s.marks; here = inside_of one segs end; outer = s.here ∷ s.outer }) ≡ found (item_marks (group kind segs one end)) (holds_broken (group kind segs one end)) s
group_found kind segs one end s =
    let inside = inside_of one segs end in
    let marks = segs_marks segs ++ s.marks in
    let mark = mark_as (is_broken kind segs end (segs_hold segs)) kind segs one in
    let same = ap (λ (m : BracketForm). below m (m.broken || inside.holds) marks (s.here ∷ s.outer)) (marked kind segs end one) in
    same ∙ ap (λ (b : Bool). below mark (mark.broken || b) marks (s.here ∷ s.outer)) (or-false (segs_hold segs))

seg_seen : (before : List (List ℕ)) (nodes : Items) (suffix : Option (List ℕ)) (ss : Segs) (s : Scan) →
    record {
      marks = items_marks nodes ++ (segs_marks ss ++ s.marks);
      here = in_segs (is_filled before) (items_hold nodes) (one_more (add ss s.here.segs)) (in_segs (is_some suffix) false (one_more (add ss s.here.segs)) (in_segs (have_comments ss) (segs_hold ss) (add ss s.here.segs) s.here));
      outer = s.outer;
    } ≡ seen (seg before nodes suffix ss) s
seg_seen before nodes suffix ss s = rw (append_assoc (items_marks nodes) (segs_marks ss) s.marks, ← or_assoc (is_filled before) (is_some suffix) (have_comments ss || s.here.comments), ← or_assoc (is_filled before || is_some suffix) (have_comments ss) s.here.comments, ← or_assoc (items_hold nodes) (segs_hold ss) s.here.holds) refl

mutual
  pub scan_item : (x : Item) (rest : List RowPart) → scan (item_parts x ++ rest) ≡ found (item_marks x) (holds_broken x) (scan rest)
  scan_item (leaf kind text) rest = refl
  scan_item (group kind segs one_comma end) rest =
      let joined = ap scan (segs_joined segs end one_comma rest) in
      let inner = joined ∙ (scan_segs segs (map above end ++ closing one_comma ∷ rest) ∙ ap (seen segs) (scan_above end (closing one_comma ∷ rest))) in
      ap (opened_back kind) inner ∙ group_found kind segs one_comma end (scan rest)

  pub scan_items : (xs : Items) (rest : List RowPart) → scan (items_parts xs ++ rest) ≡ found (items_marks xs) (items_hold xs) (scan rest)
  scan_items no_items rest = refl
  scan_items (item x xs) rest =
      rw (append_assoc (item_parts x) (items_parts xs) rest, scan_item x (items_parts xs ++ rest), scan_items xs rest) (found_both (item_marks x) (items_marks xs) (holds_broken x) (items_hold xs) (scan rest))

  pub scan_segs : (ss : Segs) (rest : List RowPart) → scan (segs_parts ss ++ rest) ≡ seen ss (scan rest)
  scan_segs no_segs rest = refl
  scan_segs (seg before nodes suffix ss) rest =
      let after = segs_parts ss ++ rest in
      let ended = segment_end ∷ (beside_part suffix ++ after) in
      rw (seg_joined before nodes suffix ss rest, scan_above before (items_parts nodes ++ ended), scan_items nodes ended, scan_beside suffix after, scan_segs ss rest) (seg_seen before nodes suffix ss (scan rest))
