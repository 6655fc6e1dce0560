-- Where a segment ends: lengths of its comments and nodes, by its parts.
use Rattle.std.proofs.Common.{◌≡◌, ℕ, zero, suc, ◌+◌, List, [], ◌∷◌, ◌++◌, map, length, refl, ap, ◌∙◌, arith, append_assoc, length-append, Option, Some, None, Bool, true, false}
use Rattle.bz_tree.specs.declared.tree.GroupKind.{GroupKind}
use Rattle.bz_tree.specs.Tree.{Item, leaf, group, Items, no_items, item, Segs, no_segs, seg, items_of}
use Rattle.bz_tree.specs.Rows.{RowPart, opening, closing, segment_end, above, beside_part, item_parts, items_parts, segs_parts}
use Rattle.bz_attribute.specs.private.Parts.{above_len, parts_len}

abbrev IsPassed : Bool → ℕ → ℕ → List RowPart → List RowPart → Type 0
IsPassed b d e ps rest = parts_len b d (ps ++ rest) ≡ length ps + parts_len b e rest

join : (b : Bool) (d e f : ℕ) (ps qs rest : List RowPart) → IsPassed b d e ps (qs ++ rest) → IsPassed b e f qs rest → IsPassed b d f (ps ++ qs) rest
join b d e f ps qs rest x y = ap (parts_len b d) (append_assoc ps qs rest) ∙ omega (arith, x, y, length-append ps qs)

pass_above : (b : Bool) (d : ℕ) (texts : List (List ℕ)) (rest : List RowPart) → IsPassed b d d (map above texts) rest
pass_above b d [] rest = omega arith
pass_above b zero (text ∷ texts) rest = omega (arith, pass_above b zero texts rest)
pass_above b (suc d) (text ∷ texts) rest = omega (arith, pass_above b (suc d) texts rest)

pass_beside : (b : Bool) (d : ℕ) (suffix : Option (List ℕ)) (rest : List RowPart) → IsPassed b d d (beside_part suffix) rest
pass_beside b d None rest = omega arith
pass_beside b zero (Some text) rest = omega arith
pass_beside b (suc d) (Some text) rest = omega arith

opened : (b : Bool) (d : ℕ) (kind : GroupKind) (ps rest : List RowPart) → IsPassed b (suc d) d ps rest → IsPassed b d d (opening kind ∷ ps) rest
opened b zero kind ps rest h = omega (arith, h)
opened b (suc d) kind ps rest h = omega (arith, h)

-- the end of a segment is passed
abbrev GoesOn : Bool → ℕ → Type 0
GoesOn b d = (ps : List RowPart) → parts_len b d (segment_end ∷ ps) ≡ suc (parts_len b d ps)

ended : (b : Bool) (d : ℕ) (ps rest : List RowPart) → GoesOn b d → IsPassed b d d ps rest → IsPassed b d d (segment_end ∷ ps) rest
ended b d ps rest goes h = omega (arith, goes (ps ++ rest), h)

mutual
  pass_item : (b : Bool) (d : ℕ) (x : Item) (rest : List RowPart) → IsPassed b d d (item_parts x) rest
  pass_item b zero (leaf kind text) rest = omega arith
  pass_item b (suc d) (leaf kind text) rest = omega arith
  pass_item b d (group kind segs one_comma end) rest =
      let inner = join b (suc d) (suc d) d (segs_parts segs) (map above end ++ closing one_comma ∷ []) rest
      (pass_segs b (suc d) segs ((map above end ++ closing one_comma ∷ []) ++ rest) (λ ps. refl))
      (join b (suc d) (suc d) d (map above end) (closing one_comma ∷ []) rest (pass_above b (suc d) end (closing one_comma ∷ rest)) (omega arith)) in
      opened b d kind (segs_parts segs ++ (map above end ++ closing one_comma ∷ [])) rest inner

  pub pass_items : (b : Bool) (d : ℕ) (xs : Items) (rest : List RowPart) → IsPassed b d d (items_parts xs) rest
  pass_items b d no_items rest = omega arith
  pass_items b d (item x xs) rest = join b d d d (item_parts x) (items_parts xs) rest (pass_item b d x (items_parts xs ++ rest)) (pass_items b d xs rest)

  pass_segs : (b : Bool) (d : ℕ) (ss : Segs) (rest : List RowPart) → GoesOn b d → IsPassed b d d (segs_parts ss) rest
  pass_segs b d no_segs rest goes = omega arith
  pass_segs b d (seg before nodes suffix ss) rest goes =
      let later : List RowPart = beside_part suffix ++ segs_parts ss in
      join b d d d (map above before) (items_parts nodes ++ segment_end ∷ later) rest (pass_above b d before ((items_parts nodes ++ segment_end ∷ later) ++ rest))
      (join b d d d (items_parts nodes) (segment_end ∷ later) rest (pass_items b d nodes ((segment_end ∷ later) ++ rest))
      (ended b d later rest goes (join b d d d (beside_part suffix) (segs_parts ss) rest (pass_beside b d suffix (segs_parts ss ++ rest)) (pass_segs b d ss rest goes))))

-- the nodes of a segment end at its end
pub nodes_ended : (xs : Items) (rest : List RowPart) → parts_len true 0 (items_parts xs ++ segment_end ∷ rest) ≡ length (items_parts xs)
nodes_ended xs rest = pass_items true 0 xs (segment_end ∷ rest) ∙ omega arith

-- what stands in brackets ends where they close
pub segs_ended : (segs : Segs) (end : List (List ℕ)) (one_comma : Bool) (rest : List RowPart) → parts_len false 0 (segs_parts segs ++ (map above end ++ closing one_comma ∷ rest)) ≡ length (segs_parts segs) + length (map above end)
segs_ended segs end one_comma rest = omega (arith, pass_segs false 0 segs (map above end ++ closing one_comma ∷ rest) (λ ps. refl), pass_above false 0 end (closing one_comma ∷ rest))

-- the comments above it
pub above_passed : (texts : List (List ℕ)) (rest : List RowPart) → above_len (map above texts ++ rest) ≡ length texts + above_len rest
above_passed [] rest = omega arith
above_passed (text ∷ texts) rest = omega (arith, above_passed texts rest)

pub none_above : (xs : List Item) (k : GroupKind) (rest : List RowPart) → above_len (items_parts (items_of xs) ++ opening k ∷ rest) ≡ 0
none_above [] k rest = refl
none_above (leaf kind text ∷ xs) k rest = refl
none_above (group l segs one_comma end ∷ xs) k rest = refl

pub no_more_above : (xs : Items) (rest : List RowPart) → above_len (items_parts xs ++ segment_end ∷ rest) ≡ 0
no_more_above no_items rest = refl
no_more_above (item (leaf kind text) xs) rest = refl
no_more_above (item (group kind segs one_comma end) xs) rest = refl
