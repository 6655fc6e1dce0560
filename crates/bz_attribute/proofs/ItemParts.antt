-- Items by their parts: where they end, and what the parts with which they begin tell.
use Rattle.std.proofs.Common.{◌≡◌, ℕ, ◌+◌, ◌<◌, ◌≤◌, min, List, [], ◌∷◌, ◌++◌, Bool, true, false, map, length, drop, get_or, refl, ap, sym, ◌∙◌, arith, append_assoc, length-append, length-drop, drop-drop}
use Rattle.std.specs.List.{drop-map}
use Rattle.std.proofs.lemmas.Bool.{false≢true}
use Rattle.std.proofs.lemmas.List.{drop_all, drop_more, length-map}
use Rattle.std.proofs.Math.Seq.{drop-append_seam}
use Rattle.bz_tree.specs.declared.row.Part.{Part}
use Rattle.bz_tree.specs.declared.tree.GroupKind.{GroupKind}
use Rattle.bz_tree.specs.declared.tree.GroupKind.TheVariants.{List as ListKind}
use Rattle.bz_tree.specs.Tree.{Item, leaf, group, Segs, items_of, segs_of, segments}
use Rattle.bz_tree.specs.Rows.{RowPart, part_view, a_token, opening, closing, segment_end, above, item_parts, items_parts, segs_parts}
use Rattle.bz_attribute.specs.Elements.{ListRest, rest_parts, value_parts}
use Rattle.bz_attribute.specs.Lists as lists
use Rattle.bz_attribute.specs.ListWalk as walk
use Rattle.bz_attribute.specs.private.Parts.{ItemEnds, ends_piece, is_end, may_be_in_sum, is_open, is_plus, opens_list, parts_len}
use Rattle.bz_attribute.proofs.Lengths.{segs_ended}
use Rattle.bz_tree.proofs.Rows.FromParts.{segs_back}

-- the part with which an item begins
abbrev first_of : Item → RowPart
first_of (leaf kind text) = a_token kind text
first_of (group kind segs one_comma end) = opening kind

joint_told : (x : Item) → may_be_in_sum (first_of x) ≡ lists.may_be_in_sum x
joint_told (leaf kind text) = refl
joint_told (group kind segs one_comma end) = refl

plus_told : (x : Item) → is_plus (first_of x) ≡ walk.is_plus x
plus_told (leaf kind text) = refl
plus_told (group kind segs one_comma end) = refl

list_told : (x : Item) → opens_list (first_of x) ≡ walk.is_list x
list_told (leaf kind text) = refl
list_told (group ListKind segs one_comma end) = refl
list_told (group _ segs one_comma end) = refl

-- a part, and those after it
part_at : (ps : List Part) (i : ℕ) (d : Part) → i < length ps → drop i (map part_view ps) ≡ part_view (get_or ps i d) ∷ drop (i + 1) (map part_view ps)
part_at ps i d h = drop-map part_view i ps ∙ ap (map part_view) (drop_more ps i d h) ∙ ap (λ (qs : List RowPart). part_view (get_or ps i d) ∷ qs) (sym (drop-map part_view (i + 1) ps))

-- what stands in brackets, and after them
abbrev pub rest_of : Segs → Bool → List (List ℕ) → List Item → ListRest
rest_of segs one_comma end xs = record { elements = segments segs; end = end; one_comma = one_comma; items = xs }

pub opened : (kind : GroupKind) (segs : Segs) (one_comma : Bool) (end : List (List ℕ)) (xs : List Item) (after : List RowPart)
    → value_parts (group kind segs one_comma end ∷ xs) after ≡ opening kind ∷ rest_parts (rest_of segs one_comma end xs) after
opened kind segs one_comma end xs after =
    let moved : ((segs_parts segs ++ (map above end ++ closing one_comma ∷ [])) ++ items_parts (items_of xs)) ++ segment_end ∷ after ≡ segs_parts segs ++ (map above end ++ closing one_comma ∷ value_parts xs after) = simp append_assoc in
    ap (λ (ps : List RowPart). opening kind ∷ ps) (moved ∙ ap (λ (ss : Segs). segs_parts ss ++ (map above end ++ closing one_comma ∷ value_parts xs after)) (sym (segs_back segs)))

-- where an item ends
first_is : (x : Item) (xs : List Item) (after : List RowPart) (p : RowPart) (qs : List RowPart) → value_parts (x ∷ xs) after ≡ p ∷ qs → first_of x ≡ p
first_is (leaf kind text) xs after p qs h = cc
first_is (group kind segs one_comma end) xs after p qs h = cc

pub token_ended : (ps : List Part) (at : ℕ) (d : Part) → at < length ps → is_open (part_view (get_or ps at d)) ≡ false → ItemEnds (map part_view ps) at (at + 1)
token_ended ps at d h is (leaf kind text) xs after read = refl
token_ended ps at d h is (group kind segs one_comma end) xs after read =
    absurd (false≢true (sym is ∙ ap is_open (sym (first_is (group kind segs one_comma end) xs after _ _ (sym read ∙ part_at ps at d h)))))

pub group_ended : (ps : List Part) (at close result : ℕ) (d : Part) → at < length ps → is_open (part_view (get_or ps at d)) ≡ true → close ≡ at + 1 + parts_len false 0 (drop (at + 1) (map part_view ps))
    → result ≡ min (length ps) (close + 1) → ItemEnds (map part_view ps) at result
group_ended ps at close result d h is close_is result_is (leaf kind text) xs after read = absurd (false≢true (ap is_open (first_is (leaf kind text) xs after _ _ (sym read ∙ part_at ps at d h)) ∙ is))
group_ended ps at close result d h is close_is result_is (group kind segs one_comma end) xs after read =
    let qs : List RowPart = map part_view ps in
    let own : List RowPart = segs_parts (segs_of (segments segs)) in
    let later : List RowPart = closing one_comma ∷ value_parts xs after in
    let inside : drop (at + 1) qs ≡ own ++ (map above end ++ later) = sym (drop-drop 1 at qs) ∙ ap (drop 1) (read ∙ opened kind segs one_comma end xs after) in
    omega (
      arith,
      close_is,
      result_is,
      ap (parts_len false 0) inside,
      segs_ended (segs_of (segments segs)) end one_comma (value_parts xs after),
      ap length inside,
      length-drop (at + 1) qs,
      length-append own (map above end ++ later),
      length-append (map above end) later,
      length-map ps part_view,
      ap (λ (ss : Segs). length (segs_parts ss)) (segs_back segs),
      length-append (segs_parts segs) (map above end ++ closing one_comma ∷ []),
      length-append (map above end) (closing one_comma ∷ []),
    )

-- an item begins at a place: what its first part tells, and where it ends
pub record IsItemAt (nodes : List Item) (after ps : List RowPart) (at : ℕ) (p : RowPart) : Type 0 where
  pub x : Item
  pub xs : List Item
  pub are : nodes ≡ x ∷ xs
  pub joint : may_be_in_sum p ≡ lists.may_be_in_sum x
  pub plus : is_plus p ≡ walk.is_plus x
  pub list : opens_list p ≡ walk.is_list x
  pub long : (end : ℕ) → ItemEnds ps at end → end ≡ at + length (item_parts x)
  pub next : (end : ℕ) → ItemEnds ps at end → drop end ps ≡ value_parts xs after

begins : (x : Item) (xs : List Item) (after ps qs : List RowPart) (at : ℕ) (p : RowPart) → drop at ps ≡ value_parts (x ∷ xs) after → drop at ps ≡ p ∷ qs → IsItemAt (x ∷ xs) after ps at p
begins x xs after ps qs at p read first =
    let cut : drop at ps ≡ item_parts x ++ value_parts xs after = read ∙ append_assoc (item_parts x) (items_parts (items_of xs)) (segment_end ∷ after) in
    let is : first_of x ≡ p = first_is x xs after p qs (sym read ∙ first) in
    record {
      x = x;
      xs = xs;
      are = refl;
      joint = ap may_be_in_sum (sym is) ∙ joint_told x;
      plus = ap is_plus (sym is) ∙ plus_told x;
      list = ap opens_list (sym is) ∙ list_told x;
      long = λ end ends. ends x xs after read;
      next = λ end ends.
          ap (λ (n : ℕ). drop n ps) (ends x xs after read) ∙ sym (drop-drop (length (item_parts x)) at ps)
          ∙ ap (drop (length (item_parts x))) cut ∙ drop-append_seam (item_parts x) (value_parts xs after);
    }

pub item_at : (nodes : List Item) (after : List RowPart) (ps : List Part) (at : ℕ) (d : Part) → drop at (map part_view ps) ≡ value_parts nodes after → at < length ps → is_end (part_view (get_or ps at d)) ≡ false
    → IsItemAt nodes after (map part_view ps) at (part_view (get_or ps at d))
item_at [] after ps at d read h more =
    let both : segment_end ∷ after ≡ part_view (get_or ps at d) ∷ drop (at + 1) (map part_view ps) = sym read ∙ part_at ps at d h in
    let is : segment_end ≡ part_view (get_or ps at d) = cc in
    absurd (false≢true (sym more ∙ ap is_end (sym is)))
item_at (x ∷ xs) after ps at d read h more = begins x xs after (map part_view ps) (drop (at + 1) (map part_view ps)) at (part_view (get_or ps at d)) read (part_at ps at d h)

-- the value ends
no_item : (x : Item) (xs : List Item) (after qs : List RowPart) (p : RowPart) → is_end p ≡ true → value_parts (x ∷ xs) after ≡ p ∷ qs → false ≡ true
no_item (leaf kind text) xs after qs p h both = let is : a_token kind text ≡ p = cc in ap is_end is ∙ h
no_item (group kind segs one_comma end) xs after qs p h both = let is : opening kind ≡ p = cc in ap is_end is ∙ h

pub none_at : (nodes : List Item) (after : List RowPart) (ps : List Part) (at : ℕ) (d : Part) → drop at (map part_view ps) ≡ value_parts nodes after → at < length ps → is_end (part_view (get_or ps at d)) ≡ true → nodes ≡ []
none_at [] after ps at d read h end = refl
none_at (x ∷ xs) after ps at d read h end = absurd (false≢true (no_item x xs after (drop (at + 1) (map part_view ps)) (part_view (get_or ps at d)) end (sym read ∙ part_at ps at d h)))

some_parts : (nodes : List Item) (after : List RowPart) → 1 ≤ length (value_parts nodes after)
some_parts nodes after = omega (arith, length-append (items_parts (items_of nodes)) (segment_end ∷ after))

pub none_after : {P : Type 0} (nodes : List Item) (after : List RowPart) (ps : List Part) (at : ℕ) → drop at (map part_view ps) ≡ value_parts nodes after → length ps ≤ at → P
none_after nodes after ps at read h =
    let none : drop at (map part_view ps) ≡ [] = drop_all at (map part_view ps) (omega (arith, length-map ps part_view, h)) in
    absurd (omega (arith, some_parts nodes after, ap length (sym read ∙ none)))

-- a piece ends after an item
pub piece_told : (xs : List Item) (after : List RowPart) → ends_piece (value_parts xs after) ≡ walk.ends xs
piece_told [] after = refl
piece_told (leaf kind text ∷ xs) after = refl
piece_told (group kind segs one_comma end ∷ xs) after = refl
