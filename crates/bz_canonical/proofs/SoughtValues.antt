-- A string that is an element of a list in an argument stands in the lines of the argument.
use Rattle.std.proofs.Common.{◌≡◌, ℕ, ◌+◌, List, [], ◌∷◌, ◌++◌, Bool, true, false, ◌||◌, Option, Some, None, if◌then◌else◌, drop, refl, sym, ap, ◌∙◌, subst, append_assoc, inl, inr}
use Rattle.std.specs.Prelude.{bytes_eq, codes, cond}
use Rattle.std.specs.List.{cons_option, filter_map, list_all, list_any, onto_first, slice_split}
use Rattle.std.proofs.lemmas.Bool.{false≢true, or_cases}
use Rattle.std.proofs.lemmas.Slice.Eq.{bytes_eq-Decides}
use Rattle.bz_token.specs.Common.{map_or}
use Rattle.bz_token.specs.declared.token.Kind.{Kind}
use Rattle.bz_token.specs.declared.token.Kind.TheVariants.{Operator, String}
use Rattle.bz_tree.specs.declared.tree.GroupKind.{GroupKind}
use Rattle.bz_tree.specs.declared.tree.GroupKind.TheVariants.{List as ListKind, RuleCall}
use Rattle.bz_tree.specs.Tree.{Item, leaf, group, Items, no_items, item, Segs, no_segs, seg, Segment, items_of, list_of, segments, is_operator_item}
use Rattle.bz_layout.specs.declared.spacing.Edge.{Edge}
use Rattle.bz_layout.specs.declared.spacing.Edge.TheVariants.{Start}
use Rattle.bz_layout.specs.declared.spacing.Gap.{Gap}
use Rattle.bz_layout.specs.declared.spacing.Gap.TheVariants.{Closed, Line, Space}
use Rattle.bz_layout.specs.Pieces.{Piece, bytes_of, comma_if, comments, gap_bytes, piece, suffix_piece}
use Rattle.bz_layout.specs.Walked.{closing, count, edge_after, gap_before, is_broken, opening, segs_hold}
use Rattle.bz_layout.specs.Layout.{has_commas}
use Rattle.bz_layout.proofs.Pieces.{bytes_append}
use Rattle.bz_layout_laws.specs.FreeLayout.{Choice, breaks_by, broken_by, flat_by, following, inside, item_by, item_spelled_by, items_by, items_spelled_by, segs_spelled_by, text_of}
use Rattle.bz_layout_laws.proofs.SameInside.{items_same}
use Rattle.bz_label.specs.Endings.{is_in}
use Rattle.bz_label.proofs.PlainValues.{IsIn}
use Rattle.bz_label.proofs.Standing.{is_there}
use Rattle.bz_attribute.specs.Lists.{may_be_in_sum, only_list, parts, pieces}
use Rattle.bz_attribute.specs.Rules.{only_text, value}
use Rattle.bz_canonical.specs.Spans.{has_literal}
use Rattle.bz_canonical.specs.private.Placed.{IsPlaced, Placed, placed_lines}

-- texts in texts

after_text : {t : List ℕ} (a b : List ℕ) → IsIn t b → IsIn t (a ++ b)
after_text {t} a b h = record { front = a ++ h.front; back = h.back; is = ap (λ (x : List ℕ). a ++ x) h.is ∙ sym (append_assoc a h.front (t ++ h.back)) }

before_text : {t : List ℕ} (a b : List ℕ) → IsIn t a → IsIn t (a ++ b)
before_text {t} a b h = record { front = h.front; back = h.back ++ b; is = ap (λ (x : List ℕ). x ++ b) h.is ∙ append_assoc h.front (t ++ h.back) b ∙ ap (λ (x : List ℕ). h.front ++ x) (append_assoc t h.back b) }

after_pieces : {t : List ℕ} (P Q : List Piece) → IsIn t (bytes_of Q) → IsIn t (bytes_of (P ++ Q))
after_pieces {t} P Q h = subst (IsIn t) (sym (bytes_append P Q)) (after_text (bytes_of P) (bytes_of Q) h)

before_pieces : {t : List ℕ} (P Q : List Piece) → IsIn t (bytes_of P) → IsIn t (bytes_of (P ++ Q))
before_pieces {t} P Q h = subst (IsIn t) (sym (bytes_append P Q)) (before_text (bytes_of P) (bytes_of Q) h)

after_piece : {t : List ℕ} (gap : Gap) (kind : Kind) (text : List ℕ) (Q : List Piece) → IsIn t (bytes_of Q) → IsIn t (bytes_of (piece gap kind text ∷ Q))
after_piece gap kind text Q h = after_pieces (piece gap kind text ∷ []) Q h

-- a string that passes the test, as an element
pub record Found (q : Segment → Bool) (R : List ℕ → Type 0) : Type 0 where
  pub text : (s : Segment) → q s ≡ true → (t : List ℕ) × (s.nodes ≡ leaf String t ∷ []) × R t

-- it stands in the text
abbrev Stands : (R : List ℕ → Type 0) → List Piece → Type 0
Stands R P = (t : List ℕ) × R t × IsIn t (bytes_of P)

abbrev nodes_in : Segs → Items
nodes_in no_segs = no_items
nodes_in (seg before nodes suffix ss) = nodes

abbrev segs_after : Segs → Segs
segs_after no_segs = no_segs
segs_after (seg before nodes suffix ss) = ss

abbrev segs_in : Item → Segs
segs_in (leaf kind text) = no_segs
segs_in (group kind segs one_comma end) = segs

abbrev first_in : Items → Item
first_in no_items = leaf String []
first_in (item x xs) = x

abbrev items_after : Items → Items
items_after no_items = no_items
items_after (item x xs) = xs

abbrev text_in : Item → List ℕ
text_in (leaf kind text) = text
text_in (group kind segs one_comma end) = []

-- an element
element_stands : (R : List ℕ → Type 0) (c : Choice) (level : ℕ) (within : Option GroupKind) (first : Gap) (left : Edge) (nodes : Items) (t : List ℕ) → list_of nodes ≡ leaf String t ∷ [] → R t → items_spelled_by c nodes ≡ nodes
    → Stands R (items_by c level within first left nodes)
element_stands R c level within first left nodes t is r spelled =
    let one : nodes ≡ item (leaf String t) no_items = sym (items_same nodes) ∙ ap items_of is in
    let text : text_of (inside c) String t ≡ t = ap (λ xs. text_in (first_in xs)) (ap (items_spelled_by c) (sym one) ∙ spelled ∙ one) in (
      t,
      r,
      subst (λ (xs : Items). IsIn t (bytes_of (items_by c level within first left xs))) (sym one)
          (record { front = gap_bytes (gap_before first left (leaf String t)); back = []; is = ap (λ (x : List ℕ). gap_bytes (gap_before first left (leaf String t)) ++ (x ++ [])) text }),
    )

-- elements on lines, and in place
lines_stand : (q : Segment → Bool) (R : List ℕ → Type 0) → Found q R → (c : Choice) (level : ℕ) (kind : GroupKind) (comma : Bool) (ss : Segs) → segs_spelled_by c ss ≡ ss → list_any q (segments ss) ≡ true
    → Stands R (broken_by c level kind comma ss)
lines_stand q R f c level kind comma no_segs spelled some = absurd (false≢true some)
lines_stand q R f c level kind comma (seg before nodes suffix ss) spelled some =
    elim (or_cases (q (record { before = before; nodes = list_of nodes; suffix = suffix })) (list_any q (segments ss)) some) [
      | inl here ↦
          let t = f.text (record { before = before; nodes = list_of nodes; suffix = suffix }) here in
          let stands = element_stands R (inside c) level (Some kind) (Line level) Start nodes t.0 t.1 t.2 (ap nodes_in spelled) in
          (stands.0, stands.1, after_pieces (comments level before) _ (before_pieces (items_by (inside c) level (Some kind) (Line level) Start nodes) _ stands.2))
      | inr later ↦
          let stands = lines_stand q R f (following c) level kind comma ss (ap segs_after spelled) later in (
            stands.0,
            stands.1,
            after_pieces (comments level before) _
                (after_pieces (items_by (inside c) level (Some kind) (Line level) Start nodes) _ (after_pieces (comma_if comma) _ (after_pieces (suffix_piece suffix) (broken_by (following c) level kind comma ss) stands.2))),
          )
    ]

place_stands : (q : Segment → Bool) (R : List ℕ → Type 0) → Found q R → (c : Choice) (level : ℕ) (kind : GroupKind) (first : Bool) (ss : Segs) → segs_spelled_by c ss ≡ ss → list_any q (segments ss) ≡ true
    → Stands R (flat_by c level kind first ss)
place_stands q R f c level kind first no_segs spelled some = absurd (false≢true some)
place_stands q R f c level kind first (seg before nodes suffix ss) spelled some =
    elim (or_cases (q (record { before = before; nodes = list_of nodes; suffix = suffix })) (list_any q (segments ss)) some) [
      | inl here ↦
          let t = f.text (record { before = before; nodes = list_of nodes; suffix = suffix }) here in
          let stands = by first t.0 t.1 t.2 in
          (stands.0, stands.1, before_pieces (one first) (flat_by (following c) level kind false ss) stands.2)
      | inr later ↦
          let stands = place_stands q R f (following c) level kind false ss (ap segs_after spelled) later in
          (stands.0, stands.1, after_pieces (one first) (flat_by (following c) level kind false ss) stands.2)
    ]
  where
    one : Bool → List Piece
    one first = if first then items_by (inside c) level (Some kind) Closed Start nodes else piece Closed Operator (codes ",") ∷ items_by (inside c) level (Some kind) Space Start nodes

    by : (first : Bool) (t : List ℕ) → list_of nodes ≡ leaf String t ∷ [] → R t → Stands R (one first)
    by true t is r = element_stands R (inside c) level (Some kind) Closed Start nodes t is r (ap nodes_in spelled)
    by false t is r =
        let stands = element_stands R (inside c) level (Some kind) Space Start nodes t is r (ap nodes_in spelled) in
        (stands.0, stands.1, after_piece Closed Operator (codes ",") (items_by (inside c) level (Some kind) Space Start nodes) stands.2)

-- a list
abbrev lists_one : (Segment → Bool) → Item → Bool
lists_one q (group ListKind segs one_comma end) = list_any q (segments segs)
lists_one q _ = false

list_stands : (q : Segment → Bool) (R : List ℕ → Type 0) → Found q R → (c : Choice) (level : ℕ) (gap : Gap) (x : Item) → item_spelled_by c x ≡ x → lists_one q x ≡ true → Stands R (item_by c level gap x)
list_stands q R f c level gap (group ListKind segs one_comma end) spelled some =
    let stands = by (breaks_by c (is_broken ListKind segs end (segs_hold segs))) in
    (stands.0, stands.1, after_piece gap Operator (opening ListKind) (lines (breaks_by c (is_broken ListKind segs end (segs_hold segs)))) stands.2)
  where
    lines : Bool → List Piece
    lines b = if b then broken_by (inside c) (level + 1) ListKind (has_commas ListKind one_comma (count segs)) segs ++ (comments (level + 1) end ++ piece (Line level) Operator (closing ListKind) ∷ [])
        else flat_by (inside c) level ListKind true segs ++ (comma_if one_comma ++ piece Closed Operator (closing ListKind) ∷ [])

    by : (b : Bool) → Stands R (lines b)
    by true = let stands = lines_stand q R f (inside c) (level + 1) ListKind (has_commas ListKind one_comma (count segs)) segs (ap segs_in spelled) some in
        (stands.0, stands.1, before_pieces (broken_by (inside c) (level + 1) ListKind (has_commas ListKind one_comma (count segs)) segs) (comments (level + 1) end ++ piece (Line level) Operator (closing ListKind) ∷ []) stands.2)
    by false = let stands = place_stands q R f (inside c) level ListKind true segs (ap segs_in spelled) some in
        (stands.0, stands.1, before_pieces (flat_by (inside c) level ListKind true segs) (comma_if one_comma ++ piece Closed Operator (closing ListKind) ∷ []) stands.2)
list_stands q R f c level gap (leaf kind text) spelled some = absurd (false≢true some)
list_stands q R f c level gap (group _ segs one_comma end) spelled some = absurd (false≢true some)

-- nodes
nodes_stand : (q : Segment → Bool) (R : List ℕ → Type 0) → Found q R → (c : Choice) (level : ℕ) (within : Option GroupKind) (first : Gap) (left : Edge) (xs : List Item) → items_spelled_by c (items_of xs) ≡ items_of xs
    → list_any (lists_one q) xs ≡ true → Stands R (items_by c level within first left (items_of xs))
nodes_stand q R f c level within first left [] spelled some = absurd (false≢true some)
nodes_stand q R f c level within first left (x ∷ xs) spelled some =
    elim (or_cases (lists_one q x) (list_any (lists_one q) xs) some) [
      | inl here ↦ let stands = list_stands q R f (inside c) level (gap_before first left x) x (ap first_in spelled) here in (stands.0, stands.1, before_pieces (item_by (inside c) level (gap_before first left x) x) (items_by (following c) level within first (edge_after within left x) (items_of xs)) stands.2)
      | inr later ↦
          let stands = nodes_stand q R f (following c) level within first (edge_after within left x) xs (ap items_after spelled) later in
          (stands.0, stands.1, after_pieces (item_by (inside c) level (gap_before first left x) x) (items_by (following c) level within first (edge_after within left x) (items_of xs)) stands.2)
    ]

-- the list parts of a value are among its nodes

abbrev piece_lists : (Segment → Bool) → List Item → Bool
piece_lists q piece = map_or false (list_any q) (only_list piece)

in_pieces : (q : Segment → Bool) (ps : List (List Item)) → list_any (list_any q) (filter_map only_list ps) ≡ list_any (piece_lists q) ps
in_pieces q [] = refl
in_pieces q (p ∷ ps) =
    elim (only_list p) as (λ o. list_any (list_any q) (cons_option o (filter_map only_list ps)) ≡ (map_or false (list_any q) o || list_any (piece_lists q) ps))
    [ None ↦ in_pieces q ps | Some l ↦ ap (λ b. list_any q l || b) (in_pieces q ps) ]

piece_one : (q : Segment → Bool) (x : Item) (xs : List Item) → piece_lists q (x ∷ xs) ≡ true → lists_one q x ≡ true
piece_one q (group ListKind segs one_comma end) [] is = is
piece_one q (leaf kind text) xs is = absurd (false≢true is)
piece_one q (group _ segs one_comma end) xs is = absurd (false≢true is)

onto_pieces : (q : Segment → Bool) (x : Item) (l : List (List Item)) → list_any (piece_lists q) (onto_first x l) ≡ true → (lists_one q x || list_any (piece_lists q) l) ≡ true
onto_pieces q x [] is = elim (or_cases (piece_lists q (x ∷ [])) false is) [ inl here ↦ rw (piece_one q x [] here) refl | inr none ↦ absurd (false≢true none) ]
onto_pieces q x (p ∷ ps) is = elim (or_cases (piece_lists q (x ∷ p)) (list_any (piece_lists q) ps) is) [
  | inl here ↦ rw (piece_one q x p here) refl
  | inr later ↦ by (lists_one q x) (piece_lists q p) (list_any (piece_lists q) ps) later
]
  where
    by : (a b c : Bool) → c ≡ true → (a || (b || c)) ≡ true
    by true b c is = refl
    by false true c is = refl
    by false false c is = is

or_yes : (a b : Bool) → b ≡ true → (a || b) ≡ true
or_yes true b is = refl
or_yes false b is = is

either_there : (a b d : Bool) → (a || b) ≡ true → (b ≡ true → d ≡ true) → (a || d) ≡ true
either_there true b d some more = refl
either_there false b d some more = more some

split_lists : (q : Segment → Bool) (p : Item → Bool) (xs : List Item) → list_any (piece_lists q) (slice_split p xs) ≡ true → list_any (lists_one q) xs ≡ true
split_lists q p [] is = absurd (false≢true is)
split_lists q p (x ∷ xs) is =
    let more = split_lists q p xs in
    elim (p x) as (λ b. list_any (piece_lists q) (cond b ([] ∷ slice_split p xs) (onto_first x (slice_split p xs))) ≡ true → (lists_one q x || list_any (lists_one q) xs) ≡ true) [
      | true ↦ λ here. or_yes (lists_one q x) (list_any (lists_one q) xs) (more here)
      | false ↦ λ here. either_there (lists_one q x) (list_any (piece_lists q) (slice_split p xs)) (list_any (lists_one q) xs) (onto_pieces q x (slice_split p xs) here) more
    ] is

parts_among : (q : Segment → Bool) (nodes : List Item) → list_any (list_any q) (parts nodes) ≡ true → list_any (lists_one q) nodes ≡ true
parts_among q nodes is = by (list_all may_be_in_sum nodes) (sym (in_pieces q (pieces nodes)) ∙ is)
  where
    by : (b : Bool) → list_any (piece_lists q) (if b then slice_split (is_operator_item (codes "+")) nodes else nodes ∷ []) ≡ true → list_any (lists_one q) nodes ≡ true
    by true is = split_lists q (is_operator_item (codes "+")) nodes is
    by false is = elim (or_cases (piece_lists q nodes) false is) [ inl here ↦ whole nodes here | inr none ↦ absurd (false≢true none) ]
      where
        whole : (xs : List Item) → piece_lists q xs ≡ true → list_any (lists_one q) xs ≡ true
        whole [] is = absurd (false≢true is)
        whole (x ∷ xs) is = ap (λ b. b || list_any (lists_one q) xs) (piece_one q x xs is)

dropped : (q : Segment → Bool) (nodes : List Item) → list_any (lists_one q) (drop 2 nodes) ≡ true → list_any (lists_one q) nodes ≡ true
dropped q [] is = is
dropped q (x ∷ []) is = absurd (false≢true is)
dropped q (x ∷ y ∷ xs) is = by (lists_one q x) (lists_one q y) is
  where
    by : (a b : Bool) {c : Bool} → c ≡ true → (a || (b || c)) ≡ true
    by true b is = refl
    by false true is = refl
    by false false is = is

-- an element of a list part of an argument stands in its lines
pub element_in_lines : (depth : ℕ) (q : Segment → Bool) (R : List ℕ → Type 0) → Found q R → (p : Placed) → IsPlaced depth p → list_any (list_any q) (parts (value p.arg)) ≡ true → (t : List ℕ) × R t × IsIn t (placed_lines p)
element_in_lines depth q R f p is some =
    let stands = nodes_stand q R f p.choice 1 (Some RuleCall) (Line 1) Start p.arg.nodes is.spelled (dropped q p.arg.nodes (parts_among q (value p.arg) some)) in
    (stands.0, stands.1, after_pieces (comments 1 p.arg.before) _ (before_pieces (items_by p.choice 1 (Some RuleCall) (Line 1) Start (items_of p.arg.nodes)) _ stands.2))

-- a literal, as an element
found_literal : (text : List ℕ) → Found (λ s. map_or false (bytes_eq text) (only_text s.nodes)) (λ t. t ≡ text)
found_literal text = record { text = λ s is. of s.nodes is }
  where
    of : (nodes : List Item) → map_or false (bytes_eq text) (only_text nodes) ≡ true → (t : List ℕ) × (nodes ≡ leaf String t ∷ []) × (t ≡ text)
    of [] is = absurd (false≢true is)
    of (leaf String t ∷ []) is = (t, refl, sym ((bytes_eq-Decides text t).0 is))
    of (leaf String t ∷ x ∷ xs) is = absurd (false≢true is)
    of (leaf _ t ∷ xs) is = absurd (false≢true is)
    of (group kind segs one_comma end ∷ xs) is = absurd (false≢true is)

pub literal_in_lines : (depth : ℕ) (p : Placed) → IsPlaced depth p → (text : List ℕ) → has_literal text p.arg ≡ true → is_in text (placed_lines p) ≡ true
literal_in_lines depth p is text some =
    let at = element_in_lines depth (λ s. map_or false (bytes_eq text) (only_text s.nodes)) (λ t. t ≡ text) (found_literal text) p is some in
    ap (λ t. is_in t (placed_lines p)) (sym at.1) ∙ is_there at.0 (placed_lines p) at.2
