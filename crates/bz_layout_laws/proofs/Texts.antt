-- Each piece of a layout is a text of its kind.
use Rattle.std.proofs.Common.{◌≡◌, ℕ, ◌+◌, ◌&&◌, List, [], ◌∷◌, ◌++◌, Bool, true, false, Option, Some, None, refl}
use Rattle.std.specs.Prelude.{codes, if◌then◌else◌}
use Rattle.std.specs.List.{list_all}
use Rattle.std.proofs.lemmas.Bool.{and_parts}
use Rattle.bz_token.specs.declared.token.Kind.{Kind}
use Rattle.bz_token.specs.declared.token.Kind.TheVariants.{Operator, Newline, Comment}
use Rattle.bz_token.specs.Lexical.{operators, is_text, is_comment}
use Rattle.bz_layout_laws.specs.Readable.{are_texts}
use Rattle.bz_tree.specs.declared.tree.GroupKind.{GroupKind}
use Rattle.bz_tree.specs.declared.tree.GroupKind.TheVariants.{Call}
use Rattle.bz_tree.specs.Comments.{beside}
use Rattle.bz_tree.specs.Tree.{Item, leaf, group, Items, no_items, item, Segs, no_segs, seg, Statement, items_of}
use Rattle.bz_layout.specs.declared.spacing.Edge.{Edge}
use Rattle.bz_layout.specs.declared.spacing.Edge.TheVariants.{Start}
use Rattle.bz_layout.specs.declared.spacing.Gap.{Gap}
use Rattle.bz_layout.specs.declared.spacing.Gap.TheVariants.{Closed, Space, Line}
use Rattle.bz_layout.specs.Walked.{edge_after, gap_before, count, is_broken, segs_hold, opening, closing}
use Rattle.bz_layout.specs.Pieces.{Piece, piece, comma_if, comments, comment_lines, suffix_piece}
use Rattle.bz_layout.specs.Layout.{has_commas, is_comment as is_comment_class}
use Rattle.bz_layout_laws.specs.FreeLayout.{Choice, breaks_by, inside, following, item_by, items_by, broken_by, flat_by, statement_by}
use Rattle.bz_layout_laws.specs.Legible.{AreComments, IsLegibleItem, AreLegible, AreLegibleSegs, IsLegible}
use Rattle.bz_layout_laws.specs.ReadPieces.{read_pieces}
use Rattle.bz_layout_laws.proofs.OwnLayout.{line_by}
use Rattle.bz_layout_laws.proofs.TextOf.{text_is}

pub both : (x y : Bool) → x ≡ true → y ≡ true → (x && y) ≡ true
both x y p q = rw (p, q) refl

-- what holds of both ways
pub either_way : (P : List Piece → Type 0) (b : Bool) (ps qs : List Piece) → P ps → P qs → P (if b then ps else qs)
either_way P true ps qs p q = p
either_way P false ps qs p q = q

-- a record, so that its pieces are known from its type
pub record AreWhole (ps : List Piece) : Type 0 where
  pub texts : are_texts (read_pieces ps) ≡ true

whole : {ps : List Piece} → are_texts (read_pieces ps) ≡ true → AreWhole ps
whole h = record { texts = h }

joined_texts : (ps qs : List Piece) → are_texts (read_pieces ps) ≡ true → are_texts (read_pieces qs) ≡ true → are_texts (read_pieces (ps ++ qs)) ≡ true
joined_texts [] qs a b = b
joined_texts (p ∷ ps) qs a b =
    let h = and_parts (is_text p.kind p.text) (are_texts (read_pieces ps)) a in
    both (is_text p.kind p.text) (are_texts (read_pieces (ps ++ qs))) h.0 (joined_texts ps qs h.1 b)

whole_join : {ps qs : List Piece} → AreWhole ps → AreWhole qs → AreWhole (ps ++ qs)
whole_join {ps} {qs} a b = whole (joined_texts ps qs a.texts b.texts)

whole_more : {ps : List Piece} (gap : Gap) (kind : Kind) (text : List ℕ) → is_text kind text ≡ true → AreWhole ps → AreWhole (piece gap kind text ∷ ps)
whole_more {ps} gap kind text h a = whole (both (is_text kind text) (are_texts (read_pieces ps)) h a.texts)

whole_piece : (gap : Gap) (kind : Kind) (text : List ℕ) → is_text kind text ≡ true → AreWhole (piece gap kind text ∷ [])
whole_piece gap kind text h = whole (both (is_text kind text) true h refl)

pub comma_text : is_text Operator (codes ",") ≡ true
unfolding operators
comma_text = refl

pub opening_text : (kind : GroupKind) → is_text Operator (opening kind) ≡ true
unfolding operators
opening_text Call = refl
opening_text _ = refl

pub closing_text : (kind : GroupKind) → is_text Operator (closing kind) ≡ true
unfolding operators
closing_text Call = refl
closing_text _ = refl

comma_whole : (b : Bool) → AreWhole (comma_if b)
comma_whole true = whole_piece Closed Operator (codes ",") comma_text
comma_whole false = whole refl

comments_whole : (level : ℕ) (texts : List (List ℕ)) → AreComments texts → AreWhole (comments level texts)
comments_whole level [] h = whole refl
comments_whole level (text ∷ texts) h =
    let p = and_parts (is_comment text) (list_all is_comment texts) h in
    whole_more (Line level) Comment text p.0 (comments_whole level texts p.1)

suffix_whole : (suffix : Option (List ℕ)) → AreComments (beside suffix) → AreWhole (suffix_piece suffix)
suffix_whole None h = whole refl
suffix_whole (Some text) h = whole h

lines_whole : (texts : List (List ℕ)) → AreComments texts → AreWhole (comment_lines texts)
lines_whole [] h = whole refl
lines_whole (text ∷ texts) h =
    let p = and_parts (is_comment text) (list_all is_comment texts) h in
    whole_more Closed Comment text p.0 (whole_more Closed Newline (codes "\n") refl (lines_whole texts p.1))

mutual
  item_whole : (c : Choice) (level : ℕ) (gap : Gap) (x : Item) → IsLegibleItem x → AreWhole (item_by c level gap x)
  item_whole c level gap (leaf kind text) h = whole_piece gap kind _ (text_is c kind text h.0)
  item_whole c level gap (group kind segs one_comma end) h =
      let comma = has_commas kind one_comma (count segs) in
      let last : List Piece = piece (Line level) Operator (closing kind) ∷ [] in
      let close : List Piece = piece Closed Operator (closing kind) ∷ [] in
      whole_more gap Operator (opening kind) (opening_text kind)
      (either_way AreWhole (breaks_by c (is_broken kind segs end (segs_hold segs))) (broken_by (inside c) (level + 1) kind comma segs ++ (comments (level + 1) end ++ last)) (flat_by (inside c) level kind true segs ++ (comma_if one_comma ++ close))
      (whole_join (broken_whole (inside c) (level + 1) kind comma segs h.0) (whole_join (comments_whole (level + 1) end h.1) (whole_piece (Line level) Operator (closing kind) (closing_text kind))))
      (whole_join (flat_whole (inside c) level kind true segs h.0) (whole_join (comma_whole one_comma) (whole_piece Closed Operator (closing kind) (closing_text kind)))))

  items_whole : (c : Choice) (level : ℕ) (within : Option GroupKind) (first : Gap) (left : Edge) (xs : Items) → AreLegible within left xs → AreWhole (items_by c level within first left xs)
  items_whole c level within first left no_items h = whole refl
  items_whole c level within first left (item x xs) h =
      whole_join (item_whole (inside c) level (gap_before first left x) x h.1) (items_whole (following c) level within first (edge_after within left x) xs h.2)

  broken_whole : (c : Choice) (level : ℕ) (kind : GroupKind) (comma : Bool) (ss : Segs) → AreLegibleSegs kind ss → AreWhole (broken_by c level kind comma ss)
  broken_whole c level kind comma no_segs h = whole refl
  broken_whole c level kind comma (seg before nodes suffix ss) h =
      whole_join (comments_whole level before h.0)
      (whole_join (items_whole (inside c) level (Some kind) (Line level) Start nodes h.2)
      (whole_join (comma_whole comma) (whole_join (suffix_whole suffix h.3) (broken_whole (following c) level kind comma ss h.4))))

  flat_whole : (c : Choice) (level : ℕ) (kind : GroupKind) (first : Bool) (ss : Segs) → AreLegibleSegs kind ss → AreWhole (flat_by c level kind first ss)
  flat_whole c level kind first no_segs h = whole refl
  flat_whole c level kind true (seg before nodes suffix ss) h =
      whole_join (items_whole (inside c) level (Some kind) Closed Start nodes h.2) (flat_whole (following c) level kind false ss h.4)
  flat_whole c level kind false (seg before nodes suffix ss) h =
      whole_more Closed Operator (codes ",") comma_text (whole_join (items_whole (inside c) level (Some kind) Space Start nodes h.2) (flat_whole (following c) level kind false ss h.4))

newline_whole : AreWhole (piece Closed Newline (codes "\n") ∷ [])
newline_whole = whole refl

pub line_whole : (c : Choice) (s : Statement) → IsLegible s → AreWhole (line_by c s)
line_whole c s h =
    whole_join (items_whole c 0 None Closed Start (items_of s.nodes) h.nodes) (whole_join (suffix_whole s.suffix h.suffix) newline_whole)

pub whole_by : (c : Choice) (s : Statement) → IsLegible s → AreWhole (statement_by c s)
whole_by c s h = whole_join (lines_whole s.before h.before) (either_way AreWhole (is_comment_class s.class) [] (line_by c s) (whole refl) (line_whole c s h))
