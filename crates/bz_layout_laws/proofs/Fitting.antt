-- The gaps and brackets of a layout fit: each group leaves the open brackets as they were.
use Rattle.std.proofs.Common.{◌≡◌, ℕ, zero, suc, ◌+◌, ◌≤◌, ◌&&◌, List, [], ◌∷◌, ◌++◌, length, Bool, true, false, Option, Some, None, refl, ap, ◌∙◌, arith}
use Rattle.std.specs.Prelude.{codes, max, nat_lt, if◌then◌else◌}
use Rattle.std.specs.List.{list_all}
use Rattle.std.proofs.Math.Nat.{le-max_left, le-max_right}
use Rattle.std.proofs.lemmas.Bool.{and_parts}
use Rattle.std.proofs.lemmas.Bool.Decides.{nat_tests}
use Rattle.std.proofs.lemmas.List.{map-append}
use Rattle.bz_token.proofs.Units.{gap_step}
use Rattle.bz_token.specs.declared.token.Kind.{Kind}
use Rattle.bz_token.specs.declared.token.Kind.TheVariants.{Operator as OperatorToken, Newline, Comment}
use Rattle.bz_token.specs.Lexical.{is_comment}
use Rattle.bz_token.specs.Brackets.{is_inside, is_line, fits}
use Rattle.bz_token.specs.Reading.{is_gap, open_after}
use Rattle.bz_layout_laws.specs.Readable.{are_fitting}
use Rattle.bz_layout_laws.proofs.Readable.{fitting_join, open_join}
use Rattle.bz_tree.specs.declared.tree.GroupKind.{GroupKind}
use Rattle.bz_tree.specs.declared.tree.GroupKind.TheVariants.{Call, RuleCall, Load, Paren, List as ListKind, Index, Dict, ListComp, DictComp}
use Rattle.bz_tree.specs.Comments.{beside}
use Rattle.bz_tree.specs.Tree.{Item, leaf, group, Items, no_items, item, Segs, no_segs, seg, Statement, items_of}
use Rattle.bz_layout.specs.declared.spacing.Edge.{Edge}
use Rattle.bz_layout.specs.declared.spacing.Edge.TheVariants.{Start, Joined, Dotted, Operator, Operand}
use Rattle.bz_layout.specs.declared.spacing.Gap.{Gap}
use Rattle.bz_layout.specs.declared.spacing.Gap.TheVariants.{Closed, Space, Apart, Line}
use Rattle.bz_layout.specs.Walked.{no_space_before, edge_after, gap_before, count, is_broken, segs_hold, opening, closing}
use Rattle.bz_layout.specs.Pieces.{Piece, piece, indent, gap_bytes, comma_if, comments, comment_lines, suffix_piece}
use Rattle.bz_layout.specs.Layout.{has_commas, is_comment as is_comment_class}
use Rattle.bz_layout_laws.specs.FreeLayout.{Choice, breaks_by, inside, following, text_of, item_by, items_by, broken_by, flat_by, statement_by}
use Rattle.bz_layout_laws.specs.Legible.{AreComments, IsLegibleItem, AreLegible, AreLegibleSegs, IsLegible, is_leaf_mark, item_depth, items_depth, segs_depth, depth_of}
use Rattle.bz_layout_laws.specs.ReadPieces.{read_piece, read_pieces}
use Rattle.bz_layout_laws.proofs.OwnLayout.{line_by}
use Rattle.bz_layout_laws.proofs.TextOf.{text_is, mark_is}
use Rattle.bz_layout_laws.proofs.Texts.{both, either_way}
use Rattle.bz_layout_laws.proofs.NoBrackets.{is_free, free_fits, free_open, other_free, leaf_free, leaf_line}

-- the pieces fit where these brackets are open, and leave those
pub record Fits (depth : ℕ) (opened : List ℕ) (ps : List Piece) (left : List ℕ) : Type 0 where
  pub fitting : are_fitting depth opened (read_pieces ps) ≡ true
  pub leaves : open_after opened (read_pieces ps) ≡ left

fits_join : {depth : ℕ} {opened mid left : List ℕ} {ps qs : List Piece} → Fits depth opened ps mid → Fits depth mid qs left → Fits depth opened (ps ++ qs) left
fits_join {depth} {opened} {mid} {left} {ps} {qs} a b = record {
  fitting = ap (are_fitting depth opened) (map-append read_piece ps qs) ∙ fitting_join depth opened (read_pieces ps) (read_pieces qs)
      ∙ both _ _ a.fitting (ap (λ o. are_fitting depth o (read_pieces qs)) a.leaves ∙ b.fitting);
  leaves = ap (open_after opened) (map-append read_piece ps qs) ∙ open_join opened (read_pieces ps) (read_pieces qs) ∙ ap (λ o. open_after o (read_pieces qs)) a.leaves ∙ b.leaves;
}

fits_none : {depth : ℕ} {opened : List ℕ} → Fits depth opened [] opened
fits_none = record { fitting = refl; leaves = refl }

abbrev Stands : List ℕ → Gap → Type 0
Stands opened gap = is_gap (is_inside opened) (gap_bytes gap) ≡ true

-- a new line may stand inside a bracket
indent_stands : (n : ℕ) → is_gap true (indent n) ≡ true
indent_stands zero = refl
indent_stands (suc n) =
    gap_step true 32 (32 ∷ 32 ∷ 32 ∷ indent n) ∙ gap_step true 32 (32 ∷ 32 ∷ indent n) ∙ gap_step true 32 (32 ∷ indent n) ∙ gap_step true 32 (indent n)
    ∙ indent_stands n

line_stands : (level : ℕ) → is_gap true (gap_bytes (Line level)) ≡ true
line_stands level = gap_step true 10 (indent level) ∙ indent_stands level

fits_free : (depth : ℕ) (opened : List ℕ) (gap : Gap) (kind : Kind) (text : List ℕ) → Stands opened gap → is_free text ≡ true → is_line kind ≡ false → Fits depth opened (piece gap kind text ∷ []) opened
fits_free depth opened gap kind text stands free line = record {
  fitting = both _ true (both (is_gap (is_inside opened) (gap_bytes gap)) (fits depth opened kind text) stands (free_fits depth opened kind text free line)) refl;
  leaves = free_open opened text free;
}

fits_comment : (depth : ℕ) (opened : List ℕ) (gap : Gap) (text : List ℕ) → Stands opened gap → is_comment text ≡ true → Fits depth opened (piece gap Comment text ∷ []) opened
fits_comment depth opened gap text stands is = fits_free depth opened gap Comment text stands (other_free Comment text refl is) refl

fits_comma : (depth : ℕ) (opened : List ℕ) → Fits depth opened (piece Closed OperatorToken (codes ",") ∷ []) opened
fits_comma depth opened = record { fitting = refl; leaves = refl }

-- the byte of an opening bracket
abbrev opener : GroupKind → ℕ
opener Call = 40
opener RuleCall = 40
opener Load = 40
opener Paren = 40
opener ListKind = 91
opener Index = 91
opener ListComp = 91
opener Dict = 123
opener DictComp = 123

fits_opening : (depth : ℕ) (opened : List ℕ) (gap : Gap) (kind : GroupKind) → Stands opened gap → nat_lt (length opened) depth ≡ true → Fits depth opened (piece gap OperatorToken (opening kind) ∷ []) (opener kind ∷ opened)
fits_opening depth opened gap kind stands room = by kind
  where
    fit : ((is_gap (is_inside opened) (gap_bytes gap) && nat_lt (length opened) depth) && true) ≡ true
    fit = both _ true (both (is_gap (is_inside opened) (gap_bytes gap)) (nat_lt (length opened) depth) stands room) refl

    by : (kind : GroupKind) → Fits depth opened (piece gap OperatorToken (opening kind) ∷ []) (opener kind ∷ opened)
    by Call = record { fitting = fit; leaves = refl }
    by _ = record { fitting = fit; leaves = refl }

fits_closing : (depth : ℕ) (opened : List ℕ) (gap : Gap) (kind : GroupKind) → is_gap true (gap_bytes gap) ≡ true → Fits depth (opener kind ∷ opened) (piece gap OperatorToken (closing kind) ∷ []) opened
fits_closing depth opened gap kind stands = by kind
  where
    fit : ((is_gap true (gap_bytes gap) && true) && true) ≡ true
    fit = both _ true (both (is_gap true (gap_bytes gap)) true stands refl) refl

    by : (kind : GroupKind) → Fits depth (opener kind ∷ opened) (piece gap OperatorToken (closing kind) ∷ []) opened
    by Call = record { fitting = fit; leaves = refl }
    by _ = record { fitting = fit; leaves = refl }

commas_fit : (depth : ℕ) (opened : List ℕ) (b : Bool) → Fits depth opened (comma_if b) opened
commas_fit depth opened true = fits_comma depth opened
commas_fit depth opened false = fits_none

comments_fit : (depth : ℕ) (a : ℕ) (opened : List ℕ) (level : ℕ) (texts : List (List ℕ)) → AreComments texts → Fits depth (a ∷ opened) (comments level texts) (a ∷ opened)
comments_fit depth a opened level [] h = fits_none
comments_fit depth a opened level (text ∷ texts) h =
    let p = and_parts (is_comment text) (list_all is_comment texts) h in
    fits_join (fits_comment depth (a ∷ opened) (Line level) text (line_stands level) p.0) (comments_fit depth a opened level texts p.1)

suffix_fits : (depth : ℕ) (opened : List ℕ) (suffix : Option (List ℕ)) → AreComments (beside suffix) → Fits depth opened (suffix_piece suffix) opened
suffix_fits depth opened None h = fits_none
suffix_fits depth opened (Some text) h = fits_comment depth opened Apart text refl (and_parts (is_comment text) true h).0

lines_fit : (depth : ℕ) (texts : List (List ℕ)) → AreComments texts → Fits depth [] (comment_lines texts) []
lines_fit depth [] h = fits_none
lines_fit depth (text ∷ texts) h =
    let p = and_parts (is_comment text) (list_all is_comment texts) h in
    let newline : Fits depth [] (piece Closed Newline (codes "\n") ∷ []) [] = record { fitting = refl; leaves = refl } in
    fits_join (fits_comment depth [] Closed text refl p.0) (fits_join newline (lines_fit depth texts p.1))

gap_stands : (opened : List ℕ) (first : Gap) (left : Edge) (x : Item) → Stands opened first → Stands opened (gap_before first left x)
gap_stands opened first Start x h = h
gap_stands opened first Joined x h = refl
gap_stands opened first Dotted x h = refl
gap_stands opened first Operator x h = closed_or_space opened (no_space_before x)
  where
    closed_or_space : (opened : List ℕ) (b : Bool) → Stands opened (if b then Closed else Space)
    closed_or_space opened true = refl
    closed_or_space opened false = refl
gap_stands opened first Operand x h = closed_or_space opened (no_space_before x)
  where
    closed_or_space : (opened : List ℕ) (b : Bool) → Stands opened (if b then Closed else Space)
    closed_or_space opened true = refl
    closed_or_space opened false = refl

-- there is room for the parts where there is room for the whole
room_left : (n a b depth : ℕ) → n + max a b ≤ depth → n + a ≤ depth
room_left n a b depth h = omega (arith, h, le-max_left a b)

room_right : (n a b depth : ℕ) → n + max a b ≤ depth → n + b ≤ depth
room_right n a b depth h = omega (arith, h, le-max_right a b)

room_first : (n a depth : ℕ) → n + suc a ≤ depth → nat_lt n depth ≡ true
room_first n a depth h = grind (arith, nat_tests)

room_inside : (n a depth : ℕ) → n + suc a ≤ depth → suc n + a ≤ depth
room_inside n a depth h = omega (arith, h)

mutual
  item_fits : (depth : ℕ) (opened : List ℕ) (c : Choice) (level : ℕ) (gap : Gap) (x : Item) → Stands opened gap → IsLegibleItem x → length opened + item_depth x ≤ depth → Fits depth opened (item_by c level gap x) opened
  item_fits depth opened c level gap (leaf kind text) stands h room =
      fits_free depth opened gap kind (text_of c kind text) stands (leaf_free kind (text_of c kind text) (text_is c kind text h.0) (ap is_leaf_mark (mark_is c kind text) ∙ h.1)) (leaf_line kind text h.1)
  item_fits depth opened c level gap (group kind segs one_comma end) stands h room =
      let comma = has_commas kind one_comma (count segs) in
      let o = opener kind ∷ opened in
      let more = room_inside (length opened) (segs_depth segs) depth room in
      let last : List Piece = piece (Line level) OperatorToken (closing kind) ∷ [] in
      let close : List Piece = piece Closed OperatorToken (closing kind) ∷ [] in
      fits_join (fits_opening depth opened gap kind stands (room_first (length opened) (segs_depth segs) depth room))
      (either_way (λ ps. Fits depth o ps opened) (breaks_by c (is_broken kind segs end (segs_hold segs))) (broken_by (inside c) (level + 1) kind comma segs ++ (comments (level + 1) end ++ last)) (flat_by (inside c) level kind true segs ++ (comma_if one_comma ++ close))
      (fits_join (broken_fits depth (opener kind) opened (inside c) (level + 1) kind comma segs h.0 more) (fits_join (comments_fit depth (opener kind) opened (level + 1) end h.1) (fits_closing depth opened (Line level) kind (line_stands level))))
      (fits_join (flat_fits depth o (inside c) level kind true segs h.0 more) (fits_join (commas_fit depth o one_comma) (fits_closing depth opened Closed kind refl))))

  items_fit : (depth : ℕ) (opened : List ℕ) (c : Choice) (level : ℕ) (within : Option GroupKind) (first : Gap) (left : Edge) (xs : Items) → Stands opened first → AreLegible within left xs → length opened + items_depth xs ≤ depth
      → Fits depth opened (items_by c level within first left xs) opened
  items_fit depth opened c level within first left no_items stands h room = fits_none
  items_fit depth opened c level within first left (item x xs) stands h room =
      fits_join (item_fits depth opened (inside c) level (gap_before first left x) x (gap_stands opened first left x stands) h.1 (room_left (length opened) (item_depth x) (items_depth xs) depth room))
      (items_fit depth opened (following c) level within first (edge_after within left x) xs stands h.2 (room_right (length opened) (item_depth x) (items_depth xs) depth room))

  broken_fits : (depth : ℕ) (a : ℕ) (opened : List ℕ) (c : Choice) (level : ℕ) (kind : GroupKind) (comma : Bool) (ss : Segs) → AreLegibleSegs kind ss → suc (length opened) + segs_depth ss ≤ depth
      → Fits depth (a ∷ opened) (broken_by c level kind comma ss) (a ∷ opened)
  broken_fits depth a opened c level kind comma no_segs h room = fits_none
  broken_fits depth a opened c level kind comma (seg before nodes suffix ss) h room =
      let o = a ∷ opened in
      fits_join (comments_fit depth a opened level before h.0)
      (fits_join (items_fit depth o (inside c) level (Some kind) (Line level) Start nodes (line_stands level) h.2 (room_left (suc (length opened)) (items_depth nodes) (segs_depth ss) depth room))
      (fits_join (commas_fit depth o comma) (fits_join (suffix_fits depth o suffix h.3) (broken_fits depth a opened (following c) level kind comma ss h.4 (room_right (suc (length opened)) (items_depth nodes) (segs_depth ss) depth room)))))

  flat_fits : (depth : ℕ) (opened : List ℕ) (c : Choice) (level : ℕ) (kind : GroupKind) (first : Bool) (ss : Segs) → AreLegibleSegs kind ss → length opened + segs_depth ss ≤ depth → Fits depth opened (flat_by c level kind first ss) opened
  flat_fits depth opened c level kind first no_segs h room = fits_none
  flat_fits depth opened c level kind true (seg before nodes suffix ss) h room =
      fits_join (items_fit depth opened (inside c) level (Some kind) Closed Start nodes refl h.2 (room_left (length opened) (items_depth nodes) (segs_depth ss) depth room))
      (flat_fits depth opened (following c) level kind false ss h.4 (room_right (length opened) (items_depth nodes) (segs_depth ss) depth room))
  flat_fits depth opened c level kind false (seg before nodes suffix ss) h room =
      fits_join (fits_comma depth opened)
      (fits_join (items_fit depth opened (inside c) level (Some kind) Space Start nodes refl h.2 (room_left (length opened) (items_depth nodes) (segs_depth ss) depth room))
      (flat_fits depth opened (following c) level kind false ss h.4 (room_right (length opened) (items_depth nodes) (segs_depth ss) depth room)))

line_fits : (depth : ℕ) (c : Choice) (s : Statement) → IsLegible s → depth_of s ≤ depth → Fits depth [] (line_by c s) []
line_fits depth c s h room =
    let newline : Fits depth [] (piece Closed Newline (codes "\n") ∷ []) [] = record { fitting = refl; leaves = refl } in
    fits_join (items_fit depth [] c 0 None Closed Start (items_of s.nodes) refl h.nodes (omega (arith, room))) (fits_join (suffix_fits depth [] s.suffix h.suffix) newline)

pub fits_by : (depth : ℕ) (c : Choice) (s : Statement) → IsLegible s → depth_of s ≤ depth → Fits depth [] (statement_by c s) []
fits_by depth c s h room = fits_join (lines_fit depth s.before h.before) (either_way (λ ps. Fits depth [] ps []) (is_comment_class s.class) [] (line_by c s) fits_none (line_fits depth c s h room))
