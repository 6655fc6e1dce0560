-- The pieces of a layout without gaps are the lexemes of the statement.
use Rattle.std.proofs.Common.{◌≡◌, ℕ, ◌+◌, List, [], ◌∷◌, ◌++◌, Bool, true, false, Option, Some, None, refl, ap, ◌∙◌}
use Rattle.std.specs.Prelude.{codes, if◌then◌else◌}
use Rattle.std.proofs.lemmas.List.{map-append}
use Rattle.bz_token.specs.declared.token.Kind.TheVariants.{Operator as OperatorToken, Newline, Comment}
use Rattle.bz_tree.specs.declared.tree.GroupKind.{GroupKind}
use Rattle.bz_tree.specs.Tree.{Item, leaf, group, Items, no_items, item, Segs, no_segs, seg, Statement, items_of}
use Rattle.bz_layout.specs.declared.spacing.Edge.{Edge}
use Rattle.bz_layout.specs.declared.spacing.Edge.TheVariants.{Start, Joined, Dotted, Operator, Operand}
use Rattle.bz_layout.specs.declared.spacing.Gap.{Gap}
use Rattle.bz_layout.specs.declared.spacing.Gap.TheVariants.{Closed, Space, Line}
use Rattle.bz_layout.specs.declared.broken.Style.TheVariants.{Broken}
use Rattle.bz_layout.specs.Walked.{no_space_before, edge_after, gap_before, count, is_broken, segs_hold, opening, closing, item_pieces, items_pieces, broken_segs, flat_segs, statement_line}
use Rattle.bz_layout.proofs.SameLayout.{layout_is}
use Rattle.bz_layout.specs.Pieces.{Piece, piece, comma_if, comments, comment_lines, suffix_piece}
use Rattle.bz_layout.specs.Layout.{has_commas, is_comment, layout}
use Rattle.bz_layout_laws.specs.Lexemes.{lexeme, comment_lexemes, suffix_lexemes, comma_lexemes, item_lexemes, items_lexemes, ended_lexemes, separated_lexemes, comment_line_lexemes, line_lexemes, lexemes_of}
use Rattle.bz_layout_laws.specs.ReadPieces.{is_apart, piece_lexeme, piece_lexemes}

pub pieces_join : (ps qs : List Piece) → piece_lexemes (ps ++ qs) ≡ piece_lexemes ps ++ piece_lexemes qs
pieces_join ps qs = map-append piece_lexeme ps qs

pub comma_pieces : (b : Bool) → piece_lexemes (comma_if b) ≡ comma_lexemes b
comma_pieces true = refl
comma_pieces false = refl

pub comment_pieces : (level : ℕ) (texts : List (List ℕ)) → piece_lexemes (comments level texts) ≡ comment_lexemes texts
comment_pieces level [] = refl
comment_pieces level (text ∷ texts) = ap (λ l. lexeme Comment text ∷ l) (comment_pieces level texts)

pub suffix_pieces : (suffix : Option (List ℕ)) → piece_lexemes (suffix_piece suffix) ≡ suffix_lexemes suffix
suffix_pieces None = refl
suffix_pieces (Some text) = refl

pub line_pieces : (texts : List (List ℕ)) → piece_lexemes (comment_lines texts) ≡ comment_line_lexemes texts
line_pieces [] = refl
line_pieces (text ∷ texts) = ap (λ l. lexeme Comment text ∷ lexeme Newline (codes "\n") ∷ l) (line_pieces texts)

either : (b : Bool) (ps qs : List Piece) → piece_lexemes (if b then ps else qs) ≡ (if b then piece_lexemes ps else piece_lexemes qs)
either true ps qs = refl
either false ps qs = refl

pub gap_is : (first : Gap) (left : Edge) (x : Item) → is_apart first ≡ false → is_apart (gap_before first left x) ≡ false
gap_is first Start x h = h
gap_is first Joined x h = refl
gap_is first Dotted x h = refl
gap_is first Operator x h = closed_or_space (no_space_before x)
  where
    closed_or_space : (b : Bool) → is_apart (if b then Closed else Space) ≡ false
    closed_or_space true = refl
    closed_or_space false = refl
gap_is first Operand x h = closed_or_space (no_space_before x)
  where
    closed_or_space : (b : Bool) → is_apart (if b then Closed else Space) ≡ false
    closed_or_space true = refl
    closed_or_space false = refl

mutual
  item_pieces_are : (level : ℕ) (gap : Gap) (x : Item) → is_apart gap ≡ false → piece_lexemes (item_pieces Broken level gap x) ≡ item_lexemes x
  item_pieces_are level gap (leaf kind text) h = rw h refl
  item_pieces_are level gap (group kind segs one_comma end) h =
      let comma = has_commas kind one_comma (count segs) in
      let last : List Piece = piece (Line level) OperatorToken (closing kind) ∷ [] in
      let close : List Piece = piece Closed OperatorToken (closing kind) ∷ [] in
      let broken = broken_segs Broken (level + 1) kind comma segs in
      let flat = flat_segs Broken level kind true segs in
      ap (λ b. record { kind = OperatorToken; text = opening kind; beside = b } ∷ piece_lexemes (if is_broken kind segs end (segs_hold segs) then broken ++ (comments (level + 1) end ++ last) else flat ++ (comma_if one_comma ++ close))) h
      ∙ ap (λ l. lexeme OperatorToken (opening kind) ∷ l)
      (either (is_broken kind segs end (segs_hold segs)) (broken ++ (comments (level + 1) end ++ last)) (flat ++ (comma_if one_comma ++ close))
      ∙ rw (
        pieces_join broken (comments (level + 1) end ++ last),
        pieces_join (comments (level + 1) end) last,
        broken_pieces_are (level + 1) kind comma segs,
        comment_pieces (level + 1) end,
        pieces_join flat (comma_if one_comma ++ close),
        pieces_join (comma_if one_comma) close,
        flat_pieces_are level kind true segs,
        comma_pieces one_comma,
      ) refl)

  pub items_pieces_are : (level : ℕ) (within : Option GroupKind) (first : Gap) (left : Edge) (xs : Items) → is_apart first ≡ false → piece_lexemes (items_pieces Broken level within first left xs) ≡ items_lexemes xs
  items_pieces_are level within first left no_items h = refl
  items_pieces_are level within first left (item x xs) h =
      pieces_join (item_pieces Broken level (gap_before first left x) x) (items_pieces Broken level within first (edge_after within left x) xs)
      ∙ rw (item_pieces_are level (gap_before first left x) x (gap_is first left x h), items_pieces_are level within first (edge_after within left x) xs h) refl

  broken_pieces_are : (level : ℕ) (kind : GroupKind) (comma : Bool) (ss : Segs) → piece_lexemes (broken_segs Broken level kind comma ss) ≡ ended_lexemes comma ss
  broken_pieces_are level kind comma no_segs = refl
  broken_pieces_are level kind comma (seg before nodes suffix ss) =
      let rest = broken_segs Broken level kind comma ss in
      let nodes_are = items_pieces Broken level (Some kind) (Line level) Start nodes in
      pieces_join (comments level before) (nodes_are ++ (comma_if comma ++ (suffix_piece suffix ++ rest)))
      ∙ rw (
        pieces_join nodes_are (comma_if comma ++ (suffix_piece suffix ++ rest)),
        pieces_join (comma_if comma) (suffix_piece suffix ++ rest),
        pieces_join (suffix_piece suffix) rest,
        comment_pieces level before,
        items_pieces_are level (Some kind) (Line level) Start nodes refl,
        comma_pieces comma,
        suffix_pieces suffix,
        broken_pieces_are level kind comma ss,
      ) refl

  flat_pieces_are : (level : ℕ) (kind : GroupKind) (first : Bool) (ss : Segs) → piece_lexemes (flat_segs Broken level kind first ss) ≡ separated_lexemes first ss
  flat_pieces_are level kind first no_segs = refl
  flat_pieces_are level kind true (seg before nodes suffix ss) =
      pieces_join (items_pieces Broken level (Some kind) Closed Start nodes) (flat_segs Broken level kind false ss)
      ∙ rw (items_pieces_are level (Some kind) Closed Start nodes refl, flat_pieces_are level kind false ss) refl
  flat_pieces_are level kind false (seg before nodes suffix ss) =
      ap (λ l. lexeme OperatorToken (codes ",") ∷ l)
      (pieces_join (items_pieces Broken level (Some kind) Space Start nodes) (flat_segs Broken level kind false ss)
      ∙ rw (items_pieces_are level (Some kind) Space Start nodes refl, flat_pieces_are level kind false ss) refl)

line_pieces_are : (s : Statement) → piece_lexemes (statement_line s) ≡ line_lexemes s
line_pieces_are s =
    let nodes = items_pieces Broken 0 None Closed Start (items_of s.nodes) in
    let newline : List Piece = piece Closed Newline (codes "\n") ∷ [] in
    pieces_join nodes (suffix_piece s.suffix ++ newline)
    ∙ rw (pieces_join (suffix_piece s.suffix) newline, items_pieces_are 0 None Closed Start (items_of s.nodes) refl, suffix_pieces s.suffix) refl

pub layout_lexemes : (s : Statement) → piece_lexemes (layout s) ≡ lexemes_of s
layout_lexemes s =
    ap piece_lexemes (layout_is s)
    ∙ pieces_join (comment_lines s.before) (if is_comment s.class then [] else statement_line s)
    ∙ rw (line_pieces s.before, either (is_comment s.class) [] (statement_line s), line_pieces_are s) refl
