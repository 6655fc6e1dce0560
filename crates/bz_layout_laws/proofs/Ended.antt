-- Each text of a layout is ended by what follows it.
use Rattle.std.proofs.Common.{◌≡◌, ℕ, ◌+◌, List, [], ◌∷◌, ◌++◌, Bool, true, false, Option, Some, None, refl, sym, ap, ◌∙◌, append_assoc}
use Rattle.bz_layout.specs.private.RowLayout.{is_start}
use Rattle.std.specs.Prelude.{codes}
use Rattle.std.proofs.lemmas.Bool.{false≢true, eqb-true}
use Rattle.std.proofs.lemmas.List.{map-append}
use Rattle.bz_token.specs.declared.token.Kind.{Kind}
use Rattle.bz_token.specs.declared.token.Kind.TheVariants.{Operator, Newline, Comment}
use Rattle.bz_token.specs.Ends.{stops_at, ends}
use Rattle.bz_token.specs.Reading.{bytes_of as bytes_read}
use Rattle.bz_layout_laws.specs.Readable.{are_ended}
use Rattle.bz_layout_laws.proofs.Readable.{ended_join, stopped_at_ends}
use Rattle.bz_layout_laws.proofs.CloseTokens.{whole_stops}
use Rattle.bz_tree.specs.declared.tree.GroupKind.{GroupKind}
use Rattle.bz_tree.specs.declared.tree.GroupKind.TheVariants.{Call, List as ListKind, Index, Dict, ListComp, DictComp}
use Rattle.bz_tree.specs.Tree.{Item, leaf, group, Items, no_items, item, Segs, no_segs, seg, Statement, items_of}
use Rattle.bz_layout.specs.declared.spacing.Edge.{Edge}
use Rattle.bz_layout.specs.declared.spacing.Edge.TheVariants.{Start}
use Rattle.bz_layout.specs.declared.spacing.Gap.{Gap}
use Rattle.bz_layout.specs.declared.spacing.Gap.TheVariants.{Closed, Space, Apart, Line}
use Rattle.bz_layout.specs.Walked.{edge_after, gap_before, count, is_broken, segs_hold, opening, closing}
use Rattle.bz_layout.specs.Pieces.{Piece, piece, gap_bytes, bytes_of, comma_if, comments, comment_lines, suffix_piece}
use Rattle.bz_layout.specs.Layout.{has_commas, is_comment as is_comment_class}
use Rattle.bz_layout_laws.specs.FreeLayout.{Choice, breaks_by, inside, following, item_by, items_by, broken_by, flat_by, statement_by}
use Rattle.bz_layout_laws.specs.Legible.{IsLegibleItem, AreLegible, AreLegibleSegs, IsLegible, are_some}
use Rattle.bz_layout_laws.specs.ReadPieces.{read_piece, read_pieces}
use Rattle.bz_layout_laws.proofs.OwnLayout.{line_by}
use Rattle.bz_layout_laws.proofs.Texts.{both, either_way}
use Rattle.bz_layout_laws.proofs.Stopping.{before, stops_all, may_stand, stops_may, newline_stops_all, leaf_ended, edge_started, next_stands}
use Rattle.bz_token.specs.Common.{begins, is_newline}

pub read_bytes : (ps : List Piece) → bytes_read (read_pieces ps) ≡ bytes_of ps
read_bytes [] = refl
read_bytes (p ∷ ps) = ap (λ x. gap_bytes p.gap ++ (p.text ++ x)) (read_bytes ps)

bytes_join : (ps qs : List Piece) (rest : List ℕ) → before (ps ++ qs) rest ≡ before ps (before qs rest)
bytes_join [] qs rest = refl
bytes_join (p ∷ ps) qs rest =
    append_assoc (gap_bytes p.gap) (p.text ++ bytes_of (ps ++ qs)) rest ∙ ap (λ x. gap_bytes p.gap ++ x) (append_assoc p.text (bytes_of (ps ++ qs)) rest ∙ ap (λ x. p.text ++ x) (bytes_join ps qs rest) ∙ sym (append_assoc p.text (bytes_of ps) (before qs rest)))
    ∙ sym (append_assoc (gap_bytes p.gap) (p.text ++ bytes_of ps) (before qs rest))

-- what follows each text ends it, with these bytes after the pieces
pub record AreEnded (ps : List Piece) (rest : List ℕ) : Type 0 where
  pub ended : are_ended (read_pieces ps) rest ≡ true

ended_none : {rest : List ℕ} → AreEnded [] rest
ended_none = record { ended = refl }

join : {ps qs : List Piece} {rest : List ℕ} → AreEnded ps (before qs rest) → AreEnded qs rest → AreEnded (ps ++ qs) rest
join {ps} {qs} {rest} a b = record {
  ended = ap (λ x. are_ended x rest) (map-append read_piece ps qs) ∙ ended_join (read_pieces ps) (read_pieces qs) rest
      ∙ both _ _ (ap (λ x. are_ended (read_pieces ps) (x ++ rest)) (read_bytes qs) ∙ a.ended) b.ended;
}

more : {ps : List Piece} {rest : List ℕ} (gap : Gap) (kind : Kind) (text : List ℕ) → ends kind text (before ps rest) ≡ true → AreEnded ps rest → AreEnded (piece gap kind text ∷ ps) rest
more {ps} {rest} gap kind text h a = record {
  ended = both (ends kind text (bytes_read (read_pieces ps) ++ rest)) (are_ended (read_pieces ps) rest) (ap (λ x. ends kind text (x ++ rest)) (read_bytes ps) ∙ h) a.ended;
}

one : {rest : List ℕ} (gap : Gap) (kind : Kind) (text : List ℕ) → ends kind text rest ≡ true → AreEnded (piece gap kind text ∷ []) rest
one gap kind text h = more gap kind text h ended_none

-- a newline ends a comment, and anything brackets and commas
comment_ended : (text after : List ℕ) → begins is_newline after ≡ true → ends Comment text after ≡ true
comment_ended text [] h = refl
comment_ended text (b ∷ bs) h = let same : b ≡ 10 = eqb-true b 10 h in rw same refl

comma_ends : (after : List ℕ) → ends Operator (codes ",") after ≡ true
comma_ends [] = refl
comma_ends (b ∷ bs) = whole_stops 44 b refl

opening_ends : (kind : GroupKind) (after : List ℕ) → ends Operator (opening kind) after ≡ true
opening_ends kind after = stopped_at_ends Operator (opening kind) after (by kind after)
  where
    by : (kind : GroupKind) (after : List ℕ) → stops_at Operator (opening kind) after ≡ true
    by kind [] = refl
    by ListKind (b ∷ bs) = whole_stops 91 b refl
    by Index (b ∷ bs) = whole_stops 91 b refl
    by ListComp (b ∷ bs) = whole_stops 91 b refl
    by Dict (b ∷ bs) = whole_stops 123 b refl
    by DictComp (b ∷ bs) = whole_stops 123 b refl
    by _ (b ∷ bs) = whole_stops 40 b refl

closing_ends : (kind : GroupKind) (after : List ℕ) → ends Operator (closing kind) after ≡ true
closing_ends kind after = stopped_at_ends Operator (closing kind) after (by kind after)
  where
    by : (kind : GroupKind) (after : List ℕ) → stops_at Operator (closing kind) after ≡ true
    by kind [] = refl
    by ListKind (b ∷ bs) = whole_stops 93 b refl
    by Index (b ∷ bs) = whole_stops 93 b refl
    by ListComp (b ∷ bs) = whole_stops 93 b refl
    by Dict (b ∷ bs) = whole_stops 125 b refl
    by DictComp (b ∷ bs) = whole_stops 125 b refl
    by _ (b ∷ bs) = whole_stops 41 b refl

closing_stops : (gap : Gap) (kind : GroupKind) (rest : List ℕ) → stops_all (before (piece Closed Operator (closing kind) ∷ []) rest) ≡ true
closing_stops gap Call rest = refl
closing_stops gap _ rest = refl

comma_ended : (b : Bool) (rest : List ℕ) → AreEnded (comma_if b) rest
comma_ended true rest = one Closed Operator (codes ",") (comma_ends rest)
comma_ended false rest = ended_none

comments_ended : (level : ℕ) (texts : List (List ℕ)) (rest : List ℕ) → begins is_newline rest ≡ true → AreEnded (comments level texts) rest
comments_ended level [] rest h = ended_none
comments_ended level (text ∷ texts) rest h = more (Line level) Comment text (comment_ended text (before (comments level texts) rest) (comments_begin level texts rest h)) (comments_ended level texts rest h)
  where
    comments_begin : (level : ℕ) (texts : List (List ℕ)) (rest : List ℕ) → begins is_newline rest ≡ true → begins is_newline (before (comments level texts) rest) ≡ true
    comments_begin level [] rest h = h
    comments_begin level (text ∷ texts) rest h = refl

suffix_ended : (suffix : Option (List ℕ)) (rest : List ℕ) → begins is_newline rest ≡ true → AreEnded (suffix_piece suffix) rest
suffix_ended None rest h = ended_none
suffix_ended (Some text) rest h = one Apart Comment text (comment_ended text rest h)

newline_ends : (after : List ℕ) → ends Newline (codes "\n") after ≡ true
newline_ends [] = refl
newline_ends (b ∷ bs) = refl

lines_ended : (texts : List (List ℕ)) (rest : List ℕ) → AreEnded (comment_lines texts) rest
lines_ended [] rest = ended_none
lines_ended (text ∷ texts) rest = more Closed Comment text (comment_ended text (before (piece Closed Newline (codes "\n") ∷ comment_lines texts) rest) refl) (more Closed Newline (codes "\n") (newline_ends _) (lines_ended texts rest))

-- the end comments and the bracket of a broken group begin on a new line
end_begins : (level : ℕ) (texts : List (List ℕ)) (upper : ℕ) (kind : GroupKind) (rest : List ℕ) → begins is_newline (before (comments level texts ++ piece (Line upper) Operator (closing kind) ∷ []) rest) ≡ true
end_begins level [] upper kind rest = refl
end_begins level (text ∷ texts) upper kind rest = refl

-- as do its segments
nodes_begin : (c : Choice) (level : ℕ) (within : Option GroupKind) (line : ℕ) (nodes : Items) (ps : List Piece) (rest : List ℕ) → are_some nodes ≡ true → begins is_newline (before (items_by c level within (Line line) Start nodes ++ ps) rest) ≡ true
nodes_begin c level within line no_items ps rest h = absurd (false≢true h)
nodes_begin c level within line (item (leaf kind text) xs) ps rest h = refl
nodes_begin c level within line (item (group kind segs one_comma end) xs) ps rest h = refl

segs_begin : (c : Choice) (level : ℕ) (kind : GroupKind) (comma : Bool) (ss : Segs) (rest : List ℕ) → AreLegibleSegs kind ss → begins is_newline rest ≡ true → begins is_newline (before (broken_by c level kind comma ss) rest) ≡ true
segs_begin c level kind comma no_segs rest h line = line
segs_begin c level kind comma (seg [] nodes suffix ss) rest h line = nodes_begin (inside c) level (Some kind) level nodes _ rest h.1
segs_begin c level kind comma (seg (text ∷ texts) nodes suffix ss) rest h line = refl

-- after the nodes of a segment
comma_stops : (comma : Bool) (suffix : Option (List ℕ)) (ps : List Piece) (rest : List ℕ) → begins is_newline (before ps rest) ≡ true → stops_all (before (comma_if comma ++ (suffix_piece suffix ++ ps)) rest) ≡ true
comma_stops true suffix ps rest h = refl
comma_stops false (Some text) ps rest h = refl
comma_stops false None ps rest h = newline_stops_all (before ps rest) h

flat_stops : (c : Choice) (level : ℕ) (kind : GroupKind) (ss : Segs) (rest : List ℕ) → stops_all rest ≡ true → stops_all (before (flat_by c level kind false ss) rest) ≡ true
flat_stops c level kind no_segs rest h = h
flat_stops c level kind (seg befores nodes suffix ss) rest h = refl

close_stops : (one_comma : Bool) (kind : GroupKind) (rest : List ℕ) → stops_all (before (comma_if one_comma ++ piece Closed Operator (closing kind) ∷ []) rest) ≡ true
close_stops true kind rest = refl
close_stops false kind rest = closing_stops Closed kind rest

may_come : (c : Choice) (level : ℕ) (within : Option GroupKind) (first : Gap) (e : Edge) (xs : Items) (rest : List ℕ) → is_start e ≡ false → AreLegible within e xs → stops_all rest ≡ true → may_stand e (before (items_by c level within first e xs) rest) ≡ true
may_come c level within first e no_items rest started h stops = stops_may e rest stops
may_come c level within first e (item x xs) rest started h stops = next_stands (inside c) level first e x (items_by (following c) level within first (edge_after within e x) xs) rest started h.0 h.1

mutual
  item_ended : (c : Choice) (level : ℕ) (gap : Gap) (within : Option GroupKind) (left : Edge) (x : Item) (rest : List ℕ) → IsLegibleItem x → may_stand (edge_after within left x) rest ≡ true → AreEnded (item_by c level gap x) rest
  item_ended c level gap within left (leaf kind text) rest h stands = one gap kind _ (leaf_ended c within left kind text rest h stands)
  item_ended c level gap within left (group kind segs one_comma end) rest h stands =
      let comma = has_commas kind one_comma (count segs) in
      let last : List Piece = piece (Line level) Operator (closing kind) ∷ [] in
      let close : List Piece = piece Closed Operator (closing kind) ∷ [] in
      more gap Operator (opening kind) (opening_ends kind _)
      (either_way (λ ps. AreEnded ps rest) (breaks_by c (is_broken kind segs end (segs_hold segs))) (broken_by (inside c) (level + 1) kind comma segs ++ (comments (level + 1) end ++ last)) (flat_by (inside c) level kind true segs ++ (comma_if one_comma ++ close))
      (join (broken_ended (inside c) (level + 1) kind comma segs _ h.0 (end_begins (level + 1) end level kind rest)) (join (comments_ended (level + 1) end _ refl) (one (Line level) Operator (closing kind) (closing_ends kind rest))))
      (join (flat_ended (inside c) level kind true segs _ h.0 (close_stops one_comma kind rest)) (join (comma_ended one_comma _) (one Closed Operator (closing kind) (closing_ends kind rest)))))

  items_ended : (c : Choice) (level : ℕ) (within : Option GroupKind) (first : Gap) (left : Edge) (xs : Items) (rest : List ℕ) → AreLegible within left xs → stops_all rest ≡ true → AreEnded (items_by c level within first left xs) rest
  items_ended c level within first left no_items rest h stops = ended_none
  items_ended c level within first left (item x xs) rest h stops =
      let e = edge_after within left x in
      join (item_ended (inside c) level (gap_before first left x) within left x (before (items_by (following c) level within first e xs) rest) h.1 (may_come (following c) level within first e xs rest (edge_started within left x) h.2 stops))
      (items_ended (following c) level within first e xs rest h.2 stops)

  broken_ended : (c : Choice) (level : ℕ) (kind : GroupKind) (comma : Bool) (ss : Segs) (rest : List ℕ) → AreLegibleSegs kind ss → begins is_newline rest ≡ true → AreEnded (broken_by c level kind comma ss) rest
  broken_ended c level kind comma no_segs rest h line = ended_none
  broken_ended c level kind comma (seg befores nodes suffix ss) rest h line =
      let others = broken_by (following c) level kind comma ss in
      let others_begin = segs_begin (following c) level kind comma ss rest h.4 line in
      let tail = comma_if comma ++ (suffix_piece suffix ++ others) in
      join (comments_ended level befores _ (nodes_begin (inside c) level (Some kind) level nodes tail rest h.1))
      (join (items_ended (inside c) level (Some kind) (Line level) Start nodes (before tail rest) h.2 (comma_stops comma suffix others rest others_begin))
      (join (comma_ended comma _) (join (suffix_ended suffix (before others rest) others_begin) (broken_ended (following c) level kind comma ss rest h.4 line))))

  flat_ended : (c : Choice) (level : ℕ) (kind : GroupKind) (first : Bool) (ss : Segs) (rest : List ℕ) → AreLegibleSegs kind ss → stops_all rest ≡ true → AreEnded (flat_by c level kind first ss) rest
  flat_ended c level kind first no_segs rest h stops = ended_none
  flat_ended c level kind true (seg befores nodes suffix ss) rest h stops =
      join (items_ended (inside c) level (Some kind) Closed Start nodes (before (flat_by (following c) level kind false ss) rest) h.2 (flat_stops (following c) level kind ss rest stops)) (flat_ended (following c) level kind false ss rest h.4 stops)
  flat_ended c level kind false (seg befores nodes suffix ss) rest h stops =
      more Closed Operator (codes ",") (comma_ends _)
      (join (items_ended (inside c) level (Some kind) Space Start nodes (before (flat_by (following c) level kind false ss) rest) h.2 (flat_stops (following c) level kind ss rest stops)) (flat_ended (following c) level kind false ss rest h.4 stops))

suffix_stops : (suffix : Option (List ℕ)) (rest : List ℕ) → stops_all (before (suffix_piece suffix ++ piece Closed Newline (codes "\n") ∷ []) rest) ≡ true
suffix_stops None rest = refl
suffix_stops (Some text) rest = refl

pub line_ended : (c : Choice) (s : Statement) (rest : List ℕ) → IsLegible s → AreEnded (line_by c s) rest
line_ended c s rest h =
    join (items_ended c 0 None Closed Start (items_of s.nodes) _ h.nodes (suffix_stops s.suffix rest))
    (join (suffix_ended s.suffix _ refl) (one Closed Newline (codes "\n") (newline_ends rest)))

pub ended_by : (c : Choice) (s : Statement) (rest : List ℕ) → IsLegible s → AreEnded (statement_by c s) rest
ended_by c s rest h = join (lines_ended s.before _) (either_way (λ ps. AreEnded ps rest) (is_comment_class s.class) [] (line_by c s) ended_none (line_ended c s rest h))
