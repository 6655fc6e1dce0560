-- Two spaces stand in a layout exactly before comments that stand on the line of a token before them.
use Rattle.std.proofs.Common.{◌≡◌, ℕ, ◌+◌, ◌&&◌, List, [], ◌∷◌, ◌++◌, Bool, true, false, not, Option, Some, None, refl, sym, subst, ◌∙◌}
use Rattle.std.specs.Prelude.{codes, if◌then◌else◌}
use Rattle.std.specs.List.{list_any}
use Rattle.std.proofs.lemmas.Bool.{false≢true}
use Rattle.bz_token.specs.declared.token.Kind.{Kind}
use Rattle.bz_token.specs.declared.token.Kind.TheVariants.{Operator, Newline, Comment}
use Rattle.bz_token.specs.Common.{is_newline}
use Rattle.bz_token.specs.Ends.{is_comment_kind}
use Rattle.bz_tree.specs.declared.tree.GroupKind.{GroupKind}
use Rattle.bz_tree.specs.Kinds.{kind_mark}
use Rattle.bz_tree.specs.Statement.{is_aside}
use Rattle.bz_tree.specs.Tree.{Item, leaf, group, Items, no_items, item, Segs, no_segs, seg, Statement, items_of}
use Rattle.bz_layout.specs.declared.spacing.Edge.{Edge}
use Rattle.bz_layout.specs.declared.spacing.Edge.TheVariants.{Start}
use Rattle.bz_layout.specs.declared.spacing.Gap.{Gap}
use Rattle.bz_layout.specs.declared.spacing.Gap.TheVariants.{Closed, Space, Line}
use Rattle.bz_layout.specs.Walked.{edge_after, gap_before, count, is_broken, segs_hold, opening, closing}
use Rattle.bz_layout.specs.Pieces.{Piece, piece, gap_bytes, comma_if, comments, comment_lines, suffix_piece}
use Rattle.bz_layout.specs.Layout.{has_commas, is_comment as is_comment_class, layout}
use Rattle.bz_layout_laws.specs.FreeLayout.{Choice, own, breaks_by, inside, following, text_of, item_by, items_by, broken_by, flat_by, statement_by}
use Rattle.bz_layout_laws.specs.Legible.{is_leaf_mark, IsLegibleItem, AreLegible, AreLegibleSegs, IsLegible, are_some}
use Rattle.bz_layout_laws.specs.ReadPieces.{is_apart}
use Rattle.bz_layout_laws.proofs.OwnLayout.{line_by, statement_own}
use Rattle.bz_layout_laws.proofs.Texts.{either_way}
use Rattle.bz_layout_laws.proofs.Pieces.{gap_is}

-- a comment on the line of a token before it, if one is there
abbrev pub is_beside : Bool → Piece → Bool
is_beside token p = is_comment_kind p.kind && (token && not (list_any is_newline (gap_bytes p.gap)))

-- whether the last piece is neither a comment nor a newline
abbrev pub ends_token : Bool → List Piece → Bool
ends_token token [] = token
ends_token token (p ∷ ps) = ends_token (not (is_aside p.kind)) ps

abbrev pub AllBeside : Bool → List Piece → Type 0
AllBeside token [] = Unit {0}
AllBeside token (p ∷ ps) = (is_beside token p ≡ is_apart p.gap) × AllBeside (not (is_aside p.kind)) ps

-- records, so that their pieces are known from their types
pub record Beside (token : Bool) (ps : List Piece) : Type 0 where
  pub all : AllBeside token ps

-- whatever stands before
record Always (ps : List Piece) : Type 0 where
  each : (token : Bool) → AllBeside token ps

record Tokens (ps : List Piece) : Type 0 where
  last : (token : Bool) → ends_token token ps ≡ true

joined : (token : Bool) (ps qs : List Piece) → AllBeside token ps → AllBeside (ends_token token ps) qs → AllBeside token (ps ++ qs)
joined token [] qs a b = b
joined token (p ∷ ps) qs a b = (a.0, joined (not (is_aside p.kind)) ps qs a.1 b)

ends_join : (token : Bool) (ps qs : List Piece) → ends_token token (ps ++ qs) ≡ ends_token (ends_token token ps) qs
ends_join token [] qs = refl
ends_join token (p ∷ ps) qs = ends_join (not (is_aside p.kind)) ps qs

join : {ps qs : List Piece} → Always ps → Always qs → Always (ps ++ qs)
join {ps} {qs} a b = record { each = λ token. joined token ps qs (a.each token) (b.each (ends_token token ps)) }

-- what may stand after a token alone
join_token : {ps qs : List Piece} → Always ps → Tokens ps → Beside true qs → Always (ps ++ qs)
join_token {ps} {qs} a t b = record { each = λ token. joined token ps qs (a.each token) (subst (λ x. AllBeside x qs) (sym (t.last token)) b.all) }

last_join : (ps : List Piece) {qs : List Piece} → Tokens qs → Tokens (ps ++ qs)
last_join ps {qs} t = record { last = λ token. ends_join token ps qs ∙ t.last (ends_token token ps) }

none : Always []
none = record { each = λ token. tt }

at_token : {ps : List Piece} → Always ps → Beside true ps
at_token a = record { all = a.each true }

operator : (gap : Gap) (text : List ℕ) → is_apart gap ≡ false → Always (piece gap Operator text ∷ [])
operator gap text h = record { each = λ token. (sym h, tt) }

operator_last : (gap : Gap) (text : List ℕ) → Tokens (piece gap Operator text ∷ [])
operator_last gap text = record { last = λ token. refl }

leaf_always : (gap : Gap) (kind : Kind) (text other : List ℕ) → is_apart gap ≡ false → is_leaf_mark (kind_mark kind other) ≡ true → Always (piece gap kind text ∷ [])
leaf_always gap Newline text other h mark = absurd (false≢true mark)
leaf_always gap Comment text other h mark = absurd (false≢true mark)
leaf_always gap _ text other h mark = record { each = λ token. (sym h, tt) }

leaf_last : (gap : Gap) (kind : Kind) (text other : List ℕ) → is_leaf_mark (kind_mark kind other) ≡ true → Tokens (piece gap kind text ∷ [])
leaf_last gap Newline text other mark = absurd (false≢true mark)
leaf_last gap Comment text other mark = absurd (false≢true mark)
leaf_last gap _ text other mark = record { last = λ token. refl }

commas : (b : Bool) → Always (comma_if b)
commas true = operator Closed (codes ",") refl
commas false = none

own_lines : (level : ℕ) (texts : List (List ℕ)) → Always (comments level texts)
own_lines level [] = none
own_lines level (text ∷ texts) =
    let one : Always (piece (Line level) Comment text ∷ []) = record { each = λ token. (no_token token, tt) } in
    join one (own_lines level texts)
  where
    no_token : (token : Bool) → (token && false) ≡ false
    no_token true = refl
    no_token false = refl

suffixed : (comma : Bool) (suffix : Option (List ℕ)) (ps : List Piece) → Always ps → Beside true (comma_if comma ++ (suffix_piece suffix ++ ps))
suffixed true None ps a = record { all = (refl, a.each true) }
suffixed true (Some text) ps a = record { all = (refl, (refl, a.each false)) }
suffixed false None ps a = record { all = a.each true }
suffixed false (Some text) ps a = record { all = (refl, a.each false) }

mutual
  item_always : (c : Choice) (level : ℕ) (gap : Gap) (x : Item) → is_apart gap ≡ false → IsLegibleItem x → Always (item_by c level gap x)
  item_always c level gap (leaf kind text) first h = leaf_always gap kind (text_of c kind text) text first h.1
  item_always c level gap (group kind segs one_comma end) first h =
      let comma = has_commas kind one_comma (count segs) in
      let last : List Piece = piece (Line level) Operator (closing kind) ∷ [] in
      let close : List Piece = piece Closed Operator (closing kind) ∷ [] in
      join (operator gap (opening kind) first)
      (either_way Always (breaks_by c (is_broken kind segs end (segs_hold segs))) (broken_by (inside c) (level + 1) kind comma segs ++ (comments (level + 1) end ++ last)) (flat_by (inside c) level kind true segs ++ (comma_if one_comma ++ close))
      (join (broken_always (inside c) (level + 1) kind comma segs h.0) (join (own_lines (level + 1) end) (operator (Line level) (closing kind) refl)))
      (join (flat_always (inside c) level kind true segs h.0) (join (commas one_comma) (operator Closed (closing kind) refl))))

  items_always : (c : Choice) (level : ℕ) (within : Option GroupKind) (first : Gap) (left : Edge) (xs : Items) → is_apart first ≡ false → AreLegible within left xs → Always (items_by c level within first left xs)
  items_always c level within first left no_items h legible = none
  items_always c level within first left (item x xs) h legible =
      join (item_always (inside c) level (gap_before first left x) x (gap_is first left x h) legible.1) (items_always (following c) level within first (edge_after within left x) xs h legible.2)

  broken_always : (c : Choice) (level : ℕ) (kind : GroupKind) (comma : Bool) (ss : Segs) → AreLegibleSegs kind ss → Always (broken_by c level kind comma ss)
  broken_always c level kind comma no_segs h = none
  broken_always c level kind comma (seg before nodes suffix ss) h =
      join (own_lines level before)
      (join_token (items_always (inside c) level (Some kind) (Line level) Start nodes refl h.2) (items_last (inside c) level (Some kind) (Line level) Start nodes h.1 h.2)
      (suffixed comma suffix (broken_by (following c) level kind comma ss) (broken_always (following c) level kind comma ss h.4)))

  flat_always : (c : Choice) (level : ℕ) (kind : GroupKind) (first : Bool) (ss : Segs) → AreLegibleSegs kind ss → Always (flat_by c level kind first ss)
  flat_always c level kind first no_segs h = none
  flat_always c level kind true (seg before nodes suffix ss) h =
      join (items_always (inside c) level (Some kind) Closed Start nodes refl h.2) (flat_always (following c) level kind false ss h.4)
  flat_always c level kind false (seg before nodes suffix ss) h =
      join (operator Closed (codes ",") refl) (join (items_always (inside c) level (Some kind) Space Start nodes refl h.2) (flat_always (following c) level kind false ss h.4))

  -- nodes end with a token
  item_last : (c : Choice) (level : ℕ) (gap : Gap) (x : Item) → IsLegibleItem x → Tokens (item_by c level gap x)
  item_last c level gap (leaf kind text) h = leaf_last gap kind (text_of c kind text) text h.1
  item_last c level gap (group kind segs one_comma end) h =
      let comma = has_commas kind one_comma (count segs) in
      let last : List Piece = piece (Line level) Operator (closing kind) ∷ [] in
      let close : List Piece = piece Closed Operator (closing kind) ∷ [] in
      last_join (piece gap Operator (opening kind) ∷ [])
      (either_way Tokens (breaks_by c (is_broken kind segs end (segs_hold segs))) (broken_by (inside c) (level + 1) kind comma segs ++ (comments (level + 1) end ++ last)) (flat_by (inside c) level kind true segs ++ (comma_if one_comma ++ close))
      (last_join (broken_by (inside c) (level + 1) kind comma segs) (last_join (comments (level + 1) end) (operator_last (Line level) (closing kind))))
      (last_join (flat_by (inside c) level kind true segs) (last_join (comma_if one_comma) (operator_last Closed (closing kind)))))

  items_last : (c : Choice) (level : ℕ) (within : Option GroupKind) (first : Gap) (left : Edge) (xs : Items) → are_some xs ≡ true → AreLegible within left xs → Tokens (items_by c level within first left xs)
  items_last c level within first left no_items h legible = absurd (false≢true h)
  items_last c level within first left (item x no_items) h legible =
      record { last = λ token. ends_join token (item_by (inside c) level (gap_before first left x) x) [] ∙ (item_last (inside c) level (gap_before first left x) x legible.1).last token }
  items_last c level within first left (item x (item y ys)) h legible = last_join (item_by (inside c) level (gap_before first left x) x) (items_last (following c) level within first (edge_after within left x) (item y ys) refl legible.2)

line_always : (c : Choice) (s : Statement) → are_some (items_of s.nodes) ≡ true → IsLegible s → Always (line_by c s)
line_always c s some h =
    join_token (items_always c 0 None Closed Start (items_of s.nodes) refl h.nodes) (items_last c 0 None Closed Start (items_of s.nodes) some h.nodes)
    (suffixed false s.suffix (piece Closed Newline (codes "\n") ∷ []) (record { each = λ token. (refl, tt) }))

above : (texts : List (List ℕ)) (ps : List Piece) → Always ps → AllBeside false (comment_lines texts ++ ps)
above [] ps a = a.each false
above (text ∷ texts) ps a = (refl, (refl, above texts ps a))

pub beside_by : (c : Choice) (s : Statement) → IsLegible s → AllBeside false (statement_by c s)
beside_by c s h = above s.before (if is_comment_class s.class then [] else line_by c s) (by (is_comment_class s.class) h.some)
  where
    by : (b : Bool) → (b ≡ false → are_some (items_of s.nodes) ≡ true) → Always (if b then [] else line_by c s)
    by true some = none
    by false some = line_always c s (some refl) h

pub layout_beside : (s : Statement) → IsLegible s → AllBeside false (layout s)
layout_beside s h = subst (AllBeside false) (statement_own s) (beside_by own s h)
