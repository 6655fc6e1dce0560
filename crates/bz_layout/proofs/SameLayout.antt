-- The layout by the nodes before a node, and by what is written of a group in place, is that of a walk.
use Rattle.std.proofs.Common.{◌≡◌, ℕ, ◌+◌, suc, List, [], ◌∷◌, ◌++◌, Bool, true, false, not, ◌&&◌, ◌||◌, if◌then◌else◌, Option, Some, None, refl, ap, sym, ◌∙◌, codes, bytes_eq, length, nat_le}
use Rattle.std.specs.List.{list_any}
use Rattle.std.proofs.lemmas.List.Folds.{list_any-append}
use Rattle.std.proofs.Math.Bool.{and-false, and-true, or-false, or-true}
use Rattle.bz_token.specs.Common.{is_empty, is_filled, map_or}
use Rattle.bz_token.specs.declared.token.Kind.TheVariants.{Keyword, Newline, Operator}
use Rattle.bz_tree.specs.declared.tree.GroupKind.{GroupKind}
use Rattle.bz_tree.specs.declared.tree.GroupKind.TheVariants.{List as ListKind, Index, Dict, ListComp, DictComp}
use Rattle.bz_tree.specs.Tree.{Item, leaf, group, Items, no_items, item, Segs, no_segs, seg, Statement, items_of, segments, is_call}
use Rattle.bz_layout.specs.declared.spacing.Edge.{Edge}
use Rattle.bz_layout.specs.declared.spacing.Edge.TheVariants.{Start, Joined, Dotted, Operator as OperatorEdge, Operand}
use Rattle.bz_layout.specs.declared.spacing.Gap.{Gap}
use Rattle.bz_layout.specs.declared.spacing.Gap.TheVariants.{Closed, Space, Line}
use Rattle.bz_layout.specs.declared.broken.Style.{Style}
use Rattle.bz_layout.specs.declared.broken.Style.TheVariants.{Flat, Broken}
use Rattle.bz_layout.specs.Pieces.{Piece, piece, are_lined, begins_line, bytes_of, comma_if, comment_lines, comments, suffix_piece}
use Rattle.bz_layout.specs.Spacing.{begins_operand, is_index, no_space_after}
use Rattle.bz_tree.specs.Tree.{is_operator_among}
use Rattle.bz_layout.specs.Spacing as spacing
use Rattle.bz_layout.specs.Broken.{breaks_by_count, has_comment}
use Rattle.bz_layout.specs.Broken as broken
use Rattle.bz_layout.specs.Layout.{brackets, breaks, has_commas, is_comment}
use Rattle.bz_layout.specs.Layout as new
use Rattle.bz_layout.specs.Walked.{awaits_operand, begins_argument, closing, count, edge_after, gap_for, have_comments, holds_broken, is_index_colon, is_prefix, items_hold, opening, segs_hold}
use Rattle.bz_layout.specs.Walked as old

-- tests in another order
or_three : (p m t : Bool) → (p || m || t) ≡ (p || (m || (t || false)))
or_three true m t = refl
or_three false true t = refl
or_three false false t = sym (or-false t)

and_three : (a p m t : Bool) → (a && (p || m || t)) ≡ ((p || (m || (t || false))) && a)
and_three true p m t = or_three p m t ∙ sym (and-true _)
and_three false p m t = sym (and-false _)

and_two : (a p m : Bool) → (a && (p || m)) ≡ ((p || (m || false)) && true && a)
and_two a true m = and-true a
and_two a false true = and-true a
and_two a false false = and-false a

and_none : (o a : Bool) → (o && false && a) ≡ false
and_none true a = refl
and_none false a = refl

-- what the nodes before leave
abbrev edge : Option GroupKind → List Item → Edge
edge within [] = Start
edge within (x ∷ before) = edge_after within (edge within before) x

awaits_if : (dot join : Bool) → awaits_operand (if dot then Dotted else (if join then Joined else OperatorEdge)) ≡ not dot
awaits_if true join = refl
awaits_if false true = refl
awaits_if false false = refl

awaits : (within : Option GroupKind) (before : List Item) → awaits_operand (edge within before) ≡ begins_operand before
awaits within [] = refl
awaits within (leaf Operator text ∷ before) = awaits_if _ _
awaits within (leaf Keyword text ∷ before) = refl
awaits within (leaf _ text ∷ before) = refl
awaits within (group kind segs one_comma end ∷ before) = refl

begins_if : (within : Option GroupKind) (text : List ℕ) (dot join : Bool) → begins_argument within (if dot then Dotted else (if join then Joined else OperatorEdge)) text ≡ false
begins_if within text true join = refl
begins_if within text false true = refl
begins_if within text false false = refl

abbrev stars : List ℕ → Bool
stars text = is_operator_among (codes "*" ∷ codes "**" ∷ []) (leaf Operator text)

begins : (within : Option GroupKind) (before : List Item) (text : List ℕ)
    → begins_argument within (edge within before) text ≡ (is_operator_among (codes "*" ∷ codes "**" ∷ []) (leaf Operator text) && is_empty before && map_or false is_call within)
begins within [] text = and_two (map_or false is_call within) (bytes_eq text (codes "*")) (bytes_eq text (codes "**"))
begins within (leaf Operator t ∷ before) text = begins_if within text _ _ ∙ sym (and_none (stars text) (map_or false is_call within))
begins within (leaf Keyword t ∷ before) text = sym (and_none (stars text) (map_or false is_call within))
begins within (leaf _ t ∷ before) text = sym (and_none (stars text) (map_or false is_call within))
begins within (group kind segs one_comma end ∷ before) text = sym (and_none (stars text) (map_or false is_call within))

prefix : (within : Option GroupKind) (before : List Item) (text : List ℕ)
    → is_prefix (edge within before) text ≡ (is_operator_among (codes "+" ∷ codes "-" ∷ codes "~" ∷ []) (leaf Operator text) && begins_operand before)
prefix within before text = rw (awaits within before) (and_three (begins_operand before) (bytes_eq text (codes "+")) (bytes_eq text (codes "-")) (bytes_eq text (codes "~")))

colon : (within : Option GroupKind) (text : List ℕ) → is_index_colon within text ≡ (bytes_eq text (codes ":") && map_or false is_index within)
colon None text = sym (and-false _)
colon (Some Index) text = sym (and-true _)
colon (Some _) text = sym (and-false _)

-- the tests of an operator
joins : (dot p a i : Bool) → old.no_space_after (if dot then Dotted else (if p || a || i then Joined else OperatorEdge)) ≡ (dot || p || a || i)
joins true p a i = refl
joins false p a i = elim (p || a || i) as (λ b. old.no_space_after (if b then Joined else OperatorEdge) ≡ b) [ true ↦ refl | false ↦ refl ]

pub holds : (within : Option GroupKind) (before : List Item) (x : Item) → old.no_space_after (edge_after within (edge within before) x) ≡ no_space_after within before x
holds within before (leaf Operator text) =
    joins (bytes_eq text (codes ".")) (is_prefix (edge within before) text) (begins_argument within (edge within before) text) (is_index_colon within text)
    ∙ (λ j. bytes_eq text (codes ".") || prefix within before text j || begins within before text j || colon within text j)
holds within before (leaf Keyword text) = refl
holds within before (leaf _ text) = refl
holds within before (group kind segs one_comma end) = refl

-- the gap before a node
gap_if : (first : Gap) (dot join closes : Bool) → gap_for first (if dot then Dotted else (if join then Joined else OperatorEdge)) closes ≡ (if old.no_space_after (if dot then Dotted else (if join then Joined else OperatorEdge)) || closes then Closed else Space)
gap_if first true join closes = refl
gap_if first false true closes = refl
gap_if first false false closes = refl

gap_after : (within : Option GroupKind) (first : Gap) (left : Edge) (y : Item) (closes : Bool) → gap_for first (edge_after within left y) closes ≡ (if old.no_space_after (edge_after within left y) || closes then Closed else Space)
gap_after within first left (leaf Operator text) closes = gap_if first _ _ closes
gap_after within first left (leaf Keyword text) closes = refl
gap_after within first left (leaf _ text) closes = refl
gap_after within first left (group kind segs one_comma end) closes = refl

closes : (x : Item) → old.no_space_before x ≡ spacing.no_space_before x
closes (leaf Operator text) = or_three (bytes_eq text (codes ".")) (bytes_eq text (codes ",")) (bytes_eq text (codes ":"))
closes (leaf _ text) = refl
closes (group kind segs one_comma end) = refl

pub gap_is : (within : Option GroupKind) (first : Gap) (before : List Item) (x : Item) → spacing.gap_before within first before x ≡ old.gap_before first (edge within before) x
gap_is within first [] x = refl
gap_is within first (y ∷ before) x =
    sym (gap_after within first (edge within before) y (old.no_space_before x) ∙ (λ i. if holds within before y i || closes x i then Closed else Space))

-- a group is broken as it is where its parts are looked at
comments_are : (ss : Segs) → list_any has_comment (segments ss) ≡ have_comments ss
comments_are no_segs = refl
comments_are (seg before nodes suffix ss) = rw (comments_are ss) refl

count_is : (ss : Segs) → length (segments ss) ≡ count ss
count_is no_segs = refl
count_is (seg before nodes suffix ss) = ap suc (count_is ss)

gap_stays : (first : Gap) (left : Edge) (x : Item) → begins_line first ≡ false → begins_line (old.gap_before first left x) ≡ false
gap_stays first Start x h = h
gap_stays first Joined x h = refl
gap_stays first Dotted x h = refl
gap_stays first OperatorEdge x h = elim (old.no_space_before x) as (λ b. begins_line (if b then Closed else Space) ≡ false) [ true ↦ refl | false ↦ refl ]
gap_stays first Operand x h = elim (old.no_space_before x) as (λ b. begins_line (if b then Closed else Space) ≡ false) [ true ↦ refl | false ↦ refl ]

closed_lined : (one_comma : Bool) (kind : GroupKind) → are_lined (comma_if one_comma ++ piece Closed Operator (closing kind) ∷ []) ≡ false
closed_lined true kind = refl
closed_lined false kind = refl

ends_lined : (ps qs : List Piece) (level : ℕ) (text : List ℕ) → are_lined (ps ++ (qs ++ piece (Line level) Operator text ∷ [])) ≡ true
ends_lined ps qs level text =
    list_any-append (λ p. begins_line p.gap) ps (qs ++ piece (Line level) Operator text ∷ [])
    ∙ ap (λ (b : Bool). are_lined ps || b) (list_any-append (λ p. begins_line p.gap) qs (piece (Line level) Operator text ∷ []) ∙ or-true (are_lined qs)) ∙ or-true (are_lined ps)

mutual
  item_lined : (level : ℕ) (gap : Gap) (x : Item) → begins_line gap ≡ false → are_lined (old.item_pieces Broken level gap x) ≡ holds_broken x
  item_lined level gap (leaf kind text) h = or-false _ ∙ h
  item_lined level gap (group kind segs one_comma end) h =
      let wide : List Piece = old.broken_segs Broken (level + 1) kind (has_commas kind one_comma (count segs)) segs in
      let flat : List Piece = old.flat_segs Broken level kind true segs in
      rw h
      (elim (old.is_broken kind segs end (segs_hold segs)) as (λ b. are_lined (if b then wide ++ (comments (level + 1) end ++ piece (Line level) Operator (closing kind) ∷ []) else flat ++ (comma_if one_comma ++ piece Closed Operator (closing kind) ∷ [])) ≡ (b || segs_hold segs)) [
        | true ↦ ends_lined wide (comments (level + 1) end) level (closing kind)
        | false ↦
            list_any-append (λ p. begins_line p.gap) flat (comma_if one_comma ++ piece Closed Operator (closing kind) ∷ [])
            ∙ (λ i. flat_lined level kind true segs i || closed_lined one_comma kind i) ∙ or-false (segs_hold segs)
      ])

  items_lined : (level : ℕ) (within : Option GroupKind) (first : Gap) (left : Edge) (xs : Items) → begins_line first ≡ false → are_lined (old.items_pieces Broken level within first left xs) ≡ items_hold xs
  items_lined level within first left no_items h = refl
  items_lined level within first left (item x xs) h =
      list_any-append (λ p. begins_line p.gap) (old.item_pieces Broken level (old.gap_before first left x) x) (old.items_pieces Broken level within first (edge_after within left x) xs)
      ∙ (λ i. item_lined level (old.gap_before first left x) x (gap_stays first left x h) i || items_lined level within first (edge_after within left x) xs h i)

  flat_lined : (level : ℕ) (kind : GroupKind) (first : Bool) (ss : Segs) → are_lined (old.flat_segs Broken level kind first ss) ≡ segs_hold ss
  flat_lined level kind first no_segs = refl
  flat_lined level kind true (seg before nodes suffix ss) =
      list_any-append (λ p. begins_line p.gap) (old.items_pieces Broken level (Some kind) Closed Start nodes) (old.flat_segs Broken level kind false ss)
      ∙ (λ i. items_lined level (Some kind) Closed Start nodes refl i || flat_lined level kind false ss i)
  flat_lined level kind false (seg before nodes suffix ss) =
      list_any-append (λ p. begins_line p.gap) (old.items_pieces Broken level (Some kind) Space Start nodes) (old.flat_segs Broken level kind false ss)
      ∙ (λ i. items_lined level (Some kind) Space Start nodes refl i || flat_lined level kind false ss i)

brackets_are : (kind : GroupKind) → (brackets kind).0 ≡ opening kind
brackets_are ListKind = refl
brackets_are Index = refl
brackets_are ListComp = refl
brackets_are Dict = refl
brackets_are DictComp = refl
brackets_are _ = refl

closings_are : (kind : GroupKind) → (brackets kind).1 ≡ closing kind
closings_are ListKind = refl
closings_are Index = refl
closings_are ListComp = refl
closings_are Dict = refl
closings_are DictComp = refl
closings_are _ = refl

broken_is : (kind : GroupKind) (segs : Segs) (end : List (List ℕ)) (inside : Bool) → broken.is_broken kind (segments segs) end inside ≡ old.is_broken kind segs end inside
broken_is kind segs end inside = (λ i. is_filled end || comments_are segs i || breaks_by_count kind (count_is segs i) || nat_le 2 (count_is segs i) && inside)

breaks_are : (style : Style) (level : ℕ) (kind : GroupKind) (segs : Segs) (end : List (List ℕ))
    → breaks style (old.is_broken kind segs end (are_lined (old.flat_segs style level kind true segs))) ≡ breaks style (old.is_broken kind segs end (segs_hold segs))
breaks_are Flat level kind segs end = refl
breaks_are Broken level kind segs end = ap (old.is_broken kind segs end) (flat_lined level kind true segs)

mutual
  pub item_is : (style : Style) (level : ℕ) (gap : Gap) (x : Item) → new.item_pieces style level gap x ≡ old.item_pieces style level gap x
  item_is style level gap (leaf kind text) = refl
  item_is style level gap (group kind segs one_comma end) =
      let flat = flat_is style level kind true segs in
      let tests : breaks style (broken.is_broken kind (segments segs) end (are_lined (new.flat_segs style level kind true segs))) ≡ breaks style (old.is_broken kind segs end (segs_hold segs)) =
      ap (breaks style) (broken_is kind segs end _) ∙ ap (λ (ps : List Piece). breaks style (old.is_broken kind segs end (are_lined ps))) flat ∙ breaks_are style level kind segs end in
      let wide : new.broken_segs style (level + 1) kind (has_commas kind one_comma (length (segments segs))) segs ≡ old.broken_segs style (level + 1) kind (has_commas kind one_comma (count segs)) segs =
      ap (λ (n : ℕ). new.broken_segs style (level + 1) kind (has_commas kind one_comma n) segs) (count_is segs) ∙ wide_is style (level + 1) kind (has_commas kind one_comma (count segs)) segs in
      (λ i. piece gap Operator (brackets_are kind i) ∷
      (if tests i then wide i ++ (comments (level + 1) end ++ piece (Line level) Operator (closings_are kind i) ∷ []) else flat i ++ (comma_if one_comma ++ piece Closed Operator (closings_are kind i) ∷ [])))

  pub items_are : (style : Style) (level : ℕ) (within : Option GroupKind) (first : Gap) (before : List Item) (xs : Items) → new.items_pieces style level within first before xs ≡ old.items_pieces style level within first (edge within before) xs
  items_are style level within first before no_items = refl
  items_are style level within first before (item x xs) =
      (λ i. (ap (λ (gap : Gap). new.item_pieces style level gap x) (gap_is within first before x) ∙ item_is style level (old.gap_before first (edge within before) x) x) i ++ items_are style level within first (x ∷ before) xs i)

  wide_is : (style : Style) (level : ℕ) (kind : GroupKind) (comma : Bool) (ss : Segs) → new.broken_segs style level kind comma ss ≡ old.broken_segs style level kind comma ss
  wide_is style level kind comma no_segs = refl
  wide_is style level kind comma (seg before nodes suffix ss) =
      (λ i. comments level before ++ (items_are style level (Some kind) (Line level) [] nodes i ++ (comma_if comma ++ (suffix_piece suffix ++ wide_is style level kind comma ss i))))

  flat_is : (style : Style) (level : ℕ) (kind : GroupKind) (first : Bool) (ss : Segs) → new.flat_segs style level kind first ss ≡ old.flat_segs style level kind first ss
  flat_is style level kind first no_segs = refl
  flat_is style level kind true (seg before nodes suffix ss) = (λ i. items_are style level (Some kind) Closed [] nodes i ++ flat_is style level kind false ss i)
  flat_is style level kind false (seg before nodes suffix ss) = (λ i. (piece Closed Operator (codes ",") ∷ items_are style level (Some kind) Space [] nodes i) ++ flat_is style level kind false ss i)

pub statement_line_is : (s : Statement) → new.statement_line s ≡ old.statement_line s
statement_line_is s = ap (λ (ps : List Piece). ps ++ (suffix_piece s.suffix ++ piece Closed Newline (codes "\n") ∷ [])) (items_are Broken 0 None Closed [] (items_of s.nodes))

pub layout_is : (s : Statement) → new.layout s ≡ old.layout s
layout_is s = ap (λ (ps : List Piece). comment_lines s.before ++ (if is_comment s.class then [] else ps)) (statement_line_is s)

pub layout_text_is : (s : Statement) → new.layout_text s ≡ old.layout_text s
layout_text_is s = ap bytes_of (layout_is s)

pub flat_text_is : (within : Option GroupKind) (xs : List Item) → new.flat_text within xs ≡ old.flat_text within xs
flat_text_is within xs = ap bytes_of (items_are Flat 0 within Closed [] (items_of xs))
