-- What is written of texts that are UTF-8 is UTF-8.
use Rattle.std.proofs.Common.{◌≡◌, ℕ, zero, suc, ◌&&◌, List, [], ◌∷◌, ◌++◌, Bool, true, false, refl, sym, ap, subst, ◌<◌, arith}
use Rattle.std.specs.Prelude.{codes, if◌then◌else◌, Option, Some, None}
use Rattle.std.specs.List.{list_all}
use Rattle.std.specs.Str.{IsUtf8, is_utf8, bytes_eq}
use Rattle.std.proofs.lemmas.Bool.{and_parts}
use lib.Utf8.{low_scalar}
use Rattle.std.proofs.lemmas.Str.{encode_ascii, IsUtf8-append, IsUtf8-past_char, IsUtf8-nil, is_utf8-from_IsUtf8, IsUtf8-from_is_utf8}
use Rattle.bz_token.specs.declared.token.Kind.{Kind}
use Rattle.bz_token.specs.declared.token.Kind.TheVariants.{String, Operator, Newline, Comment}
use Rattle.bz_token.proofs.Classes.{same_bytes}
use Rattle.bz_token.proofs.Quiet.{both}
use Rattle.bz_tree.specs.declared.tree.GroupKind.{GroupKind}
use Rattle.bz_tree.specs.declared.tree.GroupKind.TheVariants.{List as ListKind, Index, Dict, ListComp, DictComp}
use Rattle.bz_tree.specs.Comments.{beside}
use Rattle.bz_tree.specs.Tree.{Item, leaf, group, Items, no_items, item, Segs, no_segs, seg, Statement, items_of}
use Rattle.bz_layout.specs.declared.spacing.Gap.{Gap}
use Rattle.bz_layout.specs.declared.spacing.Gap.TheVariants.{Closed, Space, Apart, Line}
use Rattle.bz_layout.specs.Walked.{count, is_broken, segs_hold, opening, closing}
use Rattle.bz_layout.specs.Layout.{has_commas, is_comment, layout, layout_text}
use Rattle.bz_layout.specs.Pieces.{Piece, indent, gap_bytes, bytes_of}
use Rattle.bz_layout.specs.Respell.{is_plain, content, is_single, respell}
use Rattle.bz_layout_laws.specs.EachText.{item_passes, items_pass, segs_pass, HasUtf8}
use Rattle.bz_layout_laws.specs.Lexemes.{Lexeme, lexeme, comment_lexemes, suffix_lexemes, comma_lexemes, item_lexemes, items_lexemes, ended_lexemes, separated_lexemes, comment_line_lexemes, line_lexemes, lexemes_of}
use Rattle.bz_layout_laws.specs.ReadPieces.{piece_lexemes}
use Rattle.bz_layout_laws.proofs.Pieces.{layout_lexemes}
use Rattle.bz_layout_laws.proofs.Utf8Tokens.{cut_low}

abbrev is_utf8_lexeme : Lexeme → Bool
is_utf8_lexeme l = is_utf8 l.text

abbrev AreUtf8 : List Lexeme → Type 0
AreUtf8 ls = list_all is_utf8_lexeme ls ≡ true

join_utf8 : (ls ms : List Lexeme) → AreUtf8 ls → AreUtf8 ms → AreUtf8 (ls ++ ms)
join_utf8 [] ms h k = k
join_utf8 (l ∷ ls) ms h k =
    let p = and_parts (is_utf8_lexeme l) (list_all is_utf8_lexeme ls) h in
    both (is_utf8_lexeme l) (list_all is_utf8_lexeme (ls ++ ms)) p.0 (join_utf8 ls ms p.1 k)

one_utf8 : (l : Lexeme) (ls : List Lexeme) → is_utf8 l.text ≡ true → AreUtf8 ls → AreUtf8 (l ∷ ls)
one_utf8 l ls h k = both (is_utf8 l.text) (list_all is_utf8_lexeme ls) h k

pub low_utf8 : (b : ℕ) → b < 128 → IsUtf8 (b ∷ [])
low_utf8 b low = (b ∷ [], (ap (λ t. t && true) (low_scalar b (omega (arith, low))), ap (λ x. x ++ []) (encode_ascii b low)))

-- a string in single quotes is written in double quotes
single_utf8 : (text : List ℕ) → is_single text ≡ true → IsUtf8 text → IsUtf8 (34 ∷ (content text ++ 34 ∷ []))
unfolding lib.Utf8.encode
single_utf8 text single u =
    let same = same_bytes text (39 ∷ (content text ++ 39 ∷ [])) (and_parts (bytes_eq text (39 ∷ (content text ++ 39 ∷ []))) (list_all is_plain (content text)) single).0 in
    let inner = IsUtf8-past_char text (content text ++ 39 ∷ []) 39 u same in
    let plain = (cut_low (content text) (39 ∷ []) (omega arith) inner).0 in
    let quote = low_utf8 34 (omega arith) in
    IsUtf8-append (34 ∷ []) (content text ++ 34 ∷ []) quote (IsUtf8-append (content text) (34 ∷ []) plain quote)

pub respelled_utf8 : (kind : Kind) (text : List ℕ) → is_utf8 text ≡ true → is_utf8 (respell kind text) ≡ true
respelled_utf8 String text h = by (is_single text) refl
  where
    by : (b : Bool) → is_single text ≡ b → is_utf8 (if b then 34 ∷ (content text ++ 34 ∷ []) else text) ≡ true
    by true single = is_utf8-from_IsUtf8 _ (single_utf8 text single (IsUtf8-from_is_utf8 text h))
    by false other = h
respelled_utf8 _ text h = h

ascii_utf8 : (b : ℕ) → b < 128 → is_utf8 (b ∷ []) ≡ true
ascii_utf8 b low = is_utf8-from_IsUtf8 (b ∷ []) (low_utf8 b low)

opening_utf8 : (kind : GroupKind) → is_utf8 (opening kind) ≡ true
opening_utf8 ListKind = ascii_utf8 91 (omega arith)
opening_utf8 Index = ascii_utf8 91 (omega arith)
opening_utf8 ListComp = ascii_utf8 91 (omega arith)
opening_utf8 Dict = ascii_utf8 123 (omega arith)
opening_utf8 DictComp = ascii_utf8 123 (omega arith)
opening_utf8 _ = ascii_utf8 40 (omega arith)

closing_utf8 : (kind : GroupKind) → is_utf8 (closing kind) ≡ true
closing_utf8 ListKind = ascii_utf8 93 (omega arith)
closing_utf8 Index = ascii_utf8 93 (omega arith)
closing_utf8 ListComp = ascii_utf8 93 (omega arith)
closing_utf8 Dict = ascii_utf8 125 (omega arith)
closing_utf8 DictComp = ascii_utf8 125 (omega arith)
closing_utf8 _ = ascii_utf8 41 (omega arith)

comma_utf8 : (b : Bool) → AreUtf8 (comma_lexemes b)
comma_utf8 true = one_utf8 (lexeme Operator (codes ",")) [] (ascii_utf8 44 (omega arith)) refl
comma_utf8 false = refl

newline_utf8 : is_utf8 (codes "\n") ≡ true
newline_utf8 = ascii_utf8 10 (omega arith)

comments_utf8 : (texts : List (List ℕ)) → list_all is_utf8 texts ≡ true → AreUtf8 (comment_lexemes texts)
comments_utf8 [] h = refl
comments_utf8 (text ∷ texts) h = let p = and_parts (is_utf8 text) (list_all is_utf8 texts) h in one_utf8 (lexeme Comment text) (comment_lexemes texts) p.0 (comments_utf8 texts p.1)

suffix_utf8 : (suffix : Option (List ℕ)) → list_all is_utf8 (beside suffix) ≡ true → AreUtf8 (suffix_lexemes suffix)
suffix_utf8 None h = refl
suffix_utf8 (Some text) h = h

either_utf8 : (b : Bool) (ls ms : List Lexeme) → AreUtf8 ls → AreUtf8 ms → AreUtf8 (if b then ls else ms)
either_utf8 true ls ms h k = h
either_utf8 false ls ms h k = k

-- the four parts of a test of segments
segs_parts : (before : List (List ℕ)) (nodes : Items) (suffix : Option (List ℕ)) (ss : Segs) → segs_pass is_utf8 (seg before nodes suffix ss) ≡ true
    → (list_all is_utf8 before ≡ true) × (items_pass is_utf8 nodes ≡ true) × (list_all is_utf8 (beside suffix) ≡ true) × (segs_pass is_utf8 ss ≡ true)
segs_parts before nodes suffix ss h =
    let a = and_parts (list_all is_utf8 before && items_pass is_utf8 nodes && list_all is_utf8 (beside suffix)) (segs_pass is_utf8 ss) h in
    let b = and_parts (list_all is_utf8 before && items_pass is_utf8 nodes) (list_all is_utf8 (beside suffix)) a.0 in
    let c = and_parts (list_all is_utf8 before) (items_pass is_utf8 nodes) b.0 in
    (c.0, c.1, b.1, a.1)

mutual
  item_utf8 : (x : Item) → item_passes is_utf8 x ≡ true → AreUtf8 (item_lexemes x)
  item_utf8 (leaf kind text) h = one_utf8 (lexeme kind (respell kind text)) [] (respelled_utf8 kind text h) refl
  item_utf8 (group kind segs one_comma end) h =
      let p = and_parts (segs_pass is_utf8 segs) (list_all is_utf8 end) h in
      let close = one_utf8 (lexeme Operator (closing kind)) [] (closing_utf8 kind) refl in
      one_utf8 (lexeme Operator (opening kind)) _ (opening_utf8 kind)
      (either_utf8 (is_broken kind segs end (segs_hold segs)) _ _
      (join_utf8 (ended_lexemes (has_commas kind one_comma (count segs)) segs) _ (ended_utf8 (has_commas kind one_comma (count segs)) segs p.0) (join_utf8 (comment_lexemes end) _ (comments_utf8 end p.1) close))
      (join_utf8 (separated_lexemes true segs) _ (separated_utf8 true segs p.0) (join_utf8 (comma_lexemes one_comma) _ (comma_utf8 one_comma) close)))

  items_utf8 : (xs : Items) → items_pass is_utf8 xs ≡ true → AreUtf8 (items_lexemes xs)
  items_utf8 no_items h = refl
  items_utf8 (item x xs) h = let p = and_parts (item_passes is_utf8 x) (items_pass is_utf8 xs) h in join_utf8 (item_lexemes x) (items_lexemes xs) (item_utf8 x p.0) (items_utf8 xs p.1)

  ended_utf8 : (comma : Bool) (ss : Segs) → segs_pass is_utf8 ss ≡ true → AreUtf8 (ended_lexemes comma ss)
  ended_utf8 comma no_segs h = refl
  ended_utf8 comma (seg before nodes suffix ss) h =
      let p = segs_parts before nodes suffix ss h in
      join_utf8 (comment_lexemes before) _ (comments_utf8 before p.0)
      (join_utf8 (items_lexemes nodes) _ (items_utf8 nodes p.1)
      (join_utf8 (comma_lexemes comma) _ (comma_utf8 comma) (join_utf8 (suffix_lexemes suffix) _ (suffix_utf8 suffix p.2) (ended_utf8 comma ss p.3))))

  separated_utf8 : (first : Bool) (ss : Segs) → segs_pass is_utf8 ss ≡ true → AreUtf8 (separated_lexemes first ss)
  separated_utf8 first no_segs h = refl
  separated_utf8 true (seg before nodes suffix ss) h =
      let p = segs_parts before nodes suffix ss h in
      join_utf8 (items_lexemes nodes) _ (items_utf8 nodes p.1) (separated_utf8 false ss p.3)
  separated_utf8 false (seg before nodes suffix ss) h =
      let p = segs_parts before nodes suffix ss h in
      join_utf8 (lexeme Operator (codes ",") ∷ items_lexemes nodes) _ (one_utf8 (lexeme Operator (codes ",")) (items_lexemes nodes) (ascii_utf8 44 (omega arith)) (items_utf8 nodes p.1)) (separated_utf8 false ss p.3)

lines_utf8 : (texts : List (List ℕ)) → list_all is_utf8 texts ≡ true → AreUtf8 (comment_line_lexemes texts)
lines_utf8 [] h = refl
lines_utf8 (text ∷ texts) h =
    let p = and_parts (is_utf8 text) (list_all is_utf8 texts) h in
    one_utf8 (lexeme Comment text) (lexeme Newline (codes "\n") ∷ comment_line_lexemes texts) p.0 (one_utf8 (lexeme Newline (codes "\n")) (comment_line_lexemes texts) newline_utf8 (lines_utf8 texts p.1))

statement_utf8 : (s : Statement) → HasUtf8 s → AreUtf8 (lexemes_of s)
statement_utf8 s h =
    let a = and_parts (list_all is_utf8 s.before && items_pass is_utf8 (items_of s.nodes)) (list_all is_utf8 (beside s.suffix)) h in
    let b = and_parts (list_all is_utf8 s.before) (items_pass is_utf8 (items_of s.nodes)) a.0 in
    join_utf8 (comment_line_lexemes s.before) _ (lines_utf8 s.before b.0)
    (either_utf8 (is_comment s.class) [] (line_lexemes s) refl
    (join_utf8 (items_lexemes (items_of s.nodes)) _ (items_utf8 (items_of s.nodes) b.1)
    (join_utf8 (suffix_lexemes s.suffix) (lexeme Newline (codes "\n") ∷ []) (suffix_utf8 s.suffix a.1) (one_utf8 (lexeme Newline (codes "\n")) [] newline_utf8 refl))))

two_utf8 : IsUtf8 (32 ∷ 32 ∷ [])
two_utf8 = let space = low_utf8 32 (omega arith) in IsUtf8-append (32 ∷ []) (32 ∷ []) space space

indent_utf8 : (n : ℕ) → IsUtf8 (indent n)
indent_utf8 zero = IsUtf8-nil
indent_utf8 (suc n) =
    IsUtf8-append (32 ∷ 32 ∷ []) (32 ∷ 32 ∷ indent n) two_utf8 (IsUtf8-append (32 ∷ 32 ∷ []) (indent n) two_utf8 (indent_utf8 n))

gap_utf8 : (gap : Gap) → IsUtf8 (gap_bytes gap)
gap_utf8 Closed = IsUtf8-nil
gap_utf8 Space = low_utf8 32 (omega arith)
gap_utf8 Apart = two_utf8
gap_utf8 (Line level) = IsUtf8-append (10 ∷ []) (indent level) (low_utf8 10 (omega arith)) (indent_utf8 level)

pieces_utf8 : (ps : List Piece) → AreUtf8 (piece_lexemes ps) → IsUtf8 (bytes_of ps)
pieces_utf8 [] h = IsUtf8-nil
pieces_utf8 (p ∷ ps) h =
    let both_parts = and_parts (is_utf8 p.text) (list_all is_utf8_lexeme (piece_lexemes ps)) h in
    IsUtf8-append (gap_bytes p.gap) (p.text ++ bytes_of ps) (gap_utf8 p.gap)
    (IsUtf8-append p.text (bytes_of ps) (IsUtf8-from_is_utf8 p.text both_parts.0) (pieces_utf8 ps both_parts.1))

pub written_utf8 : (s : Statement) → HasUtf8 s → IsUtf8 (layout_text s)
written_utf8 s h = pieces_utf8 (layout s) (subst AreUtf8 (sym (layout_lexemes s)) (statement_utf8 s h))
