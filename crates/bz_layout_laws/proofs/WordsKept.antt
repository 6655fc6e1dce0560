-- No token is lost in reading: the words of a statement are those among its tokens.
use Rattle.std.proofs.Common.{◌≡◌, ℕ, List, [], ◌∷◌, ◌++◌, Bool, true, false, cond, Option, refl, sym, ap, subst, ◌∙◌, append_assoc, append-nil}
use Rattle.std.specs.Prelude.{codes, if◌then◌else◌}
use Rattle.std.specs.Str.{bytes_eq}
use Rattle.std.proofs.lemmas.Bool.{and_parts, false≢true}
use Rattle.std.proofs.lemmas.Slice.Eq.{bytes_eq-Decides}
use Rattle.bz_token.specs.Places.{Placed}
use Rattle.bz_token.specs.declared.token.Kind.{Kind}
use Rattle.bz_token.specs.declared.token.Kind.TheVariants.{Identifier, Keyword, Integer, String, Operator, Newline as NewlineToken, Comment as CommentToken, Kept}
use Rattle.bz_tree.specs.declared.tree.GroupKind.{GroupKind}
use Rattle.bz_tree.specs.declared.tree.GroupKind.TheVariants.{Call, RuleCall, Load, Paren, List as ListKind, Index, Dict, ListComp, DictComp}
use Rattle.bz_tree.specs.declared.tree.kinds.Shape.{Shape}
use Rattle.bz_tree.specs.declared.tree.kinds.Shape.TheVariants.{Round, Square, Curly}
use Rattle.bz_tree.specs.declared.tree.kinds.Mark.{Mark}
use Rattle.bz_tree.specs.declared.tree.kinds.Mark.TheVariants.{Open, Close, Comma, Comment as Remark, Newline, Plain}
use Rattle.bz_tree.specs.declared.tree.kinds.Preceding.{Preceding}
use Rattle.bz_tree.specs.declared.tree.kinds.Preceding.TheVariants.{Operand, LoadWord, Other}
use Rattle.bz_tree.specs.Tree.{Item, leaf, group, Segs, Segment, Statement, items_of, segs_of, is_call, is_rule, is_rule_after}
use Rattle.bz_tree.specs.Kinds.{mark_of, kind_mark, operator_mark, group_kind, is_one}
use Rattle.bz_tree.specs.Owners.{Inner, node, comma, comment}
use Rattle.bz_tree.specs.Cells.{Last, no_token, end_of_node, end_of_comma, inside, Entry, a_node, a_comma, a_comment, first_cell, other_cells, later_lines, nodes_in, with_segment, cell_segment, below_last, same_line, segments_from, entries_of}
use Rattle.bz_tree.specs.private.KindSteps.{own_item}
use Rattle.bz_tree.specs.Brackets.{with_comma_nodes, preceding, is_line, without_lines}
use Rattle.bz_tree.specs.Elements.{has_for}
use Rattle.bz_tree.specs.Elements.{group_of}
use Rattle.bz_tree.specs.Elements.{Elem, single, bracket, Elems, no_elems, elem, elem_tokens, elems_tokens, elem_own, elems_own, own_of, is_single, IsWell, AreWell}
use Rattle.bz_tree.specs.Statement.{IsStatementOf}
use Rattle.bz_tree.specs.Elements.{one_segment, rule_call}
use Rattle.bz_tree.specs.Elements.{segment_of}
use Rattle.bz_layout_laws.specs.Words.{Word, word_of, words_among, opening, closing, bracket_word, item_words, items_words, segs_words, words_of}
use Rattle.bz_tree.proofs.Trees.Nested.{tree_of}

-- the words of a list of nodes, and of segments
abbrev nodes_words : List Item → List Word
nodes_words xs = items_words (items_of xs)

abbrev segments_words : List Segment → List Word
segments_words ss = segs_words (segs_of ss)

-- the words of cells
abbrev cells_words : List Entry → List (List Entry) → List Word
cells_words cell [] = nodes_words (nodes_in cell)
cells_words cell (next ∷ cells) = nodes_words (nodes_in cell) ++ cells_words next cells

later_nodes : (es : List Entry) → nodes_in (later_lines es) ≡ nodes_in es
later_nodes [] = refl
later_nodes (a_node x ∷ es) = refl
later_nodes (a_comma ∷ es) = refl
later_nodes (a_comment true text ∷ es) = refl
later_nodes (a_comment false text ∷ es) = refl

later_words : (es : List Entry) (cells : List (List Entry)) → cells_words (later_lines es) cells ≡ cells_words es cells
later_words es [] = ap nodes_words (later_nodes es)
later_words es (next ∷ cells) = ap (λ xs. nodes_words xs ++ cells_words next cells) (later_nodes es)

-- a segment without nodes has no words
kept_words : (before : List (List ℕ)) (nodes : List Item) (suffix : Option (List ℕ)) (ss : List Segment)
    → segments_words (with_segment (record { before = before; nodes = nodes; suffix = suffix }) ss) ≡ nodes_words nodes ++ segments_words ss
kept_words before [] suffix ss = refl
kept_words before (x ∷ xs) suffix ss = refl

with_words : (s : Segment) (ss : List Segment) → segments_words (with_segment s ss) ≡ nodes_words s.nodes ++ segments_words ss
with_words s ss = kept_words s.before s.nodes s.suffix ss

segments_from_words : (cell : List Entry) (cells : List (List Entry)) → segments_words (segments_from cell cells) ≡ cells_words cell cells
segments_from_words cell [] = with_words (cell_segment cell [] []) [] ∙ append-nil (nodes_words (nodes_in cell))
segments_from_words cell (next ∷ cells) =
    with_words (cell_segment cell (below_last cell) (same_line next)) (segments_from (later_lines next) cells)
    ∙ ap (λ words. nodes_words (nodes_in cell) ++ words) (segments_from_words (later_lines next) cells ∙ later_words next cells)

-- one thing more at the front of the first cell
front_words : (x : Item) (cell : List Entry) (cells : List (List Entry)) → cells_words (a_node x ∷ cell) cells ≡ item_words x ++ cells_words cell cells
front_words x cell [] = refl
front_words x cell (next ∷ cells) = append_assoc (item_words x) (nodes_words (nodes_in cell)) (cells_words next cells)

aside_words : (on : Bool) (text : List ℕ) (cell : List Entry) (cells : List (List Entry)) → cells_words (a_comment on text ∷ cell) cells ≡ cells_words cell cells
aside_words on text cell [] = refl
aside_words on text cell (next ∷ cells) = refl

-- to cut a bracket into cells loses no node
cut_words : (es : List Entry) → cells_words (first_cell es) (other_cells es) ≡ nodes_words (nodes_in es)
cut_words [] = refl
cut_words (a_node x ∷ es) = front_words x (first_cell es) (other_cells es) ∙ ap (λ words. item_words x ++ words) (cut_words es)
cut_words (a_comma ∷ es) = cut_words es
cut_words (a_comment on text ∷ es) = aside_words on text (first_cell es) (other_cells es) ∙ cut_words es

-- what stands in a bracket
abbrev own_words : Inner → List Word
own_words (node line x) = item_words x
own_words (comma t) = []
own_words (comment line text) = []

abbrev owns_words : List Inner → List Word
owns_words [] = []
owns_words (o ∷ os) = own_words o ++ owns_words os

entries_words : (last : Last) (os : List Inner) → nodes_words (nodes_in (entries_of last os)) ≡ owns_words os
entries_words last [] = refl
entries_words last (node line x ∷ os) = ap (λ words. item_words x ++ words) (entries_words (end_of_node line) os)
entries_words last (comma t ∷ os) = entries_words (end_of_comma t.line) os
entries_words last (comment line text ∷ os) = entries_words no_token os

-- each comma is one
abbrev IsComma : Inner → Type 0
IsComma (node line x) = Unit {0}
IsComma (comma t) = mark_of t ≡ Comma
IsComma (comment line text) = Unit {0}

abbrev AreCommas : List Inner → Type 0
AreCommas [] = Unit {0}
AreCommas (o ∷ os) = IsComma o × AreCommas os

-- commas as nodes have no words either
one_words : (one : Bool) (o : Inner) → IsComma o → own_words (own_item one o) ≡ own_words o
one_words true (node line x) is = refl
one_words true (comma t) is = ap (λ m. word_of m t.kind t.text) is
one_words true (comment line text) is = refl
one_words false o is = refl

owns_one_words : (one : Bool) (os : List Inner) → AreCommas os → owns_words (with_comma_nodes one os) ≡ owns_words os
owns_one_words one [] are = refl
owns_one_words one (o ∷ os) are =
    ap (λ words. words ++ owns_words (with_comma_nodes one os)) (one_words one o are.0) ∙ ap (λ words. own_words o ++ words) (owns_one_words one os are.1)

inside_words : (os : List Inner) → segments_words (inside os).segs ≡ owns_words os
inside_words os =
    let es = entries_of no_token os in
    segments_from_words (first_cell es) (other_cells es) ∙ cut_words es ∙ entries_words no_token os

group_words : (kind : GroupKind) (owns : List Inner) → AreCommas owns → item_words (group_of kind owns) ≡ bracket_word (opening kind) ∷ owns_words owns ++ bracket_word (closing kind) ∷ []
group_words kind owns are =
    ap (λ words. bracket_word (opening kind) ∷ words ++ bracket_word (closing kind) ∷ []) (inside_words (with_comma_nodes (is_one kind) owns) ∙ owns_one_words (is_one kind) owns are)

-- the texts of brackets
abbrev open_text : Shape → List ℕ
open_text Round = codes "("
open_text Square = codes "["
open_text Curly = codes "{"

abbrev close_text : Shape → List ℕ
close_text Round = codes ")"
close_text Square = codes "]"
close_text Curly = codes "}"

group_opening : (shape : Shape) (b : Preceding) (comp : Bool) → opening (group_kind shape b comp) ≡ open_text shape
group_opening Round Operand comp = refl
group_opening Round LoadWord comp = refl
group_opening Round Other comp = refl
group_opening Square Operand comp = refl
group_opening Square LoadWord true = refl
group_opening Square LoadWord false = refl
group_opening Square Other true = refl
group_opening Square Other false = refl
group_opening Curly b true = refl
group_opening Curly b false = refl

group_closing : (shape : Shape) (b : Preceding) (comp : Bool) → closing (group_kind shape b comp) ≡ close_text shape
group_closing Round Operand comp = refl
group_closing Round LoadWord comp = refl
group_closing Round Other comp = refl
group_closing Square Operand comp = refl
group_closing Square LoadWord true = refl
group_closing Square LoadWord false = refl
group_closing Square Other true = refl
group_closing Square Other false = refl
group_closing Curly b true = refl
group_closing Curly b false = refl

-- an operator is a bracket by its text
abbrev IsMarkedBy : Mark → List ℕ → Type 0
IsMarkedBy (Open s) text = text ≡ open_text s
IsMarkedBy (Close s) text = text ≡ close_text s
IsMarkedBy _ text = Unit {0}

marked_if : (text one : List ℕ) (m other : Mark) → (text ≡ one → IsMarkedBy m text) → IsMarkedBy other text → IsMarkedBy (if bytes_eq text one then m else other) text
marked_if text one m other same differ = by (bytes_eq text one) refl
  where
    by : (b : Bool) → bytes_eq text one ≡ b → IsMarkedBy (if b then m else other) text
    by true e = same ((bytes_eq-Decides text one).0 e)
    by false e = differ

operator_text : (text : List ℕ) → IsMarkedBy (operator_mark text) text
operator_text text =
    marked_if text (codes "(") (Open Round) _ (λ e. e)
    (marked_if text (codes "[") (Open Square) _ (λ e. e)
    (marked_if text (codes "{") (Open Curly) _ (λ e. e)
    (marked_if text (codes ")") (Close Round) _ (λ e. e)
    (marked_if text (codes "]") (Close Square) _ (λ e. e)
    (marked_if text (codes "}") (Close Curly) _ (λ e. e)
    (marked_if text (codes ",") Comma Plain (λ e. tt) tt))))))

opening_word : (kind : Kind) (text : List ℕ) (s : Shape) → kind_mark kind text ≡ Open s → word_of (kind_mark kind text) kind text ≡ bracket_word (open_text s) ∷ []
opening_word Operator text s is =
    ap (λ m. word_of m Operator text) is ∙ ap (λ t. bracket_word t ∷ []) (subst (λ m. IsMarkedBy m text) is (operator_text text))
opening_word Identifier text s is = absurd cc
opening_word Keyword text s is = absurd cc
opening_word Integer text s is = absurd cc
opening_word String text s is = absurd cc
opening_word NewlineToken text s is = absurd cc
opening_word CommentToken text s is = absurd cc
opening_word Kept text s is = absurd cc

closing_word : (kind : Kind) (text : List ℕ) (s : Shape) → kind_mark kind text ≡ Close s → word_of (kind_mark kind text) kind text ≡ bracket_word (close_text s) ∷ []
closing_word Operator text s is =
    ap (λ m. word_of m Operator text) is ∙ ap (λ t. bracket_word t ∷ []) (subst (λ m. IsMarkedBy m text) is (operator_text text))
closing_word Identifier text s is = absurd cc
closing_word Keyword text s is = absurd cc
closing_word Integer text s is = absurd cc
closing_word String text s is = absurd cc
closing_word NewlineToken text s is = absurd cc
closing_word CommentToken text s is = absurd cc
closing_word Kept text s is = absurd cc

pub words_append : (xs ys : List Placed) → words_among (xs ++ ys) ≡ words_among xs ++ words_among ys
words_append [] ys = refl
words_append (t ∷ xs) ys =
    ap (λ words. word_of (mark_of t) t.kind t.text ++ words) (words_append xs ys) ∙ sym (append_assoc (word_of (mark_of t) t.kind t.text) (words_among xs) (words_among ys))

-- a token that stands alone
single_words : (m : Mark) (t : Placed) → mark_of t ≡ m → is_single m ≡ true → (own_words (own_of m t) ≡ words_among (t ∷ [])) × IsComma (own_of m t)
single_words Comma t e alone = (sym (ap (λ k. word_of k t.kind t.text ++ []) e), e)
single_words Remark t e alone = (sym (ap (λ k. word_of k t.kind t.text ++ []) e), tt)
single_words Plain t e alone = (sym (append-nil (word_of (mark_of t) t.kind t.text)), tt)
single_words Newline t e alone = absurd (false≢true alone)
single_words (Open s) t e alone = absurd (false≢true alone)
single_words (Close s) t e alone = absurd (false≢true alone)

mutual
  elem_words : (x : Elem) (b : Preceding) → IsWell b x → (own_words (elem_own b x) ≡ words_among (elem_tokens x)) × IsComma (elem_own b x)
  elem_words (single t) b well = single_words (mark_of t) t refl well
  elem_words (bracket s opener inner closer) b well =
      let owns = elems_own Other inner in
      let kind = group_kind s b (has_for owns) in
      let within = elems_words inner Other well.2 in
      let start = opening_word opener.kind opener.text s well.0 ∙ ap (λ t. bracket_word t ∷ []) (sym (group_opening s b (has_for owns))) in
      let end = closing_word closer.kind closer.text s well.1 ∙ ap (λ t. bracket_word t ∷ []) (sym (group_closing s b (has_for owns))) in
      let all : words_among (opener ∷ elems_tokens inner ++ closer ∷ []) ≡ bracket_word (opening kind) ∷ words_among (elems_tokens inner) ++ bracket_word (closing kind) ∷ [] =
      ap (λ words. words ++ words_among (elems_tokens inner ++ closer ∷ [])) start
      ∙ ap (λ words. bracket_word (opening kind) ∷ words) (words_append (elems_tokens inner) (closer ∷ []))
      ∙ ap (λ words. bracket_word (opening kind) ∷ words_among (elems_tokens inner) ++ (words ++ [])) end in
      (group_words kind owns within.1 ∙ ap (λ words. bracket_word (opening kind) ∷ words ++ bracket_word (closing kind) ∷ []) within.0 ∙ sym all, tt)

  elems_words : (xs : Elems) (b : Preceding) → AreWell b xs → (owns_words (elems_own b xs) ≡ words_among (elems_tokens xs)) × AreCommas (elems_own b xs)
  elems_words no_elems b well = (refl, tt)
  elems_words (elem x xs) b well =
      let here = elem_words x b well.0 in
      let rest = elems_words xs (preceding b (elem_own b x)) well.1 in (
        ap (λ words. words ++ owns_words (elems_own (preceding b (elem_own b x)) xs)) here.0
            ∙ ap (λ words. words_among (elem_tokens x) ++ words) rest.0 ∙ sym (words_append (elem_tokens x) (elems_tokens xs)),
        (here.1, rest.1),
      )

-- outside brackets there is one cell
one_cell : (last : Last) (os : List Inner) → other_cells (entries_of last (with_comma_nodes true os)) ≡ []
one_cell last [] = refl
one_cell last (node line x ∷ os) = one_cell (end_of_node line) os
one_cell last (comma t ∷ os) = one_cell (end_of_node t.line) os
one_cell last (comment line text ∷ os) = one_cell no_token os

one_kept : (before : List (List ℕ)) (nodes : List Item) (suffix : Option (List ℕ)) (end : List (List ℕ)) → (one_segment (with_segment (record { before = before; nodes = nodes; suffix = suffix }) []) end).nodes ≡ nodes
one_kept before [] suffix end = refl
one_kept before (x ∷ xs) suffix end = refl

one_nodes : (cell : List Entry) (cells : List (List Entry)) (end : List (List ℕ)) → cells ≡ [] → (one_segment (segments_from cell cells) end).nodes ≡ nodes_in cell
one_nodes cell [] end e = let s = cell_segment cell [] [] in one_kept s.before s.nodes s.suffix end
one_nodes cell (next ∷ cells) end e = absurd cc

-- the call of a rule has the same words
called_words : (kind : GroupKind) (segs : Segs) (one_comma : Bool) (end : List (List ℕ)) → is_call kind ≡ true → item_words (group RuleCall segs one_comma end) ≡ item_words (group kind segs one_comma end)
called_words Call segs one_comma end is = refl
called_words RuleCall segs one_comma end is = refl
called_words Load segs one_comma end is = absurd (false≢true is)
called_words Paren segs one_comma end is = absurd (false≢true is)
called_words ListKind segs one_comma end is = absurd (false≢true is)
called_words Index segs one_comma end is = absurd (false≢true is)
called_words ListComp segs one_comma end is = absurd (false≢true is)
called_words Dict segs one_comma end is = absurd (false≢true is)
called_words DictComp segs one_comma end is = absurd (false≢true is)

mutual
  rule_words : (xs : List Item) → is_rule xs ≡ true → nodes_words (rule_call xs) ≡ nodes_words xs
  rule_words [] is = refl
  rule_words (leaf kind text ∷ []) is = refl
  rule_words (leaf Identifier text ∷ y ∷ ys) is = ap (λ words. item_words (leaf Identifier text) ++ words) (rule_after_words (y ∷ ys) is)
  rule_words (leaf _ text ∷ y ∷ ys) is = absurd (false≢true is)
  rule_words (group kind segs one_comma end ∷ xs) is = absurd (false≢true is)

  rule_after_words : (xs : List Item) → is_rule_after xs ≡ true → nodes_words (rule_call xs) ≡ nodes_words xs
  rule_after_words [] is = refl
  rule_after_words (leaf kind text ∷ []) is = refl
  rule_after_words (leaf Operator text ∷ y ∷ ys) is =
      ap (λ words. item_words (leaf Operator text) ++ words) (rule_words (y ∷ ys) (and_parts (bytes_eq text (codes ".")) (is_rule (y ∷ ys)) is).1)
  rule_after_words (leaf _ text ∷ y ∷ ys) is = absurd (false≢true is)
  rule_after_words (group kind segs one_comma end ∷ []) is = ap (λ words. words ++ []) (called_words kind segs one_comma end is)
  rule_after_words (group kind segs one_comma end ∷ y ∷ ys) is = absurd (false≢true is)

marked_words : (b : Bool) (xs : List Item) → is_rule xs ≡ b → nodes_words (if b then rule_call xs else xs) ≡ nodes_words xs
marked_words true xs is = rule_words xs is
marked_words false xs is = refl

segment_words : (owns : List Inner) → AreCommas owns → nodes_words (segment_of owns).nodes ≡ owns_words owns
segment_words owns are =
    let os = with_comma_nodes true owns in
    let es = entries_of no_token os in
    let s = one_segment (inside os).segs (inside os).end in
    let alone = one_nodes (first_cell es) (other_cells es) (inside os).end (one_cell no_token owns) in
    let cell : nodes_words (nodes_in (first_cell es)) ≡ nodes_words (nodes_in es) = ap (cells_words (first_cell es)) (sym (one_cell no_token owns)) ∙ cut_words es in
    marked_words (is_rule s.nodes) s.nodes refl ∙ ap nodes_words alone ∙ cell ∙ entries_words no_token os ∙ owns_one_words true owns are

-- newlines have none
line_words : (m : Mark) (t : Placed) (ts : List Placed) → mark_of t ≡ m → words_among (cond (is_line m) ts (t ∷ ts)) ≡ word_of m t.kind t.text ++ words_among ts
line_words Newline t ts e = refl
line_words Comma t ts e = ap (λ k. word_of k t.kind t.text ++ words_among ts) e
line_words Remark t ts e = ap (λ k. word_of k t.kind t.text ++ words_among ts) e
line_words Plain t ts e = ap (λ k. word_of k t.kind t.text ++ words_among ts) e
line_words (Open s) t ts e = ap (λ k. word_of k t.kind t.text ++ words_among ts) e
line_words (Close s) t ts e = ap (λ k. word_of k t.kind t.text ++ words_among ts) e

pub lines_words : (ts : List Placed) → words_among (without_lines ts) ≡ words_among ts
lines_words [] = refl
lines_words (t ∷ ts) = line_words (mark_of t) t (without_lines ts) refl ∙ ap (λ words. word_of (mark_of t) t.kind t.text ++ words) (lines_words ts)

pub statement_words : (tokens : List Placed) (s : Statement) → IsStatementOf tokens s → words_of s ≡ words_among tokens
statement_words tokens s of =
    let is = tree_of tokens s of in
    let owns = elems_own Other is.elems in
    let all = elems_words is.elems Other is.well in
    ap words_of is.is ∙ segment_words owns all.1 ∙ all.0 ∙ ap words_among (sym is.tokens_are) ∙ lines_words tokens
