-- What is read is no deeper than its brackets, of which the depth lets no more be open.
use Rattle.std.proofs.Common.{◌≡◌, ℕ, suc, ◌+◌, ◌≤◌, ◌&&◌, List, [], ◌∷◌, ◌++◌, length, Bool, true, false, not, refl, sym, ap, subst, ◌∙◌, append_assoc, append-nil, arith}
use Rattle.std.specs.Prelude.{codes, max, nat_lt, if◌then◌else◌}
use Rattle.std.specs.Str.{bytes_eq}
use Rattle.std.specs.List.{list_all}
use Rattle.std.proofs.Math.Nat.{le-max_left, le-max_right}
use Rattle.std.proofs.lemmas.Bool.{false≢true, and_parts}
use Rattle.std.proofs.lemmas.Bool.Decides.{nat_tests}
use Rattle.std.proofs.lemmas.Slice.Eq.{bytes_eq-Decides}
use Rattle.bz_token.specs.declared.token.Kind.{Kind}
use Rattle.bz_token.specs.declared.token.Kind.TheVariants.{Operator}
use Rattle.bz_token.specs.Brackets.{is_inside, is_line as is_line_kind, is_opening_bracket, is_closing_bracket, bracket_fits, fits, open_after_token}
use Rattle.bz_token.specs.Lexical.{is_text, is_comment}
use Rattle.bz_token.specs.Places.{Placed, line_at}
use Rattle.bz_token.specs.Reading.{Piece, IsReading, tokens_of, AreTokensOf}
use Rattle.bz_layout_laws.proofs.Deeper.{tokens_are_texts}
use Rattle.bz_tree.specs.declared.tree.kinds.Mark.{Mark}
use Rattle.bz_tree.specs.declared.tree.kinds.Mark.TheVariants.{Open, Close, Comma, Comment, Newline, Plain}
use Rattle.bz_tree.specs.declared.tree.kinds.Preceding.{Preceding}
use Rattle.bz_tree.specs.declared.tree.kinds.Preceding.TheVariants.{Other}
use Rattle.bz_tree.specs.declared.tree.kinds.Shape.TheVariants.{Round, Square, Curly}
use Rattle.bz_tree.specs.Brackets.{with_comma_nodes, preceding, is_line, without_lines, end_line}
use Rattle.bz_tree.specs.Elements.{has_for}
use Rattle.bz_tree.specs.Elements.{Elem, single, bracket, Elems, no_elems, elem, elems_tokens, own_of, elem_own, elems_own, is_single, AreWell}
use Rattle.bz_tree.specs.Kinds.{mark_of, kind_mark, operator_mark, group_kind, is_one}
use Rattle.bz_tree.specs.Owners.{Inner}
use Rattle.bz_tree.specs.Cells.{Last, no_token, end_of_node, end_of_comma, entries_of, inside}
use Rattle.bz_tree.specs.Statement.{IsStatementOf}
use Rattle.bz_tree.specs.Elements.{rule_call, one_segment}
use Rattle.bz_tree.specs.Tree.{Item, leaf, group, Items, no_items, item, Segs, no_segs, seg, Segment, Statement, items_of, segs_of, is_rule}
use Rattle.bz_layout_laws.specs.Legible.{is_leaf_mark, item_depth, items_depth, segs_depth, depth_of}
use Rattle.bz_layout_laws.proofs.EachRead.{Each, EachNode, EachSegment, inside_each}
use Rattle.bz_layout_laws.proofs.NoBrackets.{is_free, free_open, other_free, operator_free}
use Rattle.bz_layout_laws.proofs.SameTests.{rule_nodes}
use Rattle.bz_layout_laws.proofs.TextsRead.{is_token_text, ElemsTexts, elems_texts, unlined_texts, comment_text}
use Rattle.bz_tree.proofs.Trees.Nested.{tree_of}

left_of : (a b n : ℕ) → max a b ≤ n → a ≤ n
left_of a b n h = omega (arith, h, le-max_left a b)

right_of : (a b n : ℕ) → max a b ≤ n → b ≤ n
right_of a b n h = omega (arith, h, le-max_right a b)

-- tokens fit one after another
abbrev FitTokens : ℕ → List ℕ → List Placed → Type 0
FitTokens depth opened [] = Unit {0}
FitTokens depth opened (t ∷ ts) = (fits depth opened t.kind t.text ≡ true) × FitTokens depth (open_after_token opened t.text) ts

tokens_fit : (first depth : ℕ) (before lines opened : List ℕ) (ps : List Piece) (rest bytes : List ℕ) → IsReading depth opened ps rest bytes → FitTokens depth opened (tokens_of first before lines ps)
tokens_fit first depth before lines opened [] rest bytes r = tt
tokens_fit first depth before lines opened (p ∷ ps) rest bytes r =
    (r.1.fits, tokens_fit first depth (before ++ (p.gap ++ p.text)) (line_at first (before ++ p.gap) ∷ lines) (open_after_token opened p.text) ps rest r.0 r.2)

-- what is no bracket to the tree is none to the tokens
abbrev is_other_mark : Mark → Bool
is_other_mark (Open shape) = false
is_other_mark (Close shape) = false
is_other_mark _ = true

operator_other : (text : List ℕ) → is_other_mark (operator_mark text) ≡ is_leaf_mark (operator_mark text)
operator_other text = by (bytes_eq text (codes "(")) (bytes_eq text (codes "[")) (bytes_eq text (codes "{")) (bytes_eq text (codes ")")) (bytes_eq text (codes "]")) (bytes_eq text (codes "}")) (bytes_eq text (codes ","))
  where
    mark : Bool → Bool → Bool → Bool → Bool → Bool → Bool → Mark
    mark a b c d e f g = if a then Open Round else (if b then Open Square else (if c then Open Curly else (if d then Close Round else (if e then Close Square else (if f then Close Curly else (if g then Comma else Plain))))))

    by : (a b c d e f g : Bool) → is_other_mark (mark a b c d e f g) ≡ is_leaf_mark (mark a b c d e f g)
    by true b c d e f g = refl
    by false true c d e f g = refl
    by false false true d e f g = refl
    by false false false true e f g = refl
    by false false false false true f g = refl
    by false false false false false true g = refl
    by false false false false false false true = refl
    by false false false false false false false = refl

other_mark_free : (kind : Kind) (text : List ℕ) → is_other_mark (kind_mark kind text) ≡ true → is_text kind text ≡ true → is_free text ≡ true
other_mark_free Operator text h is = operator_free text (sym (operator_other text) ∙ h)
other_mark_free kind text h is = other_free kind text refl is

line_other : (m : Mark) → is_line m ≡ true → is_other_mark m ≡ true
line_other Newline h = refl
line_other (Open shape) h = absurd (false≢true h)
line_other (Close shape) h = absurd (false≢true h)
line_other Comma h = refl
line_other Comment h = refl
line_other Plain h = refl

single_other : (m : Mark) → is_single m ≡ true → is_other_mark m ≡ true
single_other Newline h = refl
single_other (Open shape) h = absurd (false≢true h)
single_other (Close shape) h = absurd (false≢true h)
single_other Comma h = refl
single_other Comment h = refl
single_other Plain h = refl

unlined_fit : (depth : ℕ) (opened : List ℕ) (ts : List Placed) → list_all is_token_text ts ≡ true → FitTokens depth opened ts → FitTokens depth opened (without_lines ts)
unlined_fit depth opened [] texts h = tt
unlined_fit depth opened (t ∷ ts) texts h = by (is_line (mark_of t)) refl (and_parts (is_token_text t) (list_all is_token_text ts) texts).0 (unlined_fit depth (open_after_token opened t.text) ts (and_parts (is_token_text t) (list_all is_token_text ts) texts).1 h.1)
  where
    by : (b : Bool) → is_line (mark_of t) ≡ b → is_token_text t ≡ true → FitTokens depth (open_after_token opened t.text) (without_lines ts) → FitTokens depth opened (if b then without_lines ts else t ∷ without_lines ts)
    by true e is rest = subst (λ o. FitTokens depth o (without_lines ts)) (free_open opened t.text (other_mark_free t.kind t.text (line_other (mark_of t) e) is)) rest
    by false e is rest = (h.0, rest)

-- an opening bracket, and a closing one
abbrev Opens : List ℕ → Type 0
Opens text = (b : ℕ) × (text ≡ b ∷ []) × (is_opening_bracket b ≡ true)

abbrev Closes : List ℕ → Type 0
Closes text = (b : ℕ) × (text ≡ b ∷ []) × (is_opening_bracket b ≡ false) × (is_closing_bracket b ≡ true)

abbrev is_open_mark : Mark → Bool
is_open_mark (Open shape) = true
is_open_mark _ = false

abbrev is_close_mark : Mark → Bool
is_close_mark (Close shape) = true
is_close_mark _ = false

operator_opens : (text : List ℕ) → is_open_mark (operator_mark text) ≡ true → Opens text
operator_opens text h = by (bytes_eq text (codes "(")) (bytes_eq text (codes "[")) (bytes_eq text (codes "{")) (bytes_eq text (codes ")")) (bytes_eq text (codes "]")) (bytes_eq text (codes "}")) (bytes_eq text (codes ",")) refl refl refl h
  where
    by : (a b c d e f g : Bool) → bytes_eq text (codes "(") ≡ a → bytes_eq text (codes "[") ≡ b → bytes_eq text (codes "{") ≡ c
        → is_open_mark (if a then Open Round else (if b then Open Square else (if c then Open Curly else (if d then Close Round else (if e then Close Square else (if f then Close Curly else (if g then Comma else Plain))))))) ≡ true → Opens text
    by true b c d e f g p q r k = (40, (bytes_eq-Decides text (codes "(")).0 p, refl)
    by false true c d e f g p q r k = (91, (bytes_eq-Decides text (codes "[")).0 q, refl)
    by false false true d e f g p q r k = (123, (bytes_eq-Decides text (codes "{")).0 r, refl)
    by false false false true e f g p q r k = absurd (false≢true k)
    by false false false false true f g p q r k = absurd (false≢true k)
    by false false false false false true g p q r k = absurd (false≢true k)
    by false false false false false false true p q r k = absurd (false≢true k)
    by false false false false false false false p q r k = absurd (false≢true k)

operator_closes : (text : List ℕ) → is_close_mark (operator_mark text) ≡ true → Closes text
operator_closes text h = by (bytes_eq text (codes "(")) (bytes_eq text (codes "[")) (bytes_eq text (codes "{")) (bytes_eq text (codes ")")) (bytes_eq text (codes "]")) (bytes_eq text (codes "}")) (bytes_eq text (codes ",")) refl refl refl h
  where
    by : (a b c d e f g : Bool) → bytes_eq text (codes ")") ≡ d → bytes_eq text (codes "]") ≡ e → bytes_eq text (codes "}") ≡ f
        → is_close_mark (if a then Open Round else (if b then Open Square else (if c then Open Curly else (if d then Close Round else (if e then Close Square else (if f then Close Curly else (if g then Comma else Plain))))))) ≡ true → Closes text
    by true b c d e f g p q r k = absurd (false≢true k)
    by false true c d e f g p q r k = absurd (false≢true k)
    by false false true d e f g p q r k = absurd (false≢true k)
    by false false false true e f g p q r k = (41, (bytes_eq-Decides text (codes ")")).0 p, refl, refl)
    by false false false false true f g p q r k = (93, (bytes_eq-Decides text (codes "]")).0 q, refl, refl)
    by false false false false false true g p q r k = (125, (bytes_eq-Decides text (codes "}")).0 r, refl, refl)
    by false false false false false false true p q r k = absurd (false≢true k)
    by false false false false false false false p q r k = absurd (false≢true k)

kind_opens : (kind : Kind) (text : List ℕ) → is_open_mark (kind_mark kind text) ≡ true → Opens text
kind_opens Operator text h = operator_opens text h
kind_opens _ text h = absurd (false≢true h)

kind_closes : (kind : Kind) (text : List ℕ) → is_close_mark (kind_mark kind text) ≡ true → Closes text
kind_closes Operator text h = operator_closes text h
kind_closes _ text h = absurd (false≢true h)

open_more : (opened : List ℕ) (text : List ℕ) (o : Opens text) → open_after_token opened text ≡ o.0 ∷ opened
open_more opened text o = ap (open_after_token opened) o.1 ∙ ap (λ c. if c then o.0 ∷ opened else (if is_closing_bracket o.0 then tail opened else opened)) o.2
  where
    tail : List ℕ → List ℕ
    tail [] = []
    tail (x ∷ xs) = xs

open_room : (depth : ℕ) (opened : List ℕ) (kind : Kind) (text : List ℕ) → Opens text → fits depth opened kind text ≡ true → suc (length opened) ≤ depth
open_room depth opened kind text o h =
    let one : fits depth opened kind (o.0 ∷ []) ≡ true = ap (fits depth opened kind) (sym o.1) ∙ h in
    let fit : bracket_fits depth opened o.0 ≡ true = (and_parts (not (is_line_kind kind && is_inside opened)) (bracket_fits depth opened o.0) one).1 in
    let opens = o.2 in
    room (length opened) (rw opens at fit)
  where
    room : (n : ℕ) → nat_lt n depth ≡ true → suc n ≤ depth
    room n e = grind (arith, nat_tests)

close_less : (a : ℕ) (opened : List ℕ) (text : List ℕ) → Closes text → open_after_token (a ∷ opened) text ≡ opened
close_less a opened text c =
    let opens = c.2 in
    let closes = c.3 in
    ap (open_after_token (a ∷ opened)) c.1 ∙ rw (opens, closes) refl

-- how deep brackets are
abbrev mutual
  elem_depth : Elem → ℕ
  elem_depth (single t) = 0
  elem_depth (bracket shape opening inner closing) = suc (elems_depth inner)

  elems_depth : Elems → ℕ
  elems_depth no_elems = 0
  elems_depth (elem x xs) = max (elem_depth x) (elems_depth xs)

room_both : (n a b depth : ℕ) → n + a ≤ depth → n + b ≤ depth → n + max a b ≤ depth
room_both n a b depth h k = grind (arith, nat_tests)

room_more : (n a depth : ℕ) → suc n + a ≤ depth → n + suc a ≤ depth
room_more n a depth h = omega (arith, h)

room_none : (n depth : ℕ) → n ≤ depth → n + 0 ≤ depth
room_none n depth h = omega (arith, h)

bracket_first : (is cs rest : List Placed) (closing : Placed) → ((is ++ closing ∷ []) ++ cs) ++ rest ≡ is ++ (closing ∷ (cs ++ rest))
bracket_first is cs rest closing = append_assoc (is ++ closing ∷ []) cs rest ∙ append_assoc is (closing ∷ []) (cs ++ rest)

room_along : (depth : ℕ) (opened : List ℕ) (b : Preceding) (xs : Elems) (rest : List Placed) → AreWell b xs → ElemsTexts is_token_text xs → length opened ≤ depth → FitTokens depth opened (elems_tokens xs ++ rest) → (length opened + elems_depth xs ≤ depth) × FitTokens depth opened rest
room_along depth opened b no_elems rest h texts room fit = (room_none (length opened) depth room, fit)
room_along depth opened b (elem (single t) xs) rest h texts room fit =
    let more = room_along depth opened (preceding b (own_of (mark_of t) t)) xs rest h.1 texts.1 room (subst (λ o. FitTokens depth o (elems_tokens xs ++ rest)) (free_open opened t.text (other_mark_free t.kind t.text (single_other (mark_of t) h.0) texts.0)) fit.1) in
    (room_both (length opened) 0 (elems_depth xs) depth (room_none (length opened) depth room) more.0, more.1)
room_along depth opened b (elem (bracket shape opening inner closing) xs) rest h texts room fit =
    let o = kind_opens opening.kind opening.text (ap is_open_mark h.0.0) in
    let c = kind_closes closing.kind closing.text (ap is_close_mark h.0.1) in
    let in_it = room_along depth (o.0 ∷ opened) Other inner (closing ∷ (elems_tokens xs ++ rest)) h.0.2 texts.0 (open_room depth opened opening.kind opening.text o fit.0)
    (subst (λ ts. FitTokens depth (o.0 ∷ opened) ts) (bracket_first (elems_tokens inner) (elems_tokens xs) rest closing) (subst (λ os. FitTokens depth os (((elems_tokens inner ++ closing ∷ []) ++ elems_tokens xs) ++ rest)) (open_more opened opening.text o) fit.1)) in
    let more = room_along depth opened (preceding b (elem_own b (bracket shape opening inner closing))) xs rest h.1 texts.1 room (subst (λ os. FitTokens depth os (elems_tokens xs ++ rest)) (close_less o.0 opened closing.text c) in_it.1.1) in
    (room_both (length opened) (suc (elems_depth inner)) (elems_depth xs) depth (room_more (length opened) (elems_depth inner) depth in_it.0) more.0, more.1)

no_more : (a n : ℕ) → 0 + a ≤ n → a ≤ n
no_more a n h = omega (arith, h)

-- nodes are no deeper than the brackets that they are read from
abbrev IsNoDeeper : ℕ → Item → Type 0
IsNoDeeper n x = item_depth x ≤ n

least : (n : ℕ) → 0 ≤ n
least n = omega (arith)

same : (n : ℕ) → n ≤ n
same n = omega (arith)

most : (a b n : ℕ) → a ≤ n → b ≤ n → max a b ≤ n
most a b n h k = grind (arith, nat_tests)

one_deeper : (a m n : ℕ) → a ≤ m → suc m ≤ n → suc a ≤ n
one_deeper a m n h k = omega (arith, h, k)

nodes_depth : (n : ℕ) (xs : Items) → EachNode (IsNoDeeper n) xs → items_depth xs ≤ n
nodes_depth n no_items h = least n
nodes_depth n (item x xs) h = most (item_depth x) (items_depth xs) n h.0 (nodes_depth n xs h.1)

all_depth : (n : ℕ) (ss : Segs) → EachSegment (IsNoDeeper n) is_comment ss → segs_depth ss ≤ n
all_depth n no_segs h = least n
all_depth n (seg before nodes suffix ss) h = most (items_depth nodes) (segs_depth ss) n (nodes_depth n nodes h.2) (all_depth n ss h.4)

more_depth : (n : ℕ) (one : Bool) (at : Last) (m : Mark) (t : Placed) (owns : List Inner) → mark_of t ≡ m → is_single m ≡ true → is_token_text t ≡ true → ((last : Last) → Each (IsNoDeeper n) is_comment (entries_of last (with_comma_nodes one owns)))
    → Each (IsNoDeeper n) is_comment (entries_of at (with_comma_nodes one (own_of m t ∷ owns)))
more_depth n true at Comma t owns e ok is rest = (least n, rest (end_of_node t.line))
more_depth n false at Comma t owns e ok is rest = rest (end_of_comma t.line)
more_depth n true at Comment t owns e ok is rest = (comment_text t.kind t.text e is, rest no_token)
more_depth n false at Comment t owns e ok is rest = (comment_text t.kind t.text e is, rest no_token)
more_depth n true at Plain t owns e ok is rest = (least n, rest (end_of_node (end_line t)))
more_depth n false at Plain t owns e ok is rest = (least n, rest (end_of_node (end_line t)))
more_depth n one at (Open shape) t owns e ok is rest = absurd (false≢true ok)
more_depth n one at (Close shape) t owns e ok is rest = absurd (false≢true ok)
more_depth n one at Newline t owns e ok is rest = absurd (false≢true ok)

depth_along : (n : ℕ) (one : Bool) (at : Last) (b : Preceding) (xs : Elems) → AreWell b xs → ElemsTexts is_token_text xs → elems_depth xs ≤ n → Each (IsNoDeeper n) is_comment (entries_of at (with_comma_nodes one (elems_own b xs)))
depth_along n one at b no_elems h texts deep = tt
depth_along n one at b (elem (single t) xs) h texts deep =
    more_depth n one at (mark_of t) t (elems_own (preceding b (own_of (mark_of t) t)) xs) refl h.0 texts.0 (λ last. depth_along n one last (preceding b (own_of (mark_of t) t)) xs h.1 texts.1 (right_of 0 (elems_depth xs) n deep))
depth_along n true at b (elem (bracket shape opening inner closing) xs) h texts deep =
    let one = is_one (group_kind shape b (has_for (elems_own Other inner))) in
    let i = inside_each (IsNoDeeper (elems_depth inner)) is_comment (entries_of no_token (with_comma_nodes one (elems_own Other inner))) (depth_along (elems_depth inner) one no_token Other inner h.0.2 texts.0 (same (elems_depth inner))) in
    (one_deeper _ (elems_depth inner) n (all_depth (elems_depth inner) _ i.0) (left_of (suc (elems_depth inner)) (elems_depth xs) n deep), depth_along n true (end_of_node closing.line) _ xs h.1 texts.1 (right_of (suc (elems_depth inner)) (elems_depth xs) n deep))
depth_along n false at b (elem (bracket shape opening inner closing) xs) h texts deep =
    let one = is_one (group_kind shape b (has_for (elems_own Other inner))) in
    let i = inside_each (IsNoDeeper (elems_depth inner)) is_comment (entries_of no_token (with_comma_nodes one (elems_own Other inner))) (depth_along (elems_depth inner) one no_token Other inner h.0.2 texts.0 (same (elems_depth inner))) in
    (one_deeper _ (elems_depth inner) n (all_depth (elems_depth inner) _ i.0) (left_of (suc (elems_depth inner)) (elems_depth xs) n deep), depth_along n false (end_of_node closing.line) _ xs h.1 texts.1 (right_of (suc (elems_depth inner)) (elems_depth xs) n deep))

-- the call of a rule is as deep as one that is none
call_depth : (xs : List Item) → items_depth (items_of (rule_call xs)) ≡ items_depth (items_of xs)
call_depth [] = refl
call_depth (leaf kind text ∷ []) = refl
call_depth (group kind segs one_comma end ∷ []) = refl
call_depth (x ∷ y ∷ ys) = ap (max (item_depth x)) (call_depth (y ∷ ys))

rule_depth : (xs : List Item) → items_depth (items_of (rule_nodes xs)) ≡ items_depth (items_of xs)
rule_depth xs = by (is_rule xs)
  where
    by : (b : Bool) → items_depth (items_of (if b then rule_call xs else xs)) ≡ items_depth (items_of xs)
    by true = call_depth xs
    by false = refl

segment_depth : (n : ℕ) (ss : List Segment) (end : List (List ℕ)) → segs_depth (segs_of ss) ≤ n → items_depth (items_of (one_segment ss end).nodes) ≤ n
segment_depth n [] end h = h
segment_depth n (s ∷ ss) end h = left_of (items_depth (items_of s.nodes)) (segs_depth (segs_of ss)) n h

pub read_depth : (first depth : ℕ) (bytes : List ℕ) (tokens : List Placed) (t : Statement) → AreTokensOf first depth bytes tokens → IsStatementOf tokens t → depth_of t ≤ depth
read_depth first depth bytes tokens t are of =
    let is = tree_of tokens t of in
    let i = inside (with_comma_nodes true (elems_own Other is.elems)) in
    let s = one_segment i.segs i.end in
    let whole = tokens_are_texts first depth bytes tokens are in
    let texts = elems_texts is_token_text is.elems (subst (λ ts. list_all is_token_text ts ≡ true) is.tokens_are (unlined_texts is_token_text tokens whole)) in
    let fit : FitTokens depth [] tokens = subst (FitTokens depth []) (sym are.5) (tokens_fit first depth [] [] [] are.0 are.1 bytes are.2) in
    let own : FitTokens depth [] (elems_tokens is.elems ++ []) = subst (FitTokens depth []) (is.tokens_are ∙ sym (append-nil (elems_tokens is.elems))) (unlined_fit depth [] tokens whole fit) in
    let deep = no_more (elems_depth is.elems) depth (room_along depth [] Other is.elems [] is.well texts (least depth) own).0 in
    let each = inside_each (IsNoDeeper depth) is_comment (entries_of no_token (with_comma_nodes true (elems_own Other is.elems))) (depth_along depth true no_token Other is.elems is.well texts deep) in
    subst (λ (n : ℕ). n ≤ depth) (sym (ap depth_of is.is ∙ rule_depth s.nodes)) (segment_depth depth i.segs i.end (all_depth depth (segs_of i.segs) each.0))
