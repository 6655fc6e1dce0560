-- What the definitions of a block say, a token at a time: logical lines, the header, a line that ends with `:`, the comments above.
use Rattle.std.proofs.Common.{◌≡◌, ℕ, suc, ◌+◌, List, [], ◌∷◌, map, take, Bool, true, false, cond, if◌then◌else◌, refl, sym, ap, ◌∙◌, arith}
use Rattle.std.specs.Prelude.{find}
use Rattle.std.specs.Str.{bytes_eq}
use Rattle.std.specs.Prelude.{codes}
use Rattle.std.specs.List.{prefix_len, slice_split, onto_first}
use Rattle.std.proofs.lemmas.Bool.{false≢true}
use Rattle.bz_token.specs.Common.{is_filled, map_or}
use Rattle.bz_token.specs.declared.token.Kind.{Kind}
use Rattle.bz_token.specs.declared.token.Kind.TheVariants.{Operator, Comment as CommentToken, Newline as NewlineToken}
use Rattle.bz_token.specs.Places.{Placed}
use Rattle.bz_tree.specs.declared.tree.kinds.Shape.TheVariants.{Round, Square, Curly}
use Rattle.bz_tree.specs.declared.tree.kinds.Mark.{Mark}
use Rattle.bz_tree.specs.declared.tree.kinds.Mark.TheVariants.{Open, Close, Comma, Comment, Newline, Plain}
use Rattle.bz_tree.specs.Kinds.{kind_mark, mark_of}
use Rattle.bz_tree.specs.Brackets.{is_line, without_lines}
use Rattle.bz_tree.specs.Statement.{is_aside, bare_tokens}
use Rattle.bz_tree.specs.Blocks.{is_colon, ends_open, logical_lines, has_colon, has_header_colon, above}

-- a comment or a newline, by its mark
abbrev is_aside_mark : Mark → Bool
is_aside_mark Comment = true
is_aside_mark Newline = true
is_aside_mark _ = false

no_aside : (a b c d e f g : Bool)
    → false ≡ is_aside_mark (cond a (Open Round) (cond b (Open Square) (cond c (Open Curly) (cond d (Close Round) (cond e (Close Square) (cond f (Close Curly) (cond g Comma Plain)))))))
no_aside va vb vc vd ve vf vg = grind arith

aside_is : (kind : Kind) (text : List ℕ) → is_aside kind ≡ is_aside_mark (kind_mark kind text)
aside_is Operator text =
    no_aside (bytes_eq text (codes "(")) (bytes_eq text (codes "[")) (bytes_eq text (codes "{")) (bytes_eq text (codes ")")) (bytes_eq text (codes "]")) (bytes_eq text (codes "}")) (bytes_eq text (codes ","))
aside_is CommentToken text = refl
aside_is NewlineToken text = refl
aside_is _ text = refl

-- The tokens of each logical line. A comment changes nothing, and a newline begins a line.
abbrev pub in_front : Placed → List (List Placed) → List (List Placed)
in_front t [] = (t ∷ []) ∷ []
in_front t (line ∷ lines) = (t ∷ line) ∷ lines

abbrev pub with_token : Mark → Placed → List (List Placed) → List (List Placed)
with_token Newline t lines = [] ∷ lines
with_token Comment t lines = lines
with_token _ t lines = in_front t lines

abbrev pub lines_by_token : List Placed → List (List Placed)
lines_by_token [] = [] ∷ []
lines_by_token (t ∷ ts) = with_token (mark_of t) t (lines_by_token ts)

line_step : (m : Mark) (t : Placed) (l : List Placed) (ls : List (List Placed)) → is_aside t.kind ≡ is_aside_mark m
    → map bare_tokens (cond (is_line m) ([] ∷ l ∷ ls) ((t ∷ l) ∷ ls)) ≡ with_token m t (bare_tokens l ∷ map bare_tokens ls)
line_step Newline t l ls e = refl
line_step Comment t l ls e = ap (λ a. (if a then bare_tokens l else t ∷ bare_tokens l) ∷ map bare_tokens ls) e
line_step Comma t l ls e = ap (λ a. (if a then bare_tokens l else t ∷ bare_tokens l) ∷ map bare_tokens ls) e
line_step Plain t l ls e = ap (λ a. (if a then bare_tokens l else t ∷ bare_tokens l) ∷ map bare_tokens ls) e
line_step (Open s) t l ls e = ap (λ a. (if a then bare_tokens l else t ∷ bare_tokens l) ∷ map bare_tokens ls) e
line_step (Close s) t l ls e = ap (λ a. (if a then bare_tokens l else t ∷ bare_tokens l) ∷ map bare_tokens ls) e

abbrev ends_line : Placed → Bool
ends_line t = is_line (mark_of t)

filled_step : (b : Bool) (t : Placed) (ls : List (List Placed)) → is_filled (cond b ([] ∷ ls) (onto_first t ls)) ≡ true
filled_step true t ls = refl
filled_step false t [] = refl
filled_step false t (l ∷ ls) = refl

split_filled : (ts : List Placed) → is_filled (slice_split ends_line ts) ≡ true
split_filled [] = refl
split_filled (t ∷ ts) = filled_step (ends_line t) t (slice_split ends_line ts)

pub lines_are : (ts : List Placed) → logical_lines ts ≡ lines_by_token ts
lines_are [] = refl
lines_are (t ∷ ts) = at (slice_split ends_line ts) (split_filled ts) (lines_are ts)
  where
    at : (ls : List (List Placed)) → is_filled ls ≡ true → map bare_tokens ls ≡ lines_by_token ts
        → map bare_tokens (cond (ends_line t) ([] ∷ ls) (onto_first t ls)) ≡ with_token (mark_of t) t (lines_by_token ts)
    at [] h e = absurd (false≢true h)
    at (l ∷ ls) h e = line_step (mark_of t) t l ls (aside_is t.kind t.text) ∙ ap (with_token (mark_of t) t) e

-- the first logical line with a token
abbrev pub header_line : List (List Placed) → List Placed
header_line [] = []
header_line ([] ∷ lines) = header_line lines
header_line ((t ∷ ts) ∷ lines) = t ∷ ts

header_is : (ls : List (List Placed)) → map_or false (has_colon 0) (find is_filled ls) ≡ has_colon 0 (header_line ls)
header_is [] = refl
header_is ([] ∷ ls) = header_is ls
header_is ((t ∷ ts) ∷ ls) = refl

pub header_colon : (ts : List Placed) → has_header_colon ts ≡ has_colon 0 (header_line (lines_by_token ts))
header_colon ts = header_is (logical_lines ts) ∙ ap (λ ls. has_colon 0 (header_line ls)) (lines_are ts)

-- whether the last of these tokens is `:`, where there is one
abbrev pub opens_after : Bool → List Placed → Bool
opens_after opens [] = opens
opens_after opens (t ∷ ts) = opens_after (is_colon t) ts

pub opens_is : (t : Placed) (ts : List Placed) → ends_open (t ∷ ts) ≡ opens_after (is_colon t) ts
opens_is t [] = refl
opens_is t (u ∷ us) = opens_is u us

-- the comments above the first token
abbrev pub above_at : Mark → List ℕ → List (List ℕ) → List (List ℕ)
above_at Comment text later = text ∷ later
above_at Newline text later = later
above_at _ text later = []

abbrev pub above_by_token : List Placed → List (List ℕ)
above_by_token [] = []
above_by_token (t ∷ ts) = above_at (mark_of t) t.text (above_by_token ts)

abbrev texts_in : List Placed → List (List ℕ)
texts_in ts = map (λ t. t.text) ts

take_first : (n : ℕ) (t : Placed) (ts : List Placed) → take (1 + n) (t ∷ ts) ≡ t ∷ take n ts
take_first n t ts = let next : 1 + n ≡ suc n = omega arith in ap (λ k. take k (t ∷ ts)) next

above_step : (m : Mark) (a : Bool) (t : Placed) (n : ℕ) (ts : List Placed) → mark_of t ≡ m → a ≡ is_aside_mark m
    → texts_in (without_lines (take (cond a (1 + n) 0) (t ∷ ts))) ≡ above_at m t.text (texts_in (without_lines (take n ts)))
above_step Comment true t n ts is e = ap (λ us. texts_in (without_lines us)) (take_first n t ts) ∙ ap (λ m. texts_in (if is_line m then without_lines (take n ts) else t ∷ without_lines (take n ts))) is
above_step Newline true t n ts is e = ap (λ us. texts_in (without_lines us)) (take_first n t ts) ∙ ap (λ m. texts_in (if is_line m then without_lines (take n ts) else t ∷ without_lines (take n ts))) is
above_step Comment false t n ts is e = absurd (false≢true e)
above_step Newline false t n ts is e = absurd (false≢true e)
above_step m false t n ts is e = refl
above_step m true t n ts is e = absurd (false≢true (sym e))

pub above_is : (ts : List Placed) → above ts ≡ above_by_token ts
above_is [] = refl
above_is (t ∷ ts) =
    above_step (mark_of t) (is_aside t.kind) t (prefix_len (λ u. is_aside u.kind) ts) ts refl (aside_is t.kind t.text)
    ∙ ap (above_at (mark_of t) t.text) (above_is ts)
