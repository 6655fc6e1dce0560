-- Newlines after a block's tokens, and comments and newlines in front of them, play no part in whether they are a block.
use Rattle.std.proofs.Common.{◌≡◌, ℕ, ◌&&◌, not, List, [], ◌∷◌, ◌++◌, Bool, true, false, Option, Some, None, refl, sym, ap, ◌∙◌}
use Rattle.std.specs.Prelude.{if◌then◌else◌}
use Rattle.std.specs.List.{list_all}
use Rattle.std.proofs.lemmas.Bool.{false≢true, and_parts}
use Rattle.bz_token.specs.declared.token.Kind.{Kind}
use Rattle.bz_token.specs.declared.token.Kind.TheVariants.{Newline}
use Rattle.bz_token.specs.Brackets.{is_line}
use Rattle.bz_token.specs.Places.{Placed}
use Rattle.bz_tree.specs.declared.tree.kinds.Mark.{Mark}
use Rattle.bz_tree.specs.declared.tree.kinds.Mark.TheVariants.{Open, Close, Comma, Comment, Newline as NewlineMark, Plain}
use Rattle.bz_tree.specs.Blocks.{indented, ends_open, bad_line, block_indent, has_colon, has_header_colon, is_block}
use Rattle.bz_tree.proofs.Trees.LogicalLines.{with_token, header_line, lines_by_token, header_colon}
use Rattle.bz_tree.specs.Kinds.{kind_mark, mark_of}
use Rattle.bz_tree.specs.Statement.{is_aside, bare_tokens}
use Rattle.bz_layout_laws.proofs.BlockTokens.{fault_at, are_aside, front_bad, front_header, front_bare, indent_by_token}
use Rattle.bz_layout_laws.proofs.Unlined.{line_aside}
use Rattle.bz_token.specs.Common.{is_filled}

abbrev pub are_newlines : List Placed → Bool
are_newlines ts = list_all (λ t. is_line t.kind) ts

-- an empty line for each of these
abbrev empties : List Placed → List (List Placed)
empties [] = []
empties (t ∷ ts) = [] ∷ empties ts

line_with : (kind : Kind) (text : List ℕ) (t : Placed) (ls : List (List Placed)) → is_line kind ≡ true → with_token (kind_mark kind text) t ls ≡ [] ∷ ls
line_with Newline text t ls h = refl
line_with _ text t ls h = absurd (false≢true h)

newline_lines : (ns : List Placed) → are_newlines ns ≡ true → lines_by_token ns ≡ [] ∷ empties ns
newline_lines [] h = refl
newline_lines (n ∷ ns) h =
    let p = and_parts (is_line n.kind) (are_newlines ns) h in
    line_with n.kind n.text n (lines_by_token ns) p.0 ∙ ap (λ ls. [] ∷ ls) (newline_lines ns p.1)

filled_with : (m : Mark) (t : Placed) (ls : List (List Placed)) → is_filled ls ≡ true → is_filled (with_token m t ls) ≡ true
filled_with m t [] h = absurd (false≢true h)
filled_with NewlineMark t (l ∷ ls) h = refl
filled_with Comment t (l ∷ ls) h = refl
filled_with Comma t (l ∷ ls) h = refl
filled_with Plain t (l ∷ ls) h = refl
filled_with (Open s) t (l ∷ ls) h = refl
filled_with (Close s) t (l ∷ ls) h = refl

filled_lines : (ts : List Placed) → is_filled (lines_by_token ts) ≡ true
filled_lines [] = refl
filled_lines (t ∷ ts) = filled_with (mark_of t) t (lines_by_token ts) (filled_lines ts)

with_more : (m : Mark) (t : Placed) (ls es : List (List Placed)) → is_filled ls ≡ true → with_token m t (ls ++ es) ≡ with_token m t ls ++ es
with_more m t [] es h = absurd (false≢true h)
with_more NewlineMark t (l ∷ ls) es h = refl
with_more Comment t (l ∷ ls) es h = refl
with_more Comma t (l ∷ ls) es h = refl
with_more Plain t (l ∷ ls) es h = refl
with_more (Open s) t (l ∷ ls) es h = refl
with_more (Close s) t (l ∷ ls) es h = refl

lines_more : (ts ns : List Placed) → are_newlines ns ≡ true → lines_by_token (ts ++ ns) ≡ lines_by_token ts ++ empties ns
lines_more [] ns h = newline_lines ns h
lines_more (t ∷ ts) ns h = ap (with_token (mark_of t) t) (lines_more ts ns h) ∙ with_more (mark_of t) t (lines_by_token ts) (empties ns) (filled_lines ts)

bad_empty : (ns : List Placed) (columns : List ℕ) (opens : Bool) → bad_line columns opens (empties ns) ≡ None
bad_empty [] columns opens = refl
bad_empty (n ∷ ns) columns opens = bad_empty ns columns opens

bad_more : (ls : List (List Placed)) (ns : List Placed) (columns : List ℕ) (opens : Bool) → bad_line columns opens (ls ++ empties ns) ≡ bad_line columns opens ls
bad_more [] ns columns opens = bad_empty ns columns opens
bad_more ([] ∷ ls) ns columns opens = bad_more ls ns columns opens
bad_more ((t ∷ ts) ∷ ls) ns columns opens = by (indented opens t.col columns) (λ inner. bad_more ls ns inner (ends_open (t ∷ ts)))
  where
    by : (o : Option (List ℕ)) → ((inner : List ℕ) → bad_line inner (ends_open (t ∷ ts)) (ls ++ empties ns) ≡ bad_line inner (ends_open (t ∷ ts)) ls)
        → fault_at o t.line (λ inner. bad_line inner (ends_open (t ∷ ts)) (ls ++ empties ns)) ≡ fault_at o t.line (λ inner. bad_line inner (ends_open (t ∷ ts)) ls)
    by None h = refl
    by (Some inner) h = h inner

header_empty : (ns : List Placed) → header_line (empties ns) ≡ []
header_empty [] = refl
header_empty (n ∷ ns) = header_empty ns

header_more : (ls : List (List Placed)) (ns : List Placed) → header_line (ls ++ empties ns) ≡ header_line ls
header_more [] ns = header_empty ns
header_more ([] ∷ ls) ns = header_more ls ns
header_more ((t ∷ ts) ∷ ls) ns = refl

bare_newlines : (ns : List Placed) → are_newlines ns ≡ true → bare_tokens ns ≡ []
bare_newlines [] h = refl
bare_newlines (n ∷ ns) h =
    let p = and_parts (is_line n.kind) (are_newlines ns) h in
    ap (λ b. if b then bare_tokens ns else n ∷ bare_tokens ns) (line_aside n.kind p.0) ∙ bare_newlines ns p.1

bare_more : (ts ns : List Placed) → are_newlines ns ≡ true → bare_tokens (ts ++ ns) ≡ bare_tokens ts
bare_more [] ns h = bare_newlines ns h
bare_more (t ∷ ts) ns h = by (is_aside t.kind) (bare_more ts ns h)
  where
    by : (b : Bool) → bare_tokens (ts ++ ns) ≡ bare_tokens ts → (if b then bare_tokens (ts ++ ns) else t ∷ bare_tokens (ts ++ ns)) ≡ (if b then bare_tokens ts else t ∷ bare_tokens ts)
    by true e = e
    by false e = ap (λ l. t ∷ l) e

-- tokens between comments and newlines in front and newlines after them
pub indent_between : (aa ts ns : List Placed) → are_aside aa ≡ true → are_newlines ns ≡ true → block_indent (aa ++ (ts ++ ns)) ≡ block_indent ts
indent_between aa ts ns a n =
    indent_by_token (aa ++ (ts ++ ns)) ∙ front_bad aa (ts ++ ns) (1 ∷ []) false a ∙ ap (bad_line (1 ∷ []) false) (lines_more ts ns n) ∙ bad_more (lines_by_token ts) ns (1 ∷ []) false
    ∙ sym (indent_by_token ts)

pub block_between : (aa ts ns : List Placed) → are_aside aa ≡ true → are_newlines ns ≡ true → is_block (aa ++ (ts ++ ns)) ≡ is_block ts
block_between aa ts ns a n =
    let header : header_line (lines_by_token (aa ++ (ts ++ ns))) ≡ header_line (lines_by_token ts) = front_header aa (ts ++ ns) a ∙ ap header_line (lines_more ts ns n) ∙ header_more (lines_by_token ts) ns in
    let colon : has_header_colon (aa ++ (ts ++ ns)) ≡ has_header_colon ts = header_colon (aa ++ (ts ++ ns)) ∙ ap (has_colon 0) header ∙ sym (header_colon ts) in
    let bare : bare_tokens (aa ++ (ts ++ ns)) ≡ bare_tokens ts = front_bare aa (ts ++ ns) a ∙ bare_more ts ns n in
    λ i. colon i && not (ends_open (bare i))
