-- Tests of a block's tokens: they do not hang on the lines of the tokens, nor on comments and newlines around them.
use Rattle.std.proofs.Common.{◌≡◌, ℕ, ◌==◌, ◌&&◌, ◌||◌, not, List, [], ◌∷◌, ◌++◌, map, Bool, true, false, Option, Some, None, refl, sym, ap, ◌∙◌}
use Rattle.std.specs.Prelude.{is_some, option_map, if◌then◌else◌}
use Rattle.std.specs.List.{list_all}
use Rattle.std.proofs.lemmas.Bool.{false≢true, and_parts}
use Rattle.bz_token.specs.declared.token.Kind.{Kind}
use Rattle.bz_token.specs.declared.token.Kind.TheVariants.{Newline, Comment as CommentToken}
use Rattle.bz_token.specs.Places.{Placed}
use Rattle.bz_tree.specs.declared.tree.kinds.Mark.{Mark}
use Rattle.bz_tree.specs.declared.tree.kinds.Mark.TheVariants.{Open, Close, Comma, Comment, Newline as NewlineMark, Plain}
use Rattle.bz_tree.specs.Blocks.{is_colon, indented, ends_open, bad_line, block_indent, depth_after, has_colon, has_header_colon, is_block}
use Rattle.bz_tree.proofs.Trees.LogicalLines.{with_token, header_line, lines_by_token, lines_are, header_colon}
use Rattle.bz_tree.specs.Kinds.{kind_mark, mark_of}
use Rattle.std.specs.List.{last_or as last_of}
use Rattle.bz_tree.specs.Statement.{is_aside, bare_tokens}
use Rattle.bz_token.specs.Common.{map_or}

-- a token without its line
abbrev pub shown : Placed → Placed
shown t = record { kind = t.kind; text = t.text; line = 0; col = t.col; fresh = false }

abbrev pub all_shown : List Placed → List Placed
all_shown ts = map shown ts

shown_with : (m : Mark) (t : Placed) (ls : List (List Placed)) → with_token m (shown t) (map all_shown ls) ≡ map all_shown (with_token m t ls)
shown_with NewlineMark t ls = refl
shown_with Comment t ls = refl
shown_with Comma t [] = refl
shown_with Comma t (l ∷ ls) = refl
shown_with Plain t [] = refl
shown_with Plain t (l ∷ ls) = refl
shown_with (Open s) t [] = refl
shown_with (Open s) t (l ∷ ls) = refl
shown_with (Close s) t [] = refl
shown_with (Close s) t (l ∷ ls) = refl

shown_lines : (ts : List Placed) → lines_by_token (all_shown ts) ≡ map all_shown (lines_by_token ts)
shown_lines [] = refl
shown_lines (t ∷ ts) = ap (with_token (mark_of t) (shown t)) (shown_lines ts) ∙ shown_with (mark_of t) t (lines_by_token ts)

shown_last : (o : Option Placed) (ts : List Placed) → last_of (option_map shown o) (all_shown ts) ≡ option_map shown (last_of o ts)
shown_last o [] = refl
shown_last o (t ∷ ts) = shown_last (Some t) ts

shown_end : (o : Option Placed) → map_or false is_colon (option_map shown o) ≡ map_or false is_colon o
shown_end None = refl
shown_end (Some t) = refl

shown_open : (ts : List Placed) → ends_open (all_shown ts) ≡ ends_open ts
shown_open ts = ap (map_or false is_colon) (shown_last None ts) ∙ shown_end (last_of None ts)

-- whether a line is indented wrongly, where its first token stands on this stack
abbrev pub fault_at : Option (List ℕ) → ℕ → (List ℕ → Option ℕ) → Option ℕ
fault_at o line more = elim o [ None ↦ Some line | Some inner ↦ more inner ]

fault_same : (o : Option (List ℕ)) (l m : ℕ) (f g : List ℕ → Option ℕ) → ((inner : List ℕ) → is_some (f inner) ≡ is_some (g inner)) → is_some (fault_at o l f) ≡ is_some (fault_at o m g)
fault_same None l m f g h = refl
fault_same (Some inner) l m f g h = h inner

shown_bad : (ls : List (List Placed)) (columns : List ℕ) (opens : Bool) → is_some (bad_line columns opens (map all_shown ls)) ≡ is_some (bad_line columns opens ls)
shown_bad [] columns opens = refl
shown_bad ([] ∷ ls) columns opens = shown_bad ls columns opens
shown_bad ((t ∷ ts) ∷ ls) columns opens =
    fault_same (indented opens t.col columns) 0 t.line (λ inner. bad_line inner (ends_open (all_shown (t ∷ ts))) (map all_shown ls)) (λ inner. bad_line inner (ends_open (t ∷ ts)) ls)
    (λ inner. ap (λ o. is_some (bad_line inner o (map all_shown ls))) (shown_open (t ∷ ts)) ∙ shown_bad ls inner (ends_open (t ∷ ts)))

shown_header : (ls : List (List Placed)) → header_line (map all_shown ls) ≡ all_shown (header_line ls)
shown_header [] = refl
shown_header ([] ∷ ls) = shown_header ls
shown_header ((t ∷ ts) ∷ ls) = refl

shown_colon : (depth : ℕ) (ts : List Placed) → has_colon depth (all_shown ts) ≡ has_colon depth ts
shown_colon depth [] = refl
shown_colon depth (t ∷ ts) = ap (λ b. (depth == 0 && is_colon t) || b) (shown_colon (depth_after (mark_of t) depth) ts)

shown_bare : (ts : List Placed) → bare_tokens (all_shown ts) ≡ all_shown (bare_tokens ts)
shown_bare [] = refl
shown_bare (t ∷ ts) = by (is_aside t.kind) (shown_bare ts)
  where
    by : (b : Bool) → bare_tokens (all_shown ts) ≡ all_shown (bare_tokens ts) → (if b then bare_tokens (all_shown ts) else shown t ∷ bare_tokens (all_shown ts)) ≡ all_shown (if b then bare_tokens ts else t ∷ bare_tokens ts)
    by true e = e
    by false e = ap (λ l. shown t ∷ l) e

shown_block : (ts : List Placed) → is_block (all_shown ts) ≡ is_block ts
shown_block ts =
    let colon : has_header_colon (all_shown ts) ≡ has_header_colon ts =
    header_colon (all_shown ts) ∙ ap (λ ls. has_colon 0 (header_line ls)) (shown_lines ts) ∙ ap (has_colon 0) (shown_header (lines_by_token ts)) ∙ shown_colon 0 (header_line (lines_by_token ts))
    ∙ sym (header_colon ts) in
    let last : ends_open (bare_tokens (all_shown ts)) ≡ ends_open (bare_tokens ts) = ap ends_open (shown_bare ts) ∙ shown_open (bare_tokens ts) in
    λ i. colon i && not (last i)

is_none : (o : Option ℕ) → is_some o ≡ false → o ≡ None
is_none None h = refl
is_none (Some n) h = absurd (false≢true (sym h))

-- tokens that differ in their lines alone are a block both, and indented wrongly both
pub same_block : (ts us : List Placed) → all_shown ts ≡ all_shown us → is_block ts ≡ is_block us
same_block ts us e = sym (shown_block ts) ∙ ap is_block e ∙ shown_block us

pub indent_by_token : (ts : List Placed) → block_indent ts ≡ bad_line (1 ∷ []) false (lines_by_token ts)
indent_by_token ts = ap (bad_line (1 ∷ []) false) (lines_are ts)

shown_indent : (ts : List Placed) → is_some (block_indent (all_shown ts)) ≡ is_some (block_indent ts)
shown_indent ts =
    ap is_some (indent_by_token (all_shown ts)) ∙ ap (λ ls. is_some (bad_line (1 ∷ []) false ls)) (shown_lines ts) ∙ shown_bad (lines_by_token ts) (1 ∷ []) false ∙ ap is_some (sym (indent_by_token ts))

pub same_indent : (ts us : List Placed) → all_shown ts ≡ all_shown us → block_indent us ≡ None → block_indent ts ≡ None
same_indent ts us e h = is_none (block_indent ts) (sym (shown_indent ts) ∙ ap (λ vs. is_some (block_indent vs)) e ∙ shown_indent us ∙ ap is_some h)

-- comments and newlines in front of tokens
abbrev pub are_aside : List Placed → Bool
are_aside ts = list_all (λ t. is_aside t.kind) ts

aside_bad : (kind : Kind) (text : List ℕ) (t : Placed) (ls : List (List Placed)) (columns : List ℕ) (opens : Bool) → is_aside kind ≡ true → bad_line columns opens (with_token (kind_mark kind text) t ls) ≡ bad_line columns opens ls
aside_bad CommentToken text t ls columns opens h = refl
aside_bad Newline text t ls columns opens h = refl
aside_bad _ text t ls columns opens h = absurd (false≢true h)

aside_header : (kind : Kind) (text : List ℕ) (t : Placed) (ls : List (List Placed)) → is_aside kind ≡ true → header_line (with_token (kind_mark kind text) t ls) ≡ header_line ls
aside_header CommentToken text t ls h = refl
aside_header Newline text t ls h = refl
aside_header _ text t ls h = absurd (false≢true h)

pub front_bad : (aa ts : List Placed) (columns : List ℕ) (opens : Bool) → are_aside aa ≡ true → bad_line columns opens (lines_by_token (aa ++ ts)) ≡ bad_line columns opens (lines_by_token ts)
front_bad [] ts columns opens h = refl
front_bad (a ∷ aa) ts columns opens h =
    let p = and_parts (is_aside a.kind) (are_aside aa) h in
    aside_bad a.kind a.text a (lines_by_token (aa ++ ts)) columns opens p.0 ∙ front_bad aa ts columns opens p.1

pub front_header : (aa ts : List Placed) → are_aside aa ≡ true → header_line (lines_by_token (aa ++ ts)) ≡ header_line (lines_by_token ts)
front_header [] ts h = refl
front_header (a ∷ aa) ts h =
    let p = and_parts (is_aside a.kind) (are_aside aa) h in
    aside_header a.kind a.text a (lines_by_token (aa ++ ts)) p.0 ∙ front_header aa ts p.1

pub front_bare : (aa ts : List Placed) → are_aside aa ≡ true → bare_tokens (aa ++ ts) ≡ bare_tokens ts
front_bare [] ts h = refl
front_bare (a ∷ aa) ts h =
    let p = and_parts (is_aside a.kind) (are_aside aa) h in
    ap (λ b. if b then bare_tokens (aa ++ ts) else a ∷ bare_tokens (aa ++ ts)) p.0 ∙ front_bare aa ts p.1
