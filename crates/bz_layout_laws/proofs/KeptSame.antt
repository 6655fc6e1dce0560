-- The text of a block is one, and so is its statement.
use Rattle.std.proofs.Common.{◌≡◌, ℕ, ◌+◌, ◌-◌, List, ◌++◌, length, take, drop, Some, sym, ap, ◌∙◌, arith, append_assoc, length-append}
use Rattle.bz_token.specs.Places.{Placed}
use Rattle.bz_tree.specs.Tree.{Statement}
use Rattle.bz_tree.specs.Brackets.{end_line}
use Rattle.bz_tree.specs.Blocks.{IsKeptText, IsBlockOf, kept_statement, above}
use Rattle.bz_tree.specs.private.BlockSteps.{offset_run}
use Rattle.bz_tree.proofs.Trees.KeptText.{place_offset, middle}

-- the text between two places
abbrev text_between : ℕ → List ℕ → Placed → Placed → List ℕ
text_between first bytes header last =
    let begin = offset_run header.line header.col first 1 bytes in
    take ((offset_run last.line last.col first 1 bytes + length last.text) - begin) (drop begin bytes)

kept_of : (first : ℕ) (bytes : List ℕ) (header last : Placed) (kept : List ℕ) → IsKeptText first bytes header last kept → kept ≡ text_between first bytes header last
kept_of first bytes header last kept k =
    let begin = offset_run header.line header.col first 1 bytes in
    let place = offset_run last.line last.col first 1 bytes in
    let b : begin ≡ length k.before = place_offset first bytes k.before (kept ++ k.after) header k.bytes_are k.begins in
    let split : bytes ≡ (k.before ++ k.front) ++ (last.text ++ k.after) = k.bytes_are ∙ ap (λ x. k.before ++ (x ++ k.after)) k.kept_is ∙ simp append_assoc in
    let e : place ≡ length (k.before ++ k.front) = place_offset first bytes (k.before ++ k.front) (last.text ++ k.after) last split k.ends in
    let size : length kept ≡ length (k.front ++ last.text) = ap length k.kept_is in
    let whole : place + length last.text ≡ length k.before + length kept = omega (arith, e, size, length-append k.before k.front, length-append k.front last.text) in
    sym (ap (λ bs. take ((place + length last.text) - begin) (drop begin bs)) k.bytes_are ∙ middle k.before kept k.after begin (place + length last.text) b whole)

-- the text between two tokens is one
pub kept_same : (first : ℕ) (bytes : List ℕ) (header last : Placed) (kept other : List ℕ) → IsKeptText first bytes header last kept → IsKeptText first bytes header last other → kept ≡ other
kept_same first bytes header last kept other k o = kept_of first bytes header last kept k ∙ sym (kept_of first bytes header last other o)

some_same : (x y : Placed) → Some x ≡ Some y → x ≡ y
some_same x y e = cc

-- the tokens are one block at most
pub block_same : (first : ℕ) (bytes : List ℕ) (tokens : List Placed) (s t : Statement) → IsBlockOf first bytes tokens s → IsBlockOf first bytes tokens t → s ≡ t
block_same first bytes tokens s t a b =
    let header : a.header ≡ b.header = some_same a.header b.header (sym a.is_header ∙ b.is_header) in
    let last : a.last ≡ b.last = some_same a.last b.last (sym a.is_last ∙ b.is_last) in
    let kept : a.kept ≡ b.kept = kept_of first bytes a.header a.last a.kept a.is_kept ∙ (λ i. text_between first bytes (header i) (last i)) ∙ sym (kept_of first bytes b.header b.last b.kept b.is_kept) in
    let same : kept_statement (above tokens) a.kept a.header (end_line a.last) ≡ kept_statement (above tokens) b.kept b.header (end_line b.last) = λ i. kept_statement (above tokens) (kept i) (header i) (end_line (last i)) in
    a.is ∙ same ∙ sym b.is
