-- A block is read again from its text.
use Rattle.std.proofs.Common.{◌≡◌, ℕ, suc, ◌==◌, List, [], ◌∷◌, ◌++◌, replicate, true, false, Some, None, IsSome, refl, sym, ap, subst, ◌∙◌, append-nil, append_assoc}
use Rattle.std.specs.Prelude.{if◌then◌else◌}
use Rattle.bz_token.specs.Places.{Placed, line_at, column_from, column_at}
use Rattle.bz_token.specs.Reading.{Piece, bytes_of, tokens_of, AreTokensOf}
use Rattle.bz_token.proofs.OneFault.{one_tokens}
use Rattle.bz_token.proofs.Progress.{column_from-append, lines_of}
use Rattle.bz_layout_laws.proofs.Readable.{laid_tokens}
use Rattle.bz_tree.specs.Blocks.{above, is_block_word, block_indent, is_block, kept_statement, IsKeptText, IsBlockOf}
use Rattle.bz_tree.specs.Brackets.{without_lines, end_line}
use Rattle.bz_tree.specs.Chunk.{IsBlockOrPlain, IsChunkOf, IsReadAs, IsStatementIn, indent_at, indent_fault}
use Rattle.std.specs.List.{last_or as last_of}
use Rattle.bz_tree.specs.Statement.{first_token, first_seen, last_seen}
use Rattle.bz_tree.specs.Tree.{Statement}
use Rattle.bz_tree.proofs.Trees.Sound.{none_is_some}
use Rattle.bz_layout_laws.proofs.ChunkLaws.{chunk_same}
use Rattle.bz_layout.specs.Layout.{layout_text}
use Rattle.bz_layout_laws.specs.BlockIn.{IsBlockIn}
use Rattle.bz_layout_laws.specs.Legible.{AreComments}
use Rattle.bz_layout_laws.specs.Lineless.{lineless}
use Rattle.bz_layout_laws.proofs.BlockTokens.{all_shown, same_block, same_indent}
use Rattle.bz_layout_laws.proofs.BlockParts.{same_columns}
use Rattle.bz_layout_laws.proofs.BlockPlaces.{body_tokens, header_token, told}
use Rattle.bz_layout_laws.proofs.BlockTests.{newline, close}
use Rattle.bz_layout_laws.proofs.BlockBody.{Body, body_of}
use Rattle.bz_layout_laws.proofs.BlockWritten.{lines_above, written, written_passes, with_above, written_text, lines_column, above_lines, written_parts}
use Rattle.bz_token.specs.Common.{first_of, map_or}

-- something is seen where a last token is
some_seen : (tokens : List Placed) (t : Placed) → last_seen tokens ≡ Some t → IsSome (first_seen tokens)
some_seen tokens t h = by (without_lines tokens) h
  where
    by : (ts : List Placed) → last_of None ts ≡ Some t → IsSome (first_of ts)
    by [] h = absurd (none_is_some t h)
    by (u ∷ us) h = refl

-- what is read there
pub record Again (second depth : ℕ) (texts : List (List ℕ)) (s : Statement) (more : ℕ) : Type 0 where
  pub tokens : List Placed
  pub are : AreTokensOf second depth (layout_text (with_above texts s) ++ replicate more 10) tokens
  pub begins : map_or false is_block_word (first_token tokens) ≡ true
  pub found : Statement
  pub reads : IsReadAs second (layout_text (with_above texts s) ++ replicate more 10) tokens found
  pub same : lineless found ≡ lineless (with_above texts s)

pub block_again : (first second depth : ℕ) (bytes : List ℕ) (s : Statement) (b : Body first depth bytes s) (texts : List (List ℕ)) (more : ℕ) → AreComments texts → Again second depth texts s more
block_again first second depth bytes s b texts more h =
    let front = lines_above texts in
    let header = close b.header in
    let ps = written texts b.header b.mid more in
    let text = layout_text (with_above texts s) ++ replicate more 10 in
    let tokens = tokens_of second [] [] ps in
    let p = written_passes first depth bytes s b texts more h in
    let text_are : bytes_of ps ++ [] ≡ text = append-nil (bytes_of ps) ∙ written_text first depth bytes s b texts more in
    let are : AreTokensOf second depth text tokens = subst (λ x. AreTokensOf second depth x tokens) text_are (laid_tokens second depth ps [] p.texts p.ended p.fitting p.closed refl) in
    let t = told second front header b.mid (replicate (suc more) newline) [] (written_parts first depth bytes s b texts more) in
    let here = header_token second front header in
    let column : column_at (bytes_of front ++ []) ≡ 1 = ap column_at (append-nil (bytes_of front)) ∙ lines_column texts [] refl in
    let shown : all_shown (body_tokens second front header b.mid) ≡ all_shown (body_tokens first b.front b.header b.mid) =
    body_shown first second (bytes_of front) (bytes_of b.front) (lines_of second [] [] front) (lines_of first [] [] b.front) b.header b.mid (column ∙ sym b.column) in
    let indent : block_indent tokens ≡ None = t.indent ∙ same_indent (body_tokens second front header b.mid) (body_tokens first b.front b.header b.mid) shown b.indent in
    let block : is_block tokens ≡ true = t.block ∙ same_block (body_tokens second front header b.mid) (body_tokens first b.front b.header b.mid) shown ∙ b.block in
    let begins : map_or false is_block_word (first_token tokens) ≡ true = ap (map_or false is_block_word) t.is_header ∙ b.word in
    let kept = b.header.text ++ bytes_of b.mid in
    let found = kept_statement (above tokens) kept here (end_line t.last) in
    let is : IsBlockOf second text tokens found = record {
      header = here;
      last = t.last;
      kept = kept;
      is_header = t.is_header;
      is_last = t.is_last;
      is_kept = subst (λ x. IsKeptText second x here t.last kept) text_are t.is_kept;
      is_block = block;
      is = refl;
    } in
    let upright : indent_fault tokens ≡ None =
    ap (λ o. indent_at o tokens) t.is_header ∙ ap (λ n. if n == 1 then (if is_block_word here then block_indent tokens else None) else Some here.line) column
    ∙ ap (λ w. if w then block_indent tokens else None) b.word ∙ indent in
    let comments : above tokens ≡ texts = above_lines second texts header (b.mid ++ replicate (suc more) newline) [] [] b.word in
    record {
      tokens = tokens;
      are = are;
      begins = begins;
      found = found;
      reads = record { upright = upright; some = some_seen tokens t.last t.is_last; chunk = subst (λ w. IsBlockOrPlain w second text tokens found) (sym begins) is };
      same = ap (λ ns. lineless (with_above ns found)) comments ∙ ap (λ x. lineless (with_above texts x)) (sym b.is);
    }
  where
    body_shown : (first second : ℕ) (a c over under : List ℕ) (header : Piece) (mid : List Piece) → column_at (a ++ []) ≡ column_at (c ++ header.gap) → all_shown (tokens_of second a over (close header ∷ mid)) ≡ all_shown (tokens_of first c under (header ∷ mid))
    body_shown first second a c over under header mid e =
        let next : column_at (a ++ header.text) ≡ column_at (c ++ (header.gap ++ header.text)) =
        column_from-append 1 a header.text ∙ ap (λ x. column_from (column_from 1 x) header.text) (sym (append-nil a)) ∙ ap (λ n. column_from n header.text) e ∙ sym (column_from-append 1 (c ++ header.gap) header.text) ∙ ap column_at (append_assoc c header.gap header.text) in
        let rest = same_columns second first (a ++ header.text) (c ++ (header.gap ++ header.text)) (line_at second (a ++ []) ∷ over) (line_at first (c ++ header.gap) ∷ under) mid next in
        λ i. record { kind = header.kind; text = header.text; line = 0; col = e i; fresh = false } ∷ rest i

pub again_some : (first second depth more : ℕ) (bytes : List ℕ) (s : Statement) (texts : List (List ℕ)) → IsBlockIn first depth bytes s → AreComments texts
    → (t : Statement) × IsStatementIn second depth (layout_text (with_above texts s) ++ replicate more 10) t × (lineless t ≡ lineless (with_above texts s))
again_some first second depth more bytes s texts b h =
    let a = block_again first second depth bytes s (body_of first depth bytes s b) texts more h in
    (a.found, record { tokens = a.tokens; are = a.are; reads = a.reads }, a.same)

pub again_only : (first second depth more : ℕ) (bytes : List ℕ) (s t : Statement) (texts : List (List ℕ)) → IsBlockIn first depth bytes s → AreComments texts
    → IsStatementIn second depth (layout_text (with_above texts s) ++ replicate more 10) t
    → (lineless t ≡ lineless (with_above texts s)) × (layout_text t ≡ layout_text (with_above texts s))
again_only first second depth more bytes s t texts b h is =
    let text = layout_text (with_above texts s) ++ replicate more 10 in
    let a = block_again first second depth bytes s (body_of first depth bytes s b) texts more h in
    let tokens : is.tokens ≡ a.tokens = one_tokens second depth text is.tokens a.tokens is.are a.are in
    let found : t ≡ a.found = chunk_same second text a.tokens t a.found (subst (λ ts. IsChunkOf second text ts t) tokens is.reads.chunk) a.reads.chunk in
    let same : lineless t ≡ lineless (with_above texts s) = ap lineless found ∙ a.same in
    (same, ap layout_text same)
