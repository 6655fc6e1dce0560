-- What a block that was read says of its pieces.
use Rattle.std.proofs.Common.{◌≡◌, ℕ, ◌==◌, List, [], ◌∷◌, ◌++◌, Bool, true, false, Some, None, refl, sym, ap, subst, ◌∙◌, arith}
use Rattle.std.specs.Prelude.{if◌then◌else◌}
use Rattle.std.proofs.lemmas.Bool.Decides.{nat_tests}
use Rattle.bz_token.specs.declared.token.Kind.TheVariants.{Kept}
use Rattle.bz_token.specs.Places.{Placed, column_at}
use Rattle.bz_token.specs.Reading.{is_gap, Piece, bytes_of, tokens_of}
use Rattle.bz_layout_laws.proofs.Readable.{read_is_laid}
use Rattle.bz_tree.specs.declared.tree.Class.TheVariants.{Block}
use Rattle.bz_tree.specs.Blocks.{above, is_block_word_at, is_block_word, block_indent, is_block, kept_statement, IsKeptText, IsBlockOf}
use Rattle.bz_tree.specs.Brackets.{end_line}
use Rattle.bz_tree.specs.Chunk.{IsBlockOrPlain, indent_at}
use Rattle.bz_tree.specs.Statement.{first_token, last_seen}
use Rattle.bz_tree.specs.Tree.{leaf, Statement}
use Rattle.bz_tree.proofs.Trees.Sound.{none_is_some, some_injective}
use Rattle.bz_layout_laws.proofs.KeptSame.{kept_same}
use Rattle.bz_layout_laws.specs.BlockIn.{IsBlockIn}
use Rattle.bz_layout_laws.proofs.BlockParts.{AreParts, parts_of}
use Rattle.bz_layout_laws.proofs.BlockPlaces.{body_tokens, header_token, told}
use Rattle.bz_layout_laws.proofs.BlockTests.{Passes}
use Rattle.bz_token.specs.Common.{map_or}

-- what a block that was read says of its pieces
pub record Body (first depth : ℕ) (bytes : List ℕ) (s : Statement) : Type 0 where
  pub front : List Piece
  pub header : Piece
  pub mid : List Piece
  pub newlines : List Piece
  pub rest : List ℕ
  pub bytes_are : bytes ≡ bytes_of (front ++ ((header ∷ mid) ++ newlines)) ++ rest
  pub gap : is_gap false rest ≡ true
  pub parts : AreParts front header mid newlines
  pub passes : Passes depth (front ++ ((header ∷ mid) ++ newlines)) rest
  pub word : is_block_word_at header.kind header.text ≡ true
  pub column : column_at (bytes_of front ++ header.gap) ≡ 1
  pub indent : block_indent (body_tokens first front header mid) ≡ None
  pub block : is_block (body_tokens first front header mid) ≡ true
  pub before : List (List ℕ)
  pub start : ℕ
  pub end : ℕ
  pub is : s ≡ record { before = before; nodes = leaf Kept (header.text ++ bytes_of mid) ∷ []; suffix = None; class = Block; start = start; end = end }

-- the first token stands in column 1, and the lines on columns that fit
no_fault : (t : Placed) (tokens : List Placed) → is_block_word t ≡ true → indent_at (Some t) tokens ≡ None → (t.col ≡ 1) × (block_indent tokens ≡ None)
no_fault t tokens word h = by (t.col == 1) refl h
  where
    by : (b : Bool) → (t.col == 1) ≡ b → (if b then (if is_block_word t then block_indent tokens else None) else Some t.line) ≡ None → (t.col ≡ 1) × (block_indent tokens ≡ None)
    by true is h = ((let e : t.col ≡ 1 = grind (arith, nat_tests, is) in e), sym (ap (λ w. if w then block_indent tokens else None) word) ∙ h)
    by false is h = absurd (none_is_some t.line (sym h))

pub body_of : (first depth : ℕ) (bytes : List ℕ) (s : Statement) → IsBlockIn first depth bytes s → Body first depth bytes s
body_of first depth bytes s b =
    let a : IsBlockOf first bytes b.tokens s = subst (λ w. IsBlockOrPlain w first bytes b.tokens s) b.begins b.reads.chunk in
    let pieces = b.are.0 in
    let rest = b.are.1 in
    let laid = read_is_laid depth [] pieces rest bytes b.are.2 in
    let found = parts_of first [] [] pieces a.header (sym (ap first_token b.are.5) ∙ a.is_header) in
    let whole = found.front ++ ((found.header ∷ found.mid) ++ found.newlines) in
    let bytes_are : bytes ≡ bytes_of whole ++ rest = laid.0 ∙ ap (λ ps. bytes_of ps ++ rest) found.are in
    let tokens_are : b.tokens ≡ tokens_of first [] [] whole = b.are.5 ∙ ap (tokens_of first [] []) found.are in
    let t = told first found.front found.header found.mid found.newlines rest found.parts in
    let here = header_token first found.front found.header in
    let is_header : first_token b.tokens ≡ Some here = ap first_token tokens_are ∙ t.is_header in
    let header : here ≡ a.header = some_injective here a.header (sym is_header ∙ a.is_header) in
    let last : t.last ≡ a.last = some_injective t.last a.last (sym (ap last_seen tokens_are ∙ t.is_last) ∙ a.is_last) in
    let kept : found.header.text ++ bytes_of found.mid ≡ a.kept =
    kept_same first bytes a.header a.last (found.header.text ++ bytes_of found.mid) a.kept
    (subst (λ bs. IsKeptText first bs a.header a.last (found.header.text ++ bytes_of found.mid)) (sym bytes_are)
    (subst (λ h. IsKeptText first (bytes_of whole ++ rest) h a.last (found.header.text ++ bytes_of found.mid)) header
    (subst (λ l. IsKeptText first (bytes_of whole ++ rest) here l (found.header.text ++ bytes_of found.mid)) last t.is_kept)))
    a.is_kept in
    let word : is_block_word here ≡ true = sym (ap (map_or false is_block_word) is_header) ∙ b.begins in
    let stands = no_fault here b.tokens word (sym (ap (λ o. indent_at o b.tokens) is_header) ∙ b.reads.upright) in
    record {
      front = found.front;
      header = found.header;
      mid = found.mid;
      newlines = found.newlines;
      rest = rest;
      bytes_are = bytes_are;
      gap = b.are.3;
      parts = found.parts;
      passes = subst (λ ps. Passes depth ps rest) found.are (record { texts = laid.1; ended = laid.2; fitting = laid.3; closed = b.are.4 });
      word = word;
      column = stands.0;
      indent = sym t.indent ∙ sym (ap block_indent tokens_are) ∙ stands.1;
      block = sym t.block ∙ sym (ap is_block tokens_are) ∙ a.is_block;
      before = above b.tokens;
      start = a.header.line;
      end = end_line a.last;
      is = a.is ∙ ap (λ k. kept_statement (above b.tokens) k a.header (end_line a.last)) (sym kept);
    }
