-- The texts of a block are UTF-8 where its chunk is: it is cut before its first token and after its last one.
use Rattle.std.proofs.Common.{◌≡◌, ℕ, List, [], ◌∷◌, ◌++◌, true, false, refl, sym, ap, subst, ◌∙◌, append_assoc, append-nil}
use Rattle.std.specs.List.{list_all}
use Rattle.std.specs.Str.{IsUtf8, is_utf8}
use Rattle.std.proofs.lemmas.Str.{is_utf8-from_IsUtf8}
use Rattle.bz_token.specs.Brackets.{open_after_token}
use Rattle.bz_token.specs.Reading.{Piece, IsReading, open_after, bytes_of}
use Rattle.bz_token.proofs.Quiet.{both}
use Rattle.bz_layout_laws.proofs.Readable.{laid_reading}
use Rattle.bz_tree.specs.Tree.{Statement}
use Rattle.bz_layout_laws.specs.BlockIn.{IsBlockIn}
use Rattle.bz_layout_laws.specs.EachText.{HasUtf8}
use Rattle.bz_layout_laws.proofs.AboveBlock.{block_comments_utf8}
use Rattle.bz_layout_laws.proofs.BlockBody.{body_of}
use Rattle.bz_layout_laws.proofs.Utf8Tokens.{StartsLow, cut_low, text_low, gap_low, pieces_low}

-- the reading of the later ones of some pieces
record Later (depth : ℕ) (opened : List ℕ) (ps qs : List Piece) (rest bytes : List ℕ) : Type 0 where
  after : List ℕ
  bytes_are : bytes ≡ bytes_of ps ++ after
  read : IsReading depth (open_after opened ps) qs rest after

later : (depth : ℕ) (opened : List ℕ) (ps qs : List Piece) (rest bytes : List ℕ) → IsReading depth opened (ps ++ qs) rest bytes → Later depth opened ps qs rest bytes
later depth opened [] qs rest bytes r = record { after = bytes; bytes_are = refl; read = r }
later depth opened (p ∷ ps) qs rest bytes r =
    let more = later depth (open_after_token opened p.text) ps qs rest r.0 r.2 in
    let whole : p.gap ++ (p.text ++ (bytes_of ps ++ more.after)) ≡ (p.gap ++ (p.text ++ bytes_of ps)) ++ more.after = simp append_assoc in
    record { after = more.after; bytes_are = r.1.bytes_are ∙ ap (λ x. p.gap ++ (p.text ++ x)) more.bytes_are ∙ whole; read = more.read }

-- the text from a piece's token to the end of later pieces
kept_utf8 : (depth : ℕ) (front : List Piece) (header : Piece) (mid newlines : List Piece) (rest bytes : List ℕ) → IsReading depth [] (front ++ ((header ∷ mid) ++ newlines)) rest bytes → StartsLow rest → IsUtf8 bytes
    → IsUtf8 (header.text ++ bytes_of mid)
kept_utf8 depth front header mid newlines rest bytes r low u =
    let opened = open_after [] front in
    let body = later depth [] front ((header ∷ mid) ++ newlines) rest bytes r in
    let first = body.read in
    let inner = open_after_token opened header.text in
    let tail = later depth inner mid newlines rest first.0 first.2 in
    let whole = (cut_low (bytes_of front) body.after (pieces_low depth opened ((header ∷ mid) ++ newlines) rest body.after first low) (subst IsUtf8 body.bytes_are u)).1 in
    let text = (cut_low header.gap (header.text ++ first.0) (text_low header.kind header.text first.0 first.1.token.whole) (subst IsUtf8 first.1.bytes_are whole)).1 in
    let same : header.text ++ first.0 ≡ (header.text ++ bytes_of mid) ++ tail.after = ap (λ x. header.text ++ x) tail.bytes_are ∙ sym (append_assoc header.text (bytes_of mid) tail.after) in
    (cut_low (header.text ++ bytes_of mid) tail.after (pieces_low depth (open_after inner mid) newlines rest tail.after tail.read low) (subst IsUtf8 same text)).0

pub block_utf8 : (first depth : ℕ) (bytes : List ℕ) (s : Statement) → IsUtf8 bytes → IsBlockIn first depth bytes s → HasUtf8 s
block_utf8 first depth bytes s u b =
    let body = body_of first depth bytes s b in
    let whole = body.front ++ ((body.header ∷ body.mid) ++ body.newlines) in
    let read = subst (IsReading depth [] whole body.rest) (sym body.bytes_are) (laid_reading depth [] whole body.rest body.passes.texts body.passes.ended body.passes.fitting) in
    let low = subst StartsLow (append-nil body.rest) (gap_low false body.rest [] body.gap tt) in
    let kept = kept_utf8 depth body.front body.header body.mid body.newlines body.rest bytes read low u in
    let comments : list_all is_utf8 body.before ≡ true = subst (λ texts. list_all is_utf8 texts ≡ true) (ap (λ (t : Statement). t.before) body.is) (block_comments_utf8 first depth bytes s u b) in
    subst HasUtf8 (sym body.is) (both _ true (both _ _ comments (both _ true (is_utf8-from_IsUtf8 (body.header.text ++ bytes_of body.mid) kept) refl)) refl)
