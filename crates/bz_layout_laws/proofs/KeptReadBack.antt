-- The text of a kept block is read back wherever it stands in a file.
use Rattle.std.proofs.Common.{◌≡◌, ℕ, zero, suc, List, [], ◌∷◌, ◌++◌, replicate, true, false, refl, sym, ap, subst, ◌∙◌, append_assoc, append-nil}
use Rattle.std.specs.Prelude.{codes}
use Rattle.std.specs.List.{list_all}
use Rattle.std.proofs.lemmas.Bool.{and_parts, false≢true}
use Rattle.bz_token.specs.declared.cutter.block.Opener.{Opener}
use Rattle.bz_token.specs.declared.cutter.block.Opener.TheVariants.{If}
use Rattle.bz_token.specs.Blocks.{goes_on}
use Rattle.bz_token.specs.Chunks.{chunks}
use Rattle.bz_token.specs.FreshStart.{ends_in_line}
use Rattle.bz_token.specs.Lexical.{is_comment}
use Rattle.bz_token.specs.LogicalLines.{lines}
use Rattle.bz_token.specs.Reading.{Piece, bytes_of, tokens_of}
use Rattle.bz_layout_laws.proofs.Readable.{laid_lines}
use Rattle.bz_token.proofs.TokenLines.{lines_join}
use Rattle.bz_tree.specs.Blocks.{is_block_word_at}
use Rattle.bz_tree.specs.Tree.{Statement}
use Rattle.bz_layout.specs.Layout.{layout_text}
use Rattle.bz_layout.specs.Gaps.{gap_text}
use Rattle.bz_layout_laws.specs.FileText.{takes_line, own_text, lines_left}
use Rattle.bz_layout_laws.specs.KeptBlock.{IsKeptBlock}
use Rattle.bz_layout_laws.specs.Legible.{AreComments}
use Rattle.bz_layout_laws.specs.ReadBack.{IsReadBack}
use Rattle.bz_layout_laws.proofs.BlockAfter.{begun}
use Rattle.bz_layout_laws.proofs.BlockBody.{body_of}
use Rattle.bz_layout_laws.proofs.BlockForm.{AreBlockLines, block_ends, block_before}
use Rattle.bz_layout_laws.proofs.BlockHead.{word_begins, word_opens}
use Rattle.bz_layout_laws.proofs.BlockLines.{goes_less}
use Rattle.bz_layout_laws.proofs.BlockTests.{newline, close}
use Rattle.bz_layout_laws.proofs.BlockWritten.{lines_above, written, written_passes, written_text}
use Rattle.bz_layout_laws.proofs.FirstByte.{comment_begins}
use Rattle.bz_layout_laws.proofs.KeptChunk.{written_block}
use Rattle.bz_layout_laws.proofs.KeptStays.{kept_class, kept_text, kept_read}

-- no block goes on with it: it begins with a comment or with its own word
written_begins : (texts : List (List ℕ)) (header : Piece) (mid : List Piece) (more : ℕ) (rest : List ℕ) → AreComments texts → is_block_word_at header.kind header.text ≡ true → goes_on If (bytes_of (written texts header mid more) ++ rest) ≡ false
written_begins [] header mid more rest comments word =
    let after = bytes_of (mid ++ replicate (suc more) newline) in
    ap (goes_on If) (append_assoc header.text after rest) ∙ word_begins header.kind header.text (after ++ rest) word
written_begins (text ∷ texts) header mid more rest comments word =
    ap (goes_on If) (append_assoc text _ rest) ∙ comment_begins text _ (and_parts (is_comment text) (list_all is_comment texts) comments).0

-- its last piece is a newline
newline_last : (ps : List Piece) (more : ℕ) → ends_in_line (ps ++ replicate (suc more) newline) ≡ true
newline_last [] zero = refl
newline_last [] (suc more) = newline_last [] more
newline_last (p ∷ []) more = newline_last [] more
newline_last (p ∷ q ∷ ps) more = newline_last (q ∷ ps) more

written_last : (texts : List (List ℕ)) (header : Piece) (mid : List Piece) (more : ℕ) → ends_in_line (written texts header mid more) ≡ true
written_last texts header mid more =
    ap ends_in_line (sym (append_assoc (lines_above texts) (close header ∷ mid) (replicate (suc more) newline))) ∙ newline_last (lines_above texts ++ (close header ∷ mid)) more

-- what is known of the text with some newlines after it
record Written (depth : ℕ) (s : Statement) (more : ℕ) : Type 0 where
  text : List ℕ
  word : Opener
  text_is : text ≡ layout_text s ++ replicate more 10
  block : AreBlockLines word (lines text)
  begins : (rest : List ℕ) → goes_on If (text ++ rest) ≡ false
  join : (rest : List ℕ) → lines (text ++ rest) ≡ lines text ++ lines rest

kept_written : (depth : ℕ) (s : Statement) (more : ℕ) → IsKeptBlock depth s → Written depth s more
kept_written depth s more h =
    let b = body_of h.first depth h.bytes h.found h.read in
    let word = word_opens b.header.kind b.header.text b.word in
    let ps = written s.before b.header b.mid more in
    let p = written_passes h.first depth h.bytes h.found b s.before more h.comments in
    let last = written_last s.before b.header b.mid more in
    record {
      text = bytes_of ps;
      word = word.0;
      text_is = written_text h.first depth h.bytes h.found b s.before more ∙ ap (λ text. text ++ replicate more 10) (kept_text depth s h);
      block = written_block h.first depth h.bytes h.found b word.0 s.before more word.1 h.alone h.comments;
      begins = λ rest. written_begins s.before b.header b.mid more rest h.comments b.word;
      join = λ rest. lines_join 1 depth (bytes_of ps) rest (tokens_of 1 [] [] ps) (laid_lines 1 depth ps p.texts p.ended p.fitting p.closed last);
    }

-- where no block goes on with what follows
followed : (depth : ℕ) (s : Statement) (more : ℕ) (w : Written depth s more) (rest : List ℕ) → goes_on If rest ≡ false → chunks (w.text ++ rest) ≡ w.text ∷ chunks rest
followed depth s more w [] stops = ap chunks (append-nil w.text) ∙ block_ends w.word w.text w.block
followed depth s more w (b ∷ bs) stops =
    let next = begun b bs in
    block_before w.word w.text (b ∷ bs) next.line next.others w.block (w.join (b ∷ bs)) next.lines_are (next.goes w.word ∙ goes_less w.word (b ∷ bs) stops)

pub kept_read_back : (depth : ℕ) (s : Statement) → IsKeptBlock depth s → IsReadBack depth s
kept_read_back depth s h =
    let w = kept_written depth s 0 h in
    let text : w.text ≡ layout_text s = w.text_is ∙ append-nil (layout_text s) in
    record {
      begins = λ rest. ap (λ t. goes_on If (t ++ rest)) (sym text) ∙ w.begins rest;
      ends = subst (λ t. chunks t ≡ t ∷ []) text (block_ends w.word w.text w.block);
      alone = λ none. absurd (false≢true (sym none ∙ ap takes_line (kept_class depth s h)));
      gap = λ takes lines rest some stops.
          let v = kept_written depth s lines h in
          ap chunks (sym (append_assoc (layout_text s) (gap_text lines) rest)) ∙ subst (λ t. chunks (t ++ rest) ≡ t ∷ chunks rest) v.text_is (followed depth s lines v rest stops)
          ∙ ap (λ class. own_text class (layout_text s) lines ∷ replicate (lines_left class lines) (codes "\n") ++ chunks rest) (sym (kept_class depth s h));
      read = λ first lines. kept_read first depth s h lines;
    }
