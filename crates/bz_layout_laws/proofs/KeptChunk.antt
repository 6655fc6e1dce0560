-- The lines of a kept block's text: comment lines, its head, and lines that go on with it.
use Rattle.std.proofs.Common.{◌≡◌, ℕ, suc, ◌==◌, ◌&&◌, ◌||◌, List, [], ◌∷◌, ◌++◌, replicate, Bool, true, false, not, Some, refl, sym, ap, ◌∙◌, inl, inr, append_assoc, append-nil}
use Rattle.std.specs.List.{list_all}
use Rattle.std.proofs.lemmas.Bool.{cases_Bool, and_parts, or_cases, eqb-true}
use Rattle.bz_token.proofs.Units.{gap_step}
use Rattle.bz_token.specs.declared.cutter.block.Opener.{Opener}
use Rattle.bz_token.specs.Blocks.{opener_of}
use Rattle.bz_token.specs.Brackets.{is_inside, is_line, fits, open_after_token}
use Rattle.bz_token.specs.Chunks.{after_comments, block_word, chunks}
use Rattle.bz_token.specs.Ends.{ends}
use Rattle.bz_token.specs.Lexical.{is_text, is_word_byte}
use Rattle.bz_token.specs.LogicalLines.{lines}
use Rattle.bz_token.specs.Places.{column_from}
use Rattle.bz_token.specs.Reading.{is_gap, Piece, open_after, bytes_of}
use Rattle.bz_token.proofs.Joins.{line_text}
use Rattle.bz_token.proofs.Progress.{column_from-append}
use Rattle.bz_token.specs.ChunkForms.{are_of_block, are_more, is_rest}
use Rattle.bz_layout_laws.specs.Readable.{are_texts, are_ended, are_fitting}
use Rattle.bz_token.specs.TokenLines.{is_newline_piece, lines_from, lines_of}
use Rattle.bz_layout_laws.proofs.Readable.{laid_reading, texts_join, ended_join, fitting_join}
use Rattle.bz_token.proofs.TokenLines.{lines_are_lines, lines_of_join}
use Rattle.bz_tree.specs.Tree.{Statement}
use Rattle.bz_layout_laws.specs.Legible.{AreComments}
use Rattle.bz_layout_laws.proofs.BlockBody.{Body}
use Rattle.bz_layout_laws.proofs.BlockFirst.{headed}
use Rattle.bz_layout_laws.proofs.BlockForm.{AreBlockLines, after_all, from_head, alone_form, of_block}
use Rattle.bz_layout_laws.proofs.BlockFront.{front_ends, front_column, front_comments}
use Rattle.bz_layout_laws.proofs.BlockLines.{all_whole, are_whole, all_go_on, without_first, others_go}
use Rattle.bz_layout_laws.proofs.BlockTests.{asides_open, newline, close}
use Rattle.bz_layout_laws.proofs.BlockWritten.{lines_above, written, written_passes}
use Rattle.bz_layout_laws.proofs.BranchWords.{stops_word}
use Rattle.bz_layout_laws.proofs.TokensBack.{comments_end}
use Rattle.bz_layout_laws.proofs.WholeChunk.{comments_are}
use Rattle.bz_token.specs.Pieces.{is_blank, is_white}
use Rattle.bz_token.specs.private.Gaps.{continues_gap}

-- white space and a backslash end a word
other_byte : (b c : ℕ) → is_word_byte c ≡ false → (b == c) ≡ true → not (is_word_byte b) ≡ true
other_byte b c h is = ap (λ x. not (is_word_byte x)) (eqb-true b c is) ∙ ap not h

blank_stops : (b : ℕ) → is_blank b ≡ true → not (is_word_byte b) ≡ true
blank_stops b h = elim (or_cases (b == 32 || b == 9) (b == 13) h) [
  | inr is ↦ other_byte b 13 refl is
  | inl other ↦ elim (or_cases (b == 32) (b == 9) other) [ inl is ↦ other_byte b 32 refl is | inr is ↦ other_byte b 9 refl is ]
]

gap_stops : (inside : Bool) (gap x : List ℕ) → is_gap inside gap ≡ true → stops_word x ≡ true → stops_word (gap ++ x) ≡ true
gap_stops inside [] x h stop = stop
gap_stops inside (b ∷ bs) x h stop = elim (cases_Bool (is_white inside b)) [
  | inr other ↦ other_byte b 92 refl (and_parts (b == 92) (continues_gap inside bs) (rw other at (sym (gap_step inside b bs) ∙ h))).0
  | inl white ↦ elim (or_cases (is_blank b) (inside && b == 10) white) [
    | inl blank ↦ blank_stops b blank
    | inr line ↦ other_byte b 10 refl (and_parts inside (b == 10) line).1
  ]
]

-- and so does what follows a block
newlines_stop : (depth : ℕ) (opened : List ℕ) (newlines : List Piece) (rest : List ℕ) → list_all is_newline_piece newlines ≡ true → are_texts newlines ≡ true → are_fitting depth opened newlines ≡ true → is_gap false rest ≡ true
    → stops_word (bytes_of newlines ++ rest) ≡ true
newlines_stop depth opened [] rest lines texts fitting gap = ap stops_word (sym (append-nil rest)) ∙ gap_stops false rest [] gap refl
newlines_stop depth opened (n ∷ ns) rest lines texts fitting gap =
    let line = (and_parts (is_line n.kind) (list_all is_newline_piece ns) lines).0 in
    let text : n.text ≡ 10 ∷ [] = line_text n.kind n.text line (and_parts (is_text n.kind n.text) (are_texts ns) texts).0 in
    let fit = and_parts (is_gap (is_inside opened) n.gap && fits depth opened n.kind n.text) (are_fitting depth (open_after_token opened n.text) ns) fitting in
    let space = (and_parts (is_gap (is_inside opened) n.gap) (fits depth opened n.kind n.text) fit.0).0 in
    ap stops_word (append_assoc n.gap (n.text ++ bytes_of ns) rest)
    ∙ gap_stops (is_inside opened) n.gap ((n.text ++ bytes_of ns) ++ rest) space (ap (λ t. stops_word ((t ++ bytes_of ns) ++ rest)) text)

-- the tests of a block's pieces
record Tested (depth : ℕ) (front : List Piece) (header : Piece) (mid newlines : List Piece) (rest : List ℕ) : Type 0 where
  gap : is_gap false header.gap ≡ true
  above : are_texts front ≡ true
  ended : ends header.kind header.text (bytes_of (mid ++ newlines) ++ rest) ≡ true
  below : stops_word (bytes_of newlines ++ rest) ≡ true

tested : (first depth : ℕ) (bytes : List ℕ) (s : Statement) (b : Body first depth bytes s) → Tested depth b.front b.header b.mid b.newlines b.rest
tested first depth bytes s b =
    let body = b.header ∷ b.mid in
    let all = body ++ b.newlines in
    let t = and_parts (are_texts b.front) (are_texts all) (sym (texts_join b.front all) ∙ b.passes.texts) in
    let u = and_parts (are_texts body) (are_texts b.newlines) (sym (texts_join body b.newlines) ∙ t.1) in
    let none : open_after [] b.front ≡ [] = asides_open b.front [] b.parts.asides t.0 in
    let f = and_parts (are_fitting depth [] b.front) (are_fitting depth (open_after [] b.front) all) (sym (fitting_join depth [] b.front all) ∙ b.passes.fitting) in
    let room : are_fitting depth [] all ≡ true = sym (ap (λ o. are_fitting depth o all) none) ∙ f.1 in
    let last = and_parts (are_fitting depth [] body) (are_fitting depth (open_after [] body) b.newlines) (sym (fitting_join depth [] body b.newlines) ∙ room) in
    let here = and_parts (is_gap false b.header.gap && fits depth [] b.header.kind b.header.text) (are_fitting depth (open_after_token [] b.header.text) b.mid) last.0 in
    let e = and_parts (are_ended b.front (bytes_of all ++ b.rest)) (are_ended all b.rest) (sym (ended_join b.front all b.rest) ∙ b.passes.ended) in
    record {
      gap = (and_parts (is_gap false b.header.gap) (fits depth [] b.header.kind b.header.text) here.0).0;
      above = t.0;
      ended = (and_parts (ends b.header.kind b.header.text (bytes_of (b.mid ++ b.newlines) ++ b.rest)) (are_ended (b.mid ++ b.newlines) b.rest) e.1).0;
      below = newlines_stop depth (open_after [] body) b.newlines b.rest b.parts.lines u.1 last.1 b.gap;
    }

-- in the chunk that the block was read from, the lines after its first go on with it
found_goes : (first depth : ℕ) (bytes : List ℕ) (s : Statement) (b : Body first depth bytes s) (word : Opener) → opener_of b.header.text ≡ Some word → chunks bytes ≡ bytes ∷ []
    → all_go_on word (without_first (lines_from (b.header ∷ []) (b.mid ++ b.newlines) b.rest)) ≡ true
found_goes first depth bytes s b word opens alone =
    let ps = b.front ++ ((b.header ∷ b.mid) ++ b.newlines) in
    let qs = b.mid ++ b.newlines in
    let p = b.passes in
    let t = tested first depth bytes s b in
    let line = front_ends b.front b.header qs b.rest b.parts.asides p.ended t.gap b.word in
    let column : column_from 1 b.header.gap ≡ 1 =
    sym (column_from-append 1 (bytes_of b.front) b.header.gap ∙ ap (λ n. column_from n b.header.gap) (front_column b.front line t.above)) ∙ b.column in
    let h = headed word b.header qs b.rest b.word opens t.gap column t.ended in
    let above = lines_of b.front [] in
    let lines_are : lines bytes ≡ above ++ h.head ∷ h.others =
    ap lines b.bytes_are
    ∙ lines_are_lines depth ps b.rest (bytes_of ps ++ b.rest) (laid_reading depth [] ps b.rest p.texts p.ended p.fitting) (ap (λ o. is_gap (is_inside o) b.rest) p.closed ∙ b.gap)
    ∙ lines_of_join b.front (b.header ∷ qs) b.rest line
    ∙ ap (λ ls. above ++ ls) h.lines_are in
    let form : is_rest (after_comments (above ++ h.head ∷ h.others)) ≡ true = ap (λ ls. is_rest (after_comments ls)) (sym lines_are) ∙ alone_form bytes alone in
    let comment_texts = front_comments b.front h.head h.others b.parts.asides form in
    let own : is_rest (h.head ∷ h.others) ≡ true = ap is_rest (sym (after_all above (h.head ∷ h.others) comment_texts ∙ from_head h.head h.others h.kind)) ∙ form in
    let more : are_of_block word h.head h.others ≡ true =
    sym (ap (λ k. are_more (block_word k h.head.text) h.head h.others) h.kind ∙ ap (λ w. are_more w h.head h.others) h.opens) ∙ own in
    ap (λ ls. all_go_on word (without_first ls)) h.begun ∙ of_block word h.head h.others more

-- and so they do in the text that is written, with whatever comments above and newlines after it
pub written_block : (first depth : ℕ) (bytes : List ℕ) (s : Statement) (b : Body first depth bytes s) (word : Opener) (texts : List (List ℕ)) (more : ℕ) → opener_of b.header.text ≡ Some word → chunks bytes ≡ bytes ∷ [] → AreComments texts
    → AreBlockLines word (lines (bytes_of (written texts b.header b.mid more)))
written_block first depth bytes s b word texts more opens alone comments =
    let header = close b.header in
    let newlines = replicate (suc more) newline in
    let front = lines_above texts in
    let qs = b.mid ++ newlines in
    let ps = written texts b.header b.mid more in
    let p = written_passes first depth bytes s b texts more comments in
    let e = and_parts (are_ended front (bytes_of (header ∷ qs) ++ [])) (are_ended (header ∷ qs) []) (sym (ended_join front (header ∷ qs) []) ∙ p.ended) in
    let ended = (and_parts (ends header.kind header.text (bytes_of qs ++ [])) (are_ended qs []) e.1).0 in
    let h = headed word header qs [] b.word opens refl refl ended in
    let goes = others_go word (b.header ∷ []) (header ∷ []) b.mid b.newlines b.rest more b.parts.lines (tested first depth bytes s b).below (found_goes first depth bytes s b word opens alone) in
    record {
      comments = lines_of front [];
      head = h.head;
      others = h.others;
      are =
          ap lines (sym (append-nil (bytes_of ps)))
          ∙ lines_are_lines depth ps [] (bytes_of ps ++ []) (laid_reading depth [] ps [] p.texts p.ended p.fitting) refl
          ∙ lines_of_join front (header ∷ qs) [] (comments_end texts)
          ∙ ap (λ ls. lines_of front [] ++ ls) h.lines_are;
      comment_texts = comments_are texts;
      kind = h.kind;
      opens = h.opens;
      whole = ap are_whole (sym h.lines_are) ∙ all_whole [] (header ∷ qs) [];
      goes = ap (λ ls. all_go_on word (without_first ls)) (sym h.begun) ∙ goes;
    }
