-- The first line of a block is a statement line that begins with the word of the block.
use Rattle.std.proofs.Common.{◌≡◌, ℕ, List, [], ◌∷◌, ◌++◌, true, false, Some, refl, sym, ap, ◌∙◌, inl, inr, append_assoc, append-nil}
use Rattle.std.specs.Prelude.{if◌then◌else◌}
use Rattle.std.proofs.lemmas.Bool.{cases_Bool, false≢true}
use Rattle.bz_token.specs.declared.cutter.block.Opener.{Opener}
use Rattle.bz_token.specs.declared.cutter.scan.LineKind.TheVariants.{Statement}
use Rattle.bz_token.specs.Blocks.{opener_of, opener}
use Rattle.bz_token.specs.Brackets.{is_line}
use Rattle.bz_token.specs.Ends.{ends}
use Rattle.bz_token.specs.LogicalLines.{Line}
use Rattle.bz_token.specs.Places.{column_from}
use Rattle.bz_token.specs.Reading.{is_gap, Piece, bytes_of}
use Rattle.bz_token.specs.TokenLines.{line_of, lines_from, lines_of}
use Rattle.bz_layout_laws.proofs.Readable.{bytes_join}
use Rattle.bz_tree.specs.Blocks.{is_block_word_at}
use Rattle.bz_layout_laws.proofs.BlockHead.{by_word, word_no_line, word_no_comment, word_ended, head_opens}
use Rattle.bz_layout_laws.proofs.BlockLines.{cut_line, keep_line, stops_front}
use Rattle.bz_layout_laws.proofs.BranchWords.{stops_word}
use Rattle.bz_token.specs.Common.{is_empty}

-- the first of the lines of pieces after some that have begun it
record First (line qs : List Piece) (rest : List ℕ) : Type 0 where
  pieces : List Piece
  end : List ℕ
  after : List ℕ
  others : List Line
  lines_are : lines_from line qs rest ≡ line_of (line ++ pieces) end ∷ others
  bytes_are : bytes_of qs ++ rest ≡ (bytes_of pieces ++ end) ++ after

some_front : (xs ys : List ℕ) → is_empty xs ≡ false → is_empty (xs ++ ys) ≡ false
some_front [] ys h = absurd (false≢true (sym h))
some_front (x ∷ xs) ys h = refl

first_line : (line qs : List Piece) (rest : List ℕ) → is_empty (bytes_of line) ≡ false → First line qs rest
first_line line [] rest some = record {
  pieces = [];
  end = rest;
  after = [];
  others = [];
  lines_are = ap (λ b. if b then [] else line_of line rest ∷ []) (some_front (bytes_of line) rest some) ∙ ap (λ l. line_of l rest ∷ []) (sym (append-nil line));
  bytes_are = sym (append-nil rest);
}
first_line line (q ∷ qs) rest some = elim (cases_Bool (is_line q.kind)) [
  | inl end ↦
      record {
        pieces = q ∷ [];
        end = [];
        after = bytes_of qs ++ rest;
        others = lines_from [] qs rest;
        lines_are = cut_line line q qs rest end;
        bytes_are = here q.gap q.text (bytes_of qs);
      }
  | inr other ↦
      let f = first_line (line ++ q ∷ []) qs rest (ap is_empty (bytes_join line (q ∷ [])) ∙ some_front (bytes_of line) (bytes_of (q ∷ [])) some) in
      record {
        pieces = q ∷ f.pieces;
        end = f.end;
        after = f.after;
        others = f.others;
        lines_are = keep_line line q qs rest other ∙ f.lines_are ∙ ap (λ l. line_of l f.end ∷ f.others) (append_assoc line (q ∷ []) f.pieces);
        bytes_are = over q.gap q.text (bytes_of qs) ∙ ap (λ x. q.gap ++ (q.text ++ x)) f.bytes_are ∙ sym (under q.gap q.text (bytes_of f.pieces) f.end f.after);
      }
]
  where
    here : (g t b : List ℕ) → (g ++ (t ++ b)) ++ rest ≡ ((g ++ (t ++ [])) ++ []) ++ (b ++ rest)
    here g t b = simp (append_assoc, append-nil)

    over : (g t b : List ℕ) → (g ++ (t ++ b)) ++ rest ≡ g ++ (t ++ (b ++ rest))
    over g t b = simp append_assoc

    under : (g t b e a : List ℕ) → ((g ++ (t ++ b)) ++ e) ++ a ≡ g ++ (t ++ ((b ++ e) ++ a))
    under g t b e a = simp append_assoc

-- the lines of a block's pieces: its head and others
pub record Headed (word : Opener) (header : Piece) (qs : List Piece) (rest : List ℕ) : Type 0 where
  pub head : Line
  pub others : List Line
  pub lines_are : lines_of (header ∷ qs) rest ≡ head ∷ others
  pub begun : lines_from (header ∷ []) qs rest ≡ head ∷ others
  pub kind : head.kind ≡ Statement
  pub opens : opener head.text ≡ Some word

pub headed : (word : Opener) (header : Piece) (qs : List Piece) (rest : List ℕ) → is_block_word_at header.kind header.text ≡ true → opener_of header.text ≡ Some word → is_gap false header.gap ≡ true → column_from 1 header.gap ≡ 1
    → ends header.kind header.text (bytes_of qs ++ rest) ≡ true → Headed word header qs rest
headed word header qs rest is opens gap column ended =
    let line = word_no_line header.kind header.text is in
    let comment = word_no_comment header.kind header.text is in
    let f = first_line (header ∷ []) qs rest (ap (λ x. is_empty (header.gap ++ x)) (append-nil header.text) ∙ some_text header.gap header.text (by_word (λ t. is_empty t ≡ false) header.kind header.text is refl refl refl)) in
    let after = bytes_of f.pieces ++ f.end in
    let stops = stops_front after f.after (ap stops_word (sym f.bytes_are) ∙ word_ended header.kind header.text (bytes_of qs ++ rest) is ended) in
    let text : bytes_of (header ∷ f.pieces) ++ f.end ≡ header.gap ++ (header.text ++ after) = append_assoc header.gap (header.text ++ bytes_of f.pieces) f.end ∙ ap (λ x. header.gap ++ x) (append_assoc header.text (bytes_of f.pieces) f.end) in
    record {
      head = line_of (header ∷ f.pieces) f.end;
      others = f.others;
      lines_are = keep_line [] header qs rest line ∙ f.lines_are;
      begun = f.lines_are;
      kind = rw (line, comment) refl;
      opens = ap opener text ∙ head_opens header.gap header.kind header.text after gap column is stops ∙ opens;
    }
  where
    some_text : (xs ys : List ℕ) → is_empty ys ≡ false → is_empty (xs ++ ys) ≡ false
    some_text [] ys h = h
    some_text (x ∷ xs) ys h = refl
