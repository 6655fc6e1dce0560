-- What the tokens of a logical line say of its chunk.
use Rattle.std.proofs.Common.{◌≡◌, ℕ, ◌==◌, ◌||◌, ◌<◌, zero, suc, List, [], ◌∷◌, ◌++◌, length, drop, get_or, map, Bool, true, false, not, refl, sym, ap, ◌∙◌, arith, inl, inr}
use Rattle.std.specs.Prelude.{codes, bytes_eq, is_some, None, if◌then◌else◌}
use Rattle.std.specs.List.{list_all, list_any}
use Rattle.std.proofs.lemmas.Bool.{cases_Bool, and_parts, or_parts, false≢true, eqb-true, or_left}
use Rattle.std.proofs.lemmas.Bool.Decides.{nat_tests}
use Rattle.bz_token.proofs.Units.{gap_step, opener_is}
use Rattle.bz_token.specs.declared.token.Token.{Token}
use Rattle.bz_token.specs.declared.cutter.scan.LineKind.TheVariants.{CommentLine}
use Rattle.bz_token.specs.declared.chunk.LineEnd.{LineEnd}
use Rattle.bz_token.specs.declared.chunk.LineEnd.TheVariants.{Joins, Ends, Block}
use Rattle.bz_token.specs.Pieces.{is_blank, is_white, is_white}
use Rattle.bz_token.specs.Blocks.{word_at, opener_of, opener}
use Rattle.bz_token.specs.Places.{placed, line_at}
use Rattle.bz_token.specs.Brackets.{is_line}
use Rattle.bz_token.specs.Reading.{is_gap, Piece, IsReading, bytes_of, tokens_of}
use Rattle.bz_token.specs.TokenLines.{is_newline_piece, is_comment_piece, kind_of, line_of}
use Rattle.bz_token.specs.ChunkForms.{ends_chunk}
use Rattle.bz_token.specs.private.LineEnds.{is_newline_token, is_comment_token, begins_block, line_end}
use Rattle.bz_token.proofs.Classes.{same_bytes}
use Rattle.bz_token.proofs.Progress.{reading_bytes}
use Rattle.bz_token.proofs.BlockWords.{no_block_from}
use Rattle.bz_token.specs.private.Gaps.{continues_after, head_from, continues_gap, feeds_gap}

blank_white : (b : ℕ) → is_blank b ≡ true → is_white true b ≡ true
blank_white b h = grind (arith, nat_tests)

or_false : (x : Bool) → (x || false) ≡ true → x ≡ true
or_false true h = refl
or_false false h = h

head_passes : (first : Bool) (b : ℕ) (bs : List ℕ) → (is_white true b || continues_after b bs) ≡ true → head_from first (b ∷ bs) ≡ head_from (b == 10) bs
head_passes first b bs h = rw (h, head_from) refl

head_of_two : (first : Bool) (xs : List ℕ) → head_from first (92 ∷ 10 ∷ xs) ≡ head_from true xs
head_of_two first xs = refl

head_of_three : (first : Bool) (xs : List ℕ) → head_from first (92 ∷ 13 ∷ 10 ∷ xs) ≡ head_from true xs
head_of_three first xs = refl

-- where no block begins after a gap, whatever column it ends in, none begins before it
mutual
  gap_opens : (gap ys : List ℕ) (first : Bool) → is_gap false gap ≡ true → ((f : Bool) → opener_of (word_at (head_from f ys)) ≡ None) → opener_of (word_at (head_from first (gap ++ ys))) ≡ None
  gap_opens [] ys first h none = none first
  gap_opens (b ∷ bs) ys first h none = elim (cases_Bool (is_white false b)) [
    | inl white ↦
        let more = rw white at (sym (gap_step false b bs) ∙ h) in
        let here = or_left (is_white true b) (continues_after b (bs ++ ys)) (blank_white b (or_false (is_blank b) white)) in
        ap (λ x. opener_of (word_at x)) (head_passes first b (bs ++ ys) here) ∙ gap_opens bs ys (b == 10) more none
    | inr other ↦
        let parts = and_parts (b == 92) (continues_gap false bs) (rw other at (sym (gap_step false b bs) ∙ h)) in
        let same : b ≡ 92 = eqb-true b 92 parts.0 in
        ap (λ x. opener_of (word_at (head_from first (x ∷ (bs ++ ys))))) same ∙ continued_opens bs ys first parts.1 none
  ]

  continued_opens : (gap ys : List ℕ) (first : Bool) → continues_gap false gap ≡ true → ((f : Bool) → opener_of (word_at (head_from f ys)) ≡ None) → opener_of (word_at (head_from first (92 ∷ (gap ++ ys)))) ≡ None
  continued_opens [] ys first h none = absurd (false≢true h)
  continued_opens (b ∷ bs) ys first h none = elim (cases_Bool (b == 13)) [
    | inl return ↦
        let same : b ≡ 13 = eqb-true b 13 return in
        ap (λ x. opener_of (word_at (head_from first (92 ∷ x ∷ (bs ++ ys))))) same ∙ fed_opens bs ys first (rw (return, continues_gap) at h) none
    | inr other ↦
        let parts = and_parts (b == 10) (is_gap false bs) (rw (other, continues_gap) at h) in
        let same : b ≡ 10 = eqb-true b 10 parts.0 in
        ap (λ x. opener_of (word_at (head_from first (92 ∷ x ∷ (bs ++ ys))))) same ∙ ap (λ x. opener_of (word_at x)) (head_of_two first (bs ++ ys)) ∙ gap_opens bs ys true parts.1 none
  ]

  fed_opens : (gap ys : List ℕ) (first : Bool) → feeds_gap false gap ≡ true → ((f : Bool) → opener_of (word_at (head_from f ys)) ≡ None) → opener_of (word_at (head_from first (92 ∷ 13 ∷ (gap ++ ys)))) ≡ None
  fed_opens [] ys first h none = absurd (false≢true h)
  fed_opens (b ∷ bs) ys first h none =
      let parts = and_parts (b == 10) (is_gap false bs) h in
      let same : b ≡ 10 = eqb-true b 10 parts.0 in
      ap (λ x. opener_of (word_at (head_from first (92 ∷ 13 ∷ x ∷ (bs ++ ys))))) same ∙ ap (λ x. opener_of (word_at x)) (head_of_three first (bs ++ ys)) ∙ gap_opens bs ys true parts.1 none

-- a text whose first word is no block's is none
whole_word : (text : List ℕ) → is_some (opener_of (word_at text)) ≡ false → opener_of text ≡ None
whole_word text h = elim (cases_Bool (bytes_eq text (codes "def"))) [
  | inl hit ↦ let same = same_bytes text (codes "def") hit in absurd (false≢true (sym (rw same at h)))
  | inr no_def ↦ elim (cases_Bool (bytes_eq text (codes "for"))) [
    | inl hit ↦ let same = same_bytes text (codes "for") hit in absurd (false≢true (sym (rw same at h)))
    | inr no_for ↦ elim (cases_Bool (bytes_eq text (codes "if"))) [
      | inl hit ↦ let same = same_bytes text (codes "if") hit in absurd (false≢true (sym (rw same at h)))
      | inr no_if ↦ rw (no_def, no_for, no_if) refl
    ]
  ]
]

-- the kinds of tokens are those of their pieces
newlines_are : (first : ℕ) (before lines : List ℕ) (ps : List Piece) → list_all is_newline_token (tokens_of first before lines ps) ≡ list_all is_newline_piece ps
newlines_are first before lines [] = refl
newlines_are first before lines (p ∷ ps) = let more = newlines_are first (before ++ (p.gap ++ p.text)) (line_at first (before ++ p.gap) ∷ lines) ps in rw more refl

comments_are : (first : ℕ) (before lines : List ℕ) (ps : List Piece) → list_all is_comment_token (tokens_of first before lines ps) ≡ list_all is_comment_piece ps
comments_are first before lines [] = refl
comments_are first before lines (p ∷ ps) = let more = comments_are first (before ++ (p.gap ++ p.text)) (line_at first (before ++ p.gap) ∷ lines) ps in rw more refl

-- the tokens after those of some pieces
pub tokens_after : (first : ℕ) (before lines : List ℕ) (ps qs : List Piece) → (b ls : List ℕ) × (drop (length ps) (tokens_of first before lines (ps ++ qs)) ≡ tokens_of first b ls qs)
tokens_after first before lines [] qs = (before, lines, refl)
tokens_after first before lines (p ∷ ps) qs = tokens_after first (before ++ (p.gap ++ p.text)) (line_at first (before ++ p.gap) ∷ lines) ps qs

pub map_drop : (n : ℕ) (ts : List Token) → map placed (drop n ts) ≡ drop n (map placed ts)
map_drop zero ts = refl
map_drop (suc n) [] = refl
map_drop (suc n) (t ∷ ts) = map_drop n ts

-- the first token tells whether a block begins
pub begins_first : (ts : List Token) (d : Token) → 0 < length ts → begins_block (map placed ts) ≡ is_some (opener_of (word_at (get_or ts 0 d).text.now))
begins_first [] d some = absurd (omega arith)
begins_first (t ∷ ts) d some = refl

abbrev ended : Bool → Bool → Bool → LineEnd
ended a b c = if a then Ends else (if b then Joins else (if c then Block else Ends))

joins_only : (a b c : Bool) → ended a b c ≡ Joins → (a ≡ false) × (b ≡ true)
joins_only true b c h = absurd (apart h)
  where
    apart : Ends ≡ Joins → ⊥
    apart e = cc
joins_only false true c h = (refl, refl)
joins_only false false true h = absurd (apart h)
  where
    apart : Block ≡ Joins → ⊥
    apart e = cc
joins_only false false false h = absurd (apart h)
  where
    apart : Ends ≡ Joins → ⊥
    apart e = cc

-- comments alone
pub joins_comment : (first : ℕ) (before lines : List ℕ) (ps : List Piece) → line_end (tokens_of first before lines ps) ≡ Joins → kind_of ps ≡ CommentLine
joins_comment first before lines ps h =
    let parts = joins_only (list_all is_newline_token (tokens_of first before lines ps)) (list_all is_comment_token (tokens_of first before lines ps)) (begins_block (tokens_of first before lines ps)) h in
    let newlines = sym (newlines_are first before lines ps) ∙ parts.0 in
    let comments = sym (comments_are first before lines ps) ∙ parts.1 in
    rw (newlines, comments) refl

-- a line that is neither blank nor comments alone, and begins no block
pub no_opener : (depth : ℕ) (q : Piece) (ps : List Piece) (bytes : List ℕ) → IsReading depth [] (q ∷ ps) [] bytes → is_line q.kind ≡ false → is_some (opener_of (word_at q.text)) ≡ false → opener (bytes_of (q ∷ ps) ++ []) ≡ None
no_opener depth q ps bytes r line none =
    ap opener (sym (reading_bytes depth [] (q ∷ ps) [] bytes r) ∙ r.1.bytes_are)
    ∙ opener_is (q.gap ++ (q.text ++ r.0))
    ∙ gap_opens q.gap (q.text ++ r.0) true r.1.gap (λ f. no_block_from f q.kind q.text r.0 r.1.token line (whole_word q.text none))

-- which lines end their chunk
pub data Ended (a b c : Bool) : Type 0 where
  blank : a ≡ true → Ended a b c
  statement : a ≡ false → b ≡ false → c ≡ false → Ended a b c

ends_only : (a b c : Bool) → ended a b c ≡ Ends → Ended a b c
ends_only true b c h = blank refl
ends_only false true c h = absurd (apart h)
  where
    apart : Joins ≡ Ends → ⊥
    apart e = cc
ends_only false false true h = absurd (apart h)
  where
    apart : Block ≡ Ends → ⊥
    apart e = cc
ends_only false false false h = statement refl refl refl

pub line_ends : (first depth : ℕ) (before lines : List ℕ) (ps : List Piece) (p : Piece) (bytes : List ℕ) → IsReading depth [] (ps ++ p ∷ []) [] bytes → list_any is_newline_piece ps ≡ false → is_line p.kind ≡ true
    → line_end (tokens_of first before lines (ps ++ p ∷ [])) ≡ Ends → ends_chunk (line_of (ps ++ p ∷ []) []) ≡ true
line_ends first depth before lines ps p bytes r none newline h =
    let ts = tokens_of first before lines (ps ++ p ∷ []) in
    elim (ends_only (list_all is_newline_token ts) (list_all is_comment_token ts) (begins_block ts) h) [
      | blank all ↦ let newlines = sym (newlines_are first before lines (ps ++ p ∷ [])) ∙ all in rw newlines refl
      | statement some other no_block ↦
          let newlines = sym (newlines_are first before lines (ps ++ p ∷ [])) ∙ some in
          let comments = sym (comments_are first before lines (ps ++ p ∷ [])) ∙ other in
          rw (newlines, comments) (opens ps r none newlines no_block)
    ]
  where
    opens : (ps : List Piece) → IsReading depth [] (ps ++ p ∷ []) [] bytes → list_any is_newline_piece ps ≡ false → list_all is_newline_piece (ps ++ p ∷ []) ≡ false → begins_block (tokens_of first before lines (ps ++ p ∷ [])) ≡ false
        → not (is_some (opener (bytes_of (ps ++ p ∷ []) ++ []))) ≡ true
    opens [] r none some no_block = absurd (false≢true (sym some ∙ rw newline refl))
    opens (q ∷ qs) r none some no_block = ap (λ o. not (is_some o)) (no_opener depth q (qs ++ p ∷ []) bytes r (or_parts (is_line q.kind) (list_any is_newline_piece qs) none).0 no_block)
