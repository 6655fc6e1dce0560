-- A line that begins in column 1 with a block's word is the head of a block.
use Rattle.std.proofs.Common.{◌≡◌, ℕ, ◌+◌, ◌==◌, ◌≤◌, List, [], ◌∷◌, ◌++◌, true, false, Some, refl, sym, ap, ◌∙◌, inl, inr, arith}
use Rattle.std.specs.Prelude.{codes}
use Rattle.std.proofs.lemmas.Bool.{cases_Bool, and_parts, false≢true, eqb-true}
use Rattle.std.proofs.lemmas.Bool.Decides.{nat_tests}
use Rattle.bz_token.proofs.Units.{gap_step, opener_is}
use Rattle.bz_token.specs.declared.token.Kind.{Kind}
use Rattle.bz_token.specs.declared.token.Kind.TheVariants.{Keyword}
use Rattle.bz_token.specs.declared.cutter.block.Opener.{Opener}
use Rattle.bz_token.specs.declared.cutter.block.Opener.TheVariants.{Def, For, If}
use Rattle.bz_token.specs.Blocks.{word_at, opener_of, opener, goes_on}
use Rattle.bz_token.specs.Brackets.{is_line}
use Rattle.bz_token.specs.Ends.{is_comment_kind, ends}
use Rattle.bz_token.specs.private.Gaps.{head_from, continues_gap, feeds_gap}
use Rattle.bz_token.specs.Places.{column_from}
use Rattle.bz_token.specs.Reading.{is_gap}
use Rattle.bz_tree.specs.Blocks.{is_block_word_at}
use Rattle.bz_tree.proofs.Trees.Standing.{by_opener}
use Rattle.bz_layout_laws.proofs.BranchWords.{other_word, stops_word, whole_word}
use Rattle.bz_token.specs.Pieces.{is_blank}

-- what holds of the three words holds of a word that begins a block
pub by_word : (P : List ℕ → Type 0) (kind : Kind) (text : List ℕ) → is_block_word_at kind text ≡ true → P (codes "def") → P (codes "for") → P (codes "if") → P text
by_word P Keyword text h of_def of_for of_if = by_opener P text h of_def of_for of_if
by_word P _ text h of_def of_for of_if = absurd (false≢true h)

pub word_begins : (kind : Kind) (text after : List ℕ) → is_block_word_at kind text ≡ true → goes_on If (text ++ after) ≡ false
word_begins kind text after h = by_word (λ t. goes_on If (t ++ after) ≡ false) kind text h (other_word 100 (codes "ef" ++ after) refl) (other_word 102 (codes "or" ++ after) refl) (other_word 105 (codes "f" ++ after) refl)

pub word_opens : (kind : Kind) (text : List ℕ) → is_block_word_at kind text ≡ true → (word : Opener) × (opener_of text ≡ Some word)
word_opens kind text h = by_word (λ t. (word : Opener) × (opener_of t ≡ Some word)) kind text h (Def, refl) (For, refl) (If, refl)

pub word_no_line : (kind : Kind) (text : List ℕ) → is_block_word_at kind text ≡ true → is_line kind ≡ false
word_no_line Keyword text h = refl
word_no_line _ text h = absurd (false≢true h)

pub word_no_comment : (kind : Kind) (text : List ℕ) → is_block_word_at kind text ≡ true → is_comment_kind kind ≡ false
word_no_comment Keyword text h = refl
word_no_comment _ text h = absurd (false≢true h)

-- no letter, digit or underscore follows the word
pub word_ended : (kind : Kind) (text after : List ℕ) → is_block_word_at kind text ≡ true → ends kind text after ≡ true → stops_word after ≡ true
word_ended Keyword text [] h stop = refl
word_ended Keyword text (b ∷ bs) h stop = stop
word_ended _ text after h stop = absurd (false≢true h)

pub blank_no_line : (b : ℕ) → is_blank b ≡ true → (b == 10) ≡ false
blank_no_line b h = elim (cases_Bool (b == 10)) [
  | inl is ↦ absurd (false≢true (sym (ap is_blank (eqb-true b 10 is)) ∙ h))
  | inr other ↦ other
]

later_column : (column : ℕ) → 1 ≤ column → (column + 1 == 1) ≡ false
later_column column some = grind (arith, nat_tests, some)

-- the head of a line stands after the gap, if that ends before column 1
mutual
  gap_head : (column : ℕ) (gap x : List ℕ) → 1 ≤ column → is_gap false gap ≡ true → head_from (column == 1) (gap ++ x) ≡ head_from (column_from column gap == 1) x
  gap_head column [] x some h = refl
  gap_head column (b ∷ bs) x some h = elim (cases_Bool (is_blank b)) [
    | inl blank ↦
        let line = blank_no_line b blank in
        rw (blank, line, head_from) (ap (λ f. head_from f (bs ++ x)) (sym (later_column column some)) ∙ gap_head (column + 1) bs x (omega arith) (rw blank at (sym (gap_step false b bs) ∙ h)))
    | inr other ↦
        let p = and_parts (b == 92) (continues_gap false bs) (rw other at (sym (gap_step false b bs) ∙ h)) in
        let same : b ≡ 92 = eqb-true b 92 p.0 in
        rw same (slash_head column bs x p.1)
  ]

  slash_head : (column : ℕ) (bs x : List ℕ) → continues_gap false bs ≡ true → head_from (column == 1) (92 ∷ (bs ++ x)) ≡ head_from (column_from (column + 1) bs == 1) x
  slash_head column [] x h = absurd (false≢true h)
  slash_head column (b ∷ bs) x h = elim (cases_Bool (b == 13)) [
    | inl is ↦ let same : b ≡ 13 = eqb-true b 13 is in rw same (feed_head column bs x (rw (is, continues_gap) at h))
    | inr other ↦
        let p = and_parts (b == 10) (is_gap false bs) (rw (other, continues_gap) at h) in
        let same : b ≡ 10 = eqb-true b 10 p.0 in
        rw same (gap_head 1 bs x (omega arith) p.1)
  ]

  feed_head : (column : ℕ) (bs x : List ℕ) → feeds_gap false bs ≡ true → head_from (column == 1) (92 ∷ 13 ∷ (bs ++ x)) ≡ head_from (column_from (column + 1) (13 ∷ bs) == 1) x
  feed_head column [] x h = absurd (false≢true h)
  feed_head column (b ∷ bs) x h =
      let p = and_parts (b == 10) (is_gap false bs) h in
      let same : b ≡ 10 = eqb-true b 10 p.0 in
      rw same (gap_head 1 bs x (omega arith) p.1)

head_word : (kind : Kind) (text after : List ℕ) → is_block_word_at kind text ≡ true → stops_word after ≡ true → opener_of (word_at (head_from true (text ++ after))) ≡ opener_of text
head_word kind text after h stop =
    by_word (λ t. opener_of (word_at (head_from true (t ++ after))) ≡ opener_of t) kind text h
    (ap opener_of (whole_word (codes "def") after refl stop)) (ap opener_of (whole_word (codes "for") after refl stop)) (ap opener_of (whole_word (codes "if") after refl stop))

pub head_opens : (gap : List ℕ) (kind : Kind) (text after : List ℕ) → is_gap false gap ≡ true → column_from 1 gap ≡ 1 → is_block_word_at kind text ≡ true → stops_word after ≡ true
    → opener (gap ++ (text ++ after)) ≡ opener_of text
head_opens gap kind text after h column word stop =
    opener_is (gap ++ (text ++ after)) ∙
    ap (λ x. opener_of (word_at x)) (gap_head 1 gap (text ++ after) (omega arith) h ∙ ap (λ n. head_from (n == 1) (text ++ after)) column)
    ∙ head_word kind text after word stop
