-- The text of a well-formed statement is read back wherever it stands in a file.
use Rattle.std.proofs.Common.{◌≡◌, ℕ, List, [], ◌∷◌, ◌++◌, Bool, true, false, refl, sym, ap, subst, ◌∙◌, append_assoc, append-nil, arith}
use Rattle.std.specs.Prelude.{codes, zero, suc, ◌<◌, replicate}
use Rattle.bz_layout.specs.Gaps.{gap_text}
use Rattle.std.proofs.lemmas.Bool.{false≢true}
use Rattle.bz_token.specs.Chunks.{chunks}
use Rattle.bz_token.specs.Cuts.{IsChunk}
use Rattle.bz_tree.specs.declared.tree.Class.{Class}
use Rattle.bz_tree.specs.declared.tree.Class.TheVariants.{Comment, Block}
use Rattle.bz_tree.specs.Chunk.{IsStatementIn}
use Rattle.bz_tree.specs.Tree.{Statement, items_of}
use Rattle.bz_layout.specs.Layout.{is_comment, layout_text}
use Rattle.bz_layout_laws.specs.FileText.{takes_line, own_text, lines_left, own_chunks}
use Rattle.bz_layout_laws.specs.Legible.{IsLegible}
use Rattle.bz_layout_laws.specs.ReadBack.{IsReadBack}
use Rattle.bz_layout_laws.specs.Spelled.{spelled_statement}
use Rattle.bz_layout_laws.specs.Lineless.{lineless}
use Rattle.bz_layout_laws.specs.WellFormed.{IsWellFormed}
use Rattle.bz_layout_laws.proofs.CommentChunk.{comments_and_blank}
use Rattle.bz_layout_laws.proofs.CommentRead.{comments_read}
use Rattle.bz_layout_laws.proofs.FileChunks.{blank_chunks, none_taken, nothing_taken}
use Rattle.bz_layout_laws.proofs.FirstByte.{text_begins}
use Rattle.bz_layout_laws.proofs.NoBranch.{begins_no_branch}
use Rattle.bz_layout_laws.proofs.ReadStatement.{none_there}
use Rattle.bz_layout_laws.proofs.WellFormed.{formed_legible, formed_no_block, formed_class, formed_again}
use Rattle.bz_layout_laws.proofs.WholeChunk.{statement_chunked, comments_chunked}
use Rattle.bz_token.specs.Common.{is_filled}

-- it is no block, so what takes the empty line after it are comment lines
no_others : (class : Class) → takes_line class ≡ true → (class ≡ Block → ⊥) → is_comment class ≡ true
no_others Comment takes no_block = refl
no_others Block takes no_block = absurd (no_block refl)
no_others _ takes no_block = absurd (false≢true takes)

only_comments : (depth : ℕ) (s : Statement) → IsWellFormed depth s → takes_line s.class ≡ true → is_comment s.class ≡ true
only_comments depth s h takes = no_others s.class takes (formed_class depth s h)

comment_takes : (class : Class) → is_comment class ≡ true → takes_line class ≡ true
comment_takes Comment h = refl
comment_takes _ h = absurd (false≢true h)

takes_none : (class : Class) → is_comment class ≡ false → (class ≡ Block → ⊥) → takes_line class ≡ false
takes_none Comment h no_block = absurd (false≢true (sym h))
takes_none Block h no_block = absurd (no_block refl)
takes_none _ h no_block = refl

-- comment lines take one
comment_lines_taken : (class : Class) (text : List ℕ) (n : ℕ) → is_comment class ≡ true → (own_text class text (suc n) ≡ text ++ codes "\n") × (lines_left class (suc n) ≡ n)
comment_lines_taken Comment text n h = (refl, refl)
comment_lines_taken _ text n h = absurd (false≢true h)

-- comment lines are one at least
has_lines : (depth : ℕ) (s : Statement) → IsWellFormed depth s → is_comment s.class ≡ true → is_filled s.before ≡ true
has_lines depth s h class = h.parsed.lines (none_there s.nodes (ap is_comment (sym h.parsed.class) ∙ class))

-- comment lines where the file ends
comments_end : (s : Statement) → IsLegible s → is_comment s.class ≡ true → is_filled s.before ≡ true → chunks (layout_text s) ≡ layout_text s ∷ []
comments_end s legible class some = by s.before refl some
  where
    by : (texts : List (List ℕ)) → s.before ≡ texts → is_filled texts ≡ true → chunks (layout_text s) ≡ layout_text s ∷ []
    by [] e h = absurd (false≢true h)
    by (text ∷ texts) e h = comments_chunked s text texts legible class e

abbrev IsReadAgain : ℕ → ℕ → Statement → List ℕ → Type 0
IsReadAgain first depth s bytes = (t : Statement) × IsStatementIn first depth bytes t × (lineless t ≡ lineless (spelled_statement s))

pub statement_read_back : (depth : ℕ) (s : Statement) → IsWellFormed depth s → IsReadBack depth s
statement_read_back depth s h = record {
  begins = text_begins s legible (has_lines depth s h) (begins_no_branch (items_of s.nodes) h.grammar h.texts.nodes);
  ends = at_end (is_comment s.class) refl;
  alone = chunk (is_comment s.class) refl;
  gap = λ takes lines rest some stops. gap lines rest (only_comments depth s h takes) some;
  read = reads;
}
  where
    legible : IsLegible s
    legible = formed_legible depth s h

    chunk : (b : Bool) → is_comment s.class ≡ b → takes_line s.class ≡ false → IsChunk (layout_text s)
    chunk true class none = absurd (false≢true (sym none ∙ comment_takes s.class class))
    chunk false class none = statement_chunked s legible class (formed_no_block depth s h)

    at_end : (b : Bool) → is_comment s.class ≡ b → chunks (layout_text s) ≡ layout_text s ∷ []
    at_end true class = comments_end s legible class (has_lines depth s h class)
    at_end false class = ap chunks (sym (append-nil (layout_text s))) ∙ statement_chunked s legible class (formed_no_block depth s h) []

    gap : (lines : ℕ) (rest : List ℕ) → is_comment s.class ≡ true → 0 < lines → chunks (layout_text s ++ (gap_text lines ++ rest)) ≡ own_chunks s lines ++ chunks rest
    gap zero rest class some = absurd (omega arith)
    gap (suc n) rest class some =
        let own = comment_lines_taken s.class (layout_text s) n class in
        ap chunks (sym (append_assoc (layout_text s) (10 ∷ []) (gap_text n ++ rest))) ∙ comments_and_blank s legible class (gap_text n ++ rest)
        ∙ ap (λ cs. (layout_text s ++ codes "\n") ∷ cs) (blank_chunks n rest)
        ∙ sym (λ i. own.0 i ∷ replicate (own.1 i) (codes "\n") ++ chunks rest)

    reads : (first lines : ℕ) → IsReadAgain first depth s (own_text s.class (layout_text s) lines)
    reads first lines = by lines (is_comment s.class) refl
      where
        by : (lines : ℕ) (b : Bool) → is_comment s.class ≡ b → IsReadAgain first depth s (own_text s.class (layout_text s) lines)
        by zero b class = subst (IsReadAgain first depth s) (sym (nothing_taken s.class (layout_text s)).0) (formed_again first depth s h)
        by (suc n) true class =
            subst (IsReadAgain first depth s) (sym (comment_lines_taken s.class (layout_text s) n class).0) (comments_read first depth s legible h.parsed h.depth_fits h.grammar class)
        by (suc n) false class =
            subst (IsReadAgain first depth s) (sym (none_taken s.class (layout_text s) (suc n) (takes_none s.class class (formed_class depth s h))).0) (formed_again first depth s h)
