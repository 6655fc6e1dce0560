-- The chunks of a file's text are those of its statements.
use Rattle.std.proofs.Common.{◌≡◌, ℕ, List, [], ◌∷◌, ◌++◌, Bool, true, false, refl, sym, ap, ◌∙◌, append-nil, arith}
use Rattle.std.specs.Prelude.{codes, zero, suc, ◌<◌, replicate}
use Rattle.std.specs.Prelude.Option.{Some, None}
use Rattle.std.specs.List.{AllByRecursion}
use Rattle.std.proofs.lemmas.Bool.{false≢true}
use Rattle.bz_token.specs.declared.cutter.block.Opener.TheVariants.{If}
use Rattle.bz_token.specs.declared.token.Kind.TheVariants.{Newline}
use Rattle.bz_token.specs.Blocks.{goes_on}
use Rattle.bz_token.specs.Chunks.{chunks}
use Rattle.bz_token.specs.Cuts.{IsChunk}
use Rattle.bz_token.specs.FreshStart.{AreLinesOf}
use Rattle.bz_token.specs.Places.{Placed}
use Rattle.bz_token.specs.Reading.{Piece, tokens_of}
use Rattle.bz_token.specs.TokenLines.{line_of}
use Rattle.bz_token.proofs.ChunkForms.{statement_chunk}
use Rattle.bz_layout_laws.proofs.Readable.{laid_lines}
use Rattle.bz_tree.specs.declared.tree.Class.{Class}
use Rattle.bz_tree.specs.declared.tree.Class.TheVariants.{Load, Assign, Rule, Other, Comment, Block}
use Rattle.bz_tree.specs.Tree.{Statement}
use Rattle.bz_layout.specs.Gaps.{lines_between, gap_text}
use Rattle.bz_layout.specs.Layout.{layout_text}
use Rattle.bz_layout_laws.specs.FileText.{text_from, takes_line, own_text, lines_left, own_chunks, chunks_from}
use Rattle.bz_layout_laws.specs.ReadBack.{IsReadBack}

-- an empty line as a text
abbrev newlines : List Piece
newlines = record { gap = []; kind = Newline; text = codes "\n" } ∷ []

-- its tokens
abbrev pub blank_tokens : ℕ → List Placed
blank_tokens first = tokens_of first [] [] newlines

pub blank_lines : (first depth : ℕ) → AreLinesOf first depth (10 ∷ []) (blank_tokens first)
blank_lines first depth = laid_lines first depth newlines refl refl refl refl refl

pub blank_chunk : IsChunk (10 ∷ [])
blank_chunk = statement_chunk 1 0 (10 ∷ []) (blank_tokens 1) [] (line_of newlines []) (blank_lines 1 0) refl refl refl

-- each of some empty lines is a chunk
pub blank_chunks : (lines : ℕ) (rest : List ℕ) → chunks (gap_text lines ++ rest) ≡ replicate lines (codes "\n") ++ chunks rest
blank_chunks zero rest = refl
blank_chunks (suc n) rest = blank_chunk (gap_text n ++ rest) ∙ ap (λ cs. codes "\n" ∷ cs) (blank_chunks n rest)

-- comment lines and blocks have an empty line after them, if anything follows
gap_taken : (class after : Class) → takes_line class ≡ true → 0 < lines_between class after
gap_taken Comment after h = omega arith
gap_taken Block after h = omega arith
gap_taken Load after h = absurd (false≢true h)
gap_taken Assign after h = absurd (false≢true h)
gap_taken Rule after h = absurd (false≢true h)
gap_taken Other after h = absurd (false≢true h)

-- any other statement takes none
pub none_taken : (class : Class) (text : List ℕ) (lines : ℕ) → takes_line class ≡ false → (own_text class text lines ≡ text) × (lines_left class lines ≡ lines)
none_taken Comment text lines h = absurd (false≢true (sym h))
none_taken Block text lines h = absurd (false≢true (sym h))
none_taken Load text lines h = (refl, refl)
none_taken Assign text lines h = (refl, refl)
none_taken Rule text lines h = (refl, refl)
none_taken Other text lines h = (refl, refl)

-- at the end of the file none are there
pub nothing_taken : (class : Class) (text : List ℕ) → (own_text class text 0 ≡ text) × (lines_left class 0 ≡ 0)
nothing_taken Comment text = (refl, refl)
nothing_taken Block text = (append-nil text, refl)
nothing_taken Load text = (refl, refl)
nothing_taken Assign text = (refl, refl)
nothing_taken Rule text = (refl, refl)
nothing_taken Other text = (refl, refl)

-- a statement and what follows it, with empty lines between them or none
statement_cut : (depth : ℕ) (s : Statement) (lines : ℕ) (rest : List ℕ) → IsReadBack depth s → (takes_line s.class ≡ true → 0 < lines) → goes_on If rest ≡ false
    → chunks (layout_text s ++ (gap_text lines ++ rest)) ≡ own_chunks s lines ++ chunks rest
statement_cut depth s lines rest h takes stops = by (takes_line s.class) refl
  where
    by : (b : Bool) → takes_line s.class ≡ b → chunks (layout_text s ++ (gap_text lines ++ rest)) ≡ own_chunks s lines ++ chunks rest
    by true is = h.gap is lines rest (takes is) stops
    by false is =
        let none = none_taken s.class (layout_text s) lines is in
        h.alone is (gap_text lines ++ rest) ∙ ap (λ cs. layout_text s ∷ cs) (blank_chunks lines rest)
        ∙ sym (λ i. (none.0 i ∷ replicate (none.1 i) (codes "\n")) ++ chunks rest)

-- no block goes on with the text of statements
pub text_begins : (depth : ℕ) (ss : List Statement) → AllByRecursion (IsReadBack depth) ss → goes_on If (text_from None ss) ≡ false
text_begins depth [] h = refl
text_begins depth (s ∷ ss) h = h.0.begins (text_from (Some s.class) ss)

pub file_chunks : (depth : ℕ) (ss : List Statement) → AllByRecursion (IsReadBack depth) ss → chunks (text_from None ss) ≡ chunks_from ss
file_chunks depth [] h = refl
file_chunks depth (s ∷ []) h =
    let none = nothing_taken s.class (layout_text s) in
    ap chunks (append-nil (layout_text s)) ∙ h.0.ends ∙ sym (λ i. (none.0 i ∷ replicate (none.1 i) (codes "\n")) ++ [])
file_chunks depth (s ∷ t ∷ ss) h =
    statement_cut depth s (lines_between s.class t.class) (text_from None (t ∷ ss)) h.0 (gap_taken s.class t.class) (text_begins depth (t ∷ ss) h.1)
    ∙ ap (λ cs. own_chunks s (lines_between s.class t.class) ++ cs) (file_chunks depth (t ∷ ss) h.1)
