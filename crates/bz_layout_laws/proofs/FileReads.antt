-- The chunks of statements are read as these statements, and as nothing else.
use Rattle.std.proofs.Common.{◌≡◌, ℕ, List, [], ◌∷◌, ◌++◌, map, Option, refl, sym, ap, subst, ◌∙◌}
use Rattle.std.specs.Prelude.{codes, zero, suc, replicate, is_some}
use Rattle.std.specs.Prelude.Option.{Some, None}
use Rattle.std.specs.List.{AllByRecursion}
use Rattle.std.proofs.lemmas.Bool.{false≢true}
use Rattle.bz_token.specs.Places.{line_at}
use Rattle.bz_token.proofs.OneFault.{one_tokens}
use Rattle.bz_token.specs.Chunks.{chunks}
use Rattle.bz_tree.specs.Chunk.{IsChunkOf, IsStatementIn, IsBlank}
use Rattle.bz_tree.specs.Statement.{first_seen}
use Rattle.bz_tree.specs.declared.tree.Class.{Class}
use Rattle.bz_tree.specs.Tree.{Statement}
use Rattle.bz_layout_laws.proofs.ChunkLaws.{chunk_same}
use Rattle.bz_layout.specs.Gaps.{lines_before, gap_text}
use Rattle.bz_layout.specs.Layout.{layout_text}
use Rattle.bz_layout_laws.specs.FileRead.{IsFound, AreFound, AreStatementsIn}
use Rattle.bz_layout_laws.specs.FileText.{text_from, lines_after, own_text, lines_left, own_chunks, chunks_from}
use Rattle.bz_layout_laws.specs.ReadBack.{IsReadBack}
use Rattle.bz_layout_laws.specs.Spelled.{spelled_statement}
use Rattle.bz_layout_laws.specs.Lineless.{lineless}
use Rattle.bz_layout_laws.proofs.FileChunks.{blank_tokens, blank_lines, file_chunks}
use Rattle.bz_layout_laws.proofs.SpelledAgain.{written_again}
use Rattle.bz_layout_laws.proofs.TokensBack.{lines_are_tokens}

abbrev said : List Statement → List Statement
said ss = map (λ s. lineless (spelled_statement s)) ss

-- the chunks are read as these statements
abbrev Reads : ℕ → ℕ → List (List ℕ) → List Statement → Type 0
Reads first depth cs ss = (ts : List Statement) × AreStatementsIn first depth cs ts × (map lineless ts ≡ said ss)

is_blank : (line depth : ℕ) → IsBlank line depth (10 ∷ [])
is_blank line depth = record { tokens = blank_tokens line; are = lines_are_tokens line depth (10 ∷ []) (blank_tokens line) (blank_lines line depth); none = refl }

one_more : (first depth : ℕ) (c : List ℕ) (cs : List (List ℕ)) (s : Statement) (ss : List Statement) → (t : Statement) × IsStatementIn first depth c t × (lineless t ≡ lineless (spelled_statement s)) → Reads (line_at first c) depth cs ss
    → Reads first depth (c ∷ cs) (s ∷ ss)
one_more first depth c cs s ss t rest = (t.0 ∷ rest.0, (Some t.0, t.1, (rest.0, refl, rest.1)), λ i. t.2 i ∷ rest.2 i)

-- empty lines give no statement
blanks_read : (depth lines : ℕ) (ss : List Statement) (cs : List (List ℕ)) → ((line : ℕ) → Reads line depth cs ss) → (line : ℕ) → Reads line depth (replicate lines (codes "\n") ++ cs) ss
blanks_read depth zero ss cs rest line = rest line
blanks_read depth (suc n) ss cs rest line =
    let more = blanks_read depth n ss cs rest (line_at line (10 ∷ [])) in
    (more.0, (None, is_blank line depth, more.1), more.2)

one_reads : (first depth : ℕ) (s : Statement) (ss : List Statement) (lines : ℕ) (cs : List (List ℕ)) → IsReadBack depth s → ((line : ℕ) → Reads line depth cs ss) → Reads first depth (own_chunks s lines ++ cs) (s ∷ ss)
one_reads first depth s ss lines cs h rest =
    let text = own_text s.class (layout_text s) lines in
    let left = lines_left s.class lines in
    one_more first depth text (replicate left (codes "\n") ++ cs) s ss (h.read first lines) (blanks_read depth left ss cs rest (line_at first text))

file_reads : (first depth : ℕ) (ss : List Statement) → AllByRecursion (IsReadBack depth) ss → Reads first depth (chunks_from ss) ss
file_reads first depth [] h = ([], refl, refl)
file_reads first depth (s ∷ ss) h = one_reads first depth s ss (lines_after s.class ss) (chunks_from ss) h.0 (λ line. file_reads line depth ss h.1)

-- a chunk is read as one statement at most, and a blank one as none
statement_same : (line depth : ℕ) (c : List ℕ) (s t : Statement) → IsStatementIn line depth c s → IsStatementIn line depth c t → s ≡ t
statement_same line depth c s t a b =
    let same : b.tokens ≡ a.tokens = one_tokens line depth c b.tokens a.tokens b.are a.are in
    chunk_same line c a.tokens s t a.reads.chunk (subst (λ ts. IsChunkOf line c ts t) same b.reads.chunk)

not_blank : (line depth : ℕ) (c : List ℕ) (s : Statement) → IsStatementIn line depth c s → IsBlank line depth c → ⊥
not_blank line depth c s a b = false≢true (sym b.none ∙ ap (λ ts. is_some (first_seen ts)) (one_tokens line depth c b.tokens a.tokens b.are a.are) ∙ a.reads.some)

found_same : (line depth : ℕ) (c : List ℕ) (a b : Option Statement) → IsFound line depth c a → IsFound line depth c b → a ≡ b
found_same line depth c None None x y = refl
found_same line depth c None (Some t) x y = absurd (not_blank line depth c t y x)
found_same line depth c (Some s) None x y = absurd (not_blank line depth c s x y)
found_same line depth c (Some s) (Some t) x y = ap Some (statement_same line depth c s t x y)

all_found : (a : Option Statement) (After : List Statement → Type 0) (ss ts : List Statement) → ((xs ys : List Statement) → After xs → After ys → xs ≡ ys) → AreFound a After ss → AreFound a After ts → ss ≡ ts
all_found None After ss ts one x y = one ss ts x y
all_found (Some s) After ss ts one x y = x.1 ∙ ap (λ l. s ∷ l) (one x.0 y.0 x.2 y.2) ∙ sym y.1

one_list : (first depth : ℕ) (cs : List (List ℕ)) (ss ts : List Statement) → AreStatementsIn first depth cs ss → AreStatementsIn first depth cs ts → ss ≡ ts
one_list first depth [] ss ts x y = x ∙ sym y
one_list first depth (c ∷ cs) ss ts x y =
    all_found x.0 (AreStatementsIn (line_at first c) depth cs) ss ts (one_list (line_at first c) depth cs) x.2
    (subst (λ a. AreFound a (AreStatementsIn (line_at first c) depth cs) ts) (found_same first depth c y.0 x.0 y.1 x.1) y.2)

-- statements that say the same have one text
text_lineless : (last : Option Class) (ss : List Statement) → text_from last (map lineless ss) ≡ text_from last ss
text_lineless last [] = refl
text_lineless last (s ∷ ss) = ap (λ text. gap_text (lines_before last s.class) ++ (layout_text s ++ text)) (text_lineless (Some s.class) ss)

text_said : (last : Option Class) (ss : List Statement) → text_from last (said ss) ≡ text_from last ss
text_said last [] = refl
text_said last (s ∷ ss) = λ i. gap_text (lines_before last s.class) ++ (written_again s (spelled_statement s) refl i ++ text_said (Some s.class) ss i)

-- so the text is read again
pub file_read_again : (first depth : ℕ) (ss : List Statement) → AllByRecursion (IsReadBack depth) ss → Reads first depth (chunks (text_from None ss)) ss
file_read_again first depth ss h = subst (λ cs. Reads first depth cs ss) (sym (file_chunks depth ss h)) (file_reads first depth ss h)

pub file_read_only : (first depth : ℕ) (ss ts : List Statement) → AllByRecursion (IsReadBack depth) ss → AreStatementsIn first depth (chunks (text_from None ss)) ts
    → (map lineless ts ≡ said ss) × (text_from None ts ≡ text_from None ss)
file_read_only first depth ss ts h is =
    let found = file_read_again first depth ss h in
    let same : map lineless ts ≡ said ss = ap (map lineless) (one_list first depth (chunks (text_from None ss)) ts found.0 is found.1) ∙ found.2 in
    (same, sym (text_lineless None ts) ∙ ap (text_from None) same ∙ text_said None ss)
