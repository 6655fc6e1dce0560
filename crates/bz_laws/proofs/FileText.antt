-- The text of statements is read as a file.
use Rattle.std.proofs.Common.{◌≡◌, ℕ, List, [], ◌∷◌, ◌++◌, map, refl, sym, ap, append-nil, subst, ◌∙◌, inl, inr, arith}
use Rattle.bz_tree.specs.declared.tree.Class.TheVariants.{Comment, Block}
use Rattle.bz_tree.specs.declared.tree.Class.{Class}
use Rattle.std.specs.Prelude.{codes, Option, None, Some, Ok, zero, suc, replicate}
use Rattle.std.specs.List.{AllByRecursion}
use Rattle.std.specs.Str.{IsUtf8}
use Rattle.std.proofs.lemmas.Str.{IsUtf8-append, IsUtf8-nil}
use Rattle.bz_token.specs.Places.{line_at}
use Rattle.bz_token.specs.Chunks.{chunks}
use Rattle.bz_tree.specs.Tree.{Statement}
use Rattle.bz_layout.specs.Gaps.{lines_between, gap_text}
use Rattle.bz_layout.specs.Layout.{layout_text}
use Rattle.bz_layout_laws.specs.FileRead.{IsFound, AreFound, AreStatementsIn}
use Rattle.bz_layout_laws.specs.FileText.{text_from, lines_after, own_chunks, chunks_from, own_text, lines_left}
use Rattle.bz_layout_laws.specs.ReadBack.{IsReadBack}
use Rattle.bz_layout_laws.specs.Spelled.{spelled_statement}
use Rattle.bz_layout_laws.specs.Lineless.{lineless}
use Rattle.bz_layout_laws.proofs.FileChunks.{file_chunks}
use Rattle.bz_layout_laws.proofs.FileReads.{file_read_again, file_read_only}
use Rattle.bz_layout_laws.proofs.KeptReadBack.{kept_read_back}
use Rattle.bz_layout_laws.proofs.StatementReadBack.{statement_read_back}
use Rattle.bz_layout_laws.proofs.Utf8Written.{written_utf8, low_utf8}
use Rattle.bz_engine.specs.declared.report.SyntaxFault.{SyntaxFault}
use Rattle.bz_engine.proofs.OneOutcome.{one_give}
use Rattle.bz_engine.specs.File.{IsAnswerOf, Follows, AreStatementsOf, IsFile}
use Rattle.bz_engine.specs.Outcome.{left_in, slots_of, text_of}
use Rattle.bz_laws.specs.Sound.{IsSound}

-- between neighbours an empty line, or before each after the class of the one before it
after_class : (s : Statement) (ss : List Statement) → layout_text s ++ text_from (Some s.class) ss ≡ text_of (s ∷ ss)
after_class s [] = append-nil (layout_text s)
after_class s (t ∷ ss) = ap (λ text. layout_text s ++ (gap_text (lines_between s.class t.class) ++ text)) (after_class t ss)

pub text_of_all : (ss : List Statement) → text_of ss ≡ text_from None ss
text_of_all [] = refl
text_of_all (s ∷ ss) = sym (after_class s ss)

pub left_all : (ss : List Statement) → left_in (slots_of ss) ≡ ss
left_all [] = refl
left_all (s ∷ ss) = ap (λ rest. s ∷ rest) (left_all ss)

-- chunks that are UTF-8 give the statements that they are read as
give_found : (depth line : ℕ) (chunk : List ℕ) (found : Option Statement) → IsUtf8 chunk → IsFound line depth chunk found → IsAnswerOf depth line chunk (Ok found)
give_found depth line chunk None u is = (u, is)
give_found depth line chunk (Some s) u is = (u, is)

give_follows : (found : Option Statement) (After : List Statement → Type 0) (Later : List Statement → Option _ → Type 0) (ss : List Statement) → ((ts : List Statement) → After ts → Later ts None) → AreFound found After ss → Follows (Ok found) Later ss None
give_follows None After Later ss next are = next ss are
give_follows (Some s) After Later ss next are = (are.0, are.1, next are.0 are.2)

pub give_statements : (depth line : ℕ) (cs : List (List ℕ)) (ss : List Statement) → AllByRecursion IsUtf8 cs → AreStatementsIn line depth cs ss → AreStatementsOf depth line cs ss None
give_statements depth line [] ss u are = (are, refl)
give_statements depth line (c ∷ cs) ss u are =
    (Ok are.0, give_found depth line c are.0 u.0 are.1, give_follows are.0 (AreStatementsIn (line_at line c) depth cs) (AreStatementsOf depth (line_at line c) cs) ss (λ ts later. give_statements depth (line_at line c) cs ts u.1 later) are.2)

-- the chunks of statements are UTF-8
both_parts : (xs ys : List (List ℕ)) → AllByRecursion IsUtf8 xs → AllByRecursion IsUtf8 ys → AllByRecursion IsUtf8 (xs ++ ys)
both_parts [] ys u v = v
both_parts (x ∷ xs) ys u v = (u.0, both_parts xs ys u.1 v)

newlines_utf8 : (lines : ℕ) → IsUtf8 (gap_text lines)
newlines_utf8 zero = IsUtf8-nil
newlines_utf8 (suc n) = IsUtf8-append (codes "\n") (gap_text n) (low_utf8 10 (omega arith)) (newlines_utf8 n)

with_lines : (class : Class) (text : List ℕ) (lines : ℕ) → IsUtf8 text → IsUtf8 (own_text class text lines)
with_lines Comment text zero u = u
with_lines Comment text (suc n) u = IsUtf8-append text (codes "\n") u (low_utf8 10 (omega arith))
with_lines Block text lines u = IsUtf8-append text (gap_text lines) u (newlines_utf8 lines)
with_lines _ text lines u = u

blanks_utf8 : (lines : ℕ) → AllByRecursion IsUtf8 (replicate lines (codes "\n"))
blanks_utf8 zero = tt
blanks_utf8 (suc n) = (low_utf8 10 (omega arith), blanks_utf8 n)

own_utf8 : (depth : ℕ) (s : Statement) (lines : ℕ) → IsSound depth s → AllByRecursion IsUtf8 (own_chunks s lines)
own_utf8 depth s lines sound = (with_lines s.class (layout_text s) lines (written_utf8 s sound.utf8), blanks_utf8 (lines_left s.class lines))

chunks_utf8 : (depth : ℕ) (ss : List Statement) → AllByRecursion (IsSound depth) ss → AllByRecursion IsUtf8 (chunks_from ss)
chunks_utf8 depth [] sound = tt
chunks_utf8 depth (s ∷ ss) sound = both_parts (own_chunks s (lines_after s.class ss)) (chunks_from ss) (own_utf8 depth s (lines_after s.class ss) sound.0) (chunks_utf8 depth ss sound.1)

-- a sound statement is read back
sound_back : (depth : ℕ) (s : Statement) → IsSound depth s → IsReadBack depth s
sound_back depth s sound = elim sound.form [ inl formed ↦ statement_read_back depth s formed | inr kept ↦ kept_read_back depth s kept ]

all_back : (depth : ℕ) (ss : List Statement) → AllByRecursion (IsSound depth) ss → AllByRecursion (IsReadBack depth) ss
all_back depth [] sound = tt
all_back depth (s ∷ ss) sound = (sound_back depth s sound.0, all_back depth ss sound.1)

-- the text of sound statements is read as them
pub text_again : (depth : ℕ) (ss : List Statement) → AllByRecursion (IsSound depth) ss
    → (ts : List Statement) × IsFile depth (text_of ss) ts None
    × (map lineless ts ≡ map (λ s. lineless (spelled_statement s)) ss)
    × (text_of ts ≡ text_of ss)
text_again depth ss sound =
    let back = all_back depth ss sound in
    let read = file_read_again 1 depth ss back in
    let same = text_of_all ss in
    let cut = file_chunks depth ss back in
    let utf8 = subst (AllByRecursion IsUtf8) (sym cut) (chunks_utf8 depth ss sound) in
    let file = subst (λ text. IsFile depth text read.0 None) (sym same) (give_statements depth 1 (chunks (text_from None ss)) read.0 utf8 read.1) in
    (read.0, file, read.2, text_of_all read.0 ∙ (file_read_only 1 depth ss read.0 back read.1).1 ∙ sym same)

-- and as nothing else
pub text_only : (depth : ℕ) (ss ts : List Statement) (fault : Option SyntaxFault) → AllByRecursion (IsSound depth) ss → IsFile depth (text_of ss) ts fault
    → (fault ≡ None) × (map lineless ts ≡ map (λ s. lineless (spelled_statement s)) ss) × (text_of ts ≡ text_of ss)
text_only depth ss ts fault sound file =
    let again = text_again depth ss sound in
    let one = one_give depth 1 _ ts again.0 fault None file again.1 in
    (one.1, ap (map lineless) one.0 ∙ again.2, ap (λ us. text_of us) one.0 ∙ again.3)
