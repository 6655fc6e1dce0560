-- Comment lines and the empty line after them are a chunk.
use Rattle.std.proofs.Common.{◌≡◌, ℕ, ◌≤◌, List, [], ◌∷◌, ◌++◌, true, refl, sym, ap, subst, ◌∙◌, append-nil, arith}
use Rattle.std.specs.Prelude.{codes, if◌then◌else◌}
use Rattle.bz_token.specs.declared.token.Kind.TheVariants.{Newline}
use Rattle.bz_token.specs.Cuts.{IsChunk}
use Rattle.bz_token.specs.FreshStart.{ends_in_line, AreLinesOf}
use Rattle.bz_token.specs.LogicalLines.{lines}
use Rattle.bz_token.specs.Reading.{Piece as ReadPiece, open_after, bytes_of as bytes_read, tokens_of}
use Rattle.bz_token.specs.ChunkForms.{are_comments}
use Rattle.bz_layout_laws.specs.Readable.{are_texts, are_ended, are_fitting}
use Rattle.bz_token.specs.TokenLines.{line_of, lines_of}
use Rattle.bz_token.proofs.ChunkForms.{statement_chunk}
use Rattle.bz_layout_laws.proofs.Readable.{bytes_join, texts_join, ended_join, fitting_join, open_join, laid_lines, laid_reading}
use Rattle.bz_token.proofs.TokenLines.{lines_are_lines, lines_of_join}
use Rattle.bz_tree.specs.Tree.{Statement}
use Rattle.bz_layout.specs.Pieces.{comment_lines}
use Rattle.bz_layout.specs.Layout.{statement_line, is_comment, layout, layout_text}
use Rattle.bz_layout_laws.specs.Legible.{IsLegible, depth_of}
use Rattle.bz_layout_laws.specs.ReadPieces.{read_pieces}
use Rattle.bz_layout_laws.proofs.Texts.{both}
use Rattle.bz_layout_laws.proofs.Ended.{read_bytes}
use Rattle.bz_layout_laws.proofs.TokensBack.{layout_read, layout_ends}
use Rattle.bz_layout_laws.proofs.WholeChunk.{comments_are}

abbrev pub newline : ReadPiece
newline = record { gap = []; kind = Newline; text = codes "\n" }

last_line : (ps : List ReadPiece) → ends_in_line (ps ++ newline ∷ []) ≡ true
last_line [] = refl
last_line (p ∷ []) = refl
last_line (p ∷ q ∷ ps) = last_line (q ∷ ps)

abbrev pub with_newline : Statement → List ReadPiece
with_newline s = read_pieces (layout s) ++ newline ∷ []

tests : (depth : ℕ) (s : Statement) → IsLegible s → depth_of s ≤ depth
    → (are_texts (with_newline s) ≡ true) × (are_ended (with_newline s) [] ≡ true) × (are_fitting depth [] (with_newline s) ≡ true) × (open_after [] (with_newline s) ≡ [])
tests depth s h room =
    let ps = read_pieces (layout s) in
    let t = layout_read depth s (10 ∷ []) h room in (
      texts_join ps (newline ∷ []) ∙ both (are_texts ps) true t.0 refl,
      ended_join ps (newline ∷ []) [] ∙ both (are_ended ps (10 ∷ [])) true t.1 refl,
      fitting_join depth [] ps (newline ∷ []) ∙ both (are_fitting depth [] ps) (are_fitting depth (open_after [] ps) (newline ∷ [])) t.2 (ap (λ o. are_fitting depth o (newline ∷ [])) t.3),
      open_join [] ps (newline ∷ []) ∙ ap (λ o. open_after o (newline ∷ [])) t.3,
    )

bytes_are : (s : Statement) → bytes_read (with_newline s) ≡ layout_text s ++ codes "\n"
bytes_are s = bytes_join (read_pieces (layout s)) (newline ∷ []) ∙ ap (λ x. x ++ codes "\n") (read_bytes (layout s))

pub lines_and_blank : (first depth : ℕ) (s : Statement) → IsLegible s → depth_of s ≤ depth → AreLinesOf first depth (layout_text s ++ codes "\n") (tokens_of first [] [] (with_newline s))
lines_and_blank first depth s h room =
    let t = tests depth s h room in
    subst (λ bytes. AreLinesOf first depth bytes (tokens_of first [] [] (with_newline s))) (bytes_are s) (laid_lines first depth (with_newline s) t.0 t.1 t.2 t.3 (last_line (read_pieces (layout s))))

pub comments_and_blank : (s : Statement) → IsLegible s → is_comment s.class ≡ true → IsChunk (layout_text s ++ codes "\n")
comments_and_blank s h class =
    let ps = read_pieces (layout s) in
    let all = with_newline s in
    let d = depth_of s in
    let t = tests d s h (omega arith) in
    let are : AreLinesOf 1 d (bytes_read all) (tokens_of 1 [] [] all) = laid_lines 1 d all t.0 t.1 t.2 t.3 (last_line ps) in
    let comment_texts = lines_of ps [] in
    let cut : lines (bytes_read all) ≡ comment_texts ++ line_of (newline ∷ []) [] ∷ [] = ap lines (sym (append-nil (bytes_read all))) ∙ lines_are_lines d all [] (bytes_read all ++ []) (laid_reading d [] all [] t.0 t.1 t.2) refl ∙ lines_of_join ps (newline ∷ []) [] (layout_ends s) in
    let parts : ps ≡ read_pieces (comment_lines s.before) =
    ap (λ b. read_pieces (comment_lines s.before ++ (if b then [] else statement_line s))) class ∙ ap read_pieces (append-nil (comment_lines s.before)) in
    let comments : are_comments comment_texts ≡ true = ap (λ qs. are_comments (lines_of qs [])) parts ∙ comments_are s.before in
    subst IsChunk (bytes_are s) (statement_chunk 1 d (bytes_read all) (tokens_of 1 [] [] all) comment_texts (line_of (newline ∷ []) []) are cut comments refl)
