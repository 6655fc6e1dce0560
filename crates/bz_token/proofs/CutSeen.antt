-- The logical lines that the steps find.
use Rattle.std.proofs.Common.{◌≡◌, ℕ, ◌==◌, ◌&&◌, List, [], ◌∷◌, ◌++◌, true, false, cond, refl, sym, ap, subst, ◌∙◌, inl, inr, append_assoc, append-nil, eqb-true}
use Rattle.std.proofs.lemmas.Bool.{cases_Bool, or_parts}
use Rattle.std.specs.List.{list_any}
use Rattle.bz_token.specs.declared.cutter.scan.LineKind.{LineKind}
use Rattle.bz_token.specs.declared.cutter.scan.LineKind.TheVariants.{Statement}
use Rattle.bz_token.specs.declared.cutter.scan.CutState.{CutState}
use Rattle.bz_token.specs.declared.cutter.scan.CutState.TheVariants.{Plain, Ended, BrokenOff, Backslash, BackslashReturn, Comment}
use Rattle.bz_token.specs.declared.cutter.scan.Scan.{Scan}
use Rattle.bz_token.specs.Pieces.{is_comment, is_space}
use Rattle.bz_token.specs.private.StringPieces.{breaks_short}
use Rattle.bz_token.specs.LogicalLines.{Line}
use Rattle.bz_token.specs.private.CutSteps.{is_ended, is_broken, line_at, at, with_comment, outside, next, count}
use Rattle.bz_token.specs.Strings.{is_byte}

-- a backslash that is still open continues no line at the end
abbrev pub final_kind : CutState → LineKind → LineKind
final_kind Backslash kind = Statement
final_kind BackslashReturn kind = Statement
final_kind _ kind = kind

abbrev pub seen_lines : Scan → List ℕ → List ℕ → List Line
seen_lines s seen [] = line_at seen (final_kind s.inside s.kind) (is_broken s.inside) ∷ []
seen_lines s seen (b ∷ bs) = elim (is_ended s.inside) [
  | true ↦ line_at seen s.kind (is_broken s.inside) ∷ seen_lines (next s b) (b ∷ []) bs
  | false ↦ seen_lines (next s b) (seen ++ b ∷ []) bs
]

-- the state after a piece
abbrev pub kind_with : LineKind → List ℕ → LineKind
kind_with k p = cond (is_space true p) k (cond (is_comment p) (with_comment k) Statement)

abbrev pub after_piece : ℕ → LineKind → List ℕ → Scan
after_piece d k p = at (cond (breaks_short p) BrokenOff (cond (is_byte 10 p && d == 0) Ended Plain)) (count d p) (kind_with k p)

-- what holds at c and elsewhere
pub by_byte : (P : ℕ → Type 0) (c b : ℕ) → P c → ((b == c) ≡ false → P b) → P b
by_byte P c b one other = elim (cases_Bool (b == c)) [
  | inl is ↦ subst P (sym (eqb-true b c is)) one
  | inr differs ↦ other differs
]

newline : (d : ℕ) (k : LineKind) → outside d k 10 ≡ after_piece d k (10 ∷ [])
newline d k = elim (cases_Bool (d == 0)) [ inl is ↦ rw is refl | inr differs ↦ rw differs refl ]

pub plain_byte : (d : ℕ) (k : LineKind) (b : ℕ) → (b == 35) ≡ false → (b == 92) ≡ false → (b == 34) ≡ false → (b == 39) ≡ false → outside d k b ≡ after_piece d k (b ∷ [])
plain_byte d k b n35 n92 n34 n39 =
    let P : ℕ → Type 0 = λ x. outside d k x ≡ after_piece d k (x ∷ []) in
    by_byte P 10 b (newline d k) (λ n10.
    by_byte P 32 b refl (λ n32.
    by_byte P 9 b refl (λ n9.
    by_byte P 13 b refl (λ n13.
    by_byte P 40 b refl (λ n40.
    by_byte P 91 b refl (λ n91.
    by_byte P 123 b refl (λ n123.
    by_byte P 41 b refl (λ n41.
    by_byte P 93 b refl (λ n93.
    by_byte P 125 b refl (λ n125.
    simp (n10, n32, n9, n13, n35, n92, n34, n39, n40, n91, n123, n41, n93, n125)))))))))))

-- a comment goes on to the newline
pub comment_run : (bs after : List ℕ) (d : ℕ) (k : LineKind) (seen : List ℕ) → list_any (λ c. c == 10) bs ≡ false → seen_lines (at Comment d k) seen (bs ++ after) ≡ seen_lines (at Comment d k) (seen ++ bs) after
comment_run [] after d k seen none = rw append-nil refl
comment_run (b ∷ bs) after d k seen none =
    let parts = or_parts (b == 10) (list_any (λ c. c == 10) bs) none in
    rw parts.0 (comment_run bs after d k (seen ++ b ∷ []) parts.1 ∙ ap (λ s. seen_lines (at Comment d k) s after) (append_assoc seen (b ∷ []) bs))
