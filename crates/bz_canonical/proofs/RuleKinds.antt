-- The kind of a found rule follows the comments above it.
use Rattle.std.proofs.Common.{◌≡◌, ◌<◌, ℕ, ◌+◌, List, [], ◌∷◌, ◌++◌, true, false, length, take, drop, get_or, sym, ap, ◌∙◌, arith, subst, append_assoc, ◌==◌}
use Rattle.std.specs.List.{concat}
use Rattle.std.proofs.Math.Seq.{drop-append_seam, take-append_seam}
use Rattle.std.proofs.lemmas.Bool.{and_parts, false≢true}
use Rattle.std.proofs.lemmas.List.{length-append}
use Rattle.bz_token.specs.Lexical.{is_comment}
use Rattle.bz_layout.specs.Pieces.{bytes_of, comment_lines}
use Rattle.bz_layout_laws.specs.Legible.{AreComments}
use Rattle.bz_canonical.specs.SealedRules.{between}
use Rattle.bz_canonical.specs.Spans.{AreSpans, IsSpannedIn, NamedRule, front_text, name_argument}
use Rattle.bz_canonical.specs.declared.spans.ArgumentSpan.{ArgumentSpan}
use Rattle.bz_canonical.specs.private.Segments.{AreLinesFront}
use Rattle.bz_canonical.proofs.CommentRows.{kind_begins}
use Rattle.bz_canonical.proofs.CommentedLines.{begins_sign, line_same, one_line}
use Rattle.bz_canonical.proofs.CutTexts.{cut_at}
use Rattle.bz_canonical.proofs.RuleParts.{first_span}
use Rattle.bz_token.specs.Common.{begins}

sign_first : (n rest : List ℕ) → is_comment n ≡ true → begins (λ b. b == 35) (n ++ rest) ≡ true
sign_first n rest is = let sign = begins_sign n is in ap (λ (t : List ℕ). begins (λ b. b == 35) (t ++ rest)) sign.1

line_split : (n rest x : List ℕ) → (n ++ (10 ∷ rest)) ++ x ≡ n ++ (10 ∷ (rest ++ x))
line_split n rest x = append_assoc n (10 ∷ rest) x

tail_same : (n x y : List ℕ) → n ++ (10 ∷ x) ≡ n ++ (10 ∷ y) → x ≡ y
tail_same n x y is = ap (drop 1) (sym (drop-append_seam n (10 ∷ x)) ∙ ap (drop (length n)) is ∙ drop-append_seam n (10 ∷ y))

-- what does not begin as a comment follows comment lines in one way
pub after_lines : (ns ms : List (List ℕ)) (x y : List ℕ) → AreComments ns → AreComments ms → begins (λ b. b == 35) x ≡ false → begins (λ b. b == 35) y ≡ false
    → bytes_of (comment_lines ns) ++ x ≡ bytes_of (comment_lines ms) ++ y → x ≡ y
after_lines [] [] x y are also hx hy is = is
after_lines [] (m ∷ ms) x y are also hx hy is =
    absurd (false≢true (sym hx ∙ ap (begins (λ b. b == 35)) (is ∙ line_split m (bytes_of (comment_lines ms)) y) ∙ sign_first m (10 ∷ (bytes_of (comment_lines ms) ++ y)) (and_parts (is_comment m) _ also).0))
after_lines (n ∷ ns) [] x y are also hx hy is =
    absurd (false≢true (sym hy ∙ ap (begins (λ b. b == 35)) (sym is ∙ line_split n (bytes_of (comment_lines ns)) x) ∙ sign_first n (10 ∷ (bytes_of (comment_lines ns) ++ x)) (and_parts (is_comment n) _ are).0))
after_lines (n ∷ ns) (m ∷ ms) x y are also hx hy is =
    let N : List ℕ = bytes_of (comment_lines ns) ++ x in
    let M : List ℕ = bytes_of (comment_lines ms) ++ y in
    let both : n ++ (10 ∷ N) ≡ m ++ (10 ∷ M) = sym (line_split n (bytes_of (comment_lines ns)) x) ∙ is ∙ line_split m (bytes_of (comment_lines ms)) y in
    let here = and_parts (is_comment n) _ are in
    let there = and_parts (is_comment m) _ also in
    let same : n ≡ m = line_same n m N M (one_line n here.0) (one_line m there.0) both in
    after_lines ns ms x y here.1 there.1 hx hy (tail_same m N M (ap (λ (t : List ℕ). t ++ (10 ∷ N)) (sym same) ∙ both))

-- the front of a found rule
pub front_cut : (names : List (List ℕ)) (r : NamedRule) (stands : List (List ℕ)) (chunk back : List ℕ) (spans : List ArgumentSpan) (d : ArgumentSpan) → 0 < length spans
    → AreSpans names (length (front_text r.notes r.kind)) (length (front_text r.notes r.kind)) (name_argument r.name ∷ r.args) stands spans → chunk ≡ front_text r.notes r.kind ++ (concat stands ++ back)
    → take (get_or spans 0 d).from chunk ≡ front_text r.notes r.kind
front_cut names r stands chunk back spans d some are chunk_is = by stands (subst (λ ss. AreSpans names (length F) (length F) (name_argument r.name ∷ r.args) stands ss) (first_span spans d some) are)
  where
    F : List ℕ
    F = front_text r.notes r.kind

    by : (ls : List (List ℕ)) → AreSpans names (length F) (length F) (name_argument r.name ∷ r.args) ls (get_or spans 0 d ∷ drop 1 spans) → take (get_or spans 0 d).from chunk ≡ F
    by [] are = absurd are
    by (l ∷ ls) are = (λ i. take (are.0.from_is i) (chunk_is i)) ∙ take-append_seam F (concat stands ++ back)

-- its kind
pub kind_cut : (depth : ℕ) (names : List (List ℕ)) (r : NamedRule) (stands : List (List ℕ)) (chunk written front line : List ℕ) (spans : List ArgumentSpan) (d : ArgumentSpan) (from to : ℕ) → 0 < length spans → IsSpannedIn depth names r stands chunk written spans
    → front ≡ take (get_or spans 0 d).from chunk → AreLinesFront front line → begins (λ b. b == 35) line ≡ false → from + length line ≡ length front → to + 1 ≡ length front → between from to front ≡ r.kind
kind_cut depth names r stands chunk written front line spans d from to some is front_is lines bare from_is to_is =
    let N : List ℕ = bytes_of (comment_lines r.notes) in
    let K : List ℕ = r.kind ++ 40 ∷ [] in
    let whole : front ≡ N ++ K = front_is ∙ front_cut names r stands chunk is.back spans d some is.spanned.are is.chunk_is in
    let rest : line ≡ K = after_lines lines.notes r.notes line K lines.are is.spanned.notes_are bare (kind_begins r.kind (40 ∷ []) is.spanned.kind_is) (sym lines.front ∙ whole) in
    let size : length front ≡ length N + (length r.kind + 1) = omega (arith, ap length whole, length-append N K, length-append r.kind (40 ∷ [])) in
    let start : from ≡ length N = omega (arith, from_is, size, ap length rest, length-append r.kind (40 ∷ [])) in
    cut_at N r.kind (40 ∷ []) front from to whole start (omega (arith, to_is, size, start))
