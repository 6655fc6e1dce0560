-- Texts in one list of bytes, and more of them at the end.
use Rattle.std.proofs.Common.{◌≡◌, ℕ, suc, ◌+◌, ◌≤◌, List, [], ◌∷◌, ◌++◌, length, length-append, take, drop, refl, sym, ap, subst, arith}
use Rattle.std.proofs.lemmas.List.{take-append-drop, take-append-le, drop-append-le}
use Rattle.std.proofs.Math.Nat.{le_refl}
use Rattle.std.proofs.Math.Seq.{take-length, drop-length}
use Rattle.std.proofs.lemmas.Str.{IsCharBoundary-from_drop, IsUtf8-append, IsUtf8-nil}
use Rattle.std.specs.Str.{IsCharBoundary, IsUtf8}
use Rattle.bz_passes.specs.private.Cuts.{cut, AreTexts}

longer : (n a b c : ℕ) → n ≤ a → c ≡ a + b → n ≤ c
longer n a b c h e = omega arith

pub are_joined : (ns bs ms cs : List ℕ) → AreTexts ns bs → AreTexts ms cs → AreTexts (ns ++ ms) (bs ++ cs)
are_joined [] bs ms cs none more = subst (λ b. AreTexts ms (b ++ cs)) (sym none) more
are_joined (n ∷ ns) bs ms cs these more = (
  longer n (length bs) (length cs) (length (bs ++ cs)) these.0 (length-append bs cs),
  subst IsUtf8 (sym (take-append-le n bs cs these.0)) these.1,
  subst (AreTexts (ns ++ ms)) (sym (drop-append-le n bs cs these.0)) (are_joined ns (drop n bs) ms cs these.2 more),
)

pub cut_joined : (ns bs ms cs : List ℕ) → AreTexts ns bs → cut (ns ++ ms) (bs ++ cs) ≡ cut ns bs ++ cut ms cs
cut_joined [] bs ms cs none = ap (λ b. cut ms (b ++ cs)) none
cut_joined (n ∷ ns) bs ms cs these =
    rw (take-append-le n bs cs these.0, drop-append-le n bs cs these.0) (ap (λ texts. take n bs ∷ texts) (cut_joined ns (drop n bs) ms cs these.2))

-- one text
one : (text : List ℕ) → IsUtf8 text → AreTexts (length text ∷ []) text
one text utf8 = (le_refl (length text), subst IsUtf8 (sym (take-length text)) utf8, drop-length text)

pub are_pushed : (ns bs text ns2 bs2 : List ℕ) → ns2 ≡ ns ++ length text ∷ [] → bs2 ≡ bs ++ text → AreTexts ns bs → IsUtf8 text → AreTexts ns2 bs2
are_pushed ns bs text ns2 bs2 lens bytes these utf8 = rw (lens, bytes) (are_joined ns bs (length text ∷ []) text these (one text utf8))

pub cut_pushed : (ns bs text ns2 bs2 : List ℕ) (texts : List (List ℕ)) → ns2 ≡ ns ++ length text ∷ [] → bs2 ≡ bs ++ text → AreTexts ns bs → cut ns bs ≡ texts
    → cut ns2 bs2 ≡ texts ++ text ∷ []
cut_pushed ns bs text ns2 bs2 texts lens bytes these is =
    rw (lens, bytes, cut_joined ns bs (length text ∷ []) text these, take-length text, is) refl

-- those of another
pub are_appended : (ns bs ms cs ns2 bs2 : List ℕ) → ns2 ≡ ns ++ ms → bs2 ≡ bs ++ cs → AreTexts ns bs → AreTexts ms cs → AreTexts ns2 bs2
are_appended ns bs ms cs ns2 bs2 lens bytes these more = rw (lens, bytes) (are_joined ns bs ms cs these more)

pub cut_appended : (ns bs ms cs ns2 bs2 : List ℕ) (texts more : List (List ℕ)) → ns2 ≡ ns ++ ms → bs2 ≡ bs ++ cs → AreTexts ns bs → cut ns bs ≡ texts → cut ms cs ≡ more
    → cut ns2 bs2 ≡ texts ++ more
cut_appended ns bs ms cs ns2 bs2 texts more lens bytes these is and_is =
    rw (lens, bytes, cut_joined ns bs ms cs these, is, and_is) refl

pub length-cut : (ns bs : List ℕ) → length (cut ns bs) ≡ length ns
length-cut [] bs = refl
length-cut (n ∷ ns) bs = ap suc (length-cut ns (drop n bs))

pub are_utf8 : (ns bs : List ℕ) → AreTexts ns bs → IsUtf8 bs
are_utf8 [] bs none = subst IsUtf8 (sym none) IsUtf8-nil
are_utf8 (n ∷ ns) bs these = subst IsUtf8 (take-append-drop n bs) (IsUtf8-append (take n bs) (drop n bs) these.1 (are_utf8 ns (drop n bs) these.2))

-- the first text ends between two characters
pub first_ends : (ns bs ms : List ℕ) (n : ℕ) → ns ≡ n ∷ ms → AreTexts ns bs → IsCharBoundary bs n
first_ends ns bs ms n first these =
    let texts = subst (λ lens. AreTexts lens bs) first these in
    IsCharBoundary-from_drop bs n texts.0 (are_utf8 ms (drop n bs) texts.2)
