-- A file is UTF-8 exactly if its chunks are: each but the last ends in a newline.
use Rattle.std.proofs.Common.{◌≡◌, ℕ, ◌<◌, List, [], ◌∷◌, ◌++◌, length, true, refl, sym, ap, subst, ◌∙◌, arith, ◌⊎◌, inl, inr, append_assoc, append-nil}
use Rattle.std.specs.List.{AllByRecursion, concat}
use Rattle.std.specs.Prelude.{◌==◌}
use Rattle.std.specs.Str.{IsUtf8}
use Rattle.std.proofs.lemmas.Bool.Decides.{nat_tests}
use Rattle.std.proofs.lemmas.Str.{IsUtf8-append, IsUtf8-nil, IsUtf8-past_char, encode_ascii}
use Rattle.bz_token.specs.Chunks.{chunks}
use Rattle.bz_token.specs.Cuts.{ends_in_newline, EndsBefore}
use Rattle.bz_token.proofs.ChunkFaults.{chunk_newline}
use Rattle.bz_token.proofs.ChunkLaws.{chunks_kept}
use Rattle.bz_token.proofs.FreshChunks.{first_cut}
use Rattle.bz_layout_laws.proofs.Utf8Tokens.{cut_low}
use Rattle.bz_layout_laws.proofs.Utf8Written.{low_utf8}

-- a text may be cut after a newline
newline_last : (c : List ℕ) → ends_in_newline c ≡ true → (front : List ℕ) × (c ≡ front ++ 10 ∷ [])
newline_last [] h = absurd cc
newline_last (b ∷ []) h = ([], ap (λ x. x ∷ []) (is_newline b h))
  where
    is_newline : (b : ℕ) → (b == 10) ≡ true → b ≡ 10
    is_newline b h = grind (arith, nat_tests)
newline_last (b ∷ c ∷ bs) h =
    let rest = newline_last (c ∷ bs) h in
    (b ∷ rest.0, ap (λ x. b ∷ x) rest.1)

past_newline : (rest : List ℕ) → IsUtf8 (10 ∷ rest) → IsUtf8 rest
past_newline rest u = IsUtf8-past_char (10 ∷ rest) rest 10 u (ap (λ x. x ++ rest) (sym (encode_ascii 10 (omega arith))))

pub cut_after_newline : (c rest : List ℕ) → ends_in_newline c ≡ true → IsUtf8 (c ++ rest) → IsUtf8 c × IsUtf8 rest
cut_after_newline c rest ends u =
    let last = newline_last c ends in
    let same : c ++ rest ≡ last.0 ++ 10 ∷ rest = ap (λ x. x ++ rest) last.1 ∙ append_assoc last.0 (10 ∷ []) rest in
    let cut = cut_low last.0 (10 ∷ rest) (omega arith) (subst IsUtf8 same u) in
    (subst IsUtf8 (sym last.1) (IsUtf8-append last.0 (10 ∷ []) cut.0 (low_utf8 10 (omega arith))), past_newline rest cut.1)

-- A chunk ends in a newline, or nothing follows.
pub ends_or_last : (c rest : List ℕ) → EndsBefore c rest → 0 < length c → (rest ≡ []) ⊎ (ends_in_newline c ≡ true)
ends_or_last c [] cut some = inl refl
ends_or_last c (b ∷ rest) cut some = inr (chunk_newline c b rest cut some)

cut_first : (c rest : List ℕ) → (rest ≡ []) ⊎ (ends_in_newline c ≡ true) → IsUtf8 (c ++ rest) → IsUtf8 c × IsUtf8 rest
cut_first c rest (inl none) u = (subst IsUtf8 (ap (λ r. c ++ r) none ∙ append-nil c) u, subst IsUtf8 (sym none) IsUtf8-nil)
cut_first c rest (inr ends) u = cut_after_newline c rest ends u

-- so the chunks of a text are text
pub chunks_utf8 : (cs : List (List ℕ)) (bytes : List ℕ) → chunks bytes ≡ cs → IsUtf8 bytes → AllByRecursion IsUtf8 cs
chunks_utf8 [] bytes e u = tt
chunks_utf8 (c ∷ cs) bytes e u =
    let first = first_cut bytes c cs e in
    let parts = cut_first c first.rest (ends_or_last c first.rest first.first_is first.some) (subst IsUtf8 first.bytes_are u) in
    (parts.0, chunks_utf8 cs first.rest first.after parts.1)

-- and a text of such chunks is text
joined_utf8 : (cs : List (List ℕ)) → AllByRecursion IsUtf8 cs → IsUtf8 (concat cs)
joined_utf8 [] u = IsUtf8-nil
joined_utf8 (c ∷ cs) u = IsUtf8-append c (concat cs) u.0 (joined_utf8 cs u.1)

pub text_of_chunks : (bytes : List ℕ) → AllByRecursion IsUtf8 (chunks bytes) → IsUtf8 bytes
text_of_chunks bytes u = subst IsUtf8 (chunks_kept bytes) (joined_utf8 (chunks bytes) u)
