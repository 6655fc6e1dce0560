-- A chunk whose tokens can be read ends with a Line token.
use Rattle.std.proofs.Common.{◌≡◌, ℕ, ◌<◌, ◌≤◌, List, [], ◌∷◌, ◌++◌, length, true, false, refl, sym, ap, ap₂, subst, ◌∙◌, arith, inl, inr, length-append, append_assoc, append-nil}
use Rattle.std.proofs.lemmas.Bool.{cases_Bool}
use Rattle.bz_token.specs.declared.cutter.scan.Scan.{Scan}
use Rattle.bz_token.specs.declared.cutter.block.ChunkPhase.{ChunkPhase}
use Rattle.bz_token.specs.declared.cutter.block.ChunkPhase.TheVariants.{Comments}
use Rattle.bz_token.specs.declared.cutter.scan.LineKind.TheVariants.{Blank}
use Rattle.bz_token.specs.Chunks.{chunks}
use Rattle.bz_token.specs.private.Phases.{takes, phase_after}
use Rattle.bz_token.specs.Cuts.{EndsBefore}
use Rattle.bz_token.specs.private.CutSteps.{is_ended, outside, next, start, run, line_here, seen_chunks}
use Rattle.std.specs.List.{concat}
use Rattle.bz_token.specs.Places.{Placed, line_at}
use Rattle.bz_token.specs.Reading.{Piece, IsReading, open_after, AreTokensOf}
use Rattle.bz_token.specs.FreshStart.{ends_in_line, AreLinesOf, AreTokensOfChunks}
use Rattle.bz_token.proofs.Joins.{join_reading, open_after-append, joined_tokens, tokens_after_lines}
use Rattle.bz_token.proofs.ChunkLaws.{first_chunk as file_first}
use Rattle.bz_token.proofs.CutLaws.{chunks_are}
use Rattle.bz_token.proofs.Agree.{lines_from}

seen_on : (s : Scan) (phase : ChunkPhase) (before part : List ℕ) (b : ℕ) (bs : List ℕ) → is_ended s.inside ≡ false → seen_chunks s phase before part (b ∷ bs) ≡ seen_chunks (next s b) phase before (part ++ b ∷ []) bs
seen_on s phase before part b bs h = rw (h, seen_chunks) refl

seen_takes : (s : Scan) (phase : ChunkPhase) (before part : List ℕ) (b : ℕ) (bs : List ℕ) → is_ended s.inside ≡ true → takes (phase_after phase (line_here s part)) (b ∷ bs) ≡ true
    → seen_chunks s phase before part (b ∷ bs) ≡ seen_chunks (next s b) (phase_after phase (line_here s part)) (before ++ part) (b ∷ []) bs
seen_takes s phase before part b bs h t = rw (h, t, seen_chunks) refl

seen_cut : (s : Scan) (phase : ChunkPhase) (before part : List ℕ) (b : ℕ) (bs : List ℕ) → is_ended s.inside ≡ true → takes (phase_after phase (line_here s part)) (b ∷ bs) ≡ false
    → seen_chunks s phase before part (b ∷ bs) ≡ (before ++ part) ∷ seen_chunks (next s b) Comments [] (b ∷ []) bs
seen_cut s phase before part b bs h t = rw (h, t, seen_chunks) refl

-- the first chunk is not shorter than what was seen
record BeginsWith (seen : List ℕ) (cs : List (List ℕ)) : Type 0 where
  pub chunk : List ℕ
  pub others : List (List ℕ)
  pub chunks_are : cs ≡ chunk ∷ others
  pub enough : length seen ≤ length chunk

first_chunk : (bs : List ℕ) (s : Scan) (phase : ChunkPhase) (before part : List ℕ) → BeginsWith (before ++ part) (seen_chunks s phase before part bs)
first_chunk [] s phase before part = record { chunk = before ++ part; others = []; chunks_are = refl; enough = omega arith }
first_chunk (b ∷ bs) s phase before part = elim (cases_Bool (is_ended s.inside)) [
  | inr inside ↦
      let r = first_chunk bs (next s b) phase before (part ++ b ∷ []) in
      record { chunk = r.chunk; others = r.others; chunks_are = seen_on s phase before part b bs inside ∙ r.chunks_are; enough = omega (arith, r.enough, length-append before part, length-append before (part ++ b ∷ []), length-append part (b ∷ [])) }
  | inl ended ↦ elim (cases_Bool (takes (phase_after phase (line_here s part)) (b ∷ bs))) [
    | inl on ↦
        let r = first_chunk bs (next s b) (phase_after phase (line_here s part)) (before ++ part) (b ∷ []) in
        record { chunk = r.chunk; others = r.others; chunks_are = seen_takes s phase before part b bs ended on ∙ r.chunks_are; enough = omega (arith, r.enough, length-append (before ++ part) (b ∷ [])) }
    | inr off ↦ record { chunk = before ++ part; others = seen_chunks (next s b) Comments [] (b ∷ []) bs; chunks_are = seen_cut s phase before part b bs ended off; enough = omega arith }
  ]
]

same_first : (c d : List ℕ) (cs ds : List (List ℕ)) → c ∷ cs ≡ d ∷ ds → c ≡ d
same_first c d cs ds e = cc

-- where the first chunk is these bytes, they end a logical line
ends_there : (xs : List ℕ) (b : ℕ) (rest : List ℕ) (s : Scan) (phase : ChunkPhase) (before part : List ℕ) (cs : List (List ℕ)) → seen_chunks s phase before part (xs ++ b ∷ rest) ≡ ((before ++ part) ++ xs) ∷ cs → is_ended (run s xs).inside ≡ true
ends_there [] b rest s phase before part cs e = elim (cases_Bool (is_ended s.inside)) [
  | inl ended ↦ ended
  | inr inside ↦
      let r = first_chunk rest (next s b) phase before (part ++ b ∷ []) in
      let same = same_first r.chunk ((before ++ part) ++ []) r.others cs (sym (seen_on s phase before part b rest inside ∙ r.chunks_are) ∙ e) in
      absurd (omega (arith, r.enough, ap length same, length-append (before ++ part) [], length-append before part, length-append before (part ++ b ∷ []), length-append part (b ∷ [])))
]
ends_there (x ∷ xs) b rest s phase before part cs e = elim (cases_Bool (is_ended s.inside)) [
  | inr inside ↦
      let same : (before ++ part) ++ x ∷ xs ≡ (before ++ (part ++ x ∷ [])) ++ xs = simp append_assoc in
      ends_there xs b rest (next s x) phase before (part ++ x ∷ []) cs (sym (seen_on s phase before part x (xs ++ b ∷ rest) inside) ∙ e ∙ ap (λ c. c ∷ cs) same)
  | inl ended ↦ elim (cases_Bool (takes (phase_after phase (line_here s part)) (x ∷ xs ++ b ∷ rest))) [
    | inl on ↦
        let same : (before ++ part) ++ x ∷ xs ≡ ((before ++ part) ++ x ∷ []) ++ xs = simp append_assoc in
        ends_there xs b rest (next s x) (phase_after phase (line_here s part)) (before ++ part) (x ∷ []) cs (sym (seen_takes s phase before part x (xs ++ b ∷ rest) ended on) ∙ e ∙ ap (λ c. c ∷ cs) same)
    | inr off ↦
        let same = same_first (before ++ part) ((before ++ part) ++ x ∷ xs) (seen_chunks (next s x) Comments [] (x ∷ []) (xs ++ b ∷ rest)) cs (sym (seen_cut s phase before part x (xs ++ b ∷ rest) ended off) ∙ e) in
        absurd (omega (arith, ap length same, length-append (before ++ part) (x ∷ xs)))
  ]
]

-- a chunk that something follows ends a logical line
pub chunk_ends_line : (c : List ℕ) (b : ℕ) (rest : List ℕ) → EndsBefore c (b ∷ rest) → 0 < length c → is_ended (run start c).inside ≡ true
chunk_ends_line [] b rest e some = absurd (omega arith)
chunk_ends_line (x ∷ xs) b rest e some = ends_there xs b rest (outside 0 Blank x) Comments [] (x ∷ []) (chunks (b ∷ rest)) (sym (chunks_are (x ∷ xs ++ b ∷ rest)) ∙ e)

-- the tokens of a chunk that something follows end with its newline
pub chunk_lines : (first depth : ℕ) (c : List ℕ) (b : ℕ) (rest : List ℕ) (ts : List Placed) → EndsBefore c (b ∷ rest) → 0 < length c → AreTokensOf first depth c ts → AreLinesOf first depth c ts
chunk_lines first depth c b rest ts e some a = lines_from first depth c ts a (chunk_ends_line c b rest e some)

ends_append : (ps qs : List Piece) → ends_in_line ps ≡ true → ends_in_line qs ≡ true → ends_in_line (ps ++ qs) ≡ true
ends_append [] qs p q = q
ends_append (a ∷ []) [] p q = p
ends_append (a ∷ []) (b ∷ qs) p q = q
ends_append (a ∷ b ∷ ps) qs p q = ends_append (b ∷ ps) qs p q

-- lines after lines
pub lines_after_lines : (first depth : ℕ) (a b : List ℕ) (ts us : List Placed) → AreLinesOf first depth a ts → AreLinesOf (line_at first a) depth b us → AreLinesOf first depth (a ++ b) (ts ++ us)
lines_after_lines first depth a b ts us x y = (
  x.0 ++ y.0,
  join_reading depth [] x.0 y.0 a b [] x.1 x.3 (subst (λ o. IsReading depth o y.0 [] b) (sym x.2) y.1),
  open_after-append [] x.0 y.0 ∙ ap (λ o. open_after o y.0) x.2 ∙ y.2,
  ends_append x.0 y.0 x.3 y.3,
  ap₂ (λ s t. s ++ t) x.4 y.4 ∙ sym (joined_tokens first depth x.0 y.0 a x.1 x.3),
)

-- a chunk, and those after it
pub record Cut (bytes c : List ℕ) (cs : List (List ℕ)) : Type 0 where
  pub rest : List ℕ
  pub bytes_are : bytes ≡ c ++ rest
  pub some : 0 < length c
  pub after : chunks rest ≡ cs
  pub first_is : chunks (c ++ rest) ≡ c ∷ chunks rest

pub first_cut : (bytes c : List ℕ) (cs : List (List ℕ)) → chunks bytes ≡ c ∷ cs → Cut bytes c cs
first_cut [] c cs e = absurd (nothing e)
  where
    nothing : [] ≡ c ∷ cs → ⊥
    nothing e = cc
first_cut (b ∷ bs) c cs e =
    let f = file_first b bs in
    let both : f.chunk ∷ chunks f.rest ≡ c ∷ cs = sym f.chunks_are ∙ e in
    let head : f.chunk ≡ c = heads _ _ _ _ both in
    record {
      rest = f.rest;
      bytes_are = f.bytes_are ∙ ap (λ x. x ++ f.rest) head;
      some = subst (λ x. 0 < length x) head f.some;
      after = tails _ _ _ _ both;
      first_is = ap (λ x. chunks (x ++ f.rest)) (sym head) ∙ ap chunks (sym f.bytes_are) ∙ f.chunks_are ∙ ap (λ x. x ∷ chunks f.rest) head;
    }
  where
    heads : (x y : List ℕ) (xs ys : List (List ℕ)) → x ∷ xs ≡ y ∷ ys → x ≡ y
    heads x y xs ys e = cc

    tails : (x y : List ℕ) (xs ys : List (List ℕ)) → x ∷ xs ≡ y ∷ ys → xs ≡ ys
    tails x y xs ys e = cc

cut_lines : (first depth : ℕ) (c rest : List ℕ) (cs : List (List ℕ)) (d : List ℕ) (ts : List Placed) → chunks rest ≡ d ∷ cs → chunks (c ++ rest) ≡ c ∷ chunks rest → 0 < length c → AreTokensOf first depth c ts → AreLinesOf first depth c ts
cut_lines first depth c [] cs d ts more cut some a = absurd (nothing more)
  where
    nothing : [] ≡ d ∷ cs → ⊥
    nothing e = cc
cut_lines first depth c (b ∷ rest) cs d ts more cut some a = chunk_lines first depth c b rest ts cut some a

-- chunks with tokens that other chunks follow are lines
pub lines_of_chunks : (first depth : ℕ) (cs ds : List (List ℕ)) (d bytes : List ℕ) (ts : List Placed) → chunks bytes ≡ cs ++ d ∷ ds → AreTokensOfChunks first depth cs ts → (rest : List ℕ) × (bytes ≡ concat cs ++ rest) × (chunks rest ≡ d ∷ ds) × AreLinesOf first depth (concat cs) ts
lines_of_chunks first depth [] ds d bytes ts e t = (bytes, refl, e, ([], refl, refl, refl, t))
lines_of_chunks first depth (c ∷ cs) ds d bytes ts e t =
    let cut = first_cut bytes c (cs ++ d ∷ ds) e in
    let more = lines_of_chunks (line_at first c) depth cs ds d cut.rest t.1 cut.after t.3 in
    let lines = follow cs cut.rest cut.after in (
      more.0,
      cut.bytes_are ∙ ap (λ x. c ++ x) more.1 ∙ sym (append_assoc c (concat cs) more.0),
      more.2,
      subst (λ x. AreLinesOf first depth (c ++ concat cs) x) (sym t.4) (lines_after_lines first depth c (concat cs) t.0 t.1 (lines cut.first_is cut.some t.2) more.3),
    )
  where
    follow : (cs : List (List ℕ)) (rest : List ℕ) → chunks rest ≡ cs ++ d ∷ ds → chunks (c ++ rest) ≡ c ∷ chunks rest → 0 < length c → AreTokensOf first depth c t.0 → AreLinesOf first depth c t.0
    follow [] rest more cut some a = cut_lines first depth c rest ds d t.0 more cut some a
    follow (x ∷ xs) rest more cut some a = cut_lines first depth c rest (xs ++ d ∷ ds) x t.0 more cut some a

-- where all chunks have tokens, these are the tokens of the whole
pub tokens_of_chunks : (first depth : ℕ) (cs : List (List ℕ)) (bytes : List ℕ) (ts : List Placed) → chunks bytes ≡ cs → AreTokensOfChunks first depth cs ts → AreTokensOf first depth bytes ts
tokens_of_chunks first depth [] [] ts e t = ([], [], refl, refl, refl, t)
tokens_of_chunks first depth [] (b ∷ bs) ts e t = absurd (nothing (file_first b bs).chunk (chunks (file_first b bs).rest) (sym (file_first b bs).chunks_are ∙ e))
  where
    nothing : (x : List ℕ) (xs : List (List ℕ)) → x ∷ xs ≡ [] → ⊥
    nothing x xs e = cc
tokens_of_chunks first depth (c ∷ []) bytes ts e t =
    let cut = first_cut bytes c [] e in
    let whole : bytes ≡ c = cut.bytes_are ∙ ap (λ x. c ++ x) (none cut.rest cut.after) ∙ append-nil c in
    let same : ts ≡ t.0 = t.4 ∙ ap (λ x. t.0 ++ x) t.3 ∙ nil t.0 in
    subst (λ x. AreTokensOf first depth x ts) (sym whole) (subst (λ x. AreTokensOf first depth c x) (sym same) t.2)
  where
    none : (rest : List ℕ) → chunks rest ≡ [] → rest ≡ []
    none [] e = refl
    none (b ∷ bs) e = absurd (nothing (file_first b bs).chunk (chunks (file_first b bs).rest) (sym (file_first b bs).chunks_are ∙ e))
      where
        nothing : (x : List ℕ) (xs : List (List ℕ)) → x ∷ xs ≡ [] → ⊥
        nothing x xs e = cc

    nil : (us : List Placed) → us ++ [] ≡ us
    nil [] = refl
    nil (u ∷ us) = ap (λ x. u ∷ x) (nil us)
tokens_of_chunks first depth (c ∷ d ∷ ds) bytes ts e t =
    let cut = first_cut bytes c (d ∷ ds) e in
    let rest = tokens_of_chunks (line_at first c) depth (d ∷ ds) cut.rest t.1 cut.after t.3 in
    let lines = cut_lines first depth c cut.rest ds d t.0 cut.after cut.first_is cut.some t.2 in
    subst (λ x. AreTokensOf first depth x ts) (sym cut.bytes_are) (subst (λ x. AreTokensOf first depth (c ++ cut.rest) x) (sym t.4) (tokens_after_lines first depth c cut.rest t.0 t.1 lines rest))
