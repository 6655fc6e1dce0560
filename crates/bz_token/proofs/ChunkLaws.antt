-- Laws of the definition of chunks: a text is its chunks, the first is cut off alone, and a newline stands between two.
use Rattle.std.proofs.Common.{◌≡◌, ℕ, ◌<◌, ◌⊎◌, List, [], ◌∷◌, ◌++◌, true, length, refl, sym, ap, ◌∙◌, arith, inl, inr, append_assoc, append-nil}
use Rattle.std.proofs.lemmas.Bool.{cases_Bool}
use Rattle.std.specs.List.{concat}
use Rattle.bz_token.specs.declared.cutter.scan.LineKind.TheVariants.{Blank}
use Rattle.bz_token.specs.declared.cutter.scan.Scan.{Scan}
use Rattle.bz_token.specs.declared.cutter.block.ChunkPhase.{ChunkPhase}
use Rattle.bz_token.specs.declared.cutter.block.ChunkPhase.TheVariants.{Comments}
use Rattle.bz_token.specs.Chunks.{chunks}
use Rattle.bz_token.specs.private.Phases.{phase_after, takes}
use Rattle.bz_token.specs.Cuts.{ends_in_newline}
use Rattle.bz_token.specs.private.CutSteps.{is_ended, line_here, seen_chunks, outside, next, start}
use Rattle.bz_token.proofs.CutMachine.{ended_restarts}
use Rattle.bz_token.proofs.CutLaws.{EndsRight, ends_right, first_word, same_takes, chunk_step, chunk_goes, chunk_cut, chunks_seen, chunks_are}

-- the first chunk that the steps find
record FirstCut (s : Scan) (phase : ChunkPhase) (before part bytes : List ℕ) : Type 0 where
  front : List ℕ
  rest : List ℕ
  bytes_are : bytes ≡ front ++ rest
  chunks_are : seen_chunks s phase before part bytes ≡ ((before ++ part) ++ front) ∷ chunks_seen rest
  alone : seen_chunks s phase before part front ≡ ((before ++ part) ++ front) ∷ []
  ends : (rest ≡ []) ⊎ ((xs : List ℕ) × (part ++ front ≡ xs ++ 10 ∷ []))

first_cut : (bytes : List ℕ) (s : Scan) (phase : ChunkPhase) (before part : List ℕ) → EndsRight s part → FirstCut s phase before part bytes
first_cut [] s phase before part right = record {
  front = [];
  rest = [];
  bytes_are = refl;
  chunks_are = ap (λ c. c ∷ []) (sym (append-nil (before ++ part)));
  alone = ap (λ c. c ∷ []) (sym (append-nil (before ++ part)));
  ends = inl refl;
}
first_cut (b ∷ bs) s phase before part right = elim (cases_Bool (is_ended s.inside)) [
  | inr inside ↦
      let f = first_cut bs (next s b) phase before (part ++ b ∷ []) (ends_right s part b) in
      let whole : (before ++ (part ++ b ∷ [])) ++ f.front ≡ (before ++ part) ++ b ∷ f.front = simp append_assoc in
      record {
        front = b ∷ f.front;
        rest = f.rest;
        bytes_are = ap (λ t. b ∷ t) f.bytes_are;
        chunks_are = chunk_step s phase before part b bs inside ∙ f.chunks_are ∙ ap (λ c. c ∷ chunks_seen f.rest) whole;
        alone = chunk_step s phase before part b f.front inside ∙ f.alone ∙ ap (λ c. c ∷ []) whole;
        ends = elim f.ends [ inl none ↦ inl none | inr e ↦ inr (e.0, sym (append_assoc part (b ∷ []) f.front) ∙ e.1) ];
      }
  | inl ended ↦ elim (cases_Bool (takes (phase_after phase (line_here s part)) (b ∷ bs))) [
    | inl goes ↦
        let f = first_cut bs (next s b) (phase_after phase (line_here s part)) (before ++ part) (b ∷ []) (ends_right s [] b) in
        let whole : ((before ++ part) ++ b ∷ []) ++ f.front ≡ (before ++ part) ++ b ∷ f.front = append_assoc (before ++ part) (b ∷ []) f.front in
        let here : takes (phase_after phase (line_here s part)) (b ∷ f.front) ≡ true =
        same_takes (phase_after phase (line_here s part)) b f.front (f.front ++ f.rest) (first_word b f.front f.rest f.ends)
        ∙ ap (λ t. takes (phase_after phase (line_here s part)) (b ∷ t)) (sym f.bytes_are) ∙ goes in
        record {
          front = b ∷ f.front;
          rest = f.rest;
          bytes_are = ap (λ t. b ∷ t) f.bytes_are;
          chunks_are = chunk_goes s phase before part b bs ended goes ∙ f.chunks_are ∙ ap (λ c. c ∷ chunks_seen f.rest) whole;
          alone = chunk_goes s phase before part b f.front ended here ∙ f.alone ∙ ap (λ c. c ∷ []) whole;
          ends = elim f.ends [ inl none ↦ inl none | inr e ↦ inr (part ++ e.0, ap (λ t. part ++ t) e.1 ∙ sym (append_assoc part e.0 (10 ∷ []))) ];
        }
    | inr stops ↦
        let r = right ended in
        record {
          front = [];
          rest = b ∷ bs;
          bytes_are = refl;
          chunks_are =
              chunk_cut s phase before part b bs ended stops
              ∙ (λ i. sym (append-nil (before ++ part)) i ∷ seen_chunks (ended_restarts s.inside s.depth s.kind b ended i) Comments [] (b ∷ []) bs);
          alone = ap (λ c. c ∷ []) (sym (append-nil (before ++ part)));
          ends = inr (r.0, append-nil part ∙ r.1);
        }
  ]
]

snoc_newline : (xs : List ℕ) → ends_in_newline (xs ++ 10 ∷ []) ≡ true
snoc_newline [] = refl
snoc_newline (x ∷ []) = refl
snoc_newline (x ∷ y ∷ ys) = snoc_newline (y ∷ ys)

-- The first chunk of a text: it is cut off, and alone it is one chunk; only the last one of a file may lack its newline.
pub record FirstChunk (bytes : List ℕ) : Type 0 where
  pub chunk : List ℕ
  pub rest : List ℕ
  pub bytes_are : bytes ≡ chunk ++ rest
  pub some : 0 < length chunk
  pub chunks_are : chunks bytes ≡ chunk ∷ chunks rest
  pub alone : chunks chunk ≡ chunk ∷ []
  pub ends : (rest ≡ []) ⊎ (ends_in_newline chunk ≡ true)

pub first_chunk : (b : ℕ) (bs : List ℕ) → FirstChunk (b ∷ bs)
first_chunk b bs =
    let f = first_cut bs (outside 0 Blank b) Comments [] (b ∷ []) (ends_right start [] b) in
    record {
      chunk = b ∷ f.front;
      rest = f.rest;
      bytes_are = ap (λ t. b ∷ t) f.bytes_are;
      some = omega arith;
      chunks_are = chunks_are (b ∷ bs) ∙ f.chunks_are ∙ ap (λ cs. (b ∷ f.front) ∷ cs) (sym (chunks_are f.rest));
      alone = chunks_are (b ∷ f.front) ∙ f.alone;
      ends = elim f.ends [ inl none ↦ inl none | inr e ↦ inr (ap ends_in_newline e.1 ∙ snoc_newline e.0) ];
    }

-- nothing is lost
kept : (bytes : List ℕ) (s : Scan) (phase : ChunkPhase) (before part : List ℕ) → concat (seen_chunks s phase before part bytes) ≡ (before ++ part) ++ bytes
kept [] s phase before part = refl
kept (b ∷ bs) s phase before part = elim (cases_Bool (is_ended s.inside)) [
  | inr inside ↦ ap concat (chunk_step s phase before part b bs inside) ∙ kept bs (next s b) phase before (part ++ b ∷ []) ∙ simp append_assoc
  | inl ended ↦ elim (cases_Bool (takes (phase_after phase (line_here s part)) (b ∷ bs))) [
    | inl goes ↦ ap concat (chunk_goes s phase before part b bs ended goes) ∙ kept bs (next s b) (phase_after phase (line_here s part)) (before ++ part) (b ∷ []) ∙ append_assoc (before ++ part) (b ∷ []) bs
    | inr stops ↦ ap concat (chunk_cut s phase before part b bs ended stops) ∙ ap (λ t. (before ++ part) ++ t) (kept bs (next s b) Comments [] (b ∷ []))
  ]
]

pub chunks_kept : (bytes : List ℕ) → concat (chunks bytes) ≡ bytes
chunks_kept [] = refl
chunks_kept (b ∷ bs) = ap concat (chunks_are (b ∷ bs)) ∙ kept bs (outside 0 Blank b) Comments [] (b ∷ [])
