-- Where the steps find the end of a chunk.
use Rattle.std.proofs.Common.{◌≡◌, ℕ, ◌==◌, ◌||◌, ◌⊎◌, List, [], ◌∷◌, ◌++◌, true, false, cond, map, refl, sym, ap, ◌∙◌, inl, inr, append_assoc, append-nil, eqb-true}
use Rattle.std.proofs.lemmas.Bool.{cases_Bool, both_ways}
use Rattle.std.proofs.lemmas.List.Sums.{take_while-cons}
use Rattle.bz_token.specs.declared.cutter.scan.LineKind.TheVariants.{Blank}
use Rattle.bz_token.specs.declared.cutter.block.Opener.{Opener}
use Rattle.bz_token.specs.declared.cutter.block.Opener.TheVariants.{Def, For, If}
use Rattle.bz_token.specs.declared.cutter.block.ChunkPhase.{ChunkPhase}
use Rattle.bz_token.specs.declared.cutter.block.ChunkPhase.TheVariants.{Comments, InBlock, Done}
use Rattle.bz_token.specs.declared.cutter.scan.Scan.{Scan}
use Rattle.bz_token.specs.Groups.{grouped, grouped_from}
use Rattle.bz_token.specs.LogicalLines.{Line}
use Rattle.bz_token.specs.Lexical.{is_word_byte}
use Rattle.bz_token.specs.Blocks.{word_at, has_branch}
use Rattle.bz_token.specs.Chunks.{chunk_goes_on, text_of, chunks}
use Rattle.bz_token.specs.private.Phases.{phase_after, phase_from, takes}
use Rattle.bz_token.specs.private.CutSteps.{is_ended, is_broken, line_at, line_here, seen_chunks, outside, next, start}
use Rattle.bz_token.proofs.CutSeen.{seen_lines, final_kind}
use Rattle.bz_token.proofs.CutStrings.{grouped_joins, grouped_apart, seen_step}
use Rattle.bz_token.proofs.CutMachine.{next_inside}
use Rattle.bz_token.proofs.CutLines.{lines_are}
use Rattle.bz_token.proofs.Phases.{phase_takes}
use Rattle.bz_token.specs.Pieces.{is_white}

pub chunk_step : (s : Scan) (phase : ChunkPhase) (before part : List ℕ) (b : ℕ) (bs : List ℕ) → is_ended s.inside ≡ false → seen_chunks s phase before part (b ∷ bs) ≡ seen_chunks (next s b) phase before (part ++ b ∷ []) bs
chunk_step s phase before part b bs h = rw (h, seen_chunks) refl

pub chunk_goes : (s : Scan) (phase : ChunkPhase) (before part : List ℕ) (b : ℕ) (bs : List ℕ) → is_ended s.inside ≡ true → takes (phase_after phase (line_here s part)) (b ∷ bs) ≡ true → seen_chunks s phase before part (b ∷ bs) ≡ seen_chunks (next s b) (phase_after phase (line_here s part)) (before ++ part) (b ∷ []) bs
chunk_goes s phase before part b bs h g = rw (h, seen_chunks) (rw g refl)

pub chunk_cut : (s : Scan) (phase : ChunkPhase) (before part : List ℕ) (b : ℕ) (bs : List ℕ) → is_ended s.inside ≡ true → takes (phase_after phase (line_here s part)) (b ∷ bs) ≡ false → seen_chunks s phase before part (b ∷ bs) ≡ (before ++ part) ∷ seen_chunks (next s b) Comments [] (b ∷ []) bs
chunk_cut s phase before part b bs h g = rw (h, seen_chunks) (rw g refl)

line_cut : (s : Scan) (seen : List ℕ) (b : ℕ) (bs : List ℕ) → is_ended s.inside ≡ true → seen_lines s seen (b ∷ bs) ≡ line_here s seen ∷ seen_lines (next s b) (b ∷ []) bs
line_cut s seen b bs h = rw (h, seen_lines) refl

-- a line that has ended has its newline
abbrev pub EndsRight : Scan → List ℕ → Type 0
EndsRight s seen = is_ended s.inside ≡ true → (xs : List ℕ) × (seen ≡ xs ++ 10 ∷ [])

pub ends_right : (s : Scan) (seen : List ℕ) (b : ℕ) → EndsRight (next s b) (seen ++ b ∷ [])
ends_right s seen b ended = elim (cases_Bool (b == 10)) [
  | inl is ↦ (seen, ap (λ c. seen ++ c ∷ []) (eqb-true b 10 is))
  | inr differs ↦ absurd (both_ways _ (next_inside s.inside s.depth s.kind b differs) ended)
]

record First (lines : List Line) (seen bytes : List ℕ) : Type 0 where
  line : Line
  lines_after : List Line
  more : List ℕ
  rest : List ℕ
  lines_are : lines ≡ line ∷ lines_after
  text_is : line.text ≡ seen ++ more
  bytes_are : bytes ≡ more ++ rest
  ends : (rest ≡ []) ⊎ ((xs : List ℕ) × (seen ++ more ≡ xs ++ 10 ∷ []))

first_of_lines : (bytes : List ℕ) (s : Scan) (seen : List ℕ) → EndsRight s seen → First (seen_lines s seen bytes) seen bytes
first_of_lines [] s seen right = record {
  line = line_at seen (final_kind s.inside s.kind) (is_broken s.inside);
  lines_after = [];
  more = [];
  rest = [];
  lines_are = refl;
  text_is = sym (append-nil seen);
  bytes_are = refl;
  ends = inl refl;
}
first_of_lines (b ∷ bs) s seen right = elim (cases_Bool (is_ended s.inside)) [
  | inl ended ↦
      let r = right ended in
      record {
        line = line_here s seen;
        lines_after = seen_lines (next s b) (b ∷ []) bs;
        more = [];
        rest = b ∷ bs;
        lines_are = line_cut s seen b bs ended;
        text_is = sym (append-nil seen);
        bytes_are = refl;
        ends = inr (r.0, append-nil seen ∙ r.1);
      }
  | inr inside ↦
      let f = first_of_lines bs (next s b) (seen ++ b ∷ []) (ends_right s seen b) in
      record {
        line = f.line;
        lines_after = f.lines_after;
        more = b ∷ f.more;
        rest = f.rest;
        lines_are = seen_step s seen b bs inside ∙ f.lines_are;
        text_is = f.text_is ∙ append_assoc seen (b ∷ []) f.more;
        bytes_are = ap (λ xs. b ∷ xs) f.bytes_are;
        ends = elim f.ends [ inl none ↦ inl none | inr e ↦ inr (e.0, sym (append_assoc seen (b ∷ []) f.more) ∙ e.1) ];
      }
]

-- a newline ends a word
pub word_stop : (xs rest : List ℕ) → word_at (xs ++ 10 ∷ rest) ≡ word_at (xs ++ 10 ∷ [])
word_stop [] rest = refl
word_stop (x ∷ xs) rest =
    take_while-cons is_word_byte x (xs ++ 10 ∷ rest) ∙ ap (λ ys. cond (is_word_byte x) (x ∷ ys) []) (word_stop xs rest) ∙ sym (take_while-cons is_word_byte x (xs ++ 10 ∷ []))

same_branch : (word : Opener) (xs ys : List ℕ) → word_at xs ≡ word_at ys → has_branch word xs ≡ has_branch word ys
same_branch Def xs ys e = refl
same_branch For xs ys e = refl
same_branch If xs ys e = rw e refl

-- what the next line begins with decides, and it is what the rest begins with
pub same_takes : (phase : ChunkPhase) (b : ℕ) (xs ys : List ℕ) → word_at (b ∷ xs) ≡ word_at (b ∷ ys) → takes phase (b ∷ xs) ≡ takes phase (b ∷ ys)
same_takes Comments b xs ys e = refl
same_takes Done b xs ys e = refl
same_takes (InBlock word) b xs ys e = ap (λ t. is_white true b || t) (same_branch word (b ∷ xs) (b ∷ ys) e)

pub first_word : (b : ℕ) (more rest : List ℕ) → ((rest ≡ []) ⊎ ((xs : List ℕ) × (b ∷ more ≡ xs ++ 10 ∷ []))) → word_at (b ∷ more) ≡ word_at (b ∷ (more ++ rest))
first_word b more rest (inl none) = rw (none, append-nil) refl
first_word b more rest (inr e) =
    let whole : b ∷ (more ++ rest) ≡ e.0 ++ 10 ∷ rest = ap (λ t. t ++ rest) e.1 ∙ append_assoc e.0 (10 ∷ []) rest in
    ap word_at e.1 ∙ sym (word_stop e.0 rest) ∙ sym (ap word_at whole)

-- the first line joins the lines of the chunk
abbrev grouped_with : List Line → List Line → List (List Line)
grouped_with done [] = done ∷ []
grouped_with done (l ∷ ls) = grouped_from chunk_goes_on (done ++ l ∷ []) ls

joined : (done ls : List Line) (l : Line) (rest : List Line) → ls ≡ l ∷ rest → takes (phase_from Comments done) l.text ≡ true → grouped_from chunk_goes_on done ls ≡ grouped_with done ls
joined done ls l rest e h = rw e (grouped_joins chunk_goes_on done l rest (sym (phase_takes done l.text) ∙ h))

is_apart : (done ls : List Line) (l : Line) (rest : List Line) → ls ≡ l ∷ rest → takes (phase_from Comments done) l.text ≡ false → grouped_from chunk_goes_on done ls ≡ done ∷ grouped_with [] ls
is_apart done ls l rest e h = rw e (grouped_apart chunk_goes_on done l rest (sym (phase_takes done l.text) ∙ h))

text_snoc : (done : List Line) (l : Line) → text_of (done ++ l ∷ []) ≡ text_of done ++ l.text
text_snoc [] l = append-nil l.text
text_snoc (m ∷ ls) l = ap (λ t. m.text ++ t) (text_snoc ls l) ∙ sym (append_assoc m.text (text_of ls) l.text)

phase_snoc : (done : List Line) (phase : ChunkPhase) (l : Line) → phase_from phase (done ++ l ∷ []) ≡ phase_after (phase_from phase done) l
phase_snoc [] phase l = refl
phase_snoc (m ∷ ls) phase l = phase_snoc ls (phase_after phase m) l

pub chunks_from : (bytes : List ℕ) (s : Scan) (done : List Line) (part : List ℕ) → EndsRight s part → map text_of (grouped_with done (seen_lines s part bytes)) ≡ seen_chunks s (phase_from Comments done) (text_of done) part bytes
chunks_from [] s done part right = ap (λ t. t ∷ []) (text_snoc done (line_at part (final_kind s.inside s.kind) (is_broken s.inside)))
chunks_from (b ∷ bs) s done part right = elim (cases_Bool (is_ended s.inside)) [
  | inr inside ↦
      rw (seen_step s part b bs inside, chunk_step s (phase_from Comments done) (text_of done) part b bs inside) (chunks_from bs (next s b) done (part ++ b ∷ []) (ends_right s part b))
  | inl ended ↦
      let line = line_here s part in
      let f = first_of_lines bs (next s b) (b ∷ []) (ends_right s [] b) in
      let phase = phase_after (phase_from Comments done) line in
      let here : takes (phase_from Comments (done ++ line ∷ [])) f.line.text ≡ takes phase (b ∷ bs) =
      (λ i. takes (phase_snoc done Comments line i) (f.text_is i)) ∙ same_takes phase b f.more (f.more ++ f.rest) (first_word b f.more f.rest f.ends) ∙ ap (λ t. takes phase (b ∷ t)) (sym f.bytes_are) in
      elim (cases_Bool (takes phase (b ∷ bs))) [
        | inl goes ↦
            rw (line_cut s part b bs ended, chunk_goes s (phase_from Comments done) (text_of done) part b bs ended goes) (
            ap (map text_of) (joined (done ++ line ∷ []) (seen_lines (next s b) (b ∷ []) bs) f.line f.lines_after f.lines_are (here ∙ goes))
            ∙ chunks_from bs (next s b) (done ++ line ∷ []) (b ∷ []) (ends_right s [] b)
            ∙ (λ i. seen_chunks (next s b) (phase_snoc done Comments line i) (text_snoc done line i) (b ∷ []) bs))
        | inr stops ↦
            rw (line_cut s part b bs ended, chunk_cut s (phase_from Comments done) (text_of done) part b bs ended stops) (
            ap (map text_of) (is_apart (done ++ line ∷ []) (seen_lines (next s b) (b ∷ []) bs) f.line f.lines_after f.lines_are (here ∙ stops))
            ∙ (λ i. text_snoc done line i ∷ chunks_from bs (next s b) [] (b ∷ []) (ends_right s [] b) i))
      ]
]

abbrev pub chunks_seen : List ℕ → List (List ℕ)
chunks_seen [] = []
chunks_seen (b ∷ bs) = seen_chunks (outside 0 Blank b) Comments [] (b ∷ []) bs

grouped_first : (ls : List Line) (l : Line) (rest : List Line) → ls ≡ l ∷ rest → grouped chunk_goes_on ls ≡ grouped_with [] ls
grouped_first ls l rest e = rw e refl

-- the second law: the chunks of a text
pub chunks_are : (bytes : List ℕ) → chunks bytes ≡ chunks_seen bytes
chunks_are [] = refl
chunks_are (b ∷ bs) =
    let f = first_of_lines bs (outside 0 Blank b) (b ∷ []) (ends_right start [] b) in
    ap (λ ls. map text_of (grouped chunk_goes_on ls)) (lines_are (b ∷ bs))
    ∙ ap (map text_of) (grouped_first (seen_lines (outside 0 Blank b) (b ∷ []) bs) f.line f.lines_after f.lines_are)
    ∙ chunks_from bs (outside 0 Blank b) [] (b ∷ []) (ends_right start [] b)
