-- What the cutter's knowledge says of the chunks: the answers of `line` and `goes_on`.
use Rattle.std.proofs.Common.{◌≡◌, ◌↔◌, ℕ, ◌<◌, ◌≤◌, ◌==◌, List, [], ◌∷◌, ◌++◌, Bool, true, false, length, cond, refl, sym, ap, subst, ◌∙◌, arith, inl, inr, append_assoc, append-nil, length-append, eqb-true}
use Rattle.std.proofs.lemmas.Bool.{cases_Bool, both_ways, false≢true}
use Rattle.std.proofs.lemmas.List.Sums.{take_while-cons}
use Rattle.bz_token.specs.declared.cutter.scan.Scan.{Scan}
use Rattle.bz_token.specs.declared.cutter.block.Opener.{Opener}
use Rattle.bz_token.specs.declared.cutter.block.Opener.TheVariants.{Def, For, If}
use Rattle.bz_token.specs.declared.cutter.block.ChunkPhase.{ChunkPhase}
use Rattle.bz_token.specs.declared.cutter.block.ChunkPhase.TheVariants.{Comments, InBlock, Done}
use Rattle.bz_token.specs.declared.cutter.Cutter.{Cutter}
use Rattle.bz_token.specs.declared.cutter.Cut.{Cut}
use Rattle.bz_token.specs.declared.cutter.Cut.TheVariants.{More, Whole, Block}
use Rattle.bz_token.specs.Lexical.{is_word_byte}
use Rattle.bz_token.specs.Blocks.{word_at, goes_on}
use Rattle.bz_token.specs.Chunks.{chunks}
use Rattle.bz_token.specs.private.Phases.{phase_after, takes}
use Rattle.bz_token.specs.Cuts.{is_physical_line, ends_in_newline, first_line, EndsBefore, IsLonger, IsChunk, IsPart, IsBlock, IsCut, IsLast, IsNext, left, left_next}
use Rattle.bz_token.specs.private.CutSteps.{is_ended, line_here, next, run, moved, phase_now, fresh, between, cut_at, cutter_at, Takes}
use Rattle.bz_token.specs.declared.cutter.Next.{Next}
use Rattle.bz_token.specs.declared.cutter.Next.TheVariants.{Goes, Ends, Short}
use Rattle.bz_token.specs.private.Decided.{DecidesAhead}
use Rattle.bz_token.specs.CutterState.{IsAfter}
use Rattle.bz_token.proofs.CutMachine.{next_inside}
use Rattle.bz_token.proofs.CutLaws.{chunk_step, same_takes}
use Rattle.bz_token.proofs.CutAfter.{begins, whole, follows_line, last_line, open_after_token, phase_is, ends_here, comments_after, block_after, fresh_after}

-- the first line of a text and what is after it
abbrev pub after_line : List ℕ → List ℕ
after_line [] = []
after_line (b ∷ bs) = elim (b == 10) [ true ↦ bs | false ↦ after_line bs ]

pub first_newline : (b : ℕ) (bs : List ℕ) → (b == 10) ≡ true → first_line (b ∷ bs) ≡ b ∷ []
first_newline b bs h = rw (h, first_line) refl

pub first_other : (b : ℕ) (bs : List ℕ) → (b == 10) ≡ false → first_line (b ∷ bs) ≡ b ∷ first_line bs
first_other b bs h = rw (h, first_line) refl

pub line_split : (text : List ℕ) → first_line text ++ after_line text ≡ text
line_split [] = refl
line_split (b ∷ bs) = elim (cases_Bool (b == 10)) [
  | inl is ↦ rw (is, first_line, after_line) refl
  | inr differs ↦ rw (differs, first_line, after_line) (ap (λ t. b ∷ t) (line_split bs))
]

longer_line : (b : ℕ) (line : List ℕ) → (b == 10) ≡ false → is_physical_line line ≡ true → is_physical_line (b ∷ line) ≡ true
longer_line b [] n h = refl
longer_line b (c ∷ cs) n h = rw n h

pub line_physical : (text : List ℕ) → is_physical_line (first_line text) ≡ true
line_physical [] = refl
line_physical (b ∷ bs) = elim (cases_Bool (b == 10)) [
  | inl is ↦ ap is_physical_line (first_newline b bs is)
  | inr differs ↦ ap is_physical_line (first_other b bs differs) ∙ longer_line b (first_line bs) differs (line_physical bs)
]

line_word : (text : List ℕ) → word_at (first_line text) ≡ word_at text
line_word [] = refl
line_word (b ∷ bs) = elim (cases_Bool (b == 10)) [
  | inl is ↦ subst (λ x. word_at (first_line (x ∷ bs)) ≡ word_at (x ∷ bs)) (sym (eqb-true b 10 is)) refl
  | inr differs ↦ ap word_at (first_other b bs differs) ∙ take_while-cons is_word_byte b (first_line bs) ∙ ap (λ t. cond (is_word_byte b) (b ∷ t) []) (line_word bs) ∙ sym (take_while-cons is_word_byte b bs)
]

-- what a text says of the chunk its first line says too
pub takes_first : (phase : ChunkPhase) (text : List ℕ) → takes phase (first_line text) ≡ takes phase text
takes_first phase [] = refl
takes_first phase (b ∷ bs) = elim (cases_Bool (b == 10)) [
  | inl is ↦ ap (takes phase) (first_newline b bs is) ∙ same_takes phase b [] bs (ap word_at (sym (first_newline b bs is)) ∙ line_word (b ∷ bs))
  | inr differs ↦ ap (takes phase) (first_other b bs differs) ∙ same_takes phase b (first_line bs) bs (ap word_at (sym (first_other b bs differs)) ∙ line_word (b ∷ bs))
]

longer_by : (c : Cutter) (seen : List ℕ) (x : ℕ) (xs after : List ℕ) → IsAfter c seen → is_physical_line (x ∷ xs) ≡ true → Takes c ((x ∷ xs) ++ after) → (more : List ℕ) × (cs : List (List ℕ)) × (chunks (seen ++ ((x ∷ xs) ++ after)) ≡ (seen ++ ((x ∷ xs) ++ more)) ∷ cs)
longer_by c seen x xs after b h t =
    let r = begins after (run c.scan (x ∷ xs)) c.phase b.before (b.part ++ x ∷ xs) in (
      r.0,
      r.1,
      ap chunks (sym (append_assoc seen (x ∷ xs) after)) ∙ follows_line c seen x xs after b h t ∙ r.2
          ∙ ap (λ s. (s ++ r.0) ∷ r.1) (whole c seen (x ∷ xs) b) ∙ ap (λ s. s ∷ r.1) (append_assoc seen (x ∷ xs) r.0),
    )

longer_from : (c : Cutter) (seen rest line after : List ℕ) → IsAfter c seen → 0 < length rest → line ++ after ≡ rest → line ≡ first_line rest → is_physical_line line ≡ true → 0 < length line → Takes c rest → IsLonger seen rest
longer_from c seen rest [] after b some split first h long t = absurd (omega (arith, long))
longer_from c seen rest (x ∷ xs) after b some split first h long t =
    let r = longer_by c seen x xs after b h (subst (Takes c) (sym split) t) in
    record { some = some; more = r.0; others = r.1; chunks_are = ap (λ s. chunks (seen ++ s)) (sym split) ∙ r.2 ∙ ap (λ l. (seen ++ (l ++ r.0)) ∷ r.1) first }

pub line_some : (rest : List ℕ) → 0 < length rest → 0 < length (first_line rest)
line_some [] h = h
line_some (b ∷ bs) h = omega arith

pub is_longer : (c : Cutter) (seen rest : List ℕ) → IsAfter c seen → 0 < length rest → Takes c rest → IsLonger seen rest
is_longer c seen rest b some t = longer_from c seen rest (first_line rest) (after_line rest) b some (line_split rest) refl (line_physical rest) (line_some rest some) t

-- the three answers exclude one another
first_length : List (List ℕ) → ℕ
first_length [] = 0
first_length (c ∷ cs) = length c

apart : (bytes rest : List ℕ) → IsLonger bytes rest → EndsBefore bytes rest → ⊥
unfolding first_length
apart bytes rest l e =
    let n : length (bytes ++ (first_line rest ++ l.more)) ≡ length bytes = ap first_length (sym l.chunks_are ∙ e) in
    absurd (omega (arith, n, length-append bytes (first_line rest ++ l.more), length-append (first_line rest) l.more, line_some rest l.some))

-- a colon goes on with a line, and with no block
colon_stops : (word : Opener) → goes_on word (58 ∷ []) ≡ false
colon_stops Def = refl
colon_stops For = refl
colon_stops If = refl

-- what tells an answer from the others
abbrev pub Answers : Cut → List ℕ → Type 0
Answers Whole bytes = IsChunk bytes
Answers More bytes = IsLonger bytes (58 ∷ [])
Answers Block bytes = IsBlock bytes

is_whole : Cut → Bool
is_whole Whole = true
is_whole More = false
is_whole Block = false

is_block : Cut → Bool
is_block Whole = false
is_block More = false
is_block Block = true

pub exactly_whole : (cut : Cut) (bytes : List ℕ) → Answers cut bytes → (cut ≡ Whole) ↔ IsChunk bytes
unfolding is_whole
exactly_whole Whole bytes a = (λ e. a, λ h. refl)
exactly_whole More bytes a = (λ e. absurd (false≢true (ap is_whole e)), λ h. absurd (apart bytes (58 ∷ []) a (h (58 ∷ []))))
exactly_whole Block bytes a = (λ e. absurd (false≢true (ap is_whole e)), λ h. absurd (apart bytes (32 ∷ []) (a.goes (32 ∷ []) refl) (h (32 ∷ []))))

pub exactly_block : (cut : Cut) (bytes : List ℕ) → Answers cut bytes → (cut ≡ Block) ↔ IsBlock bytes
unfolding is_block
exactly_block Block bytes a = (λ e. a, λ h. refl)
exactly_block More bytes a = (λ e. absurd (false≢true (ap is_block e)), λ h. absurd (apart bytes (58 ∷ []) a (h.ends (58 ∷ []) (colon_stops h.word))))
exactly_block Whole bytes a = (λ e. absurd (false≢true (ap is_block e)), λ h. absurd (apart bytes (32 ∷ []) (h.goes (32 ∷ []) refl) (a (32 ∷ []))))

some_goes : (word : Opener) (rest : List ℕ) → goes_on word rest ≡ true → 0 < length rest
some_goes word [] h = absurd (false≢true h)
some_goes word (y ∷ rest) h = omega arith

-- the cutter waits exactly where the bytes are a block
pub block_ended : (c : Cutter) (seen : List ℕ) → IsAfter c seen → IsBlock seen → is_ended c.scan.inside ≡ true
block_ended c seen b block = elim (cases_Bool (is_ended c.scan.inside)) [
  | inl ended ↦ ended
  | inr inside ↦
      let goes : IsLonger seen (58 ∷ []) = is_longer c seen (58 ∷ []) b (omega arith) (λ e. absurd (both_ways _ inside e)) in
      absurd (apart seen (58 ∷ []) goes (block.ends (58 ∷ []) (colon_stops block.word)))
]

pub ended_block : (c : Cutter) (seen : List ℕ) → IsAfter c seen → is_ended c.scan.inside ≡ true → IsBlock seen
ended_block c seen b ended =
    let at = (b.waits ended).1 in
    record {
      word = at.0;
      ends = λ rest stops. b.ends ended rest (ap (λ s. takes s rest) at.1 ∙ stops);
      goes = λ rest goes. is_longer c seen rest b (some_goes at.0 rest goes) (λ e. ap (λ s. takes s rest) at.1 ∙ goes);
    }

-- so it goes on with each line with which the bytes do
pub takes_longer : (c : Cutter) (seen line : List ℕ) → IsAfter c seen → (IsBlock seen → IsLonger seen line) → Takes c line
takes_longer c seen line b goes ended = elim (cases_Bool (takes c.phase line)) [
  | inl taken ↦ taken
  | inr left_out ↦ absurd (apart seen line (goes (ended_block c seen b ended)) (b.ends ended line left_out))
]

-- the first line of what follows goes on with a block if all that follows does
pub line_goes : (bytes rest : List ℕ) → IsBlock bytes → IsLonger bytes rest → IsLonger bytes (first_line rest)
line_goes bytes rest block longer = elim (cases_Bool (goes_on block.word rest)) [
  | inl goes ↦ block.goes (first_line rest) (takes_first (InBlock block.word) rest ∙ goes)
  | inr stops ↦ absurd (apart bytes rest longer (block.ends rest stops))
]

-- a line that has ended is not empty, and has its newline
newline_ends : (x : ℕ) (xs : List ℕ) (s : Scan) → is_ended (run s (x ∷ xs)).inside ≡ true → ends_in_newline (x ∷ xs) ≡ true
newline_ends x [] s e = elim (cases_Bool (x == 10)) [ inl is ↦ is | inr differs ↦ absurd (both_ways _ (next_inside s.inside s.depth s.kind x differs) e) ]
newline_ends x (y ∷ ys) s e = newline_ends y ys (next s x) e

empty_open : (c : Cutter) (seen : List ℕ) → IsAfter c seen → Takes c [] → is_ended c.scan.inside ≡ false
empty_open c seen b t = elim (cases_Bool (is_ended c.scan.inside)) [
  | inl ended ↦ absurd (false≢true (sym (ap (λ s. takes s []) (b.waits ended).1.1) ∙ t ended))
  | inr open_ ↦ open_
]

-- the line has not ended
pub open_cut : (c : Cutter) (line : List ℕ) → is_physical_line line ≡ true → Takes c line → is_ended (run c.scan line).inside ≡ false → ends_in_newline line ≡ true → (seen : List ℕ) → IsAfter c seen → IsAfter (moved c line) (seen ++ line)
open_cut c [] h t inside n seen b = absurd (false≢true n)
open_cut c (x ∷ xs) h t inside n seen b = open_after_token c seen x xs b n h t inside

pub part_of : (c : Cutter) (seen : List ℕ) → IsAfter c seen → ((text : List ℕ) → Takes c text) → IsPart seen
part_of c seen b free = record { last = b.last; longer = λ rest some. is_longer c seen rest b some (free rest) }

pub open_part : (c : Cutter) (line : List ℕ) → is_physical_line line ≡ true → Takes c line → is_ended (run c.scan line).inside ≡ false → ends_in_newline line ≡ true → (seen : List ℕ) → IsAfter c seen → IsPart (seen ++ line)
open_part c line h t inside n seen b = part_of (moved c line) (seen ++ line) (open_cut c line h t inside n seen b) (λ text e. absurd (both_ways _ inside e))

word_colon : (text : List ℕ) → word_at (text ++ 58 ∷ []) ≡ word_at text
word_colon [] = refl
word_colon (b ∷ bs) = take_while-cons is_word_byte b (bs ++ 58 ∷ []) ∙ ap (λ t. cond (is_word_byte b) (b ∷ t) []) (word_colon bs) ∙ sym (take_while-cons is_word_byte b bs)

pub open_answers : (c : Cutter) (line : List ℕ) → is_physical_line line ≡ true → Takes c line → is_ended (run c.scan line).inside ≡ false → (seen : List ℕ) → IsAfter c seen → IsLonger (seen ++ line) (58 ∷ [])
open_answers c [] h t inside seen b = rw append-nil (is_longer c seen (58 ∷ []) b (omega arith) (λ e. absurd (both_ways _ inside e)))
open_answers c (x ∷ xs) h t inside seen b =
    let goes : Takes c ((x ∷ xs) ++ 58 ∷ []) = λ e. same_takes c.phase x (xs ++ 58 ∷ []) xs (word_colon (x ∷ xs)) ∙ t e in
    record {
      some = omega arith;
      more = [];
      others = [];
      chunks_are =
          follows_line c seen x xs (58 ∷ []) b h goes
          ∙ chunk_step (run c.scan (x ∷ xs)) c.phase b.before (b.part ++ x ∷ xs) 58 [] inside
          ∙ ap (λ s. s ∷ []) (sym (append_assoc b.before (b.part ++ x ∷ xs) (58 ∷ [])) ∙ ap (λ s. s ++ 58 ∷ []) (whole c seen (x ∷ xs) b));
    }

pub open_last : (c : Cutter) (line : List ℕ) → is_physical_line line ≡ true → Takes c line → (seen : List ℕ) → IsAfter c seen → IsLast More (seen ++ line)
open_last c [] h t seen b = rw append-nil (refl, b.last)
open_last c (x ∷ xs) h t seen b = (refl, λ some. last_line c seen x xs b h t)

-- the line has ended
pub ended_newline : (c : Cutter) (line : List ℕ) → Takes c line → is_ended (run c.scan line).inside ≡ true → (seen : List ℕ) → IsAfter c seen → ends_in_newline line ≡ true
ended_newline c [] t ended seen b = absurd (both_ways _ (empty_open c seen b t) ended)
ended_newline c (x ∷ xs) t ended seen b = newline_ends x xs c.scan ended

block_of : (word : Opener) (seen : List ℕ) → IsAfter (between word) seen → IsBlock seen
block_of word seen b = record { word = word; ends = b.ends refl; goes = λ rest g. is_longer (between word) seen rest b (some_goes word rest g) (λ e. g) }

abbrev pub Ended : ChunkPhase → List ℕ → Type 0
Ended phase bytes = IsCut (cut_at phase) bytes × IsAfter (cutter_at phase) (left (cut_at phase) bytes)

ended_at : (c : Cutter) (seen : List ℕ) (x : ℕ) (xs : List ℕ) (phase : ChunkPhase) → (b : IsAfter c seen) → ends_in_newline (x ∷ xs) ≡ true → is_physical_line (x ∷ xs) ≡ true → Takes c (x ∷ xs) → is_ended (run c.scan (x ∷ xs)).inside ≡ true → phase_after c.phase (line_here (run c.scan (x ∷ xs)) (b.part ++ x ∷ xs)) ≡ phase → Ended phase (seen ++ x ∷ xs)
ended_at c seen x xs Comments b n h t ended is =
    let now = comments_after c seen x xs b n h t ended is in
    (part_of fresh (seen ++ x ∷ xs) now (λ text e. absurd (false≢true e)), now)
ended_at c seen x xs (InBlock word) b n h t ended is =
    let now = block_after c seen x xs word b n h t ended is in
    (block_of word (seen ++ x ∷ xs) now, now)
ended_at c seen x xs Done b n h t ended is = (λ rest. ends_here c seen x xs Done b n h t ended is rest refl, fresh_after)

pub ended_line : (c : Cutter) (line : List ℕ) → is_physical_line line ≡ true → Takes c line → is_ended (run c.scan line).inside ≡ true → (seen : List ℕ) → IsAfter c seen → Ended (phase_now (moved c line)) (seen ++ line)
ended_line c [] h t ended seen b = absurd (both_ways _ (empty_open c seen b t) ended)
ended_line c (x ∷ xs) h t ended seen b =
    let n = newline_ends x xs c.scan ended in
    ended_at c seen x xs (phase_now (moved c (x ∷ xs))) b n h t ended (phase_is c seen x xs b n h)

pub answers_of : (cut : Cut) (bytes : List ℕ) → IsCut cut bytes → Answers cut bytes
answers_of Whole bytes a = a
answers_of More bytes a = a.longer (58 ∷ []) (omega arith)
answers_of Block bytes a = a

pub room : (c : Cutter) (seen : List ℕ) → IsAfter c seen → c.scan.depth ≤ length seen
room c seen b = omega (arith, b.depth, ap length b.seen_is, length-append b.before b.part)

-- what is ahead of a block
pub next_is : (c : Cutter) (word : Opener) (next : Next) (at_end : Bool) (ahead : List ℕ) → c.phase ≡ InBlock word → is_ended c.scan.inside ≡ true → DecidesAhead (goes_on word) next at_end ahead → (seen : List ℕ) → IsAfter c seen → IsNext next at_end seen ahead
next_is c word Goes at_end ahead is ended d seen b = λ rest last. is_longer c seen (ahead ++ rest) b (some_goes word (ahead ++ rest) (d rest last)) (λ e. ap (λ s. takes s (ahead ++ rest)) is ∙ d rest last)
next_is c word Ends at_end ahead is ended d seen b = λ rest last. b.ends ended (ahead ++ rest) (ap (λ s. takes s (ahead ++ rest)) is ∙ d rest last)
next_is c word Short at_end ahead is ended d seen b = (
  d.0,
  d.1,
  (d.2.0, is_longer c seen (ahead ++ d.2.0) b (some_goes word (ahead ++ d.2.0) d.2.1) (λ e. ap (λ s. takes s (ahead ++ d.2.0)) is ∙ d.2.1)),
  (d.3.0, b.ends ended (ahead ++ d.3.0) (ap (λ s. takes s (ahead ++ d.3.0)) is ∙ d.3.1)),
)

pub after_next : (c : Cutter) (next : Next) → (next ≡ Ends → ⊥) → (seen : List ℕ) → IsAfter c seen → IsAfter c (left_next next seen)
after_next c Goes other seen b = b
after_next c Ends other seen b = absurd (other refl)
after_next c Short other seen b = b

pub nothing_yet : IsPart []
nothing_yet = part_of fresh [] fresh_after (λ text e. absurd (false≢true e))

-- what may go on in any way is no block
pub part_no_block : (bytes : List ℕ) → IsPart bytes → IsBlock bytes → ⊥
part_no_block bytes part block = apart bytes (58 ∷ []) (part.longer (58 ∷ []) (omega arith)) (block.ends (58 ∷ []) (colon_stops block.word))
