-- The next chunk of what is ahead.
use Rattle.std.proofs.Common.{◌≡◌, ℕ, ◌<◌, ◌≤◌, ◌+◌, ◌-◌, Bool, true, false, List, [], ◌∷◌, ◌++◌, length, take, drop, subst, refl, sym, ◌∙◌, ap, arith, inl, inr, append-nil, append_assoc, take-append-drop, length-append, length-drop, length-take}
use Rattle.std.specs.Prelude.{IsTrue}
use Rattle.std.proofs.lemmas.Bool.{cases_lt, false≢true}
use Rattle.std.proofs.lemmas.List.{nil_from_length}
use Rattle.std.proofs.lemmas.Grind.{common_steps}
use Rattle.bz_token.specs.Blocks.{goes_on}
use Rattle.bz_token.specs.Chunks.{chunks}
use Rattle.bz_token.specs.Cuts.{EndsBefore, IsLonger, IsPart, IsBlock, IsNext, first_line, is_physical_line, ends_in_newline}
use Rattle.bz_token.specs.CutterState.{IsAfter}
use Rattle.bz_token.specs.declared.cutter.Cutter.{Cutter}
use Rattle.bz_token.specs.declared.cutter.Cut.{Cut}
use Rattle.bz_token.specs.declared.cutter.Cut.TheVariants.{More, Block}
use Rattle.bz_token.specs.declared.cutter.Next.TheVariants.{Goes, Ends, Short}
use Rattle.bz_token.proofs.CutAnswers.{line_goes}
use Rattle.bz_devices.specs.Device.{MayFollow}
use Rattle.bz_devices.specs.Ahead.{Ahead, IsReadOn, IsNextChunk, BeginsTooLong, IsTooLong, NoneIsChunk, IsUndecided, IsFewAfter}
use Rattle.bz_devices.specs.private.AheadSteps.{IsOpen, IsLineAt, GoesAfter, IsBegun, GoesOn, EndsAt, IsEnd}
use Rattle.bz_devices.proofs.ChunkLines.{line_is_physical, tail_is}
use Rattle.bz_devices.proofs.ReadOn.{front_stays, back_grows, follows_read, ended_on}
use Rattle.std.specs.List.{concat}

whole : (bytes rest : List ℕ) (n : ℕ) → take n bytes ++ (drop n bytes ++ rest) ≡ bytes ++ rest
whole bytes rest n = sym (append_assoc (take n bytes) (drop n bytes) rest) ∙ ap (λ l. l ++ rest) (take-append-drop n bytes)

heads : {x y : List ℕ} {xs ys : List (List ℕ)} → x ∷ xs ≡ y ∷ ys → x ≡ y
heads h = cc

line_some : (bytes : List ℕ) → 0 < length bytes → 0 < length (first_line bytes)
line_some [] h = h
line_some (b ∷ bs) h = omega arith

-- the front that was seen begins the first chunk
begins : (max n : ℕ) (bytes rest more : List ℕ) (others : List (List ℕ)) → max < n → n ≤ length bytes
    → chunks (take n bytes ++ (drop n bytes ++ rest)) ≡ (take n bytes ++ more) ∷ others → BeginsTooLong max bytes rest
begins max n bytes rest more others over within is =
    record { seen = n; within = within; over = over; more = more; others = others; chunks_are = ap chunks (sym (whole bytes rest n)) ∙ is }

pub too_long_ends : (max n : ℕ) (ahead : Ahead) → max < n → n ≤ length ahead.bytes → EndsAt ahead n → IsTooLong max ahead
too_long_ends max n ahead over within ends rest may =
    let front = take n ahead.bytes in
    let others = chunks (drop n ahead.bytes ++ rest) in
    begins max n ahead.bytes rest [] others over within (ends rest may ∙ ap (λ l. l ∷ others) (sym (append-nil front)))

block_too_long : (max n : ℕ) (bytes rest : List ℕ) (block : IsBlock (take n bytes)) (t : Bool) → goes_on block.word (drop n bytes ++ rest) ≡ t
    → max < n → n ≤ length bytes → BeginsTooLong max bytes rest
block_too_long max n bytes rest block true is over within =
    let longer = block.goes (drop n bytes ++ rest) is in
    begins max n bytes rest (first_line (drop n bytes ++ rest) ++ longer.more) longer.others over within longer.chunks_are
block_too_long max n bytes rest block false is over within =
    let others = chunks (drop n bytes ++ rest) in
    begins max n bytes rest [] others over within (block.ends (drop n bytes ++ rest) is ∙ ap (λ l. l ∷ others) (sym (append-nil (take n bytes))))

-- a block begins the chunk, whether it goes on or not
pub too_long_block : (max n : ℕ) (ahead : Ahead) → max < n → n ≤ length ahead.bytes → IsBlock (take n ahead.bytes) → IsTooLong max ahead
too_long_block max n ahead over within block rest may =
    block_too_long max n ahead.bytes rest block (goes_on block.word (drop n ahead.bytes ++ rest)) refl over within

line_too_long : (max e : ℕ) (bytes rest : List ℕ) → max < length bytes → (0 < e → chunks (take e bytes) ≡ take e bytes ∷ []) → (0 < length (drop e bytes ++ rest) → IsLonger (take e bytes) (drop e bytes ++ rest))
    → IsOpen (drop e bytes) → e ≤ length bytes → BeginsTooLong max bytes rest
line_too_long max e bytes rest over last longer is within =
    let n = length bytes in
    let all : take n bytes ≡ bytes = grind (arith, common_steps) in
    let none : drop n bytes ≡ [] = grind (arith, common_steps) in
    elim (cases_lt 0 (length (drop e bytes ++ rest))) [
      | inl some ↦
          let goes = longer some in
          let more = first_line rest ++ goes.more in
          let line : take e bytes ++ (first_line (drop e bytes ++ rest) ++ goes.more) ≡ take n bytes ++ more =
          ap (λ l. take e bytes ++ (l ++ goes.more)) (is rest)
          ∙ ap (λ l. take e bytes ++ l) (append_assoc (drop e bytes) (first_line rest) goes.more)
          ∙ whole bytes more e
          ∙ ap (λ l. l ++ more) (sym all) in
          let same : take n bytes ++ (drop n bytes ++ rest) ≡ take e bytes ++ (drop e bytes ++ rest) = whole bytes rest n ∙ sym (whole bytes rest e) in
          begins max n bytes rest more goes.others over (omega arith) (ap chunks same ∙ goes.chunks_are ∙ ap (λ l. l ∷ goes.others) line)
      | inr nothing ↦
          let here : drop e bytes ≡ [] = nil_from_length (drop e bytes) (omega (arith, length-append (drop e bytes) rest)) in
          let end : rest ≡ [] = nil_from_length rest (omega (arith, length-append (drop e bytes) rest)) in
          let size : length bytes ≤ e = omega (arith, ap length here, length-drop e bytes) in
          let front : take e bytes ≡ bytes = grind (arith, common_steps) in
          let is_last : chunks bytes ≡ bytes ∷ [] = subst (λ l. chunks l ≡ l ∷ []) front (last (omega arith)) in
          let same : take n bytes ++ (drop n bytes ++ rest) ≡ bytes = whole bytes rest n ∙ ap (λ l. bytes ++ l) end ∙ append-nil bytes in
          begins max n bytes rest [] [] over (omega arith) (ap chunks same ∙ is_last ∙ ap (λ l. l ∷ []) (sym (append-nil (take n bytes) ∙ all)))
    ]

-- all that is ahead belongs to the chunk, since no line has ended after its last whole line
pub too_long_line : (max e : ℕ) (ahead : Ahead) → max < length ahead.bytes → e ≤ length ahead.bytes → IsBegun ahead e → IsOpen (drop e ahead.bytes) → IsTooLong max ahead
too_long_line max e ahead over within begun is rest may = line_too_long max e ahead.bytes rest over begun.last (begun.longer rest may) is within

-- with a byte more the chunk is longer than all that is ahead
pub uncertain_line : (e : ℕ) (ahead : Ahead) → ahead.ended ≡ false → e ≤ length ahead.bytes → IsBegun ahead e → IsOpen (drop e ahead.bytes) → NoneIsChunk ahead.bytes
uncertain_line e ahead ended within begun is m some fits claim =
    let bytes = ahead.bytes in
    let byte : List ℕ = 0 ∷ [] in
    let longer = begun.longer byte (λ h. absurd (false≢true (sym ended ∙ h))) (omega (arith, length-append (drop e bytes) byte)) in
    let same : take m bytes ++ (drop m bytes ++ byte) ≡ take e bytes ++ (drop e bytes ++ byte) = whole bytes byte m ∙ sym (whole bytes byte e) in
    let head : take m bytes ≡ take e bytes ++ (first_line (drop e bytes ++ byte) ++ longer.more) = heads (sym (claim byte) ∙ ap chunks same ∙ longer.chunks_are) in
    let line : first_line (drop e bytes ++ byte) ≡ drop e bytes ++ byte = is byte in
    let size : length (take m bytes) ≡ length (take e bytes) + (length (drop e bytes) + 1 + length longer.more) =
    ap length head
    ∙ length-append (take e bytes) (first_line (drop e bytes ++ byte) ++ longer.more)
    ∙ ap (λ k. length (take e bytes) + k) (length-append (first_line (drop e bytes ++ byte)) longer.more ∙ ap (λ k. k + length longer.more) (ap length line ∙ length-append (drop e bytes) byte)) in
    let all : length bytes ≡ length (take e bytes) + length (drop e bytes) = ap length (sym (take-append-drop e bytes)) ∙ length-append (take e bytes) (drop e bytes) in
    omega (arith, length-take m bytes)

-- what may follow a block ends its chunk or goes on with it
pub uncertain_block : (n : ℕ) (ahead : Ahead) (slice : List ℕ) (at_end : Bool) → slice ≡ drop n ahead.bytes → IsNext Short at_end (take n ahead.bytes) slice → NoneIsChunk ahead.bytes
uncertain_block n ahead slice at_end same next m some fits claim =
    let bytes = ahead.bytes in
    let front = take n bytes in
    let on = next.2.0 in
    let longer = next.2.1 in
    let off = next.3.0 in
    let there : (rest : List ℕ) → front ++ (slice ++ rest) ≡ take m bytes ++ (drop m bytes ++ rest) =
    λ rest. ap (λ l. front ++ (l ++ rest)) same ∙ whole bytes rest n ∙ sym (whole bytes rest m) in
    let first : take m bytes ≡ front ++ (first_line (slice ++ on) ++ longer.more) = heads (sym (claim on) ∙ ap chunks (sym (there on)) ∙ longer.chunks_are) in
    let second : take m bytes ≡ front = heads (sym (claim off) ∙ ap chunks (sym (there off)) ∙ next.3.1) in
    let size : length (take m bytes) ≡ length front + (length (first_line (slice ++ on)) + length longer.more) =
    ap length first
    ∙ length-append front (first_line (slice ++ on) ++ longer.more)
    ∙ ap (λ k. length front + k) (length-append (first_line (slice ++ on)) longer.more) in
    omega (arith, ap length second, line_some (slice ++ on) longer.some)

-- what the chunk is sure to begin with is not too long
line_fits : (max : ℕ) (bytes : List ℕ) → length bytes ≤ max → ((rest : List ℕ) → BeginsTooLong max bytes rest) → ⊥
line_fits max bytes fits long =
    let here = long [] in
    omega (arith, fits, here.within, here.over)

block_fits : (max n : ℕ) (bytes slice : List ℕ) (at_end : Bool) → slice ≡ drop n bytes → n ≤ max → IsNext Short at_end (take n bytes) slice → ((rest : List ℕ) → BeginsTooLong max bytes rest) → ⊥
block_fits max n bytes slice at_end same fits next long =
    let front = take n bytes in
    let off = next.3.0 in
    let here = long off in
    let there : front ++ (slice ++ off) ≡ bytes ++ off = ap (λ l. front ++ (l ++ off)) same ∙ whole bytes off n in
    let first : take here.seen bytes ++ here.more ≡ front = heads (sym here.chunks_are ∙ ap chunks (sym there) ∙ next.3.1) in
    let size : length (take here.seen bytes) + length here.more ≡ length front = sym (length-append (take here.seen bytes) here.more) ∙ ap length first in
    omega (arith, fits, here.within, here.over, length-take here.seen bytes, length-take n bytes)

pub line_undecided : (max e : ℕ) (ahead : Ahead) → ahead.ended ≡ false → e ≤ length ahead.bytes → IsBegun ahead e → IsOpen (drop e ahead.bytes) → length ahead.bytes ≤ max
    → IsUndecided max ahead.bytes
line_undecided max e ahead ended within begun is fits = record { none_is_chunk = uncertain_line e ahead ended within begun is; none_too_long = line_fits max ahead.bytes fits }

pub block_undecided : (max n : ℕ) (ahead : Ahead) (slice : List ℕ) (at_end : Bool) → slice ≡ drop n ahead.bytes → n ≤ max → IsNext Short at_end (take n ahead.bytes) slice → IsUndecided max ahead.bytes
block_undecided max n ahead slice at_end same fits next =
    record { none_is_chunk = uncertain_block n ahead slice at_end same next; none_too_long = block_fits max n ahead.bytes slice at_end same fits next }

-- a chunk that is found fits
pub next_fits : (max n : ℕ) (ahead : Ahead) → IsNextChunk max ahead n → IsTooLong max ahead → ⊥
next_fits max n ahead next long =
    let bytes = ahead.bytes in
    let here = long [] (λ _. refl) in
    let first : take n bytes ≡ take here.seen bytes ++ here.more = heads (sym (next.ends [] (λ _. refl)) ∙ ap chunks (whole bytes [] n) ∙ here.chunks_are) in
    let size : length (take n bytes) ≡ length (take here.seen bytes) + length here.more = ap length first ∙ length-append (take here.seen bytes) here.more in
    omega (arith, next.size, next.within, here.within, here.over, length-take n bytes, length-take here.seen bytes)

-- and so does nothing
pub nothing_fits : (max : ℕ) (ahead : Ahead) → ahead.bytes ≡ [] → IsTooLong max ahead → ⊥
nothing_fits max ahead none long =
    let here = long [] (λ _. refl) in
    omega (arith, ap length none, here.within, here.over)

pub block_ends : (n : ℕ) (ahead : Ahead) (slice : List ℕ) (at_end : Bool) → slice ≡ drop n ahead.bytes → at_end ≡ ahead.ended → IsNext Ends at_end (take n ahead.bytes) slice → EndsAt ahead n
block_ends n ahead slice at_end same ended next rest may =
    subst (λ l. EndsBefore (take n ahead.bytes) (l ++ rest)) same (next rest (λ h. may (sym ended ∙ h)))

pub block_goes : (n : ℕ) (cutter : Cutter) (ahead : Ahead) (slice : List ℕ) (at_end : Bool) → slice ≡ drop n ahead.bytes → at_end ≡ ahead.ended → IsBlock (take n ahead.bytes)
    → IsNext Goes at_end (take n ahead.bytes) slice → IsAfter cutter (take n ahead.bytes) → GoesOn cutter ahead n
block_goes n cutter ahead slice at_end same ended block next after =
    let front = take n ahead.bytes in
    record {
      begun = record {
        last = λ _. subst (λ l. chunks l ≡ front ∷ []) (append-nil front) (block.ends [] refl);
        longer = λ rest may _. subst (λ l. IsLonger front (l ++ rest)) same (next rest (λ h. may (sym ended ∙ h)));
      };
      after = λ _. after;
    }

-- the next line, whatever follows what is ahead
next_line : (ahead : Ahead) (e n : ℕ) → IsLineAt ahead e n → (rest : List ℕ) → MayFollow ahead.ended rest → first_line (drop e ahead.bytes ++ rest) ≡ take (n - e) (drop e ahead.bytes)
next_line ahead e n at rest may =
    let after = drop e ahead.bytes in
    elim at.line [
      | inl line ↦
          ap (λ l. first_line (l ++ rest)) (sym (take-append-drop (n - e) after))
          ∙ ap first_line (append_assoc (take (n - e) after) (drop (n - e) after) rest)
          ∙ line.first (drop (n - e) after ++ rest)
      | inr (all, last) ↦
          ap (λ r. first_line (after ++ r)) (may last.ended)
          ∙ last.rest_is_open []
          ∙ append-nil after
          ∙ sym (ap (λ k. take (k - e) after) all ∙ tail_is ahead.bytes e)
    ]

pub line_physical : (ahead : Ahead) (e n : ℕ) (line : List ℕ) → line ≡ take (n - e) (drop e ahead.bytes) → IsLineAt ahead e n → is_physical_line line ≡ true
line_physical ahead e n line is at =
    ap is_physical_line (is ∙ sym (next_line ahead e n at [] (λ _. refl))) ∙ line_is_physical (drop e ahead.bytes ++ [])

pub some_after : (ahead : Ahead) (e n : ℕ) → e < n → IsLineAt ahead e n → GoesAfter ahead e
some_after ahead e n some at _ = omega (arith, at.within, length-drop e ahead.bytes)

-- the next line goes on with the bytes before it, where they are a block
pub goes_with_line : (ahead : Ahead) (e n : ℕ) (line : List ℕ) → line ≡ take (n - e) (drop e ahead.bytes) → e < n → IsLineAt ahead e n → IsBegun ahead e → IsBlock (take e ahead.bytes) → IsLonger (take e ahead.bytes) line
goes_with_line ahead e n line is some at begun block =
    let front = take e ahead.bytes in
    let after = drop e ahead.bytes ++ [] in
    let more : 0 < length after = omega (arith, some, at.within, length-drop e ahead.bytes, length-append (drop e ahead.bytes) []) in
    subst (λ l. IsLonger front l) (next_line ahead e n at [] (λ _. refl) ∙ sym is) (line_goes front after block (begun.longer [] (λ _. refl) more))

-- the chunk goes on after a line that is no block's end
pub more_goes : (new : Cutter) (ahead : Ahead) (e n : ℕ) (t : Bool) → ends_in_newline (take (n - e) (drop e ahead.bytes)) ≡ t → e < n → IsLineAt ahead e n
    → (t ≡ true → IsPart (take n ahead.bytes)) → (t ≡ true → IsAfter new (take n ahead.bytes))
    → (t ≡ false → 0 < length (take n ahead.bytes) → chunks (take n ahead.bytes) ≡ take n ahead.bytes ∷ []) → GoesOn new ahead n
more_goes new ahead e n true newline some at part after last =
    record {
      begun = record { last = λ _. (part refl).last (omega (arith, at.within, length-take n ahead.bytes)); longer = λ rest _ more. (part refl).longer (drop n ahead.bytes ++ rest) more };
      after = λ _. after refl;
    }
more_goes new ahead e n false newline some at part after last =
    elim at.line [
      | inl line ↦ absurd (false≢true (sym newline ∙ line.newline))
      | inr (all, end) ↦
          record {
            begun = record {
              last = λ _. last refl (omega (arith, at.within, length-take n ahead.bytes));
              longer = λ rest may more. absurd (omega (arith, more, all, length-append (drop n ahead.bytes) rest, ap length (may end.ended), length-drop n ahead.bytes));
            };
            after = λ more. absurd (omega (arith, more end.ended, all, length-drop n ahead.bytes));
          }
    ]

-- a line of a block has a newline
pub block_line : (e : Bool) → (e ≡ false → (let x : Cut = Block in x) ≡ More) → e ≡ true
block_line true h = refl
block_line false h = absurd (no_more (h refl))
  where
    no_more : (let x : Cut = Block in x) ≡ More → ⊥
    no_more h = cc

-- nothing is known of the chunk yet
pub goes_first : (cutter : Cutter) (ahead : Ahead) → IsPart [] → IsAfter cutter [] → GoesOn cutter ahead 0
goes_first cutter ahead part after =
    record {
      begun = record { last = λ h. absurd (omega (arith, h)); longer = λ rest _ more. part.longer (ahead.bytes ++ rest) more };
      after = λ _. after;
    }

-- the bytes that were read stand before those that may follow
read_before : (max : ℕ) (old new : Ahead) (pieces : List (List ℕ)) (e : ℕ) → IsReadOn max old new pieces → e ≤ length old.bytes
    → (rest : List ℕ) → drop e old.bytes ++ (concat pieces ++ rest) ≡ drop e new.bytes ++ rest
read_before max old new pieces e read within rest =
    sym (append_assoc (drop e old.bytes) (concat pieces) rest) ∙ ap (λ l. l ++ rest) (sym (back_grows max old new pieces e read within))

-- what was known of what may follow holds of what was read of it
pub begun_read : (max : ℕ) (old new : Ahead) (pieces : List (List ℕ)) (e : ℕ) → IsReadOn max old new pieces → e ≤ length old.bytes → IsBegun old e → IsBegun new e
begun_read max old new pieces e read within begun =
    let front : take e new.bytes ≡ take e old.bytes = front_stays max old new pieces e read within in
    let there = read_before max old new pieces e read within in
    record {
      last = λ some. subst (λ l. chunks l ≡ l ∷ []) (sym front) (begun.last some);
      longer = λ rest may some.
          subst (λ l. IsLonger l (drop e new.bytes ++ rest)) (sym front)
          (subst (λ l. IsLonger (take e old.bytes) l) (there rest)
          (begun.longer (concat pieces ++ rest) (follows_read max old new pieces rest read may) (subst (λ l. 0 < length l) (sym (there rest)) some)));
    }

pub goes_read : (max : ℕ) (cutter : Cutter) (old new : Ahead) (pieces : List (List ℕ)) (e : ℕ) → IsReadOn max old new pieces → e ≤ length old.bytes → GoesOn cutter old e → GoesOn cutter new e
goes_read max cutter old new pieces e read within goes =
    let front : take e new.bytes ≡ take e old.bytes = front_stays max old new pieces e read within in
    let back : drop e new.bytes ≡ drop e old.bytes ++ concat pieces = back_grows max old new pieces e read within in
    let after : GoesAfter new e → GoesAfter old e = λ some ended.
    let none : drop e new.bytes ≡ drop e old.bytes = back ∙ ap (λ ps. drop e old.bytes ++ concat ps) (read.stays ended) ∙ append-nil (drop e old.bytes) in
    subst (λ l. 0 < length l) none (some (ended_on max old new pieces read ended)) in
    record {
      begun = begun_read max old new pieces e read within goes.begun;
      after = λ some. subst (λ l. IsAfter cutter l) (sym front) (goes.after (after some));
    }

-- no line follows the last one
no_line : (ahead : Ahead) (e : ℕ) → IsLineAt ahead e e → (e ≡ length ahead.bytes) × IsTrue ahead.ended
no_line ahead e at =
    elim at.line [
      | inl line ↦
          let none : take (e - e) (drop e ahead.bytes) ≡ [] = grind (arith, common_steps) in
          absurd (false≢true (ap ends_in_newline (sym none) ∙ line.newline))
      | inr (all, last) ↦ (all, last.ended)
    ]

pub last_end : (cutter : Cutter) (ahead : Ahead) (e : ℕ) → IsLineAt ahead e e → GoesOn cutter ahead e → IsEnd ahead e
last_end cutter ahead e at goes =
    let end = no_line ahead e at in
    let none : drop e ahead.bytes ≡ [] = nil_from_length (drop e ahead.bytes) (omega (arith, end.0, length-drop e ahead.bytes)) in
    record {
      within = at.within;
      left = omega (arith, ap length none);
      ends = λ some rest may.
          let nothing : drop e ahead.bytes ++ rest ≡ [] = ap (λ l. l ++ rest) none ∙ may end.1 in
          ap (λ l. chunks (take e ahead.bytes ++ l)) nothing
          ∙ ap chunks (append-nil (take e ahead.bytes))
          ∙ goes.begun.last some
          ∙ ap (λ l. take e ahead.bytes ∷ chunks l) (sym nothing);
      none = λ zero. (nil_from_length ahead.bytes (sym end.0 ∙ zero), end.1);
    }

-- where a chunk ends it is not longer
ends_fit : (n : ℕ) (ahead : Ahead) → n ≤ length ahead.bytes → EndsAt ahead n → IsTooLong n ahead → ⊥
ends_fit n ahead within ends long =
    let bytes = ahead.bytes in
    let here = long [] (λ _. refl) in
    let first : take n bytes ≡ take here.seen bytes ++ here.more = heads (sym (ends [] (λ _. refl)) ∙ ap chunks (whole bytes [] n) ∙ here.chunks_are) in
    let size : length (take n bytes) ≡ length (take here.seen bytes) + length here.more = ap length first ∙ length-append (take here.seen bytes) here.more in
    omega (arith, size, within, here.within, here.over, length-take n bytes, length-take here.seen bytes)

-- so that few bytes are left after it
pub few_left : (n : ℕ) (ahead : Ahead) → n ≤ length ahead.bytes → EndsAt ahead n → IsFewAfter ahead → length (drop n ahead.bytes) ≤ 8192
few_left n ahead within ends few = elim (cases_lt (n + 8192) (length ahead.bytes)) [
  | inl more ↦ absurd (ends_fit n ahead within ends (few n more))
  | inr fits ↦ omega (arith, length-drop n ahead.bytes)
]

-- what is sure to be too long stays so
too_long_read : (max n : ℕ) (old new : Ahead) (pieces : List (List ℕ)) → IsReadOn max old new pieces → IsTooLong n old → IsTooLong n new
too_long_read max n old new pieces read long rest may =
    let here = long (concat pieces ++ rest) (follows_read max old new pieces rest read may) in
    let same : old.bytes ++ (concat pieces ++ rest) ≡ new.bytes ++ rest = sym (append_assoc old.bytes (concat pieces) rest) ∙ ap (λ l. l ++ rest) (sym read.bytes) in
    record {
      seen = here.seen;
      within = omega (arith, here.within, ap length read.bytes, length-append old.bytes (concat pieces));
      over = here.over;
      more = here.more;
      others = here.others;
      chunks_are = ap chunks (sym same) ∙ here.chunks_are ∙ ap (λ l. (l ++ here.more) ∷ here.others) (sym (front_stays max old new pieces here.seen read here.within));
    }

-- a read where all that is ahead belongs to the chunk
pub few_read : (max e : ℕ) (old new : Ahead) (pieces : List (List ℕ)) → IsReadOn max old new pieces → length (concat pieces) ≤ 8192 → e ≤ length old.bytes → IsBegun old e → IsOpen (drop e old.bytes) → IsFewAfter new
few_read max e old new pieces read few within begun is n more =
    too_long_read max n old new pieces read (too_long_line n e old (omega (arith, more, few, ap length read.bytes, length-append old.bytes (concat pieces))) within begun is)

-- and where the end of a block waits for what follows
pub few_block : (max e : ℕ) (old new : Ahead) (pieces : List (List ℕ)) → IsReadOn max old new pieces → length (concat pieces) + (length old.bytes - e) ≤ 8192 → e ≤ length old.bytes → IsBlock (take e old.bytes) → IsFewAfter new
few_block max e old new pieces read few within block n more =
    too_long_read max n old new pieces read (too_long_block n e old (omega (arith, more, few, within, ap length read.bytes, length-append old.bytes (concat pieces))) within block)

pub chunk_end : (ahead : Ahead) (n : ℕ) → 0 < n → n ≤ length ahead.bytes → length (drop n ahead.bytes) ≤ 8192 → EndsAt ahead n → IsEnd ahead n
chunk_end ahead n some within left ends = record { within = within; left = left; ends = λ _. ends; none = λ zero. absurd (omega arith) }
