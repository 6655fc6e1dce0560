-- The reads of a run, with more reads after them.
use Rattle.std.proofs.Common.{◌≡◌, ℕ, ◌+◌, ◌≤◌, Bool, true, false, List, [], ◌∷◌, ◌++◌, length, length-append, refl, sym, ◌∙◌, ap, subst, append-nil, append_assoc, arith}
use Rattle.std.specs.Prelude.{IsTrue}
use Rattle.std.specs.List.{concat}
use Rattle.std.proofs.lemmas.Bool.{false≢true}
use Rattle.bz_token.specs.Chunks.{chunks}
use Rattle.bz_label.specs.Labels.{Package}
use Rattle.bz_devices.specs.Device.{ends, NoneEnds, NoneAfterEnd}
use Rattle.bz_devices.specs.Ahead.{Ahead, IsReadOn, IsUndecided}
use Rattle.bz_devices.proofs.MoreReads.{joined_more, none_ends_more, file_more}
use Rattle.bz_engine.proofs.Failures.{calm_of}
use Rattle.bz_engine.specs.declared.options.Options.{Options}
use Rattle.bz_engine.specs.Outcome.{Script, Run, run_with}
use Rattle.bz_engine.specs.NeededReads.{AreDone, IsOneNeeded, AreNeededAfter, AreReads}
use Rattle.bz_engine.specs.SessionValue.{SessionValue, run_in, HasDone}
use Rattle.bz_engine.specs.private.Finds.{AreFew}

some_each : (xs : List (List ℕ)) → NoneEnds xs → length xs ≤ length (concat xs)
some_each [] h = omega arith
some_each (x ∷ xs) h =
    let more = some_each xs h.1 in
    let whole : length (concat (x ∷ xs)) ≡ length x + length (concat xs) = length-append x (concat xs) in
    omega (arith, more, whole, h.0)

-- before the last read none met the end
few_needed : (run : Run) (most : ℕ) (before pieces : List (List ℕ)) → length before ≤ length (concat before) + 1 → AreNeededAfter run most before pieces
    → length (before ++ pieces) ≤ length (concat (before ++ pieces)) + 1
few_needed run most before [] few h = subst (λ l. length l ≤ length (concat l) + 1) (sym (append-nil before)) few
few_needed run most before (piece ∷ pieces) few h =
    let each = some_each before h.1.going in
    let one : length (before ++ piece ∷ []) ≡ length before + 1 = length-append before (piece ∷ []) in
    let more : length (concat (before ++ piece ∷ [])) ≡ length (concat before) + length (concat (piece ∷ [])) =
    ap length (joined_more before (piece ∷ [])) ∙ length-append (concat before) (concat (piece ∷ [])) in
    subst (λ l. length l ≤ length (concat l) + 1) (append_assoc before (piece ∷ []) pieces)
    (few_needed run most (before ++ piece ∷ []) pieces (omega (arith, each, one, more)) h.4)

needed_append : (run : Run) (most : ℕ) (before xs ys : List (List ℕ)) → AreNeededAfter run most before xs → AreNeededAfter run most (before ++ xs) ys
    → AreNeededAfter run most before (xs ++ ys)
needed_append run most before [] ys h k = subst (λ l. AreNeededAfter run most l ys) (append-nil before) k
needed_append run most before (x ∷ xs) ys h k = (
  h.0,
  h.1,
  h.2,
  h.3,
  needed_append run most (before ++ x ∷ []) xs ys h.4 (subst (λ l. AreNeededAfter run most l ys) (sym (append_assoc before (x ∷ []) xs)) k),
)

-- the chunks that are done, after more reads
pub done_more : (v : SessionValue) (pieces cs more : List (List ℕ)) (text : List ℕ) → (done : HasDone v pieces cs text) → (IsTrue v.ahead.ended → more ≡ [])
    → AreDone (run_in v) (pieces ++ more) cs done.statements (v.ahead.bytes ++ concat more)
done_more v pieces cs more text done stays = record {
  bytes_are = joined_more pieces more ∙ ap (λ l. l ++ concat more) done.bytes ∙ append_assoc (concat cs) v.ahead.bytes (concat more);
  chunks_are = λ rest last.
      let over : IsTrue v.ahead.ended → concat more ++ rest ≡ [] = λ h.
      ap (λ ps. concat ps ++ rest) (stays h)
      ∙ last (subst IsTrue (done.ended ∙ ap ends (sym (append-nil pieces) ∙ ap (λ l. pieces ++ l) (sym (stays h)))) h) in
      ap chunks (file_more pieces more rest)
      ∙ done.first (concat more ++ rest) over
      ∙ ap (λ l. cs ++ chunks l) (sym (append_assoc v.ahead.bytes (concat more) rest));
  read = done.kept.read;
  none_fails = calm_of v pieces cs text done;
}

-- a read after what was done and more reads
pub one_needed : (v : SessionValue) (pieces cs more : List (List ℕ)) (text : List ℕ) → HasDone v pieces cs text → v.ahead.ended ≡ false → NoneEnds (pieces ++ more)
    → IsUndecided v.options.max_statement (v.ahead.bytes ++ concat more)
    → IsOneNeeded (run_in v) v.options.max_statement (pieces ++ more) (v.ahead.bytes ++ concat more)
one_needed v pieces cs more text done going none undecided = record {
  going = none;
  front = cs;
  statements = done.statements;
  done = done_more v pieces cs more text done (λ h. absurd (false≢true (sym going ∙ h)));
  undecided = undecided;
}

-- a piece, of pieces that are few
one_few : (k : ℕ) (xs piece rest : List ℕ) → length (xs ++ (piece ++ rest)) ≤ k → length (xs ++ piece) ≤ k
one_few k xs piece rest few = omega (arith, few, length-append xs (piece ++ rest), length-append piece rest, length-append xs piece)

needed_more : (v : SessionValue) (pieces cs more read : List (List ℕ)) (text : List ℕ) → HasDone v pieces cs text → v.ahead.ended ≡ false → NoneEnds (pieces ++ more)
    → AreFew v.options.max_statement (v.ahead.bytes ++ concat more) read → NoneAfterEnd read
    → AreNeededAfter (run_in v) v.options.max_statement (pieces ++ more) read
needed_more v pieces cs more [] text done going none few after = tt
needed_more v pieces cs more (piece ∷ []) text done going none few after = (
  v.ahead.bytes ++ concat more,
  one_needed v pieces cs more text done going none few.needed.0,
  few.needed.1,
  one_few (v.options.max_statement + 8192) (v.ahead.bytes ++ concat more) piece [] few.few,
  tt,
)
needed_more v pieces cs more (piece ∷ (next ∷ read)) text done going none few after =
    let ahead = v.ahead.bytes ++ concat more in
    let there = sym (append_assoc pieces more (piece ∷ [])) in
    let bytes : ahead ++ piece ≡ v.ahead.bytes ++ concat (more ++ piece ∷ []) =
    append_assoc v.ahead.bytes (concat more) piece
    ∙ ap (λ l. v.ahead.bytes ++ l) (sym (joined_more more (piece ∷ []) ∙ ap (λ l. concat more ++ l) (append-nil piece))) in
    let bound : length ((ahead ++ piece) ++ concat (next ∷ read)) ≤ v.options.max_statement + 8192 =
    subst (λ l. length l ≤ v.options.max_statement + 8192) (sym (append_assoc ahead piece (concat (next ∷ read)))) few.few in (
      ahead,
      one_needed v pieces cs more text done going none few.needed.0,
      few.needed.1,
      one_few (v.options.max_statement + 8192) ahead piece (concat (next ∷ read)) few.few,
      subst (λ l. AreNeededAfter (run_in v) v.options.max_statement l (next ∷ read)) there
          (needed_more v pieces cs (more ++ piece ∷ []) (next ∷ read) text done going
          (subst NoneEnds (append_assoc pieces more (piece ∷ [])) (none_ends_more (pieces ++ more) (piece ∷ []) none (after.0, tt)))
          (subst (λ l. AreFew v.options.max_statement l (next ∷ read)) bytes (record { needed = few.needed.2; few = bound })) after.1),
    )

going_before : (ended : Bool) (piece : List ℕ) (read : List (List ℕ)) → (IsTrue ended → piece ∷ read ≡ []) → ended ≡ false
going_before true piece read stays = absurd (no_list (stays refl))
  where
    no_list : piece ∷ read ≡ [] → ⊥
    no_list h = cc
going_before false piece read stays = refl

-- the reads of what was done, and those of the next step
pub needed_on : (v : SessionValue) (mid : Ahead) (max_reads : ℕ) (pieces cs read : List (List ℕ)) (text : List ℕ) → HasDone v pieces cs text
    → IsReadOn max_reads v.ahead mid read → AreFew v.options.max_statement v.ahead.bytes read
    → AreNeededAfter (run_in v) v.options.max_statement [] (pieces ++ read)
needed_on v mid max_reads pieces cs [] text done on few =
    subst (λ l. AreNeededAfter (run_in v) v.options.max_statement [] l) (sym (append-nil pieces)) done.needed
needed_on v mid max_reads pieces cs (piece ∷ read) text done on few =
    let going = going_before v.ahead.ended piece read on.stays in
    needed_append (run_in v) v.options.max_statement [] pieces (piece ∷ read) done.needed
    (subst (λ l. AreNeededAfter (run_in v) v.options.max_statement l (piece ∷ read)) (append-nil pieces)
    (needed_more v pieces cs [] (piece ∷ read) text done going (subst NoneEnds (sym (append-nil pieces)) (done.none_ends going))
    (subst (λ l. AreFew v.options.max_statement l (piece ∷ read)) (sym (append-nil v.ahead.bytes)) few) on.none_after))

-- none was made
pub no_reads : (home : Package) (passes : Script) (options : Options) → AreReads home passes options []
no_reads home passes options = record { within = omega arith; needed = tt }

pub reads_of : (v : SessionValue) (pieces : List (List ℕ)) → length pieces ≤ v.options.max_reads → AreNeededAfter (run_in v) v.options.max_statement [] pieces
    → AreReads v.home v.passes v.options pieces
reads_of v pieces within needed = record { within = within; needed = needed }

-- the reads of a run are at most one more than the bytes that they gave
pub reads_few : (home : Package) (passes : Script) (options : Options) (pieces : List (List ℕ)) → AreReads home passes options pieces
    → length pieces ≤ length (concat pieces) + 1
reads_few home passes options pieces reads = few_needed (run_with home passes options) options.max_statement [] pieces (omega arith) reads.needed
